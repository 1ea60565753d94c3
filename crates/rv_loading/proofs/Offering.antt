-- What a store that was laid shows at a snapshot, and what that makes of ranges and restrictions.
use Rattle.std.proofs.Common.{◌≡◌, ℕ, ◌<◌, ◌≤◌, List, [], ◌∷◌, true, Option, Some, None, IfSome, refl, sym, ap, ◌∙◌, arith, length, subst}
use Rattle.std.specs.List.{list_all}
use Rattle.std.specs.Prelude.{◌&&◌, nat_lt}
use Rattle.rv_value.specs.declared.record.Record.{Record}
use Rattle.rv_value.specs.declared.range.Bound.{Bound}
use Rattle.rv_value.specs.declared.range.Range.{Range}
use Rattle.rv_restrict.specs.declared.atom.Atom.{Atom}
use Rattle.rv_restrict.specs.declared.atom.ColRef.{ColRef}
use Rattle.rv_restrict.specs.Ranges.{AreShort, IsShort}
use Rattle.rv_restrict.specs.Truth.{is_home, names_only, row_has}
use Rattle.rv_reader.specs.Entries.{AreLong, entries_of}
use Rattle.rv_reader.specs.Shown.{Shown, Suits}
use Rattle.rv_reader.specs.Storing.{AreColumns, AreKeys, AreWide, IsStored}
use Rattle.rv_reader.proofs.Sorting.{entries_keys}
use Rattle.rv_reader.proofs.Suiting.{long_keys}
use Rattle.rv_loading.specs.declared.schema.Layout.{Layout}
use Rattle.rv_loading.specs.declared.schema.Schema.{Schema}
use Rattle.rv_loading.specs.Laid.{Laid, OffersAt, OffersIndex, over_at}
use Rattle.rv_loading.specs.Naming.{home_column}
use Rattle.rv_loading.proofs.Laying.{can_read, can_scan}

offers_index : (schema : Schema) (layout : Layout) (shown : Shown) (snap index : ℕ) → IsStored shown → Laid schema layout shown → layout.horizon ≤ snap → snap ≤ layout.newest → index < layout.indexes → OffersIndex schema layout shown snap index
offers_index schema layout shown snap index stored laid low high there =
    let can = can_scan layout shown index snap laid.counts there low high in
    let over = laid.over index there in
    let keys = laid.keys index there in
    let stands = stored.over index can.there in
    let kept = stored.kept index snap can in
    let table : (over_at schema.indexes index).table < layout.tables = (let n = laid.counts.tables in let first = stands.table in omega arith) in
    let width : shown.columns (shown.over index) ≡ schema.width = ap shown.columns over ∙ laid.width (over_at schema.indexes index).table table in
    record {
      can = can;
      table = table;
      columns = subst (AreColumns schema.width) keys (subst (λ n. AreColumns n (shown.keys index)) width stands.columns);
      entries = kept.entries ∙ ap (λ t. entries_of (shown.keys index) (shown.rows t snap)) over ∙ ap (λ (ks : List ℕ). entries_of ks (shown.rows (over_at schema.indexes index).table snap)) keys;
      cuts = subst (λ (ks : List ℕ). AreKeys (length ks) (shown.cuts index snap)) keys kept.cuts;
    }

pub offers_laid : (schema : Schema) (layout : Layout) (shown : Shown) (snap : ℕ) → IsStored shown → Laid schema layout shown → layout.horizon ≤ snap → snap ≤ layout.newest → OffersAt schema layout shown snap
offers_laid schema layout shown snap stored laid low high = record {
  read = λ table there. can_read layout shown table snap laid.counts there low high;
  ascend = λ table there. stored.ascend table snap (can_read layout shown table snap laid.counts there low high);
  wide = λ table there. subst (λ n. AreWide n (shown.rows table snap)) (laid.width table there) (stored.wide table snap (can_read layout shown table snap laid.counts there low high));
  index = λ index there. offers_index schema layout shown snap index stored laid low high there;
}

pub offers_newest : (schema : Schema) (layout : Layout) (shown : Shown) → IsStored shown → Laid schema layout shown → OffersAt schema layout shown layout.newest
offers_newest schema layout shown stored laid =
    let standing : layout.horizon ≤ layout.newest = (let order = stored.standing in let h = laid.counts.horizon in let n = laid.counts.newest in omega arith) in
    offers_laid schema layout shown layout.newest stored laid standing (omega arith)

-- Ranges.

short_end : (n m : ℕ) (bound : Option Bound) → n ≤ m → IsShort n bound → IfSome bound (λ b. length b.key ≤ m)
short_end n m None few short = tt
short_end n m (Some b) few short = omega arith

-- bounds that have no more values than the index has columns
pub suits_short : (schema : Schema) (layout : Layout) (shown : Shown) (snap index n : ℕ) (range : Range) → OffersIndex schema layout shown snap index → n ≤ length (over_at schema.indexes index).columns → AreShort n range → Suits shown index snap range
suits_short schema layout shown snap index n range offers few short =
    let columns = (over_at schema.indexes index).columns in
    let rows = shown.rows (over_at schema.indexes index).table snap in
    let low = short_end n (length columns) range.low few short.low_end in
    let high = short_end n (length columns) range.high few short.high_end in
    record {
      entries = subst (AreLong range) (sym offers.entries) (long_keys (length columns) range (entries_of columns rows) low high (entries_keys columns rows));
      cuts = long_keys (length columns) range (shown.cuts index snap) low high offers.cuts;
    }

-- as many values as the index has columns
pub keys_offered : (schema : Schema) (layout : Layout) (shown : Shown) (snap index : ℕ) → OffersIndex schema layout shown snap index → AreKeys (length (over_at schema.indexes index).columns) (shown.entries index snap)
keys_offered schema layout shown snap index offers =
    let columns = (over_at schema.indexes index).columns in
    subst (AreKeys (length columns)) (sym offers.entries) (entries_keys columns (shown.rows (over_at schema.indexes index).table snap))

-- Restrictions.

-- a row that is wide enough has the columns that are named
pub row_columns : (width : ℕ) (only : List (List Atom)) (row : Record) → names_only (home_column width) only ≡ true → length row.values ≡ width → names_only (row_has row.values) only ≡ true
row_columns width only row names wide = subst (λ n. names_only (λ (c : ColRef). is_home c && nat_lt c.column n) only ≡ true) (sym wide) names

pub wide_columns : (width : ℕ) (only : List (List Atom)) (rows : List Record) → names_only (home_column width) only ≡ true → AreWide width rows → list_all (λ (r : Record). names_only (row_has r.values) only) rows ≡ true
wide_columns width only [] names wide = refl
wide_columns width only (r ∷ rows) names wide = rw (row_columns width only r names wide.0) (wide_columns width only rows names wide.1)
