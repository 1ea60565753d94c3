-- The store that the program reads, its index, and changes of its rows.
use Rattle.std.proofs.Common.{◌≡◌, ℕ, zero, suc, ◌<◌, List, [], ◌∷◌, Some, length, refl, ap, sym, ◌∙◌, arith}
use Rattle.std.specs.Prelude.{slice_get}
use Rattle.std.proofs.lemmas.Option.{same_Some}
use Rattle.rv_value.specs.declared.record.IndexEntry.{IndexEntry}
use Rattle.rv_rows.specs.declared.changes.Change.{Change}
use Rattle.rv_catalog.specs.declared.def.IndexDef.{IndexDef}
use Rattle.rv_reader.specs.Entries.{AreLong}
use Rattle.rv_reader.specs.Shown.{Shown, CanRead, CanScan, Suits}
use Rattle.rv_reader.specs.Storing.{IsStored}
use Rattle.rv_overlay.specs.declared.frozen.Frozen.{Frozen}
use Rattle.rv_overlay.specs.Overlaid.{Lays}
use Rattle.rv_view.specs.Making.{LaysKept}
use Rattle.rv_loading.specs.declared.schema.Loaded.{Loaded}
use Rattle.rv_loading.specs.Laid.{Laid, over_at}
use Rattle.try_stores.specs.Viewing.{IsFirst, IsKept, IsOne, Stands, all_entries}

long_all : (es : List IndexEntry) → AreLong all_entries es
long_all [] = refl
long_all (e ∷ es) = long_all es

pub suits_all : (shown : Shown) (index snap : ℕ) → Suits shown index snap all_entries
suits_all shown index snap = record { entries = long_all (shown.entries index snap); cuts = long_all (shown.cuts index snap) }

-- One index.

over_first : (shown : Shown) (d : IndexDef) (index : ℕ) (e : IndexDef) → shown.over 0 ≡ d.table → slice_get (d ∷ []) index ≡ Some e → shown.over index ≡ e.table
over_first shown d zero e over is = over ∙ ap (λ (x : IndexDef). x.table) (same_Some d e is)
over_first shown d (suc n) e over is = cc

keys_first : (shown : Shown) (d : IndexDef) (index : ℕ) (e : IndexDef) → shown.keys 0 ≡ d.columns → slice_get (d ∷ []) index ≡ Some e → shown.keys index ≡ e.columns
keys_first shown d zero e keys is = keys ∙ ap (λ (x : IndexDef). x.columns) (same_Some d e is)
keys_first shown d (suc n) e keys is = cc

pub laid_one : (loaded : Loaded) (shown : Shown) (d : IndexDef) → IsStored shown → Laid loaded.schema loaded.layout shown → IsOne loaded → IsFirst loaded d → Stands shown (d ∷ [])
laid_one loaded shown d stored laid one first =
    let count : shown.indexes ≡ 1 = laid.counts.indexes ∙ one.indexes in
    let there : 0 < loaded.layout.indexes = (let n = one.indexes in omega arith) in
    let same : length d.columns ≡ length (over_at loaded.schema.indexes 0).columns = ap length first.columns in
    let some = one.some in
    let few = one.few in
    let horizon = laid.counts.horizon in
    let newest = laid.counts.newest in
    let kept = one.kept in
    let known = one.known in
    record {
      stored = stored;
      tables = laid.counts.tables ∙ one.tables;
      indexed = count;
      snapshot = record { kept = omega (arith, horizon, kept); known = omega (arith, newest, known) };
      listed = record {
        count = count;
        over = λ index e is. over_first shown d index e (laid.over 0 there ∙ sym first.table) is;
        keys = λ index e is. keys_first shown d index e (laid.keys 0 there ∙ sym first.columns) is;
        columns = ((omega (arith, some, same), omega (arith, few, same)), tt);
      };
    }

-- What may be read.

pub reads : (shown : Shown) (indexes : List IndexDef) (table : ℕ) → Stands shown indexes → table ≡ 0 → CanRead shown table 1
reads shown indexes table stands is = let tables = stands.tables in record { there = omega (arith, tables, is); snapshot = stands.snapshot }

pub scans : (shown : Shown) (indexes : List IndexDef) → Stands shown indexes → CanScan shown 0 1
scans shown indexes stands = let indexed = stands.indexed in record { there = omega (arith, indexed); snapshot = stands.snapshot }

-- A view that is kept may be laid over the store.

pub lays_it : (shown : Shown) (indexes : List IndexDef) (f : Frozen) (written : List Change) → LaysKept → Stands shown indexes → IsKept shown f written → Lays shown f
lays_it shown indexes f written law stands kept = law shown f written stands.stored kept.keeps
