-- A background scan in the range and with the part of the restriction finds each row that qualifies.
use Rattle.std.proofs.Common.{◌≡◌, ℕ, List, true, ◌&&◌, refl, ap, sym, ◌∙◌, subst}
use Rattle.std.proofs.lemmas.Bool.{and_from}
use Rattle.rv_value.specs.declared.record.Record.{Record}
use Rattle.rv_value.specs.declared.record.IndexEntry.{IndexEntry}
use Rattle.rv_value.specs.declared.range.Range.{Range}
use Rattle.rv_value.specs.Ranges.{in_side}
use Rattle.rv_restrict.specs.declared.atom.Atom.{Atom}
use Rattle.rv_restrict.specs.declared.atom.Tri.{Tri}
use Rattle.rv_restrict.specs.declared.atom.Tri.TheVariants.{True, False, Unknown}
use Rattle.rv_restrict.specs.Parts.{Parted, part_of, passes}
use Rattle.rv_restrict.specs.Ranges.{range_for}
use Rattle.rv_restrict.specs.Truth.{is_true, qualifies, truth}
use Rattle.rv_restrict.proofs.Covers.{covers}
use Rattle.rv_restrict.proofs.Inside.{part_covers}
use Rattle.rv_reader.specs.Entries.{entries_of, entry_of, is_in, run}
use Rattle.rv_reader.specs.Shown.{Shown}
use Rattle.rv_reader.proofs.Filters.{filter_twice}
use Rattle.rv_jscan.specs.declared.jscan.ScanPlan.{ScanPlan}
use Rattle.rv_jscan.specs.Entries.{has_entry, Apart}
use Rattle.rv_jscan.specs.Joint.{meets, passing}
use Rattle.rv_jscan.proofs.Apart.{entries_apart}
use Rattle.rv_choice.specs.declared.query.Query.{Query}
use Rattle.rv_choice.specs.Asked.{CanAsk, IsPlanned}
use Rattle.rv_final.specs.Rest.{qualifies_at}
use Rattle.rv_retrieval.proofs.Entered.{entered}

pub is_true_true : (t : Tri) → is_true t ≡ true → t ≡ True
is_true_true True h = refl
is_true_true False h = absurd (cc)
is_true_true Unknown h = absurd (cc)

-- the entry of a row that qualifies is in the range, and the part passes its key
own_entry : (only : List (List Atom)) (columns : List ℕ) (r : Record) → qualifies only r.values ≡ true → (is_in (range_for only columns) (entry_of columns r) && passes (part_of only columns) (entry_of columns r).key) ≡ true
own_entry only columns r q =
    let t = is_true_true (truth only r.values) q in
    and_from (is_in (range_for only columns) (entry_of columns r)) (passes (part_of only columns) (entry_of columns r).key) (ap in_side (covers only columns r.values t)) (part_covers only columns r.values t)

pub found_by : (only : List (List Atom)) (columns : List ℕ) (rows : List Record) (n : ℕ) → qualifies_at only rows n ≡ true → has_entry n (passing (part_of only columns) (run (entries_of columns rows) (range_for only columns))) ≡ true
found_by only columns rows n q =
    ap (has_entry n) (filter_twice (λ (e : IndexEntry). passes (part_of only columns) e.key) (is_in (range_for only columns)) (entries_of columns rows)) ∙ entered (λ (e : IndexEntry). is_in (range_for only columns) e && passes (part_of only columns) e.key) columns only n rows (own_entry only columns) q

-- each row that qualifies meets a planned scan
pub planned_meets : (query : Query) (shown : Shown) (plan : ScanPlan) (n : ℕ) → IsPlanned query shown plan → qualifies_at query.only (shown.rows query.table query.snap) n ≡ true → meets plan shown query.snap n ≡ true
planned_meets query shown plan n p q =
    ap (λ (es : List IndexEntry). has_entry n (passing plan.part (run es plan.range))) p.index.entries
    ∙ ap (λ (r : Range). has_entry n (passing plan.part (run (entries_of p.columns (shown.rows query.table query.snap)) r))) p.range
    ∙ ap (λ (part : Parted). has_entry n (passing part (run (entries_of p.columns (shown.rows query.table query.snap)) (range_for query.only p.columns)))) p.part
    ∙ found_by query.only p.columns (shown.rows query.table query.snap) n q

pub planned_apart : (query : Query) (shown : Shown) (plan : ScanPlan) → CanAsk query shown → IsPlanned query shown plan → Apart (shown.entries plan.index query.snap)
planned_apart query shown plan a p = subst Apart (sym p.index.entries) (entries_apart p.columns (shown.rows query.table query.snap) a.ascend)
