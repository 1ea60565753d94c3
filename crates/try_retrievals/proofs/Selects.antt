-- A select of ours can be planned over the store that was loaded.
use Rattle.std.proofs.Common.{zero, suc, ◌≡◌, ℕ, ◌<◌, ◌≤◌, ◌+◌, ◌^◌, List, [], ◌∷◌, ◌++◌, true, false, cond, nat_eq, nat_lt, refl, sym, ◌∙◌, arith, length, subst, slice_index_or}
use Rattle.std.proofs.lemmas.Bool.Decides.{nat_tests}
use Rattle.std.proofs.lemmas.Grind.{common_steps}
use Rattle.std.proofs.lemmas.List.{get_or_append_left}
use Rattle.std.specs.List.{list_all}
use Rattle.std.specs.Cmp.{first_so, second_so}
use Rattle.std.proofs.lemmas.Bool.{ltb-true}
use Rattle.rv_restrict.specs.declared.atom.ColRef.{ColRef}
use Rattle.rv_catalog.specs.declared.def.Select.{Select}
use Rattle.rv_catalog.specs.declared.def.IndexDef.{IndexDef}
use Rattle.rv_reader.specs.Shown.{Shown}
use Rattle.rv_join.specs.Asking.{CanPlan, IsIndexAt, index_at, indexes_from, no_index, select_uses, table_at}
use Rattle.rv_join.proofs.Naming.{have_wide, used_passes}
use Rattle.rv_loading.specs.declared.schema.Loaded.{Loaded}
use Rattle.rv_loading.specs.Laid.{Offers, over_at}
use Rattle.rv_loading.specs.Naming.{is_column}
use Rattle.try_retrievals.specs.Selecting.{AreIndexes, HasIndexes, IsOurs, is_table}

uses_is : (loaded : Loaded) (s : Select) (c : ColRef) → IsOurs loaded s → select_uses s c ≡ true → is_column (length s.tables) loaded.schema.width c ≡ true
uses_is loaded s c ours u = used_passes (is_column (length s.tables) loaded.schema.width) s c ours.returns ours.order ours.only u

table_low : (n : ℕ) (tables : List ℕ) (p : ℕ) → list_all (is_table n) tables ≡ true → p < length tables → slice_index_or tables p 0 < n
table_low n [] p all le = absurd (omega (arith, le))
table_low n (t ∷ tables) zero all le = ltb-true t n (first_so (is_table n t) (list_all (is_table n) tables) all)
table_low n (t ∷ tables) (suc p) all le = table_low n tables p (second_so (is_table n t) (list_all (is_table n) tables) all) (omega (arith, le))

from_less : (table n : ℕ) (ds : List IndexDef) → length (indexes_from table n ds) ≤ length ds
from_less table n [] = omega arith
from_less table n (d ∷ ds) = let tail = from_less table (n + 1) ds in elim (nat_eq d.table table) as (λ b. length (cond b ((n, d.columns) ∷ indexes_from table (n + 1) ds) (indexes_from table (n + 1) ds)) ≤ length (d ∷ ds)) [
  | true ↦ omega (arith, tail)
  | false ↦ omega (arith, tail)
]

index_is : (loaded : Loaded) (indexes : List IndexDef) (shown : Shown) (count i : ℕ) → count ≤ loaded.layout.indexes → AreIndexes loaded count indexes → Offers loaded shown → i < count → IsIndexAt shown (index_at indexes i).table loaded.snap i (index_at indexes i).columns
index_is loaded indexes shown count i few are offers low =
    let over = over_at loaded.schema.indexes i in
    let one = offers.index i (omega (arith, few, low)) in
    subst (λ t. IsIndexAt shown t loaded.snap i (index_at indexes i).columns) (sym (are.table i low)) (subst (IsIndexAt shown over.table loaded.snap i) (sym (are.columns i low)) (record {
      can = one.can;
      some = one.columns.some;
      few = one.columns.few;
      different = one.columns.different;
      entries = one.entries;
      cuts = one.cuts;
    }))

pub can_plan : (loaded : Loaded) (s : Select) (indexes : List IndexDef) (shown : Shown) → IsOurs loaded s → HasIndexes loaded indexes → Offers loaded shown → CanPlan s indexes shown loaded.snap
can_plan loaded s indexes shown ours has offers =
    let long = has.are.long in
    record {
      some = ours.some;
      joined = ours.joined;
      ascend = λ p le. offers.ascend (table_at s p) (table_low loaded.layout.tables s.tables p ours.there le);
      read = λ p le. offers.read (table_at s p) (table_low loaded.layout.tables s.tables p ours.there le);
      places = λ c u. inside c u;
      columns = λ c u. have_wide c.column loaded.schema.width (shown.rows (table_at s c.place) loaded.snap) (offers.wide (table_at s c.place) (table_low loaded.layout.tables s.tables c.place ours.there (inside c u))) (ltb-true c.column loaded.schema.width (second_so (nat_lt c.place (length s.tables)) (nat_lt c.column loaded.schema.width) (uses_is loaded s c ours u)));
      numbers = small (length indexes) has.count has.few long;
      each = λ i le. index_is loaded indexes shown has.count i has.there has.are offers (omega (arith, le, long));
      few = λ p le. eight (length (indexes_from (table_at s p) 0 indexes)) (length indexes) has.count has.few (from_less (table_at s p) 0 indexes) long;
    }
  where
    inside : (c : ColRef) → select_uses s c ≡ true → c.place < length s.tables
    inside c u = ltb-true c.place (length s.tables) (first_so (nat_lt c.place (length s.tables)) (nat_lt c.column loaded.schema.width) (uses_is loaded s c ours u))

    small : (n m : ℕ) → m ≤ 6 → n ≡ m → n < 2 ^ 32
    small n m few h = omega (arith, few, h)

    eight : (a b m : ℕ) → m ≤ 6 → a ≤ b → b ≡ m → a ≤ 8
    eight a b m few h i = omega (arith, few, h, i)

last_index : (indexes : List IndexDef) (d : IndexDef) → index_at (indexes ++ d ∷ []) (length indexes) ≡ d
last_index [] d = refl
last_index (x ∷ indexes) d = last_index indexes d

-- one more index
pub indexes_more : (loaded : Loaded) (n : ℕ) (indexes : List IndexDef) (d : IndexDef) → AreIndexes loaded n indexes → d.table ≡ (over_at loaded.schema.indexes n).table → d.columns ≡ (over_at loaded.schema.indexes n).columns → AreIndexes loaded (n + 1) (indexes ++ d ∷ [])
indexes_more loaded n indexes d are table columns = record {
  long = let long = are.long in grind (arith, common_steps, long);
  table = λ i le. by_place (λ (x : IndexDef) (k : ℕ). x.table ≡ (over_at loaded.schema.indexes k).table) are.table table i le;
  columns = λ i le. by_place (λ (x : IndexDef) (k : ℕ). x.columns ≡ (over_at loaded.schema.indexes k).columns) are.columns columns i le;
}
  where
    below_n : (i : ℕ) → nat_lt i n ≡ true → i < n
    below_n i e = grind (arith, nat_tests, e)

    at_n : (i : ℕ) → i < n + 1 → nat_lt i n ≡ false → i ≡ n
    at_n i le e = grind (arith, nat_tests, e, le)

    by_place : (P : IndexDef → ℕ → Type 0) → ((i : ℕ) → i < n → P (index_at indexes i) i) → P d n → (i : ℕ) → i < n + 1 → P (index_at (indexes ++ d ∷ []) i) i
    by_place P before here i le = elim (nat_lt i n) as (λ b. nat_lt i n ≡ b → P (index_at (indexes ++ d ∷ []) i) i) [
      | true ↦ λ e. let low = below_n i e in let long = are.long in subst (λ (x : IndexDef). P x i) (sym (get_or_append_left indexes (d ∷ []) no_index i (omega (arith, low, long)))) (before i low)
      | false ↦ λ e. let at = at_n i le e in subst (λ (k : ℕ). P (index_at (indexes ++ d ∷ []) k) k) (are.long ∙ sym at) (subst (λ (x : IndexDef). P x (length indexes)) (sym (last_index indexes d)) (subst (P d) (sym are.long) here))
    ] refl
