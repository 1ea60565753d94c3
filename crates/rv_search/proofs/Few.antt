-- Where a short index was scanned at opening few rows are found: those of the complete list.
use Rattle.std.proofs.Common.{◌≡◌, ℕ, ◌≤◌, List, [], ◌∷◌, length, filter, Bool, true, false, ◌&&◌, refl, ap, sym, ◌∙◌, arith, inl, inr, Option, Some, None, nat_eq, nat_lt, le_trans}
use Rattle.std.specs.Prelude.{IsPermutation}
use Rattle.std.proofs.lemmas.Bool.{cases_Bool}
use Rattle.std.proofs.lemmas.Bool.Decides.{nat_tests}
use Rattle.std.proofs.lemmas.List.{length-map}
use Rattle.std.proofs.lemmas.List.Quantifiers.{position-Some}
use Rattle.std.proofs.lemmas.List.Sorted.{length_permutation}
use Rattle.rv_value.proofs.Tests.{no_way}
use Rattle.rv_value.specs.declared.record.Record.{Record}
use Rattle.rv_value.specs.declared.record.RowNo.{RowNo}
use Rattle.rv_value.proofs.Lists.{either_few, filter_false}
use Rattle.rv_judge.specs.declared.events.Control.{Control}
use Rattle.rv_judge.specs.declared.events.Control.TheVariants.{Building, ForegroundAlone, BackgroundAlone, FinalList, FinalTable, Done}
use Rattle.rv_keylist.specs.Keys.{has_key}
use Rattle.rv_rows.specs.Rows.{Ascend, comes_below}
use Rattle.rv_rows.proofs.Filters.{filter_fewer, filter_none}
use Rattle.rv_reader.specs.Shown.{Shown}
use Rattle.rv_choice.specs.declared.query.Query.{Query}
use Rattle.rv_choice.specs.declared.query.Goal2.{Goal2}
use Rattle.rv_choice.specs.declared.query.Goal2.TheVariants.{FastFirst as Soon, TotalTime}
use Rattle.rv_choice.specs.declared.choosing.Candidate.{Candidate}
use Rattle.rv_choice.specs.declared.choosing.Choice.{Choice}
use Rattle.rv_choice.specs.Choice.{candidates_of, choice_of, leads, no_candidate, order_index}
use Rattle.rv_final.specs.Rest.{rest_by}
use Rattle.rv_final.specs.Stage.{keys_left}
use Rattle.rv_retrieval.specs.Effort.{keys_work}
use Rattle.rv_retrieval.specs.Opened.{Opened}
use Rattle.rv_retrieval.specs.Shape.{RetrievalFits, Shape, is_sorted, left_at, rest, rows_of, source_of}
use Rattle.rv_retrieval.specs.Short.{Settled, fetches_by, fetches_left, is_settled, scan_fetches}
use Rattle.rv_search.specs.Searching.{numbers}

-- Rows whose numbers some keys have are at most as many as the keys.

higher : (r x k : ℕ) → nat_eq r k ≡ true → nat_lt r x ≡ true → nat_eq x k ≡ false
higher r x k here low = grind (arith, nat_tests)

one_row : (k : ℕ) (rows : List Record) → Ascend rows → length (filter (λ (r : Record). nat_eq r.row.0 k) rows) ≤ 1
one_row k [] a = omega arith
one_row k (x ∷ xs) a = elim (cases_Bool (nat_eq x.row.0 k)) [
  | inl here ↦
      let none = filter_none (comes_below x) (λ (r : Record). nat_eq r.row.0 k) xs a.0 (λ r low. higher x.row.0 r.row.0 k here low) in
      rw (here, none) (omega arith)
  | inr other ↦ rw other (one_row k xs a.1)
]

keys_few : (keys : List ℕ) (rows : List Record) → Ascend rows → length (filter (λ (r : Record). has_key r.row.0 keys) rows) ≤ length keys
keys_few [] rows a = let none = filter_false rows in omega (arith, none)
keys_few (k ∷ keys) rows a =
    let more = keys_few keys rows a in
    let one = one_row k rows a in
    let either = either_few (λ (r : Record). nat_eq r.row.0 k) (λ (r : Record). has_key r.row.0 keys) rows in
    omega (arith, more, one, either)

-- What a settled retrieval still owes is what it may still fetch, where no index gives it an order.

by_control : (v : Shape) (shown : Shown) (c : Control) → Ascend (rows_of v shown) → is_sorted v.strategy ≡ false → is_settled c ≡ true → (c ≡ ForegroundAlone → is_sorted v.strategy ≡ true) → length (rest_by (left_at (source_of c v.strategy) v shown) v.query.only (rows_of v shown)) ≤ fetches_by c (scan_fetches v shown) (keys_work v)
by_control v shown Building a unsorted over front = no_way (sym over)
by_control v shown ForegroundAlone a unsorted over front = no_way (sym (front refl) ∙ unsorted)
by_control v shown BackgroundAlone a unsorted over front = no_way (sym over)
by_control v shown FinalTable a unsorted over front = no_way (sym over)
by_control v shown FinalList a unsorted over front =
    let keys = keys_left v.joint.list v.at in
    le_trans (filter_fewer _ (λ (r : Record). has_key r.row.0 keys) (λ r h. listed _ _ _ h) (rows_of v shown)) (keys_few keys (rows_of v shown) a)
  where
    listed : (q k d : Bool) → (q && (k && d)) ≡ true → k ≡ true
    listed q k d h = grind arith
by_control v shown Done a unsorted over front =
    let none = filter_false (rows_of v shown) in
    le_trans (filter_fewer _ (λ (r : Record). false) (λ r h. nothing _ h) (rows_of v shown)) (omega (arith, none))
  where
    nothing : (q : Bool) → (q && false) ≡ true → false ≡ true
    nothing q h = grind arith

rest_few : (v : Shape) (shown : Shown) → RetrievalFits v shown → Settled v → is_sorted v.strategy ≡ false → length (rest v shown) ≤ fetches_left v shown
rest_few v shown fits settled unsorted = by_control v shown v.control fits.ascend unsorted settled.over settled.sorted

-- Without an order no strategy is sorted.

no_order : (cs : List Candidate) → order_index [] cs ≡ None
no_order cs = by (order_index [] cs) refl
  where
    by : (o : Option ℕ) → order_index [] cs ≡ o → order_index [] cs ≡ None
    by None e = e
    by (Some at) e = no_way (sym (position-Some (λ (c : Candidate). leads [] c.columns) cs at no_candidate e).1)

free_unsorted : (cs : List Candidate) (goal : Goal2) (short sufficient restricted : Option ℕ) → is_sorted (choice_of cs goal None short sufficient restricted).strategy ≡ false
free_unsorted cs goal (Some short) sufficient restricted = refl
free_unsorted cs goal None (Some front) restricted = refl
free_unsorted cs Soon None None (Some at) = refl
free_unsorted cs TotalTime None None (Some at) = refl
free_unsorted cs Soon None None None = refl
free_unsorted cs TotalTime None None None = refl

unsorted : (query : Query) (shown : Shown) (cursor opening : ℕ) (v : Shape) → query.order ≡ [] → Opened query shown cursor opening v → is_sorted v.strategy ≡ false
unsorted query shown cursor opening v none o =
    let cs = candidates_of query shown in
    let led : order_index query.order cs ≡ None = ap (λ (order : List ℕ). order_index order cs) none ∙ no_order cs in
    ap is_sorted o.made.strategy
    ∙ ap (λ (choice : Choice). is_sorted choice.strategy) o.chosen.rules
    ∙ ap (λ (front : Option ℕ). is_sorted (choice_of cs query.goal front o.chosen.short o.chosen.sufficient o.chosen.restricted).strategy) led
    ∙ free_unsorted cs query.goal o.chosen.short o.chosen.sufficient o.chosen.restricted

-- where a short index was scanned at opening at most twenty rows are owed
pub few_owed : (query : Query) (shown : Shown) (cursor opening : ℕ) (v : Shape) → query.order ≡ [] → Opened query shown cursor opening v → RetrievalFits v shown → Settled v × (fetches_left v shown ≤ 20) → length (rest v shown) ≤ 20
few_owed query shown cursor opening v none opened fits few =
    le_trans (rest_few v shown fits few.0 (unsorted query shown cursor opening v none opened)) few.1

-- and so at most twenty numbers are found
pub few_found : (owed : List Record) (found : List RowNo) → length owed ≤ 20 → IsPermutation (numbers owed) found → length found ≤ 20
few_found owed found few all =
    let same = length_permutation (numbers owed) found all in
    let long = length-map owed (λ (r : Record). r.row) in
    omega (arith, few, same, long)
