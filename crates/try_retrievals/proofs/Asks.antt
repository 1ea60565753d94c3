-- That the query for what is asked can be asked of a loaded store.
use Rattle.std.proofs.Common.{◌≡◌, ◌⊎◌, inl, inr, ℕ, ◌<◌, ◌≤◌, ◌+◌, List, [], ◌∷◌, ◌++◌, Bool, true, false, ◌&&◌, ◌||◌, ◌==◌, cond, Some, None, Option, nat_eq, refl, sym, ap, ◌∙◌, arith, length, map, subst}
use Rattle.std.proofs.lemmas.List.{length_push, map-append}
use Rattle.std.proofs.lemmas.List.Folds.{list_all-append}
use Rattle.std.specs.Prelude.{is_some, nat_lt}
use Rattle.std.proofs.lemmas.Bool.Decides.{nat_tests}
use Rattle.std.proofs.lemmas.Cmp.{nat_eq_equiv}
use Rattle.std.proofs.lemmas.Map.Keys.{IsDistinct-push}
use Rattle.std.specs.List.{AllByRecursion, IsDistinct, list_any}
use Rattle.std.proofs.lemmas.Bool.{and_from}
use Rattle.std.proofs.Math.Bool.{and-true}
use Rattle.rv_value.specs.declared.value.Value.{Value}
use Rattle.rv_restrict.specs.declared.atom.Atom.{Atom}
use Rattle.rv_restrict.specs.declared.atom.ColRef.{ColRef}
use Rattle.rv_restrict.specs.Bind.{passes_home}
use Rattle.rv_restrict.specs.Parts.{stands_among}
use Rattle.rv_restrict.specs.Truth.{atom_names_only, group_names_only, is_home, names_only, row_has}
use Rattle.rv_reader.specs.Entries.{entries_of}
use Rattle.rv_reader.specs.Shown.{Shown}
use Rattle.rv_reader.specs.Storing.{AreWide}
use Rattle.rv_scan.specs.Due.{HaveColumns}
use Rattle.rv_choice.specs.declared.query.Goal2.{Goal2}
use Rattle.rv_choice.specs.declared.query.Query.{Query}
use Rattle.rv_choice.specs.Asked.{CanAsk, IsIndexOf, begins_any}
use Rattle.rv_search.specs.Named.{columns_named}
use Rattle.rv_search.specs.Searching.{search_of}
use Rattle.rv_search.proofs.Columns.{named_home, none_needed}
use Rattle.try_retrievals.specs.declared.asked.Span.{Span}
use Rattle.try_retrievals.specs.declared.asked.Either.{Either}
use Rattle.try_retrievals.specs.declared.asked.Asked.{Asked}
use Rattle.rv_loading.specs.declared.schema.Loaded.{Loaded}
use Rattle.rv_loading.specs.Laid.{OffersAt, over_at}
use Rattle.rv_loading.specs.Naming.{home_column}
use Rattle.rv_loading.proofs.Offering.{wide_columns}
use Rattle.try_retrievals.specs.declared.load.Table.{Table}
use Rattle.try_retrievals.specs.Asking.{Chosen, IsOrder, IsOurs, either_atoms, either_group, needed, span_atoms, span_group, spans_of}
use Rattle.try_retrievals.specs.Standing.{Stands}

-- The indexes.

none_distinct : IsDistinct nat_eq []
unfolding IsDistinct
none_distinct = tt

pub chosen_none : (loaded : Loaded) → Chosen loaded 0 []
chosen_none loaded = record { few = omega arith; ours = tt; different = none_distinct }

ours_higher : (loaded : Loaded) (below next : ℕ) (indexes : List (ℕ × List ℕ)) → below ≤ next → AllByRecursion (IsOurs loaded below) indexes → AllByRecursion (IsOurs loaded next) indexes
ours_higher loaded below next [] up ours = tt
ours_higher loaded below next (i ∷ indexes) up ours =
    let first = ours.0 in
    (record { index = (let low = first.index in omega arith); there = first.there; table = first.table; columns = first.columns }, ours_higher loaded below next indexes up ours.1)

pub chosen_same : (loaded : Loaded) (below : ℕ) (indexes : List (ℕ × List ℕ)) → Chosen loaded below indexes → Chosen loaded (below + 1) indexes
chosen_same loaded below indexes chosen = record {
  few = (let few = chosen.few in omega arith);
  ours = ours_higher loaded below (below + 1) indexes (omega arith) chosen.ours;
  different = chosen.different;
}

ours_push : (loaded : Loaded) (below : ℕ) (indexes : List (ℕ × List ℕ)) (i : ℕ × List ℕ) → AllByRecursion (IsOurs loaded below) indexes → IsOurs loaded below i → AllByRecursion (IsOurs loaded below) (indexes ++ i ∷ [])
ours_push loaded below [] i ours last = (last, tt)
ours_push loaded below (x ∷ indexes) i ours last = (ours.0, ours_push loaded below indexes i ours.1 last)

not_among : (below n : ℕ) (rest : Bool) → n < below → rest ≡ false → (nat_eq below n || rest) ≡ false
not_among below n rest low none = grind (arith, nat_tests, none)

none_among : (loaded : Loaded) (below : ℕ) (indexes : List (ℕ × List ℕ)) → AllByRecursion (IsOurs loaded below) indexes → list_any (nat_eq below) (map (λ (i : ℕ × List ℕ). i.0) indexes) ≡ false
none_among loaded below [] ours = refl
none_among loaded below (i ∷ indexes) ours = not_among below i.0 (list_any (nat_eq below) (map (λ (x : ℕ × List ℕ). x.0) indexes)) ours.0.index (none_among loaded below indexes ours.1)

pub chosen_push : (loaded : Loaded) (below : ℕ) (indexes : List (ℕ × List ℕ)) (columns : List ℕ) → Chosen loaded below indexes → below < loaded.layout.indexes → (over_at loaded.schema.indexes below).table ≡ 0 → columns ≡ (over_at loaded.schema.indexes below).columns → Chosen loaded (below + 1) (indexes ++ (below, columns) ∷ [])
chosen_push loaded below indexes columns chosen there table same = record {
  few = (let few = chosen.few in let longer = length_push indexes (below, columns) in omega arith);
  ours = ours_push loaded (below + 1) indexes (below, columns) (ours_higher loaded below (below + 1) indexes (omega arith) chosen.ours) (record { index = omega arith; there = there; table = table; columns = same });
  different = subst (IsDistinct nat_eq) (sym (map-append (λ (i : ℕ × List ℕ). i.0) indexes ((below, columns) ∷ []))) (IsDistinct-push nat_eq_equiv (map (λ (i : ℕ × List ℕ). i.0) indexes) below chosen.different (none_among loaded below indexes chosen.ours));
}

our_index : (loaded : Loaded) (shown : Shown) (query : Query) (i : ℕ × List ℕ) → query.table ≡ 0 → OffersAt loaded.schema loaded.layout shown query.snap → IsOurs loaded 4 i → IsIndexOf query shown i.0 i.1
our_index loaded shown query i table offers ours =
    let over = over_at loaded.schema.indexes i.0 in
    let one = offers.index i.0 ours.there in
    subst (λ (cs : List ℕ). IsIndexOf query shown i.0 cs) (sym ours.columns) (record {
      can = one.can;
      some = one.columns.some;
      few = one.columns.few;
      different = one.columns.different;
      entries = one.entries ∙ ap (λ t. entries_of over.columns (shown.rows t query.snap)) (ours.table ∙ sym table);
      cuts = one.cuts;
    })

our_indexes : (loaded : Loaded) (shown : Shown) (query : Query) (indexes : List (ℕ × List ℕ)) → query.table ≡ 0 → OffersAt loaded.schema loaded.layout shown query.snap → AllByRecursion (IsOurs loaded 4) indexes → AllByRecursion (λ (i : ℕ × List ℕ). IsIndexOf query shown i.0 i.1) indexes
our_indexes loaded shown query [] table offers ours = tt
our_indexes loaded shown query (i ∷ indexes) table offers ours = (our_index loaded shown query i table offers ours.0, our_indexes loaded shown query indexes table offers ours.1)

-- The restriction.

atoms_more : (p : ColRef → Bool) (xs ys : List Atom) → group_names_only p xs ≡ true → group_names_only p ys ≡ true → group_names_only p (xs ++ ys) ≡ true
atoms_more p xs ys h i = list_all-append (atom_names_only p) xs ys ∙ and_from (group_names_only p xs) (group_names_only p ys) h i

groups_more : (p : ColRef → Bool) (xs ys : List (List Atom)) → names_only p xs ≡ true → names_only p ys ≡ true → names_only p (xs ++ ys) ≡ true
groups_more p xs ys h i = list_all-append (group_names_only p) xs ys ∙ and_from (names_only p xs) (names_only p ys) h i

atom_named : (p : ColRef → Bool) (column : ℕ) (span : Option Span) → p (record { place = 0; column = column }) ≡ true → group_names_only p (span_atoms column span) ≡ true
atom_named p column None h = refl
atom_named p column (Some s) h = and-true (p (record { place = 0; column = column })) ∙ h

group_named : (p : ColRef → Bool) (column : ℕ) (span : Option Span) → p (record { place = 0; column = column }) ≡ true → names_only p (span_group column span) ≡ true
group_named p column None h = refl
group_named p column (Some s) h = and-true (group_names_only p (span_atoms column (Some s))) ∙ and-true (p (record { place = 0; column = column })) ∙ h

either_named : (p : ColRef → Bool) (either : Option Either) → p (record { place = 0; column = 0 }) ≡ true → p (record { place = 0; column = 1 }) ≡ true → p (record { place = 0; column = 2 }) ≡ true → names_only p (either_group either) ≡ true
either_named p None f s t = refl
either_named p (Some e) f s t =
    let two = atoms_more p (span_atoms 0 e.first) (span_atoms 1 e.second) (atom_named p 0 e.first f) (atom_named p 1 e.second s) in
    let three = atoms_more p (span_atoms 0 e.first ++ span_atoms 1 e.second) (span_atoms 2 e.third) two (atom_named p 2 e.third t) in
    and-true (group_names_only p (either_atoms e)) ∙ atoms_more p (span_atoms 0 e.first ++ span_atoms 1 e.second ++ span_atoms 2 e.third) (span_atoms 0 e.again) three (atom_named p 0 e.again f)

spans_pass : (p : ColRef → Bool) (first second third : Option Span) (either : Option Either) → p (record { place = 0; column = 0 }) ≡ true → p (record { place = 0; column = 1 }) ≡ true → p (record { place = 0; column = 2 }) ≡ true → names_only p (span_group 0 first ++ span_group 1 second ++ span_group 2 third ++ either_group either) ≡ true
spans_pass p first second third either f s t =
    let two = groups_more p (span_group 0 first) (span_group 1 second) (group_named p 0 first f) (group_named p 1 second s) in
    let three = groups_more p (span_group 0 first ++ span_group 1 second) (span_group 2 third) two (group_named p 2 third t) in
    groups_more p (span_group 0 first ++ span_group 1 second ++ span_group 2 third) (either_group either) three (either_named p either f s t)

pub asked_columns : (asked : Asked) (only : List (List Atom)) → only ≡ spans_of asked → names_only (home_column 3) only ≡ true
asked_columns asked only is = rw is (spans_pass (home_column 3) asked.first asked.second asked.third asked.either refl refl refl)

spans_named : (whole : Bool) (first second third : Option Span) (either : Option Either) → names_only (passes_home (stands_among (cond (whole || (is_some second || is_some either)) (0 ∷ 1 ∷ 2 ∷ []) (0 ∷ 2 ∷ [])))) (span_group 0 first ++ span_group 1 second ++ span_group 2 third ++ either_group either) ≡ true
spans_named true first second third either = spans_pass (passes_home (stands_among (0 ∷ 1 ∷ 2 ∷ []))) first second third either refl refl refl
spans_named false first (Some s) third either = spans_pass (passes_home (stands_among (0 ∷ 1 ∷ 2 ∷ []))) first (Some s) third either refl refl refl
spans_named false first None third (Some e) = spans_pass (passes_home (stands_among (0 ∷ 1 ∷ 2 ∷ []))) first None third (Some e) refl refl refl
spans_named false first None third None =
    let named = passes_home (stands_among (0 ∷ 2 ∷ [])) in
    let one = groups_more named (span_group 0 first) [] (group_named named 0 first refl) refl in
    groups_more named (span_group 0 first ++ [] ++ span_group 2 third) [] (groups_more named (span_group 0 first ++ []) (span_group 2 third) one (group_named named 2 third refl)) refl

asked_named : (asked : Asked) (only : List (List Atom)) (need : List ℕ) → only ≡ spans_of asked → need ≡ needed asked → names_only (passes_home (stands_among need)) only ≡ true
asked_named asked only need is all = rw (is, all) (spans_named asked.whole asked.first asked.second asked.third asked.either)

-- a row of three values has the columns
pub row_columns : (only : List (List Atom)) (values : List Value) → names_only (home_column 3) only ≡ true → length values ≡ 3 → names_only (row_has values) only ≡ true
row_columns only values names width = subst (λ n. names_only (λ (c : ColRef). is_home c && nat_lt c.column n) only ≡ true) (sym width) names

-- The order.

third_needed : (all : Bool) (c : ℕ) → (2 == c || false) ≡ true → stands_among (cond all (0 ∷ 1 ∷ 2 ∷ []) (0 ∷ 2 ∷ [])) c ≡ true
third_needed true c third = grind (arith, nat_tests, third)
third_needed false c third = grind (arith, nat_tests, third)

order_needed : (asked : Asked) (indexes : List (ℕ × List ℕ)) (order need : List ℕ) → IsOrder indexes order → need ≡ needed asked → (c : ℕ) → stands_among order c ≡ true → stands_among need c ≡ true
order_needed asked indexes order need (inl none) all c among = absurd (let no : false ≡ true = ap (λ (o : List ℕ). stands_among o c) (sym none) ∙ among in cc)
order_needed asked indexes order need (inr third) all c among = rw all (third_needed (asked.whole || (is_some asked.second || is_some asked.either)) c (ap (λ (o : List ℕ). stands_among o c) (sym third.0) ∙ among))

order_begins : (indexes : List (ℕ × List ℕ)) (order : List ℕ) → IsOrder indexes order → (order ≡ []) ⊎ (begins_any indexes order ≡ true)
order_begins indexes order (inl none) = inl none
order_begins indexes order (inr third) = inr (subst (λ (o : List ℕ). begins_any indexes o ≡ true) (sym third.0) third.1)

-- What is loaded.

first_there : (shown : Shown) (table : Table) → Stands shown table → 0 < table.loaded.layout.tables
first_there shown table stands = let some = stands.some in omega arith

have_columns : (shown : Shown) (table : Table) (only : List (List Atom)) → names_only (home_column 3) only ≡ true → Stands shown table → HaveColumns only (shown.rows 0 table.loaded.snap)
have_columns shown table only names stands = wide_columns 3 only (shown.rows 0 table.loaded.snap) names (subst (λ n. AreWide n (shown.rows 0 table.loaded.snap)) stands.wide (stands.offers.wide 0 (first_there shown table stands)))

pub can_ask : (shown : Shown) (table : Table) (asked : Asked) (only : List (List Atom)) (indexes : List (ℕ × List ℕ)) (need order : List ℕ) (goal : Goal2) → only ≡ spans_of asked → Chosen table.loaded 4 indexes → need ≡ needed asked → IsOrder indexes order → Stands shown table → CanAsk (record { table = 0; snap = table.loaded.snap; only = only; indexes = indexes; need = need; order = order; goal = goal }) shown
can_ask shown table asked only indexes need order goal is chosen all ordered stands = record {
  ascend = stands.offers.ascend 0 (first_there shown table stands);
  read = stands.offers.read 0 (first_there shown table stands);
  columns = have_columns shown table only (asked_columns asked only is) stands;
  few = (let few = chosen.few in omega arith);
  different = chosen.different;
  indexes = our_indexes table.loaded shown (record { table = 0; snap = table.loaded.snap; only = only; indexes = indexes; need = need; order = order; goal = goal }) indexes refl stands.offers chosen.ours;
  named = asked_named asked only need is all;
  ordered = order_begins indexes order ordered;
  needs = order_needed asked indexes order need ordered all;
}

-- and so can a search
pub can_search : (shown : Shown) (table : Table) (asked : Asked) (only : List (List Atom)) (indexes : List (ℕ × List ℕ)) → only ≡ spans_of asked → Chosen table.loaded 4 indexes → Stands shown table → CanAsk (search_of 0 table.loaded.snap only indexes) shown
can_search shown table asked only indexes is chosen stands = record {
  ascend = stands.offers.ascend 0 (first_there shown table stands);
  read = stands.offers.read 0 (first_there shown table stands);
  columns = have_columns shown table only (asked_columns asked only is) stands;
  few = (let few = chosen.few in omega arith);
  different = chosen.different;
  indexes = our_indexes table.loaded shown (search_of 0 table.loaded.snap only indexes) indexes refl stands.offers chosen.ours;
  named = named_home (λ c. nat_lt c 3) only (asked_columns asked only is);
  ordered = inl refl;
  needs = λ c among. none_needed c (stands_among (columns_named only) c) among;
}
