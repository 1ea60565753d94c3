-- Nested loops over bound restrictions give the offers of the definition, in the same order.
use Rattle.std.proofs.Common.{◌≡◌, ℕ, ◌+◌, List, [], ◌∷◌, ◌++◌, filter, length, map, Bool, true, false, not, cond, ◌&&◌, ◌||◌, ◌==◌, refl, ap, sym, ◌∙◌, arith, subst, nat_le, nat_lt, suc}
use Rattle.std.specs.List.{list_all, flat_map}
use Rattle.std.proofs.lemmas.List.{append_assoc, append-nil, map-append}
use Rattle.std.proofs.lemmas.Bool.Decides.{nat_tests}
use Rattle.std.proofs.lemmas.Grind.{common_steps}
use Rattle.std.proofs.lemmas.List.Elements.{filter-append}
use Rattle.rv_value.specs.declared.value.Value.{Value}
use Rattle.rv_value.specs.declared.record.Record.{Record}
use Rattle.rv_restrict.specs.declared.atom.ColRef.{ColRef}
use Rattle.rv_restrict.specs.declared.atom.Atom.{Atom}
use Rattle.rv_restrict.specs.declared.atom.Tri.TheVariants.{True}
use Rattle.rv_restrict.specs.Bind.{group_place, rows_reads, taken}
use Rattle.rv_restrict.specs.Truth.{group_truth, is_true, truth_by}
use Rattle.rv_restrict.proofs.Below.{reads_front, taken_below, true_lesser}
use Rattle.rv_restrict.proofs.Names.{truth_same}
use Rattle.rv_reader.specs.Shown.{Shown}
use Rattle.rv_join.specs.declared.places.Asked.{Asked}
use Rattle.rv_join.specs.Asking.{holds}
use Rattle.rv_join.specs.Levels.{offered, table_rows, under}
use Rattle.rv_model.specs.Offering.{choices, is_kept}

filter_none : {A : Type 0} (xs : List A) → filter (λ x. false) xs ≡ []
filter_none [] = refl
filter_none (x ∷ xs) = filter_none xs

-- two tests that agree on every choice that begins so
choices_same : (rows : ℕ → List Record) (ts : List ℕ) (outer : List (List Value)) (p q : List (List Value) → Bool) → ((more : List (List Value)) → p (outer ++ more) ≡ q (outer ++ more)) → filter p (choices rows ts outer) ≡ filter q (choices rows ts outer)
choices_same rows [] outer p q h = ap (λ b. cond b (outer ∷ []) []) (subst (λ c. p c ≡ q c) (append-nil outer) (h []))
choices_same rows (t ∷ ts) outer p q h = all (λ r. choices_same rows ts (outer ++ r.values ∷ []) p q (λ more. rw (append_assoc outer (r.values ∷ []) more) (h (r.values ∷ more)))) (rows t)
  where
    all : ((r : Record) → filter p (choices rows ts (outer ++ r.values ∷ [])) ≡ filter q (choices rows ts (outer ++ r.values ∷ []))) → (some : List Record) → filter p (flat_map (λ (r : Record). choices rows ts (outer ++ r.values ∷ [])) some) ≡ filter q (flat_map (λ (r : Record). choices rows ts (outer ++ r.values ∷ [])) some)
    all each [] = refl
    all each (r ∷ some) =
        let here = each r in
        filter-append p (choices rows ts (outer ++ r.values ∷ [])) _ ∙ ap (λ l. l ++ filter p (flat_map (λ (r : Record). choices rows ts (outer ++ r.values ∷ [])) some)) here ∙ ap (λ l. filter q (choices rows ts (outer ++ r.values ∷ [])) ++ l) (all each some) ∙ sym (filter-append q (choices rows ts (outer ++ r.values ∷ [])) _)

-- The groups of a place read no row after it.

holds_front : (only : List (List Atom)) (place : ℕ) (outer more : List (List Value)) → length outer ≡ place + 1 → holds only place (outer ++ more) ≡ holds only place outer
holds_front only place outer more long = ap is_true (truth_same (rows_reads (outer ++ more)) (rows_reads outer) (λ (c : ColRef). nat_lt c.place (length outer)) (reads_front outer more) (taken place only) (taken_below (length outer) place only (omega (arith, long))))

-- AND over places, one place at a time.

-- the groups of this place and those after it are True
abbrev later : List (List Atom) → ℕ → List (List Value) → Bool
later only place rows = list_all (λ (g : List Atom). not (nat_le place (group_place g)) || is_true (group_truth (rows_reads rows) g)) only

true_all : (read : ColRef → Value) (gs : List (List Atom)) → is_true (truth_by read gs) ≡ list_all (λ (g : List Atom). is_true (group_truth read g)) gs
true_all read [] = refl
true_all read (g ∷ gs) = true_lesser (group_truth read g) (truth_by read gs) ∙ ap (λ b. is_true (group_truth read g) && b) (true_all read gs)

all_next : (only : List (List Atom)) (place : ℕ) (test : List Atom → Bool) → list_all (λ (g : List Atom). not (nat_le place (group_place g)) || test g) only ≡ (list_all test (taken place only) && list_all (λ (g : List Atom). not (nat_le (place + 1) (group_place g)) || test g) only)
all_next [] place test = refl
all_next (g ∷ only) place test =
    let tail = all_next only place test in
    elim (group_place g == place) as (λ b. (group_place g == place) ≡ b → ((not (nat_le place (group_place g)) || test g) && list_all (λ (g : List Atom). not (nat_le place (group_place g)) || test g) only) ≡ (list_all test (cond b (g ∷ taken place only) (taken place only)) && ((not (nat_le (place + 1) (group_place g)) || test g) && list_all (λ (g : List Atom). not (nat_le (place + 1) (group_place g)) || test g) only))) [
      | true ↦ λ e. rw (tail, at_place (group_place g) e, not_after (group_place g) e) (swap_true (test g) (list_all test (taken place only)) (list_all (λ (g : List Atom). not (nat_le (place + 1) (group_place g)) || test g) only))
      | false ↦ λ e. rw (tail, other (group_place g) e) (swap_false (not (nat_le (place + 1) (group_place g)) || test g) (list_all test (taken place only)) (list_all (λ (g : List Atom). not (nat_le (place + 1) (group_place g)) || test g) only))
    ] refl
  where
    at_place : (p : ℕ) → (p == place) ≡ true → nat_le place p ≡ true
    at_place p e = grind (arith, nat_tests)

    not_after : (p : ℕ) → (p == place) ≡ true → nat_le (place + 1) p ≡ false
    not_after p e = grind (arith, nat_tests)

    other : (p : ℕ) → (p == place) ≡ false → nat_le place p ≡ nat_le (place + 1) p
    other p e = grind (arith, nat_tests)

    swap_true : (a h l : Bool) → ((not true || a) && (h && l)) ≡ ((a && h) && ((not false || a) && l))
    swap_true a h l = grind arith

    swap_false : (x h l : Bool) → (x && (h && l)) ≡ (h && (x && l))
    swap_false x h l = grind arith

later_next : (only : List (List Atom)) (place : ℕ) (rows : List (List Value)) → later only place rows ≡ (holds only place rows && later only (place + 1) rows)
later_next only place rows = all_next only place (λ (g : List Atom). is_true (group_truth (rows_reads rows) g)) ∙ ap (λ b. b && later only (place + 1) rows) (sym (true_all (rows_reads rows) (taken place only)))

-- each group's place is below a number
abbrev pub are_placed : ℕ → List (List Atom) → Bool
are_placed n only = list_all (λ (g : List Atom). not (nat_le n (group_place g))) only

none_later : (only : List (List Atom)) (place : ℕ) (rows : List (List Value)) → are_placed place only ≡ true → later only place rows ≡ true
none_later [] place rows h = refl
none_later (g ∷ only) place rows h = both _ _ _ _ h (λ e. none_later only place rows e)
  where
    both : (a b c d : Bool) → (a && b) ≡ true → (b ≡ true → d ≡ true) → ((a || c) && d) ≡ true
    both a b c d h i = grind arith

under_is : (a : Asked) (shown : Shown) (ts : List ℕ) (outer : List (List Value)) → are_placed (length outer + length ts) a.only ≡ true → under a shown ts outer ≡ map (offered a) (filter (later a.only (length outer)) (choices (table_rows shown a.snap) ts outer))
under_is a shown [] outer named = rw (none_later a.only (length outer) outer (subst (λ n. are_placed n a.only ≡ true) (omega arith) named)) refl
under_is a shown (t ∷ ts) outer named = all (λ r. under_is a shown ts (outer ++ r.values ∷ []) (subst (λ n. are_placed n a.only ≡ true) (sums (length outer) (length ts) (length (outer ++ r.values ∷ [])) (grind (arith, common_steps))) named)) (shown.rows t a.snap)
  where
    sums : (a b c : ℕ) → c ≡ a + 1 → a + suc b ≡ c + b
    sums a b c h = omega (arith, h)

    Inner : Record → Type 0
    Inner r = under a shown ts (outer ++ r.values ∷ []) ≡ map (offered a) (filter (later a.only (length (outer ++ r.values ∷ []))) (choices (table_rows shown a.snap) ts (outer ++ r.values ∷ [])))

    one : (r : Record) → Inner r → (b : Bool) → holds a.only (length outer) (outer ++ r.values ∷ []) ≡ b → cond b (under a shown ts (outer ++ r.values ∷ [])) [] ≡ map (offered a) (filter (later a.only (length outer)) (choices (table_rows shown a.snap) ts (outer ++ r.values ∷ [])))
    one r inner b e =
        let long : length (outer ++ r.values ∷ []) ≡ length outer + 1 = grind (arith, common_steps) in
        let test = choices_same (table_rows shown a.snap) ts (outer ++ r.values ∷ []) (later a.only (length outer)) (λ c. b && later a.only (length outer + 1) c) (λ more. later_next a.only (length outer) ((outer ++ r.values ∷ []) ++ more) ∙ ap (λ x. x && later a.only (length outer + 1) ((outer ++ r.values ∷ []) ++ more)) (holds_front a.only (length outer) (outer ++ r.values ∷ []) more long ∙ e)) in
        rw test (elim b as (λ b. cond b (under a shown ts (outer ++ r.values ∷ [])) [] ≡ map (offered a) (filter (λ c. b && later a.only (length outer + 1) c) (choices (table_rows shown a.snap) ts (outer ++ r.values ∷ [])))) [
          | true ↦ inner ∙ ap (λ n. map (offered a) (filter (later a.only n) (choices (table_rows shown a.snap) ts (outer ++ r.values ∷ [])))) long
          | false ↦ ap (map (offered a)) (sym (filter_none (choices (table_rows shown a.snap) ts (outer ++ r.values ∷ []))))
        ])

    all : ((r : Record) → Inner r) → (rows : List Record) → flat_map (λ (r : Record). under a shown ts (outer ++ r.values ∷ [])) (filter (λ (r : Record). holds a.only (length outer) (outer ++ r.values ∷ [])) rows) ≡ map (offered a) (filter (later a.only (length outer)) (flat_map (λ (r : Record). choices (table_rows shown a.snap) ts (outer ++ r.values ∷ [])) rows))
    all each [] = refl
    all each (r ∷ rows) =
        rw (filter-append (later a.only (length outer)) (choices (table_rows shown a.snap) ts (outer ++ r.values ∷ [])) (flat_map (λ (r : Record). choices (table_rows shown a.snap) ts (outer ++ r.values ∷ [])) rows), map-append (offered a) (filter (later a.only (length outer)) (choices (table_rows shown a.snap) ts (outer ++ r.values ∷ []))) (filter (later a.only (length outer)) (flat_map (λ (r : Record). choices (table_rows shown a.snap) ts (outer ++ r.values ∷ [])) rows)), ← one r (each r) _ refl, ← all each rows) (split (holds a.only (length outer) (outer ++ r.values ∷ [])) r rows)
      where
        split : (b : Bool) (r : Record) (rows : List Record) → flat_map (λ (r : Record). under a shown ts (outer ++ r.values ∷ [])) (cond b (r ∷ filter (λ (r : Record). holds a.only (length outer) (outer ++ r.values ∷ [])) rows) (filter (λ (r : Record). holds a.only (length outer) (outer ++ r.values ∷ [])) rows)) ≡ cond b (under a shown ts (outer ++ r.values ∷ [])) [] ++ flat_map (λ (r : Record). under a shown ts (outer ++ r.values ∷ [])) (filter (λ (r : Record). holds a.only (length outer) (outer ++ r.values ∷ [])) rows)
        split true r rows = refl
        split false r rows = refl

-- NESTED LOOPS ARE THE DEFINITION: what is under no rows is what the choices offer that the whole restriction keeps
pub loops_are : (a : Asked) (shown : Shown) (ts : List ℕ) → are_placed (length ts) a.only ≡ true → under a shown ts [] ≡ map (offered a) (filter (is_kept a.only) (choices (table_rows shown a.snap) ts []))
loops_are a shown ts h = under_is a shown ts [] (subst (λ n. are_placed n a.only ≡ true) (omega arith) h) ∙ ap (map (offered a)) (choices_same (table_rows shown a.snap) ts [] (later a.only 0) (is_kept a.only) (λ more. from_first a.only more ∙ sym (true_all (rows_reads more) a.only)))
  where
    from_first : (only : List (List Atom)) (rows : List (List Value)) → later only 0 rows ≡ list_all (λ (g : List Atom). is_true (group_truth (rows_reads rows) g)) only
    from_first [] rows = refl
    from_first (g ∷ only) rows = rw (zero_le (group_place g), from_first only rows) (drop_not (is_true (group_truth (rows_reads rows) g)) (list_all (λ (g : List Atom). is_true (group_truth (rows_reads rows) g)) only))
      where
        zero_le : (p : ℕ) → nat_le 0 p ≡ true
        zero_le p = grind (arith, nat_tests)

        drop_not : (a b : Bool) → ((not true || a) && b) ≡ (a && b)
        drop_not a b = grind arith
