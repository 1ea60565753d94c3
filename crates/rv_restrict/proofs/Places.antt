-- Each group is taken at one place: a restriction is True over rows exactly where at each place the groups taken are.
use Rattle.std.proofs.Common.{◌≡◌, ℕ, ◌<◌, List, [], ◌∷◌, Bool, true, false, cond, ◌==◌, nat_lt, refl, arith}
use Rattle.std.specs.List.{list_all}
use Rattle.std.proofs.lemmas.Bool.Decides.{nat_tests}
use Rattle.std.specs.Cmp.{first_so, second_so}
use Rattle.rv_value.specs.declared.value.Value.{Value}
use Rattle.rv_restrict.specs.declared.atom.ColRef.{ColRef}
use Rattle.rv_restrict.specs.declared.atom.Atom.{Atom}
use Rattle.rv_restrict.specs.declared.atom.Tri.TheVariants.{True}
use Rattle.rv_restrict.specs.Truth.{truth_by, group_truth}
use Rattle.rv_restrict.specs.Bind.{taken, group_place}
use Rattle.rv_restrict.proofs.Tests.{is_itself, lesser_left, lesser_right}
use Rattle.rv_restrict.proofs.Inside.{some_true}

head_taken : (read : ColRef → Value) (g : List Atom) (more : List (List Atom)) → truth_by read (taken (group_place g) (g ∷ more)) ≡ True → group_truth read g ≡ True
head_taken read g more h = let e = is_itself (group_place g) in let k : truth_by read (cond true (g ∷ taken (group_place g) more) (taken (group_place g) more)) ≡ True = rw e at h in lesser_left (group_truth read g) (truth_by read (taken (group_place g) more)) k

rest_taken : (read : ColRef → Value) (p : ℕ) (g : List Atom) (more : List (List Atom)) → truth_by read (taken p (g ∷ more)) ≡ True → truth_by read (taken p more) ≡ True
rest_taken read p g more h = elim (group_place g == p) as (λ b. truth_by read (cond b (g ∷ taken p more) (taken p more)) ≡ True → truth_by read (taken p more) ≡ True) [
  | true ↦ λ e. lesser_right (group_truth read g) (truth_by read (taken p more)) e
  | false ↦ λ e. e
] h

-- each group's place is below n
abbrev pub places_below : ℕ → List (List Atom) → Bool
places_below n = list_all (λ g. nat_lt (group_place g) n)

pub all_places : (read : ColRef → Value) (n : ℕ) (only : List (List Atom)) → places_below n only ≡ true → ((p : ℕ) → p < n → truth_by read (taken p only) ≡ True) → truth_by read only ≡ True
all_places read n [] within each = refl
all_places read n (g ∷ more) within each = let below : group_place g < n = let b = first_so (nat_lt (group_place g) n) (places_below n more) within in grind (arith, nat_tests, b) in rw (head_taken read g more (each (group_place g) below)) (all_places read n more (second_so (nat_lt (group_place g) n) (places_below n more) within) (λ p h. rest_taken read p g more (each p h)))

pub one_place : (read : ColRef → Value) (p : ℕ) (only : List (List Atom)) → truth_by read only ≡ True → truth_by read (taken p only) ≡ True
one_place read p only h = some_true read (λ g. group_place g == p) only h
