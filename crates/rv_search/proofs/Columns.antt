-- A restriction that names columns of the first place alone names those that it names.
use Rattle.std.proofs.Common.{◌≡◌, ℕ, List, [], ◌∷◌, ◌++◌, Bool, true, ◌==◌, refl, inl, inr}
use Rattle.std.proofs.lemmas.Bool.{cases_Bool, and_from, or_left, or_right}
use Rattle.std.specs.Cmp.{first_so, second_so}
use Rattle.rv_restrict.specs.declared.atom.ColRef.{ColRef}
use Rattle.rv_restrict.specs.declared.atom.Operand.TheVariants.{Literal, Column}
use Rattle.rv_restrict.specs.declared.atom.Atom.{Atom}
use Rattle.rv_restrict.specs.declared.atom.Atom.TheVariants.{Compare, Between, Among, IsNull, Starts, Const}
use Rattle.rv_restrict.specs.Bind.{passes_home}
use Rattle.rv_restrict.specs.Parts.{stands_among}
use Rattle.rv_restrict.specs.Truth.{atom_names_only, group_names_only, is_home, names_only}
use Rattle.rv_restrict.proofs.Tests.{is_itself}
use Rattle.rv_search.specs.Named.{atom_columns, columns_named, group_columns}

-- Columns that stand in a list.

first : (c : ℕ) (cs : List ℕ) → stands_among (c ∷ cs) c ≡ true
first c cs = or_left (c == c) (stands_among cs c) (is_itself c)

front : (c : ℕ) (xs ys : List ℕ) → stands_among xs c ≡ true → stands_among (xs ++ ys) c ≡ true
front c [] ys h = absurd (cc)
front c (x ∷ xs) ys h = elim (cases_Bool (x == c)) [
  | inl t ↦ or_left (x == c) (stands_among (xs ++ ys) c) t
  | inr f ↦ or_right (x == c) (stands_among (xs ++ ys) c) (front c xs ys (rw f at h))
]

behind : (c : ℕ) (xs ys : List ℕ) → stands_among ys c ≡ true → stands_among (xs ++ ys) c ≡ true
behind c [] ys h = h
behind c (x ∷ xs) ys h = or_right (x == c) (stands_among (xs ++ ys) c) (behind c xs ys h)

-- What is named stands in each list that has the columns named.

home_in : (p : ℕ → Bool) (cols : List ℕ) (c : ColRef) → passes_home p c ≡ true → stands_among cols c.column ≡ true → passes_home (stands_among cols) c ≡ true
home_in p cols c h there = and_from (is_home c) (stands_among cols c.column) (first_so (is_home c) (p c.column) h) there

atom_in : (p : ℕ → Bool) (cols : List ℕ) (a : Atom) → atom_names_only (passes_home p) a ≡ true → ((c : ℕ) → stands_among (atom_columns a) c ≡ true → stands_among cols c ≡ true) → atom_names_only (passes_home (stands_among cols)) a ≡ true
atom_in p cols (Compare c op (Literal v)) h all =
    and_from (passes_home (stands_among cols) c) true (home_in p cols c (first_so (passes_home p c) true h) (all c.column (first c.column []))) refl
atom_in p cols (Compare c op (Column d)) h all =
    and_from (passes_home (stands_among cols) c) (passes_home (stands_among cols) d)
    (home_in p cols c (first_so (passes_home p c) (passes_home p d) h) (all c.column (first c.column (d.column ∷ []))))
    (home_in p cols d (second_so (passes_home p c) (passes_home p d) h) (all d.column (or_right (c.column == d.column) (stands_among (d.column ∷ []) d.column) (first d.column []))))
atom_in p cols (Between c low high) h all = home_in p cols c h (all c.column (first c.column []))
atom_in p cols (Among c list) h all = home_in p cols c h (all c.column (first c.column []))
atom_in p cols (IsNull c negated) h all = home_in p cols c h (all c.column (first c.column []))
atom_in p cols (Starts c text) h all = home_in p cols c h (all c.column (first c.column []))
atom_in p cols (Const t) h all = refl

group_in : (p : ℕ → Bool) (cols : List ℕ) (g : List Atom) → group_names_only (passes_home p) g ≡ true → ((c : ℕ) → stands_among (group_columns g) c ≡ true → stands_among cols c ≡ true) → group_names_only (passes_home (stands_among cols)) g ≡ true
group_in p cols [] h all = refl
group_in p cols (a ∷ g) h all =
    and_from (atom_names_only (passes_home (stands_among cols)) a) (group_names_only (passes_home (stands_among cols)) g)
    (atom_in p cols a (first_so (atom_names_only (passes_home p) a) (group_names_only (passes_home p) g) h) (λ c there. all c (front c (atom_columns a) (group_columns g) there)))
    (group_in p cols g (second_so (atom_names_only (passes_home p) a) (group_names_only (passes_home p) g) h) (λ c there. all c (behind c (atom_columns a) (group_columns g) there)))

only_in : (p : ℕ → Bool) (cols : List ℕ) (only : List (List Atom)) → names_only (passes_home p) only ≡ true → ((c : ℕ) → stands_among (columns_named only) c ≡ true → stands_among cols c ≡ true) → names_only (passes_home (stands_among cols)) only ≡ true
only_in p cols [] h all = refl
only_in p cols (g ∷ only) h all =
    and_from (group_names_only (passes_home (stands_among cols)) g) (names_only (passes_home (stands_among cols)) only)
    (group_in p cols g (first_so (group_names_only (passes_home p) g) (names_only (passes_home p) only) h) (λ c there. all c (front c (group_columns g) (columns_named only) there)))
    (only_in p cols only (second_so (group_names_only (passes_home p) g) (names_only (passes_home p) only) h) (λ c there. all c (behind c (group_columns g) (columns_named only) there)))

-- the columns named suffice for a restriction over one row
pub named_home : (p : ℕ → Bool) (only : List (List Atom)) → names_only (passes_home p) only ≡ true → names_only (passes_home (stands_among (columns_named only))) only ≡ true
named_home p only h = only_in p (columns_named only) only h (λ c there. there)

-- a search without an order needs no column for it
pub none_needed : (c : ℕ) (b : Bool) → stands_among [] c ≡ true → b ≡ true
none_needed c b h = absurd (cc)
