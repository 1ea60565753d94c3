-- A part passes the key of every row on which its groups are True.
use Rattle.std.proofs.Common.{IfOk, Result, Ok, Err, ◌≡◌, ℕ, List, [], ◌∷◌, Bool, true, false, cond, ◌||◌, ◌==◌, filter, length, refl, ap, arith}
use Rattle.std.specs.List.{slice_index_or}
use Rattle.std.proofs.lemmas.Bool.{and_from}
use Rattle.rv_value.specs.declared.value.Value.{Value}
use Rattle.rv_value.specs.declared.value.Value.TheVariants.{Null}
use Rattle.rv_restrict.specs.declared.atom.ColRef.{ColRef}
use Rattle.rv_restrict.specs.declared.atom.Atom.{Atom}
use Rattle.rv_restrict.specs.declared.atom.Tri.TheVariants.{True}
use Rattle.rv_restrict.specs.Truth.{truth, truth_by, group_truth, is_true, group_names_only, names_only, row_reads}
use Rattle.rv_restrict.specs.Ranges.{key_of}
use Rattle.rv_restrict.specs.Parts.{Parted, stands_among, lies_in, inside, part_of, value_in, has_value, key_reads, key_has, passes}
use Rattle.rv_restrict.proofs.Tests.{same_number, lesser_left, lesser_right}
use Rattle.rv_restrict.proofs.Names.{names_weaker, truth_same}

-- A key that is as long as the index has columns has a value for each of them.
one_stands : (columns : List ℕ) (key : List Value) (c : ℕ) → length key ≡ length columns → stands_among columns c ≡ true → has_value columns key c ≡ true
one_stands [] key c n h = h
one_stands (k ∷ ks) [] c n h = absurd (omega arith)
one_stands (k ∷ ks) (v ∷ vs) c n h = elim (k == c) as (λ b. (b || stands_among ks c) ≡ true → (b || has_value ks vs c) ≡ true) [ true ↦ λ e. refl | false ↦ λ e. one_stands ks vs c (omega arith) e ] h

pub key_stands : (columns cs : List ℕ) (key ks : List Value) (groups gs : List (List Atom)) → length key ≡ length columns → names_only (lies_in columns) groups ≡ true → cs ≡ columns → ks ≡ key → gs ≡ groups → names_only (key_has cs ks) gs ≡ true
key_stands columns cs key ks groups gs n h e f g = rw (e, f, g) (names_weaker (lies_in columns) (key_has columns key) (λ c. one_stands columns key c.column n) groups h)

inside_lies : (columns : List ℕ) (groups : List (List Atom)) → names_only (lies_in columns) (inside columns groups) ≡ true
inside_lies columns [] = refl
inside_lies columns (g ∷ more) = elim (group_names_only (lies_in columns) g) as (λ b. group_names_only (lies_in columns) g ≡ b → names_only (lies_in columns) (cond b (g ∷ inside columns more) (inside columns more)) ≡ true) [
  | true ↦ λ e. and_from (group_names_only (lies_in columns) g) (names_only (lies_in columns) (inside columns more)) e (inside_lies columns more)
  | false ↦ λ e. inside_lies columns more
] refl

pub kept_inside : (columns cs : List ℕ) (groups found : List (List Atom)) → cs ≡ columns → found ≡ inside columns groups → names_only (lies_in cs) found ≡ true
kept_inside columns cs groups found e f = rw (e, f) (inside_lies columns groups)

-- The key of a row has the row's values.
key_value : (row : List Value) (columns : List ℕ) (c : ℕ) → stands_among columns c ≡ true → value_in columns (key_of row columns) c ≡ slice_index_or row c Null
key_value row [] c h = absurd (cc)
key_value row (n ∷ ns) c h = elim (n == c) as (λ b. n == c ≡ b → (b || stands_among ns c) ≡ true → cond b (slice_index_or row n Null) (value_in ns (key_of row ns) c) ≡ slice_index_or row c Null) [
  | true ↦ λ e i. ap (λ m. slice_index_or row m Null) (same_number n c e)
  | false ↦ λ e i. key_value row ns c i
] refl h

pub part_truth : (only : List (List Atom)) (columns : List ℕ) (row : List Value) → passes (part_of only columns) (key_of row columns) ≡ is_true (truth_by (row_reads row) (inside columns only))
part_truth only columns row = ap is_true (truth_same (key_reads columns (key_of row columns)) (row_reads row) (lies_in columns) (λ c h. key_value row columns c.column h) (inside columns only) (inside_lies columns only))

-- Some groups of a restriction that is True are True.
pub some_true : (read : ColRef → Value) (p : List Atom → Bool) (only : List (List Atom)) → truth_by read only ≡ True → truth_by read (filter p only) ≡ True
some_true read p [] h = refl
some_true read p (g ∷ more) h = let l = lesser_left (group_truth read g) (truth_by read more) h in let r = some_true read p more (lesser_right (group_truth read g) (truth_by read more) h) in elim (p g) as (λ t. truth_by read (cond t (g ∷ filter p more) (filter p more)) ≡ True) [
  | true ↦ rw l r
  | false ↦ r
]

pub part_covers : (only : List (List Atom)) (columns : List ℕ) (row : List Value) → truth only row ≡ True → passes (part_of only columns) (key_of row columns) ≡ true
part_covers only columns row h = rw (part_truth only columns row, some_true (row_reads row) (group_names_only (lies_in columns)) only h) refl

-- The same of a part that may not be there for want of memory.
pub exact_if : {E : Type 0} (only mine : List (List Atom)) (columns : List ℕ) (row : List Value) (r : Result Parted E) → mine ≡ only → IfOk r (λ p. p ≡ part_of mine columns) → IfOk r (λ p. passes p (key_of row columns) ≡ is_true (truth_by (row_reads row) (inside columns only)))
exact_if only mine columns row (Ok p) m h = rw (h, m) (part_truth only columns row)
exact_if only mine columns row (Err e) m h = tt

pub covers_if : {E : Type 0} (only mine : List (List Atom)) (columns : List ℕ) (row : List Value) (r : Result Parted E) → mine ≡ only → truth only row ≡ True → IfOk r (λ p. p ≡ part_of mine columns) → IfOk r (λ p. passes p (key_of row columns) ≡ true)
covers_if only mine columns row (Ok p) m t h = rw (h, m) (part_covers only columns row t)
covers_if only mine columns row (Err e) m t h = tt
