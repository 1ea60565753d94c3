-- A group is True exactly where some branch is, and each branch names only columns of the group.
use Rattle.std.proofs.Common.{◌≡◌, ℕ, ◌<◌, List, [], ◌∷◌, length, subst, Bool, true, false, cond, not, ◌||◌, filter, map, refl, ap, sym, ◌∙◌}
use Rattle.std.specs.Prelude.{Vec}
use Rattle.std.specs.List.{list_all, list_any, slice_index_or}
use Rattle.std.proofs.lemmas.List.{get_or-map, length-map}
use Rattle.std.proofs.lemmas.List.Folds.{list_all-append, list_any-append}
use Rattle.std.proofs.lemmas.Bool.{and_from}
use Rattle.std.specs.Cmp.{first_so, second_so}
use Rattle.std.proofs.Math.Bool.{and-true, or-false}
use Rattle.rv_value.specs.declared.value.Value.{Value}
use Rattle.rv_restrict.specs.declared.atom.ColRef.{ColRef}
use Rattle.rv_restrict.specs.declared.atom.Op.TheVariants.{Eq}
use Rattle.rv_restrict.specs.declared.atom.Atom.{Atom}
use Rattle.rv_restrict.specs.declared.atom.Atom.TheVariants.{Compare, Between, Among, IsNull, Starts, Const}
use Rattle.rv_restrict.specs.declared.atom.Tri.{Tri}
use Rattle.rv_restrict.specs.declared.atom.Tri.TheVariants.{True, False, Unknown}
use Rattle.rv_restrict.specs.Branches.{alone, alternatives, branches_of, equal_to, group_at}
use Rattle.rv_restrict.specs.Groups.{groups_of}
use Rattle.rv_restrict.specs.Truth.{among, atom_names_only, atom_truth, compared, greater, group_names_only, group_truth, is_null, is_true, lesser, names_only, truth_by}

-- THE GROUPS of a restriction are as many as its vectors, and stand in their places

pub long_as : {A : Type 0} (groups : List (Vec Atom A)) (only : List (List Atom)) → groups_of groups ≡ only → length groups ≡ length only
long_as {A} groups only e = sym (length-map groups (λ (group : Vec Atom A). group.items)) ∙ ap (λ (xs : List (List Atom)). length xs) e

pub group_in : {A : Type 0} (groups : List (Vec Atom A)) (only : List (List Atom)) (at : ℕ) (group : Vec Atom A) → groups_of groups ≡ only → at < length only → group ≡ slice_index_or groups at group → group.items ≡ group_at only at
group_in {A} groups only at group e l is =
    let there : at < length groups = subst (λ (n : ℕ). at < n) (sym (long_as groups only e)) l in
    ap (λ (g : Vec Atom A). g.items) is ∙ sym (get_or-map (λ (g : Vec Atom A). g.items) groups at group [] there) ∙ ap (λ (xs : List (List Atom)). slice_index_or xs at []) e

-- the truth of an OR
or_true : (a b : Tri) → is_true (greater a b) ≡ (is_true a || is_true b)
or_true True b = refl
or_true False b = refl
or_true Unknown True = refl
or_true Unknown False = refl
or_true Unknown Unknown = refl

-- an atom by itself is True where it is
alone_true : (t : Tri) → is_true (lesser (greater t False) True) ≡ is_true t
alone_true True = refl
alone_true False = refl
alone_true Unknown = refl

abbrev some_true : (ColRef → Value) → List (List (List Atom)) → Bool
some_true read bs = list_any (λ (b : List (List Atom)). is_true (truth_by read b)) bs

one_true : (read : ColRef → Value) (a : Atom) → some_true read (alone a ∷ []) ≡ is_true (atom_truth read a)
one_true read a = or-false (is_true (truth_by read (alone a))) ∙ alone_true (atom_truth read a)

-- with NULL nothing is equal
null_equal : (x v : Value) → is_null v ≡ true → compared x Eq v ≡ Unknown
null_equal x v n = by (is_null x) (is_null v) _ n
  where
    by : (a b : Bool) (t : Tri) → b ≡ true → cond (a || b) Unknown t ≡ Unknown
    by true b t e = refl
    by false true t e = refl
    by false false t e = absurd (cc)

equals_true : (read : ColRef → Value) (c : ColRef) (list : List Value) → some_true read (map alone (alternatives (Among c list))) ≡ is_true (among (read c) list)
equals_true read c [] = refl
equals_true read c (v ∷ list) =
    let more = equals_true read c list in
    let first = compared (read c) Eq v in
    let rest = among (read c) list in
    let keeps = filter (λ (w : Value). not (is_null w)) list in
    elim (is_null v) as (λ n. is_null v ≡ n → some_true read (map alone (map (equal_to c) (cond (not n) (v ∷ keeps) keeps))) ≡ is_true (greater first rest)) [
      | true ↦ λ e. more ∙ sym (or_true first rest ∙ ap (λ (t : Tri). is_true t || is_true rest) (null_equal (read c) v e))
      | false ↦ λ e. ap (λ (b : Bool). b || some_true read (map alone (map (equal_to c) keeps))) (alone_true first) ∙ ap (λ (b : Bool). is_true first || b) more ∙ sym (or_true first rest)
    ] refl

atom_true : (read : ColRef → Value) (a : Atom) → some_true read (map alone (alternatives a)) ≡ is_true (atom_truth read a)
atom_true read (Compare c op operand) = one_true read (Compare c op operand)
atom_true read (Between c low high) = one_true read (Between c low high)
atom_true read (Among c list) = equals_true read c list
atom_true read (IsNull c negated) = one_true read (IsNull c negated)
atom_true read (Starts c text) = one_true read (Starts c text)
atom_true read (Const t) = one_true read (Const t)

-- THE GROUP IS TRUE EXACTLY WHERE SOME BRANCH IS
pub some_branch : (read : ColRef → Value) (group : List Atom) → some_true read (branches_of group) ≡ is_true (group_truth read group)
some_branch read [] = refl
some_branch read (a ∷ group) =
    list_any-append (λ (b : List (List Atom)). is_true (truth_by read b)) (map alone (alternatives a)) (branches_of group)
    ∙ ap (λ (b : Bool). b || some_true read (branches_of group)) (atom_true read a)
    ∙ ap (λ (b : Bool). is_true (atom_truth read a) || b) (some_branch read group)
    ∙ sym (or_true (atom_truth read a) (group_truth read group))

-- THE COLUMNS

one_names : (p : ColRef → Bool) (a : Atom) → atom_names_only p a ≡ true → list_all (names_only p) (alone a ∷ []) ≡ true
one_names p a h = and-true (names_only p (alone a)) ∙ and-true (group_names_only p (a ∷ [])) ∙ and-true (atom_names_only p a) ∙ h

equals_names : (p : ColRef → Bool) (c : ColRef) (list : List Value) → p c ≡ true → list_all (names_only p) (map alone (alternatives (Among c list))) ≡ true
equals_names p c [] h = refl
equals_names p c (v ∷ list) h =
    let more = equals_names p c list h in
    let keeps = filter (λ (w : Value). not (is_null w)) list in
    elim (is_null v) as (λ n. list_all (names_only p) (map alone (map (equal_to c) (cond (not n) (v ∷ keeps) keeps))) ≡ true) [
      | true ↦ more
      | false ↦ and_from (names_only p (alone (equal_to c v))) (list_all (names_only p) (map alone (map (equal_to c) keeps))) (and-true (group_names_only p (equal_to c v ∷ [])) ∙ and-true (atom_names_only p (equal_to c v)) ∙ and-true (p c) ∙ h) more
    ]

atom_names : (p : ColRef → Bool) (a : Atom) → atom_names_only p a ≡ true → list_all (names_only p) (map alone (alternatives a)) ≡ true
atom_names p (Compare c op operand) h = one_names p (Compare c op operand) h
atom_names p (Between c low high) h = one_names p (Between c low high) h
atom_names p (Among c list) h = equals_names p c list h
atom_names p (IsNull c negated) h = one_names p (IsNull c negated) h
atom_names p (Starts c text) h = one_names p (Starts c text) h
atom_names p (Const t) h = one_names p (Const t) h

-- EACH BRANCH NAMES ONLY COLUMNS THAT THE GROUP NAMES
pub branch_names : (p : ColRef → Bool) (group : List Atom) → group_names_only p group ≡ true → list_all (names_only p) (branches_of group) ≡ true
branch_names p [] h = refl
branch_names p (a ∷ group) h =
    list_all-append (names_only p) (map alone (alternatives a)) (branches_of group)
    ∙ and_from (list_all (names_only p) (map alone (alternatives a))) (list_all (names_only p) (branches_of group)) (atom_names p a (first_so (atom_names_only p a) (group_names_only p group) h)) (branch_names p group (second_so (atom_names_only p a) (group_names_only p group) h))
