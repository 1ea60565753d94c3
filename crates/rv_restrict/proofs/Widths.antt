-- How many branches a group may have.
use Rattle.std.proofs.Common.{◌≡◌, ℕ, zero, suc, ◌<◌, ◌≤◌, List, [], ◌∷◌, Bool, true, false, cond, not, filter, map, length, length-append, refl, arith, ◌==◌}
use Rattle.std.proofs.lemmas.List.{length-map}
use Rattle.rv_value.proofs.Lists.{filter_length}
use Rattle.rv_value.specs.declared.value.Value.{Value}
use Rattle.rv_restrict.specs.declared.atom.ColRef.{ColRef}
use Rattle.rv_restrict.specs.declared.atom.Op.{Op}
use Rattle.rv_restrict.specs.declared.atom.Operand.TheVariants.{Literal, Column}
use Rattle.rv_restrict.specs.declared.atom.Atom.{Atom}
use Rattle.rv_restrict.specs.declared.atom.Atom.TheVariants.{Compare, Between, Among, IsNull, Starts, Const}
use Rattle.rv_restrict.specs.Bind.{bound, bound_atom, bound_columns, group_place, is_below, moved, rows_reads, taken}
use Rattle.rv_restrict.specs.Branches.{alone, alternatives, branches_of, equal_to, group_at, group_width, width_of, widths}
use Rattle.rv_restrict.specs.Truth.{atom_names_only, atom_truth, is_null}

-- an atom has no more alternatives than its width
atom_few : (a : Atom) → length (alternatives a) ≤ width_of a
atom_few (Compare c op operand) = omega arith
atom_few (Between c low high) = omega arith
atom_few (Among c list) =
    let mapped = length-map (filter (λ (v : Value). not (is_null v)) list) (equal_to c) in
    let few = filter_length (λ (v : Value). not (is_null v)) list in
    omega arith
atom_few (IsNull c negated) = omega arith
atom_few (Starts c text) = omega arith
atom_few (Const t) = omega arith

pub branches_few : (group : List Atom) → length (branches_of group) ≤ group_width group
branches_few [] = omega arith
branches_few (a ∷ group) =
    let first = atom_few a in
    let more = branches_few group in
    let mapped = length-map (alternatives a) alone in
    let both = length-append (map alone (alternatives a)) (branches_of group) in
    omega arith

pub group_within : (groups : List (List Atom)) (i : ℕ) → i < length groups → group_width (group_at groups i) ≤ widths groups
group_within [] i l = absurd (omega arith)
group_within (group ∷ groups) zero l = omega arith
group_within (group ∷ groups) (suc i) l = let more = group_within groups i (omega arith) in omega arith

-- BINDING MAKES NO MORE

columns_width : (place : ℕ) (outer : List (List Value)) (c : ColRef) (op : Op) (d : ColRef) → width_of (bound_columns place outer c op d) ≡ 1
columns_width place outer c op d = by (is_below place c) (is_below place d) refl refl
  where
    by : (a b : Bool) → is_below place c ≡ a → is_below place d ≡ b → width_of (bound_columns place outer c op d) ≡ 1
    by true b e f = rw e refl
    by false true e f = rw (e, f) refl
    by false false e f = rw (e, f) refl

moved_width : (place : ℕ) (outer : List (List Value)) (a : Atom) → width_of (moved place outer a) ≡ width_of a
moved_width place outer (Compare c op (Literal v)) = refl
moved_width place outer (Compare c op (Column d)) = columns_width place outer c op d
moved_width place outer (Between c low high) = refl
moved_width place outer (Among c list) = refl
moved_width place outer (IsNull c negated) = refl
moved_width place outer (Starts c text) = refl
moved_width place outer (Const t) = refl

some_width : (a : Atom) → 1 ≤ width_of a
some_width (Compare c op operand) = omega arith
some_width (Between c low high) = omega arith
some_width (Among c list) = omega arith
some_width (IsNull c negated) = omega arith
some_width (Starts c text) = omega arith
some_width (Const t) = omega arith

bound_width : (place : ℕ) (outer : List (List Value)) (a : Atom) → width_of (bound_atom place outer a) ≤ width_of a
bound_width place outer a = elim (atom_names_only (is_below place) a) as (λ b. width_of (cond b (Const (atom_truth (rows_reads outer) a)) (moved place outer a)) ≤ width_of a) [
  | true ↦ some_width a
  | false ↦ let same = moved_width place outer a in omega arith
]

group_bound : (place : ℕ) (outer : List (List Value)) (group : List Atom) → group_width (map (bound_atom place outer) group) ≤ group_width group
group_bound place outer [] = omega arith
group_bound place outer (a ∷ group) =
    let first = bound_width place outer a in
    let more = group_bound place outer group in
    omega arith

pub bound_widths : (place : ℕ) (outer : List (List Value)) (only : List (List Atom)) → widths (bound place outer only) ≤ widths only
bound_widths place outer [] = omega arith
bound_widths place outer (group ∷ groups) =
    let first = group_bound place outer group in
    let more = bound_widths place outer groups in
    elim (group_place group == place) as (λ b. widths (map (map (bound_atom place outer)) (cond b (group ∷ taken place groups) (taken place groups))) ≤ widths (group ∷ groups)) [
      | true ↦ omega arith
      | false ↦ omega arith
    ]
