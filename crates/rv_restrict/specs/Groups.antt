-- Groups of atoms as lists.
use Rattle.std.specs.Prelude.{List, map, Vec}
use Rattle.rv_restrict.specs.declared.atom.Atom.{Atom}

abbrev pub groups_of : {A : Type 0} → List (Vec Atom A) → List (List Atom)
groups_of {A} = map (λ (group : Vec Atom A). group.items)
