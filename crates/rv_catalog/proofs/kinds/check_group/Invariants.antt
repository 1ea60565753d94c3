use Rattle.std.proofs.Common.{◌≡◌, drop}
use Rattle.rv_catalog.specs.Answers.{all_pass}
use Rattle.rv_catalog.specs.Kinds.{atom_kind}
use Rattle.rv_catalog.proofs.kinds.check_group.Given as goal

abbrev pub invariant-atoms : goal.invariant-atoms
invariant-atoms l = all_pass (atom_kind l.catalog.tables l.reach) (drop l.atom-index l.atoms) ≡ all_pass (atom_kind l.catalog.tables l.reach) l.atoms
