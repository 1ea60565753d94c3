use Rattle.std.proofs.Common.{◌≡◌, drop}
use Rattle.rv_catalog.specs.Answers.{all_pass}
use Rattle.rv_catalog.specs.Kinds.{set_kind}
use Rattle.rv_catalog.proofs.kinds.check_sets.Given as goal

abbrev pub invariant-sets : goal.invariant-sets
invariant-sets l = all_pass (set_kind l.catalog.tables l.table) (drop l.set-index l.sets) ≡ all_pass (set_kind l.catalog.tables l.table) l.sets
