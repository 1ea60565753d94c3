use Rattle.std.proofs.Common.{refl}
use Rattle.rv_restrict.specs.Groups.{groups_of}
use Rattle.rv_decide.proofs.Named.{all_named}
use Rattle.rv_decide.proofs.truths.may_go_on.Goals as goal

pub are_true_at-requires : goal.are_true_at-requires
are_true_at-requires c = all_named _ (λ column. refl) (groups_of c.groups.result.now)
