use Rattle.std.proofs.Common.{refl}
use Rattle.rv_decide.proofs.Named.{all_named}
use Rattle.rv_decide.proofs.truths.is_kept.Goals as goal

pub truth_on-requires : goal.truth_on-requires
truth_on-requires c = all_named _ (λ column. refl) c.args.only.now
