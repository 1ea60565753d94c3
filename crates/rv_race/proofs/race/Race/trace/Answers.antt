use Rattle.std.proofs.Common.{◌∙◌, ap, subst, sym}
use Rattle.rv_judge.specs.declared.events.Trace.{Trace}
use Rattle.rv_judge.specs.Runs.{Allowed}
use Rattle.rv_race.specs.Raced.{Raced}
use Rattle.rv_jscan.specs.Planned.{indexes_of}
use Rattle.rv_race.proofs.Tellings.{allowed}
use Rattle.rv_race.proofs.race.Race.trace.Goals as goal

pub returns-clause-allowed : goal.returns-clause-allowed
returns-clause-allowed c t = subst (λ (x : Trace). Allowed x (indexes_of c.args.self.now.plans)) (sym (c.trace.ensures ∙ ap (λ (r : Raced). r.trace) c.self.view_is)) (allowed c.args.self.now t)
