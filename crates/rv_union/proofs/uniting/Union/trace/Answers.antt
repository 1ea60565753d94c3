use Rattle.std.proofs.Common.{◌∙◌, ap, subst, sym}
use Rattle.rv_judge.specs.declared.events.Trace.{Trace}
use Rattle.rv_judge.specs.Runs.{Allowed}
use Rattle.rv_union.specs.Unioned.{Unioned}
use Rattle.rv_jscan.specs.Planned.{indexes_of}
use Rattle.rv_union.proofs.Tellings.{allowed}
use Rattle.rv_union.proofs.uniting.Union.trace.Goals as goal

pub returns-clause-allowed : goal.returns-clause-allowed
returns-clause-allowed c t = subst (λ (x : Trace). Allowed x (indexes_of c.args.self.now.plans)) (sym (c.trace.ensures ∙ ap (λ (r : Unioned). r.trace) c.self.view_is)) (allowed c.args.self.now t)
