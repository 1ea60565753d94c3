use Rattle.std.proofs.Common.{subst, sym}
use Rattle.rv_judge.specs.Runs.{Allowed}
use Rattle.rv_retrieval.specs.Runs.{indexes_asked}
use Rattle.rv_retrieval.specs.Shape.{Shape}
use Rattle.rv_retrieval.proofs.Tellings.{allowed}
use Rattle.rv_retrieval.proofs.retrieval.Retrieval.trace.Goals as goal

pub returns-clause-allowed : goal.returns-clause-allowed
returns-clause-allowed c t = subst (λ (v : Shape). Allowed v.trace (indexes_asked c.args.self.now.query)) (sym c.self.view_is) (allowed c.args.self.now t)
