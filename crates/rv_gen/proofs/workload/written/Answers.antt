use Rattle.rv_gen.proofs.Runs.{two_phases}
use Rattle.rv_gen.proofs.workload.written.Goals as goal

pub returns : goal.returns
returns c = two_phases c.args.seed c.args.rows c.args.count _ _ _ c.new-phases.result c.push.new.self c.push-2.new.self c.new-phases.ensures c.in_ok-push.ensures.ok c.in_ok-push-2.ensures.ok c.in_ok-filling.ensures.phase c.in_ok-filling.ensures.state c.in_ok-reading.ensures
