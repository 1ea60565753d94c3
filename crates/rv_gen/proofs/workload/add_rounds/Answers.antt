use Rattle.std.proofs.Common.{append-nil, sym}
use Rattle.rv_gen.proofs.Goings.{state_more, state_none}
use Rattle.rv_gen.proofs.Runs.{round_added}
use Rattle.rv_gen.proofs.workload.add_rounds.Goals as goal

pub rounds-init : goal.rounds-init
rounds-init c = record { lines = sym (append-nil c.args.lines.now); state = state_none c.args.draws.now.state }

pub rounds-preserved : goal.rounds-preserved
rounds-preserved c = record {
  lines = round_added c.args.draws.now.state c.rounds._number c.rounds.draws.state c.args.lines.now c.rounds.lines c.add_round.new.lines c.rounds.invariant.lines c.rounds.invariant.state c.in_ok-add_round.ensures.lines;
  state = state_more c.args.draws.now.state c.rounds._number c.rounds.draws.state c.add_round.new.draws.state 2 c.rounds.invariant.state c.in_ok-add_round.ensures.state;
}
