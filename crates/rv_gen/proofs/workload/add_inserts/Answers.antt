use Rattle.std.proofs.Common.{append-nil, sym}
use Rattle.rv_gen.proofs.Goings.{state_more, state_none}
use Rattle.rv_gen.proofs.Runs.{row_added}
use Rattle.rv_gen.proofs.workload.add_inserts.Goals as goal

pub rows-init : goal.rows-init
rows-init c = record { lines = sym (append-nil c.args.lines.now); state = state_none c.args.draws.now.state }

pub rows-preserved : goal.rows-preserved
rows-preserved c = record {
  lines = row_added c.args.draws.now.state c.rows._row c.rows.draws.state c.args.lines.now c.rows.lines c.add_insert.new.lines c.rows.invariant.lines c.rows.invariant.state c.in_ok-add_insert.ensures.lines;
  state = state_more c.args.draws.now.state c.rows._row c.rows.draws.state c.add_insert.new.draws.state 3 c.rows.invariant.state c.in_ok-add_insert.ensures.state;
}
