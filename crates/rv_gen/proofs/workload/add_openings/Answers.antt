use Rattle.std.proofs.Common.{◌≡◌, ℕ, ◌+◌, ◌-◌, List, ◌++◌, arith, ap, ◌∙◌, append-nil, sym}
use Rattle.rv_gen.specs.Workload.{openings_of}
use Rattle.rv_gen.proofs.Goings.{state_more, state_none}
use Rattle.rv_gen.proofs.Runs.{opening_added, readers_end}
use Rattle.rv_gen.proofs.workload.add_openings.Goals as goal

pub readers-init : goal.readers-init
readers-init c = record { lines = sym (append-nil c.args.lines.now); state = state_none c.args.draws.now.state }

pub readers-preserved : goal.readers-preserved
readers-preserved c =
    let least = c.readers.auto.session in
    let count : c.readers.session + 1 - 2 ≡ (c.readers.session - 2) + 1 = omega arith in
    record {
      lines = opening_added c.args.draws.now.state c.readers.session c.readers.draws.state c.args.lines.now c.readers.lines c.add_opening.new.lines least c.readers.invariant.lines c.readers.invariant.state c.in_ok-add_opening.ensures.lines;
      state = rw count (state_more c.args.draws.now.state (c.readers.session - 2) c.readers.draws.state c.add_opening.new.draws.state 2 c.readers.invariant.state c.in_ok-add_opening.ensures.state);
    }

pub returns-clause-lines : goal.returns-clause-lines
returns-clause-lines c =
    let end : c.readers.session ≡ 6 = omega (arith, c.readers.auto.session-end (omega arith), c.readers-test.false) in
    c.readers.invariant.lines ∙ ap (λ (sessions : List ℕ). c.args.lines.now ++ openings_of sessions c.args.draws.now.state) (readers_end c.readers.session end)
