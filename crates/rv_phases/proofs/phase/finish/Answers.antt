use Rattle.std.proofs.Common.{rules}
use Rattle.rv_phases.proofs.Calls.{phase_done}
use Rattle.rv_phases.proofs.phase.finish.Goals as goal

pub returns : goal.returns
returns g c =
    let e = c.close-core.ensures in
    record {
      done = phase_done (g.C.Served.shown c.args.shared.turn.mark).phase c.args.shared.turn c.args.lines.now c.any_short-short.result c.collect-first.result.items c.args.idle.items (g.C.Served.shown c.close-core.result).history e.legal c.requires.eight e.history c.collect-first.ensures.passes c.requires.idle e.sessions e.helpers e.each;
      led = e.led;
      phase = e.phase;
    }
