use Rattle.std.proofs.Common.{arith, length}
use Rattle.std.proofs.lemmas.Iterator.Consumers.{YieldsList-turn, YieldsList-end}
use Rattle.std.proofs.lemmas.Iterator.Splits.{YieldsList-from_lines}
use Rattle.std.proofs.lemmas.List.{length_push}
use Rattle.std.specs.Str.Lines.{lines}
use Rattle.rv_script.proofs.Sayings.{goes_on, fails, ends, few}
use Rattle.rv_script.proofs.scripts.read_lines.Goals as goal

pub returns-in-Err : goal.returns-in-Err
returns-in-Err c =
    let t = YieldsList-turn (YieldsList-from_lines c.args.text.now cc) c.lines.yielded _ c.lines.yielded_by _ _ c.in-Some.line c.in-Some.is c.next.ensures.steps in
    fails c.lines.draft c.lines.number (lines c.args.text.now) (length c.lines.yielded) c.in-Some.line.now _ t c.lines.invariant.whole c.in-Err.fault c.in-Err.ensures

pub lines-preserved : goal.lines-preserved
lines-preserved c =
    let t = YieldsList-turn (YieldsList-from_lines c.args.text.now cc) c.lines.yielded _ c.lines.yielded_by _ _ c.in-Some.line c.in-Some.is c.next.ensures.steps in
    record {
      whole = rw (length_push c.lines.yielded c.in-Some.line) (goes_on c.lines.draft c.lines.number (lines c.args.text.now) (length c.lines.yielded) c.in-Some.line.now _ t c.lines.invariant.whole c.in-Ok.more c.in-Ok.ensures);
      few = omega (arith, few c.lines.draft c.in-Ok.more c.lines.number c.in-Some.line.now c.in-Ok.ensures);
    }

pub returns : goal.returns
returns c =
    let t = YieldsList-end (YieldsList-from_lines c.args.text.now cc) c.lines.yielded _ c.lines.yielded_by _ _ c.in-None.is c.next.ensures.steps in
    rw c.in_ok-phases.ensures (ends c.lines.draft c.lines.number (lines c.args.text.now) (length c.lines.yielded) _ (omega (arith, t.1)) c.lines.invariant.whole)
