use Rattle.std.proofs.Common.{[], refl}
use Rattle.std.proofs.lemmas.Iterator.Consumers.{YieldsList-end, YieldsList-turn}
use Rattle.std.proofs.lemmas.Iterator.Splits.{YieldsList-from_lines}
use Rattle.std.specs.Str.Lines.{lines}
use Rattle.rv_script.proofs.Firsts.{first_is, first_none}
use Rattle.rv_script.proofs.scripts.first_line.Goals as goal

pub returns-in-Some : goal.returns-in-Some
returns-in-Some c =
    let t = YieldsList-turn (YieldsList-from_lines c.args.text.now c.lines.ensures.rest) [] _ refl _ _ c.in-Some.line c.in-Some.is c.next.ensures.steps in
    first_is (lines c.args.text.now) c.in-Some.line.now t.0 t.1

pub returns-in-None : goal.returns-in-None
returns-in-None c =
    let t = YieldsList-end (YieldsList-from_lines c.args.text.now c.lines.ensures.rest) [] _ refl _ _ c.in-None.is c.next.ensures.steps in
    first_none (lines c.args.text.now) t.0
