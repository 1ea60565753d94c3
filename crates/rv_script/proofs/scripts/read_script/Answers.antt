use Rattle.rv_script.proofs.Texts.{script_utf8}
use Rattle.rv_script.proofs.scripts.read_script.Goals as goal

pub returns-in-Ok : goal.returns-in-Ok
returns-in-Ok c = rw (script_utf8 c.args.bytes.now c.in-Ok.ensures.cases.1, ← c.in-Ok.ensures.cases.0, ← c.unmarked.ensures) c.read_lines.ensures
