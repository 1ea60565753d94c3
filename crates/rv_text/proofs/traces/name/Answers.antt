use Rattle.std.proofs.Common.{rules}
use Rattle.rv_text.proofs.Leaves.{name_utf8}
use Rattle.rv_text.proofs.traces.name.Goals as goal

pub returns-in-Err : goal.returns-in-Err
returns-in-Err c = absurd (c.in-Err.ensures.cases.0 (name_utf8 c.args.bytes.now (search rules)))
