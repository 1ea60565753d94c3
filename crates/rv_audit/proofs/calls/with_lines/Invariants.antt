use Rattle.std.proofs.Common.{◌≡◌, ◌++◌, take}
use Rattle.rv_audit.specs.Calls.{calls_in}
use Rattle.rv_audit.proofs.calls.with_lines.Given as goal

abbrev pub invariant-lines : goal.invariant-lines
invariant-lines l = l.calls.items ≡ l.fn.calls.items ++ calls_in l.number (take l.line-index l.lines)
