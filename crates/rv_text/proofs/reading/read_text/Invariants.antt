use Rattle.std.proofs.Common.{◌≡◌, ◌+◌, ◌*◌, ◌≤◌, length}
use Rattle.rv_text.specs.Texts.{entries_before, read_from}
use Rattle.rv_text.proofs.reading.read_text.Given as goal

abbrev pub invariant-entries : goal.invariant-entries
invariant-entries l = record {
  whole : entries_before l.entries.items (read_from l.line l.left) ≡ read_from 1 l.fn.bytes;
  few : l.line + 2 * length l.left ≤ 536870913;
}

abbrev pub decreases-entries : goal.decreases-entries
decreases-entries l = length l.left
