use Rattle.std.proofs.Common.{◌≡◌, take}
use Rattle.rv_gen.specs.Summary.{summary}
use Rattle.rv_gen.proofs.summary.summary_of.Given as goal

abbrev pub invariant-entries : goal.invariant-entries
invariant-entries l = l.summary ≡ summary (take l.entry-index l.entries)
