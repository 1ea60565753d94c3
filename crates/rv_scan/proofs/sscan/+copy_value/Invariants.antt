use Rattle.std.proofs.Common.{length}
use Rattle.rv_scan.proofs.sscan.+copy_value.Given as goal

abbrev pub decreases-copy_value : goal.decreases-copy_value
decreases-copy_value l = length l.columns.now
