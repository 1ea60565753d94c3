use Rattle.std.proofs.Common.{length}
use Rattle.rv_script.proofs.packing.+pack_more.Given as goal

abbrev pub decreases-pack_more : goal.decreases-pack_more
decreases-pack_more l = length l.values.now
