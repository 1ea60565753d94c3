use Rattle.std.proofs.Common.{length}
use Rattle.std.specs.Option.{option_copied}
use Rattle.rv_jscan.specs.Joint.{keys_of}
use Rattle.rv_final.specs.Stage.{keys_left}
use Rattle.rv_final.proofs.stage.Final.+next_left.Given as goal

abbrev pub decreases-next_left : goal.decreases-next_left
decreases-next_left l = length (keys_left (keys_of (option_copied l.list)) l.self.now.at)
