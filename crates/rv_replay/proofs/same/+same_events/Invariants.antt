use Rattle.std.proofs.Common.{length}
use Rattle.rv_replay.proofs.same.+same_events.Given as goal

abbrev pub decreases-same_events : goal.decreases-same_events
decreases-same_events l = length l.a.now
