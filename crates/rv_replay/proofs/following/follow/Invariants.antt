use Rattle.rv_replay.proofs.Ends.{IsFollowed}
use Rattle.rv_replay.proofs.following.follow.Given as goal

abbrev pub invariant-entries : goal.invariant-entries
invariant-entries l = IsFollowed l.entries l.entry-index l.plain l.phase l.number
