use Rattle.rv_choice.specs.Members.{NoneServes}
use Rattle.rv_choice.proofs.uniting.members.Given as goal

-- no group before serves
abbrev pub invariant-places : goal.invariant-places
invariant-places g l = NoneServes l.query (g.R.Reader.shown l.reader) l.group
