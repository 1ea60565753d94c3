use Rattle.rv_records.proofs.Keeping.{back_keeps, back_before}
use Rattle.rv_records.proofs.records.Records.abandon.Goals as goal

pub invariant_of-self : goal.invariant_of-self
invariant_of-self c = back_keeps _ c.args.commit c.take_back.new.pages c.take_back.new.sizes c.self.invariant (rw (← c.self.view_is) at c.requires.later) c.take_back.ensures.back

pub returns-clause-later : goal.returns-clause-later
returns-clause-later c = rw (← c.self.view_is) (back_before _ c.args.commit c.take_back.new.pages c.take_back.new.sizes c.take_back.ensures.back (rw (← c.self.view_is) at c.requires.later))
