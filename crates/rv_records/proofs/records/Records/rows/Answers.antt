use Rattle.std.proofs.Common.{◌∙◌}
use Rattle.rv_records.proofs.Keeping.{page_read, page_none, page_few}
use Rattle.rv_records.proofs.records.Records.rows.Goals as goal

pub returns-in-Some-clause-page : goal.returns-in-Some-clause-page
returns-in-Some-clause-page c = rw (← c.self.view_is) (c.as_slice.ensures.same ∙ page_read _ c.args.snap c.args.n c.in-Some.rows.now c.self.invariant (rw (← c.self.view_is) at c.requires) c.in-Some.ensures)

pub returns-in-Some-clause-few : goal.returns-in-Some-clause-few
returns-in-Some-clause-few c = rw (← c.self.view_is) (page_few c.args.n _ c.as_slice.result.now (c.as_slice.ensures.same ∙ page_read _ c.args.snap c.args.n c.in-Some.rows.now c.self.invariant (rw (← c.self.view_is) at c.requires) c.in-Some.ensures))

pub returns-in-None-clause-page : goal.returns-in-None-clause-page
returns-in-None-clause-page c = rw (← c.self.view_is) (page_none _ c.args.snap c.args.n c.self.invariant (rw (← c.self.view_is) at c.requires) c.in-None.ensures)
