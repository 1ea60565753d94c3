use Rattle.rv_records.proofs.Keeping.{sizes_few, table_is}
use Rattle.rv_records.proofs.records.Records.sizes.Goals as goal

pub returns-in-Some-clause-few : goal.returns-in-Some-clause-few
returns-in-Some-clause-few c = sizes_few _ c.args.snap c.in-Some.sizes.now c.self.invariant (rw (← c.self.view_is) at c.requires) c.in-Some.ensures

pub returns-in-Some-clause-table : goal.returns-in-Some-clause-table
returns-in-Some-clause-table c = rw (← c.self.view_is) (table_is _ c.args.snap c.self.invariant (rw (← c.self.view_is) at c.requires))
