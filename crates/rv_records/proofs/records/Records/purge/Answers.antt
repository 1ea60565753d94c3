use Rattle.rv_records.proofs.records.Records.purge.Goals as goal

pub returns-clause-below : goal.returns-clause-below
returns-clause-below c high below =
    let seen = rw (← c.self.view_is) at below in
    record { pages = c.purge.ensures.below high seen.pages; sizes = c.purge-2.ensures.below high seen.sizes }
