use Rattle.rv_index.proofs.tree.Tree.purge.Goals as goal

pub returns-clause-newest : goal.returns-clause-newest
returns-clause-newest c = λ high b. c.purge.ensures.below high (rw (← c.self.view_is) at b)
