use Rattle.rv_txn.proofs.changing.add_page.Goals as goal

pub add_copies-requires : goal.add_copies-requires
add_copies-requires g c = rw c.in-Some.ensures.page c.requires.columns

pub add_kept-requires : goal.add_kept-requires
add_kept-requires g c = rw c.in_ok-page-in-None.ensures.rows c.requires.columns

pub returns-in-Some-clause-added : goal.returns-in-Some-clause-added
returns-in-Some-clause-added g c = rw (← c.in-Some.ensures.page) c.add_copies.ensures

pub returns-in_ok-page-in-None-clause-added : goal.returns-in_ok-page-in-None-clause-added
returns-in_ok-page-in-None-clause-added g c = rw (← c.in_ok-page-in-None.ensures.rows) c.add_kept.ensures
