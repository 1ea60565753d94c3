use Rattle.rv_core.proofs.Putting.{none_viewed_rows, own_read, owns, read_owned}
use Rattle.rv_core.specs.Db.{db_of, seen}
use Rattle.rv_model.specs.Transactions.{transaction_of}
use Rattle.rv_core.proofs.database.Database.rows.Goals as goal
use Rattle.std.proofs.lemmas.Result.{IfOk-weaker}

pub viewed_rows-requires : goal.viewed_rows-requires
viewed_rows-requires g c =
    let there = rw (← c.self.view_is) at c.requires.there in
    own_read (g.S.Reader.shown c.self.inside.store) c.self.inside.catalog c.self.inside.txns c.args.session c.args.table c.in-Some.own.now c.self.invariant.standing.tied there (owns c.self.inside.txns.active c.args.session c.in-Some.own.now c.in-Some.ensures)

pub returns-in-None : goal.returns-in-None
returns-in-None g c =
    let shown = g.S.Reader.shown c.self.inside.store in
    rw (← c.self.view_is) (none_viewed_rows (db_of shown c.self.inside.catalog c.self.inside.txns (seen shown c.self.inside.cursors)) c.self.inside.txns.active (transaction_of c.self.inside.txns.active c.args.session) c.args.table c.new.result.items c.new.ensures.items c.in-None.ensures)

pub returns-in-Some : goal.returns-in-Some
returns-in-Some g c =
    let shown = g.S.Reader.shown c.self.inside.store in
    let there = rw (← c.self.view_is) at c.requires.there in
    let own = owns c.self.inside.txns.active c.args.session c.in-Some.own.now c.in-Some.ensures in
    rw (← c.self.view_is) (IfOk-weaker c.viewed_rows.result _ _ (λ rows k. read_owned shown c.self.inside.catalog c.self.inside.txns (seen shown c.self.inside.cursors) c.args.session c.args.table c.in-Some.own.now rows.items there own k) c.viewed_rows.ensures.seen)
