use Rattle.std.proofs.Common.{◌≡◌, Err}
use Rattle.std.proofs.lemmas.Result.{IfOk-weaker}
use Rattle.rv_core.proofs.Standing.{db_inserted}
use Rattle.rv_core.proofs.Databases.{inserts_standing}
use Rattle.rv_core.proofs.Indexing.{refused_does}
use Rattle.rv_core.proofs.Putting.{insert_refused}
use Rattle.rv_core.specs.Db.{seen, stand_of}
use Rattle.rv_core.specs.Storing.{inserted_alone}
use Rattle.rv_core.proofs.database.Database.insert.Goals as goal

pub invariant_of-self-2 : goal.invariant_of-self-2
invariant_of-self-2 g c =
    let row = rw (← c.self.view_is) at c.requires in
    record {
      standing = inserts_standing (g.S.Reader.shown c.self.inside.store) c.self.inside.catalog c.self.inside.txns c.insert_row.new.txns c.self.inside.cursors c.self.inside.opened c.args.session c.args.table c.args.values c.in-Ok.row row.there row.whole c.in-Ok.ensures.ok c.self.invariant.standing;
      views_kept = c.insert_row.ensures.views;
    }

pub returns-clause-ok : goal.returns-clause-ok
returns-clause-ok g c = rw (← c.self.view_is) (db_inserted (g.S.Reader.shown c.self.inside.store) c.self.inside.catalog c.self.inside.txns c.insert_row.new.txns (seen (g.S.Reader.shown c.self.inside.store) c.self.inside.cursors) c.args.session c.args.table c.args.values c.in-Ok.row c.in-Ok.ensures.ok c.in-Ok.ensures.alone)

pub returns-in-Err-Refused-clause-ok : goal.returns-in-Err-Refused-clause-ok
returns-in-Err-Refused-clause-ok g c =
    let shown = g.S.Reader.shown c.self.inside.store in
    let opens = seen shown c.self.inside.cursors in
    let why : inserted_alone shown c.self.inside.catalog c.self.inside.txns c.args.session c.args.table c.args.values ≡ Err c.in-Err-Refused.refusal = (rw c.in-Err-Refused.field-0-is at c.in-Err-Refused.ensures.fault) in
    let refusal = insert_refused shown c.self.inside.catalog c.self.inside.txns opens c.args.session c.args.table c.args.values c.in-Err-Refused.refusal why in
    rw (c.in-Err-Refused.ensures.err, ← c.self.view_is) (IfOk-weaker c.refused.result _ _ (λ replies k. refused_does _ (stand_of shown c.self.inside.catalog c.self.inside.txns opens) _ replies refusal k) c.refused.ensures)
