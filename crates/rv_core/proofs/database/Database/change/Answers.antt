use Rattle.std.proofs.Common.{◌≡◌, Err}
use Rattle.std.specs.Option.{option_copied}
use Rattle.std.proofs.lemmas.Result.{IfOk-weaker}
use Rattle.rv_core.proofs.Databases.{changes_standing}
use Rattle.rv_core.proofs.Standing.{db_changed}
use Rattle.rv_core.proofs.Indexing.{refused_does}
use Rattle.rv_core.proofs.Putting.{change_refused}
use Rattle.rv_core.proofs.Searching.{touches_none}
use Rattle.rv_core.specs.Db.{seen, stand_of}
use Rattle.rv_core.specs.Storing.{changed_alone}
use Rattle.rv_core.proofs.database.Database.change.Goals as goal

pub change_rows-requires-clause-over : goal.change_rows-requires-clause-over
change_rows-requires-clause-over g c = rw (← c.self.view_is) at c.requires.over

pub invariant_of-self-2 : goal.invariant_of-self-2
invariant_of-self-2 g c =
    record {
      standing = changes_standing (g.S.Reader.shown c.self.inside.store) c.self.inside.catalog c.self.inside.txns c.change_rows.new.txns c.self.inside.cursors c.self.inside.opened c.args.session c.args.table c.args.only.now (option_copied c.args.sets) c.in-Ok.count c.change_rows.ensures.tied c.in-Ok.ensures.ok c.self.invariant.standing;
      views_kept = c.change_rows.ensures.views;
    }

pub returns-clause-ok : goal.returns-clause-ok
returns-clause-ok g c = rw (← c.self.view_is) (db_changed (g.S.Reader.shown c.self.inside.store) c.self.inside.catalog c.self.inside.txns c.change_rows.new.txns (seen (g.S.Reader.shown c.self.inside.store) c.self.inside.cursors) c.args.session c.args.table c.args.only.now (option_copied c.args.sets) c.in-Ok.count c.in-Ok.ensures.ok c.in-Ok.ensures.alone)

pub returns-in-Err-Refused-clause-ok : goal.returns-in-Err-Refused-clause-ok
returns-in-Err-Refused-clause-ok g c =
    let shown = g.S.Reader.shown c.self.inside.store in
    let opens = seen shown c.self.inside.cursors in
    let why : changed_alone shown c.self.inside.catalog c.self.inside.txns c.args.session c.args.table (option_copied c.args.sets) c.args.only.now ≡ Err c.in-Err-Refused.refusal = (rw c.in-Err-Refused.field-0-is at c.in-Err-Refused.ensures.fault) in
    let refusal = change_refused shown c.self.inside.catalog c.self.inside.txns opens c.args.session c.args.table c.args.only.now (option_copied c.args.sets) c.in-Err-Refused.refusal why in
    rw (c.in-Err-Refused.ensures.err, ← c.self.view_is) (IfOk-weaker c.refused.result _ _ (λ replies k. refused_does _ (stand_of shown c.self.inside.catalog c.self.inside.txns opens) _ replies refusal k) c.refused.ensures)

pub returns-in-Err-Refused-clause-asks : goal.returns-in-Err-Refused-clause-asks
returns-in-Err-Refused-clause-asks g c = rw (← c.self.view_is) c.change_rows.ensures.asks

pub returns-in-Err-NoMemory-clause-asks : goal.returns-in-Err-NoMemory-clause-asks
returns-in-Err-NoMemory-clause-asks g c = rw (← c.self.view_is) c.change_rows.ensures.asks

pub returns-clause-asks : goal.returns-clause-asks
returns-clause-asks g c = rw (← c.self.view_is) c.change_rows.ensures.asks

pub returns-clause-found : goal.returns-clause-found
returns-clause-found g c = rw (← c.self.view_is) (λ count touched. c.in-Ok.ensures.found)

pub returns-in-Err-Refused-clause-found : goal.returns-in-Err-Refused-clause-found
returns-in-Err-Refused-clause-found g c = IfOk-weaker c.refused.result _ _ (λ replies k. touches_none c.in-Err-Refused.refusal replies k.0) c.refused.ensures
