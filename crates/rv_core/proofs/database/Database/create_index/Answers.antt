use Rattle.std.proofs.Common.{◌∙◌, sym}
use Rattle.std.proofs.lemmas.Result.{IfOk-weaker}
use Rattle.rv_catalog.specs.Fits.{IsNewIndex}
use Rattle.rv_core.proofs.Databases.{idle_sees, indexes_all, indexes_standing, sees_again, stand_again, standing_same}
use Rattle.rv_core.proofs.Indexing.{equal_refused, few_room, index_alone, index_columns, newest_read, refused_does, rows_are_different, rows_are_equal}
use Rattle.rv_core.specs.Db.{db_of, seen, stand_of}
use Rattle.rv_core.proofs.Owning.{views_idle, views_same}
use Rattle.rv_core.proofs.database.Database.create_index.Goals as goal

pub first_equal-requires-clause-read : goal.first_equal-requires-clause-read
first_equal-requires-clause-read g c =
    let new : IsNewIndex c.self.inside.catalog c.args.def = (rw (← c.self.view_is) at c.requires.new) in
    newest_read (g.S.Reader.shown c.self.inside.store) c.self.inside.catalog c.self.inside.txns c.args.def.table c.self.invariant.standing.tied new.there

pub first_equal-requires-clause-few : goal.first_equal-requires-clause-few
first_equal-requires-clause-few g c =
    let new : IsNewIndex c.self.inside.catalog c.args.def = (rw (← c.self.view_is) at c.requires.new) in
    new.few

pub add_index-requires-clause-columns : goal.add_index-requires-clause-columns
add_index-requires-clause-columns g c = index_columns (g.S.Reader.shown c.self.inside.store) c.self.inside.catalog c.self.inside.txns c.args.def c.self.invariant.standing.tied (rw (← c.self.view_is) at c.requires.new) c.requires.some

pub add_index-requires-clause-alone : goal.add_index-requires-clause-alone
add_index-requires-clause-alone g c = index_alone (g.S.Reader.shown c.self.inside.store) c.self.inside.txns.active (rw (← c.self.view_is) at c.requires.swept) (sym c.active.ensures ∙ c.in_default.is)

pub invariant_of-self : goal.invariant_of-self
invariant_of-self g c =
    let standing = standing_same (g.S.Reader.shown c.self.inside.store) (g.S.Reader.shown c.add_index.new.store) c.self.inside.catalog c.add_index.new.catalog c.self.inside.txns c.self.inside.cursors c.self.inside.opened c.in-Err-add_index.ensures.err_catalog c.in-Err-add_index.ensures.err_store c.self.invariant.standing in
    record { standing = standing; views_kept = views_same (g.S.Reader.shown c.self.inside.store) (g.S.Reader.shown c.add_index.new.store) c.self.inside.catalog c.add_index.new.catalog c.self.inside.txns c.self.inside.views c.last-last.ensures.stored c.in-Err-add_index.ensures.err_store c.self.invariant.standing.tied standing.tied c.self.invariant.views_kept }

pub returns-in-Err-add_index-clause-err : goal.returns-in-Err-add_index-clause-err
returns-in-Err-add_index-clause-err g c = rw (← c.self.view_is) (stand_again (g.S.Reader.shown c.self.inside.store) (g.S.Reader.shown c.add_index.new.store) c.self.inside.catalog c.add_index.new.catalog c.self.inside.txns c.self.inside.cursors c.self.inside.opened c.in-Err-add_index.ensures.err_catalog c.in-Err-add_index.ensures.err_store c.self.invariant.standing)

pub invariant_of-self-2 : goal.invariant_of-self-2
invariant_of-self-2 g c =
    let new : IsNewIndex c.self.inside.catalog c.args.def = (rw (← c.self.view_is) at c.requires.new) in
    let room = few_room _ c.count_indexes.result c.count_indexes.ensures c.if-count_indexes-gt7.false in
    record {
      standing = indexes_standing (g.S.Reader.shown c.self.inside.store) (g.S.Reader.shown c.add_index.new.store) c.self.inside.catalog c.add_index.new.catalog c.args.def c.self.inside.txns c.self.inside.cursors c.self.inside.opened (sym c.active.ensures ∙ c.in_default.is) new.there room c.in-Ok-add_index.ensures.catalog c.in-Ok-add_index.ensures.store c.self.invariant.standing;
      views_kept = views_idle (g.S.Reader.shown c.self.inside.store) (g.S.Reader.shown c.add_index.new.store) c.self.inside.txns.active c.self.inside.views (sym c.active.ensures ∙ c.in_default.is) c.self.invariant.views_kept;
    }

pub returns-clause-ok : goal.returns-clause-ok
returns-clause-ok g c =
    let new : IsNewIndex c.self.inside.catalog c.args.def = (rw (← c.self.view_is) at c.requires.new) in
    let shown = g.S.Reader.shown c.self.inside.store in
    let differ = rows_are_different shown c.self.inside.catalog c.self.inside.txns (seen shown c.self.inside.cursors) c.args.def new.there (sym c.in_default-equal.is ∙ c.in-Ok.ensures) in
    let room = few_room _ c.count_indexes.result c.count_indexes.ensures c.if-count_indexes-gt7.false in
    rw (← c.self.view_is) (indexes_all (g.S.Reader.shown c.self.inside.store) (g.S.Reader.shown c.add_index.new.store) c.self.inside.catalog c.add_index.new.catalog c.args.def c.self.inside.txns c.self.inside.cursors c.self.inside.opened (sym c.active.ensures ∙ c.in_default.is) room c.in-Ok-add_index.ensures.catalog c.in-Ok-add_index.ensures.store differ c.self.invariant.standing)

pub returns-in-Err-add_index-clause-sees : goal.returns-in-Err-add_index-clause-sees
returns-in-Err-add_index-clause-sees g c = rw (← c.self.view_is) (sees_again (g.S.Reader.shown c.self.inside.store) (g.S.Reader.shown c.add_index.new.store) c.self.inside.catalog c.self.inside.txns c.self.inside.cursors c.self.inside.opened c.in-Err-add_index.ensures.err_store c.self.invariant.standing)

pub returns-clause-sees : goal.returns-clause-sees
returns-clause-sees g c = rw (← c.self.view_is) (idle_sees (g.S.Reader.shown c.self.inside.store) (g.S.Reader.shown c.add_index.new.store) c.self.inside.catalog c.self.inside.txns c.self.inside.cursors c.self.inside.opened (sym c.active.ensures ∙ c.in_default.is) c.self.invariant.standing)

pub returns-in-Some-equal-clause-ok : goal.returns-in-Some-equal-clause-ok
returns-in-Some-equal-clause-ok g c =
    let new : IsNewIndex c.self.inside.catalog c.args.def = (rw (← c.self.view_is) at c.requires.new) in
    let shown = g.S.Reader.shown c.self.inside.store in
    let opens = seen shown c.self.inside.cursors in
    let equal = rows_are_equal shown c.self.inside.catalog c.self.inside.txns opens c.args.def c.in-Some-equal.row new.there (sym c.in-Some-equal.is ∙ c.in-Ok.ensures) in
    let room = few_room _ c.count_indexes.result c.count_indexes.ensures c.if-count_indexes-gt7.false in
    let refusal = equal_refused (db_of shown c.self.inside.catalog c.self.inside.txns opens) c.args.def _ (sym c.active.ensures ∙ c.in_default.is) room equal in
    rw (← c.self.view_is) (IfOk-weaker c.refused-in-Some-equal.result _ _ (λ replies k. refused_does _ (stand_of shown c.self.inside.catalog c.self.inside.txns opens) _ replies refusal k) c.refused-in-Some-equal.ensures)
