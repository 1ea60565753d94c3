use Rattle.rv_cursor.specs.Left.{seen_at}
use Rattle.rv_core.proofs.Bounding.{opens_bounded}
use Rattle.rv_core.proofs.Plans.{plans, plans_seen, reads_all}
use Rattle.rv_core.proofs.Viewing.{lays_some}
use Rattle.rv_core.proofs.cursors.plan_cursor.Goals as goal

pub look_at-requires : goal.look_at-requires
look_at-requires g c = rw c.as_slice.ensures (reads_all (g.S.Reader.shown c.args.store.now) c.args.catalog.now c.requires.tied.0 c.args.snap c.args.select.now.tables c.requires.tied.1 c.requires.query.there c.requires.base)

pub open_cursor-requires-clause-lays : goal.open_cursor-requires-clause-lays
open_cursor-requires-clause-lays g c = lays_some (g.S.Reader.shown c.args.store.now) c.requires.tied.0.touched c.args.snap c.args.frozen c.last-newest.ensures.stored c.requires.tied.2

pub open_cursor-requires-clause-plan : goal.open_cursor-requires-clause-plan
open_cursor-requires-clause-plan g c = plans (g.S.Reader.shown c.args.store.now) c.args.catalog.now c.requires.tied.0 c.args.select.now c.args.snap c.args.frozen c.indexes.result.now c.requires.tied.1 c.last-newest.ensures.stored c.requires.base c.requires.query c.requires.some c.indexes.ensures.same c.indexes.ensures.room (rw c.as_slice.ensures at c.look_at.ensures) c.requires.tied.2

pub returns-clause-seen : goal.returns-clause-seen
returns-clause-seen g c = plans_seen c.open_cursor.result (g.S.Reader.shown c.args.store.now) c.args.catalog.now c.requires.tied.0 c.args.select.now c.args.snap c.args.session c.args.number c.args.name c.args.frozen c.indexes.result.now c.requires.tied.1 c.requires.query c.requires.some c.requires.base c.requires.tied.2 c.open_cursor.ensures.left c.open_cursor.ensures.asked c.open_cursor.ensures.session c.open_cursor.ensures.name

pub returns-clause-bounds : goal.returns-clause-bounds
returns-clause-bounds g c = opens_bounded c.open_cursor.result (seen_at (g.S.Reader.shown c.args.store.now) c.args.snap c.args.frozen) c.args.select.now c.args.catalog.now.indexes c.args.snap _ _ c.new-steps.ensures c.open_cursor.ensures.only c.open_cursor.ensures.counts c.open_cursor.ensures.work (rw c.indexes.ensures.same at c.open_cursor.ensures.life) c.open_cursor.ensures.short
