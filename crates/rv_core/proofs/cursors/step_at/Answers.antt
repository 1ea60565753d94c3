use Rattle.std.proofs.Common.{refl}
use Rattle.rv_value.proofs.Lists.{on_err}
use Rattle.rv_core.proofs.Facts.{if_ok_three}
use Rattle.rv_core.proofs.Numbering.{listed_set}
use Rattle.rv_core.proofs.Opens.{opens_at}
use Rattle.rv_core.proofs.cursors.step_at.Goals as goal

pub returns-clause-steps : goal.returns-clause-steps
returns-clause-steps g c = if_ok_three c.step.result _ _ _ _ (λ done backs counted fewer. record { before = c.at_mut.result.now; after = c.step.new.cursor; here = c.at_mut.ensures.value; set = refl; same = c.step.ensures.stays.same; moved = record { steps = backs; counted = counted; fewer = fewer } }) c.step.ensures.backs c.step.ensures.counted c.step.ensures.fewer

pub returns-clause-lost : goal.returns-clause-lost
returns-clause-lost g c = on_err c.step.result _ (record { before = c.at_mut.result.now; after = c.step.new.cursor; here = c.at_mut.ensures.value; set = refl; same = c.step.ensures.stays.same; moved = c.step.ensures.moves })

pub returns-clause-opens : goal.returns-clause-opens
returns-clause-opens g c schema active all = opens_at (g.S.Reader.shown c.args.store.now) schema active c.args.cursors.now c.args.place c.at_mut.result.now c.step.new.cursor c.at_mut.ensures.value c.step.ensures.stays.fits c.step.ensures.stays.same all

pub returns-clause-listed : goal.returns-clause-listed
returns-clause-listed g c n h = listed_set n c.args.cursors.now c.args.place c.at_mut.result.now c.step.new.cursor c.at_mut.ensures.value c.step.ensures.stays.same.number c.step.ensures.stays.same.session h
