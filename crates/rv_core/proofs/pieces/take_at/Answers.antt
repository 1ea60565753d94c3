use Rattle.std.proofs.Common.{refl}
use Rattle.rv_core.proofs.Facts.{if_ok_two}
use Rattle.rv_core.proofs.Numbering.{listed_set}
use Rattle.rv_core.proofs.Opens.{opens_at}
use Rattle.rv_core.proofs.pieces.take_at.Goals as goal

pub returns-clause-opens : goal.returns-clause-opens
returns-clause-opens g c schema active all = opens_at (g.S.Reader.shown c.args.store.now) schema active c.args.cursors.now c.args.place c.at_mut.result.now c.take.new.cursor c.at_mut.ensures.value c.take.ensures.stays.fits c.take.ensures.stays.same all

pub returns-clause-listed : goal.returns-clause-listed
returns-clause-listed g c n h = listed_set n c.args.cursors.now c.args.place c.at_mut.result.now c.take.new.cursor c.at_mut.ensures.value c.take.ensures.stays.same.number c.take.ensures.stays.same.session h

pub returns-clause-taken : goal.returns-clause-taken
returns-clause-taken g c = if_ok_two c.take.result _ _ _ (λ taken answers ready. record {
  tries = record {
    cursor = c.at_mut.result.now;
    left = c.take.new.cursor;
    calls = record { here = c.at_mut.ensures.value; called = refl; same = c.take.ensures.same };
    awaited = c.take.ensures.awaited;
    pieces = c.take.ensures.pieces;
    course = c.take.ensures.course;
    reads = c.take.ensures.reads;
    counts = c.take.ensures.counts;
    once = c.take.ensures.once;
    stays = c.take.ensures.kept;
    fits = c.take.ensures.left;
  };
  answers = answers;
  ready = ready;
}) c.take.ensures.answers c.take.ensures.ready
