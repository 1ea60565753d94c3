use Rattle.std.proofs.Common.{refl}
use Rattle.rv_value.proofs.Lists.{all_got}
use Rattle.rv_cursor.specs.Left.{CursorFits, seen_by}
use Rattle.rv_core.specs.Db.{IsOpen}
use Rattle.rv_core.proofs.Databases.{given_stays}
use Rattle.rv_core.proofs.Handling.{err_both, given_back}
use Rattle.rv_core.proofs.Numbering.{listed_set}
use Rattle.rv_core.proofs.Opens.{opens_at, same_at}
use Rattle.rv_core.proofs.Shorts.{keeps_set}
use Rattle.rv_core.proofs.pieces.give_at.Goals as goal

pub returns-clause-seen : goal.returns-clause-seen
returns-clause-seen g c shown all =
    let cursor = c.at_mut-cursor.result.now in
    let here = all_got (CursorFits shown) c.args.cursors.now c.args.place cursor all c.at_mut-cursor.ensures.value in
    let s = given_stays shown cursor c.give.new.self c.give.ensures.fits c.give.ensures.stays here in
    same_at shown c.args.cursors.now c.args.place cursor (record cursor { plan = c.give.new.self }) c.at_mut-cursor.ensures.value s.same s.left

pub returns-clause-opens : goal.returns-clause-opens
returns-clause-opens g c shown schema active all =
    let cursor = c.at_mut-cursor.result.now in
    let here = all_got (IsOpen shown schema active) c.args.cursors.now c.args.place cursor all c.at_mut-cursor.ensures.value in
    let s = given_stays shown cursor c.give.new.self c.give.ensures.fits c.give.ensures.stays here.fits in
    opens_at shown schema active c.args.cursors.now c.args.place cursor (record cursor { plan = c.give.new.self }) c.at_mut-cursor.ensures.value s.fits s.same all

pub returns-clause-listed : goal.returns-clause-listed
returns-clause-listed g c n h =
    let cursor = c.at_mut-cursor.result.now in
    listed_set n c.args.cursors.now c.args.place cursor (record cursor { plan = c.give.new.self }) c.at_mut-cursor.ensures.value refl refl h

pub returns-clause-err : goal.returns-clause-err
returns-clause-err g c = err_both c.give.result _ _ _ (λ same quiet. (given_back c.args.cursors.now c.args.place c.at_mut-cursor.result.now c.give.new.self c.at_mut-cursor.ensures.value same, quiet)) c.give.ensures.err c.give.ensures.quiet

pub returns-clause-settled : goal.returns-clause-settled
returns-clause-settled g c shown all =
    let cursor = c.at_mut-cursor.result.now in
    let here = all_got (CursorFits shown) c.args.cursors.now c.args.place cursor all c.at_mut-cursor.ensures.value in
    keeps_set c.args.cursors.now c.args.place cursor c.give.new.self c.at_mut-cursor.ensures.value (λ one s. (c.give.ensures.settled (seen_by shown cursor) here.plan one s).0)
