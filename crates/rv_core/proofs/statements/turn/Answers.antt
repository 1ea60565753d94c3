use Rattle.rv_core.specs.Obeying.{under}
use Rattle.rv_core.proofs.Facts.{any_ok}
use Rattle.rv_core.proofs.Handling.{parted_err, parted_ok, turns_other}
use Rattle.rv_core.proofs.statements.turn.Goals as goal

pub perform-requires-clause-other : goal.perform-requires-clause-other
perform-requires-clause-other g c = rw c.in-Err.ensures.other.0 c.in-Err.ensures.other.1

pub returns-in-Err : goal.returns-in-Err
returns-in-Err g c =
    let is = c.in-Err.ensures.other.0 in
    let none = c.in-Err.ensures.other.1 in
    record {
      ok = rw c.answered.ensures (parted_ok c.perform.result _ _ (rw is at c.perform.ensures.ok));
      handles = rw c.answered.ensures (parted_ok c.perform.result _ _ (rw is at c.perform.ensures.handles));
      refuses = λ refusal. rw c.answered.ensures (parted_ok c.perform.result _ _ (rw is at (c.perform.ensures.refuses refusal)));
      turn = rw c.answered.ensures (parted_ok c.perform.result _ _ (any_ok c.perform.result _ (λ replies. turns_other (under _ _ c.args.settings) c.args.asked _ replies.0 _ _ none)));
      lost = rw c.answered.ensures (parted_err c.perform.result _ (rw is at c.perform.ensures.lost));
      rules = c.perform.ensures.rules;
      sees = c.perform.ensures.sees;
      err = rw c.answered.ensures (parted_err c.perform.result _ c.perform.ensures.err);
      opened = c.perform.ensures.opened;
      unopened = rw c.answered.ensures (parted_err c.perform.result _ c.perform.ensures.unopened);
    }

pub returns-in-Ok-clause-refuses : goal.returns-in-Ok-clause-refuses
returns-in-Ok-clause-refuses g c refusal = rw c.in-Ok.ensures.name (c.fetch_step-part.ensures.refuses refusal)
