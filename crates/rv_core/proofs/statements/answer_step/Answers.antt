use Rattle.std.proofs.Common.{Ok}
use Rattle.std.proofs.lemmas.Result.{IfOk-weaker, on_err_weaker}
use Rattle.rv_value.proofs.Lists.{on_err}
use Rattle.rv_core.proofs.Facts.{if_ok_two}
use Rattle.rv_parse.specs.Reading.{statement_of}
use Rattle.rv_core.proofs.Handling.{leaves_asked, leaves_text, ok_each, part_executes, part_handles, part_turns_text}
use Rattle.rv_core.proofs.statements.answer_step.Goals as goal

pub returns-in_err-place-clause-lost : goal.returns-in_err-place-clause-lost
returns-in_err-place-clause-lost g c = on_err _ _ (leaves_text _ _ _ _ _)

pub returns-in-Ok-clause-ok : goal.returns-in-Ok-clause-ok
returns-in-Ok-clause-ok g c = IfOk-weaker c.turn.result _ _ (λ part k. part_executes (statement_of c.args.text.now) c.in-Ok.asked _ _ _ _ part (rw (c.catalog.ensures, c.at-said.ensures.is, c.in_ok-place.ensures.is) at c.in-Ok.ensures.gives) k) c.turn.ensures.ok

pub returns-in-Ok-clause-handles : goal.returns-in-Ok-clause-handles
returns-in-Ok-clause-handles g c = if_ok_two c.turn.result _ _ _ (λ part handles refuses. part_handles _ _ c.in-Ok.asked _ _ part _ _ (rw (c.catalog.ensures, c.at-said.ensures.is, c.in_ok-place.ensures.is) at c.in-Ok.ensures.gives) handles refuses) c.turn.ensures.handles (ok_each c.turn.result _ c.turn.ensures.refuses)

pub returns-in-Ok-clause-turn : goal.returns-in-Ok-clause-turn
returns-in-Ok-clause-turn g c = IfOk-weaker c.turn.result _ _ (λ part k. part_turns_text _ _ c.in-Ok.asked _ _ part _ _ (rw (c.catalog.ensures, c.at-said.ensures.is, c.in_ok-place.ensures.is) at c.in-Ok.ensures.gives) k) c.turn.ensures.turn

pub returns-in-Ok-clause-lost : goal.returns-in-Ok-clause-lost
returns-in-Ok-clause-lost g c = on_err_weaker c.turn.result (λ k. leaves_asked _ _ (Ok c.in-Ok.asked) _ _ _ _ (rw (c.catalog.ensures, c.at-said.ensures.is, c.in_ok-place.ensures.is) at c.in-Ok.ensures.gives) k) c.turn.ensures.lost

pub returns-in-Err-NoMemory-clause-lost : goal.returns-in-Err-NoMemory-clause-lost
returns-in-Err-NoMemory-clause-lost g c = leaves_text _ _ _ _ _
