use Rattle.std.proofs.Common.{◌≡◌, ◌++◌, ◌∷◌, [], arith, rules}
use Rattle.rv_value.proofs.Lists.{on_err}
use Rattle.rv_model.proofs.Bounds.{HasRoom-after}
use Rattle.rv_core.specs.Core.{entry, shown_of}
use Rattle.rv_core.proofs.Keeping.{sees_itself, sees_then}
use Rattle.rv_core.proofs.Soundness.{IsSound-Answers, answered, opens_swept, unanswered_kept, unanswered_same}
use Rattle.rv_core.proofs.engine.Engine.call_step.Goals as goal

pub answer_step-requires-clause-room : goal.answer_step-requires-clause-room
answer_step-requires-clause-room g c = rw c.self.invariant.database (HasRoom-after c.self.inside.history.items (omega arith))

pub returns-in_err-copy-clause-err : goal.returns-in_err-copy-clause-err
returns-in_err-copy-clause-err g c = on_err _ _ (unanswered_same _ _ _ _ _)

pub returns-in_err-reserve-clause-err : goal.returns-in_err-reserve-clause-err
returns-in_err-reserve-clause-err g c = rw (← c.self.view_is) (on_err _ _ (unanswered_kept _ _ c.self.inside.database c.self.inside.history.items c.reserve.new.self.items c.self.inside.phase c.args.session c.args.text.now c.in_err-reserve.ensures.items))

pub invariant_of-self-2 : goal.invariant_of-self-2
invariant_of-self-2 g c =
    let pushed : c.push.new.self.items ≡ c.self.inside.history.items ++ entry c.args.session c.self.inside.phase c.in_ok-copy.copy c.in-Ok-Some.replies.1 ∷ [] = search rules in
    let did = answered _ _ _ c.self.inside.database c.answer_step.new.database c.sweep.new.self c.self.inside.history.items c.push.new.self.items c.self.inside.phase c.args.session c.args.text.now c.in_ok-copy.copy c.in-Ok-Some.replies.0 c.in-Ok-Some.replies.1 c.requires.from c.requires.to pushed c.in_ok-copy.ensures (rw c.in-Ok-Some.field-0-is at c.in-Ok-Some.ensures.ok) (rw c.in-Ok-Some.field-0-is at c.in-Ok-Some.ensures.handles) c.answer_step.ensures.opened c.sweep.ensures.same in
    IsSound-Answers _ _ _ (shown_of c.self.inside.history.items c.self.inside.phase c.self.inside.database) (shown_of c.push.new.self.items c.self.inside.phase c.sweep.new.self) c.args.session c.args.text.now c.in-Ok-Some.replies.0 c.self.invariant did

pub returns-clause-sound : goal.returns-clause-sound
returns-clause-sound g c =
    let pushed : c.push.new.self.items ≡ c.self.inside.history.items ++ entry c.args.session c.self.inside.phase c.in_ok-copy.copy c.in-Ok-Some.replies.1 ∷ [] = search rules in
    let did = answered _ _ _ c.self.inside.database c.answer_step.new.database c.sweep.new.self c.self.inside.history.items c.push.new.self.items c.self.inside.phase c.args.session c.args.text.now c.in_ok-copy.copy c.in-Ok-Some.replies.0 c.in-Ok-Some.replies.1 c.requires.from c.requires.to pushed c.in_ok-copy.ensures (rw c.in-Ok-Some.field-0-is at c.in-Ok-Some.ensures.ok) (rw c.in-Ok-Some.field-0-is at c.in-Ok-Some.ensures.handles) c.answer_step.ensures.opened c.sweep.ensures.same in
    IsSound-Answers _ _ _ (shown_of c.self.inside.history.items c.self.inside.phase c.self.inside.database) (shown_of c.push.new.self.items c.self.inside.phase c.sweep.new.self) c.args.session c.args.text.now c.in-Ok-Some.replies.0 c.self.invariant did

pub returns-clause-sees : goal.returns-clause-sees
returns-clause-sees g c = rw (← c.self.view_is) (sees_then _ _ _ _ _ c.answer_step.ensures.sees c.sweep.ensures.sees (opens_swept c.answer_step.new.database c.sweep.new.self c.sweep.ensures.same))

pub returns-in_err-reserve-clause-sees : goal.returns-in_err-reserve-clause-sees
returns-in_err-reserve-clause-sees g c = rw (← c.self.view_is) (sees_itself _ _)
