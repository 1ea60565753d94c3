use Rattle.std.proofs.Common.{◌≡◌, ◌++◌, ◌∷◌, [], arith, refl, rules}
use Rattle.rv_value.proofs.Lists.{on_err}
use Rattle.rv_model.proofs.Bounds.{HasRoom-after}
use Rattle.rv_core.specs.Core.{entry, shown_of}
use Rattle.rv_core.proofs.Keeping.{sees_itself, sees_then}
use Rattle.rv_core.proofs.Soundness.{IsSound-Answers, answered, opens_swept, unanswered_at, unanswered_kept}
use Rattle.rv_core.proofs.engine.Engine.call_text.Goals as goal

pub answer-requires-clause-room : goal.answer-requires-clause-room
answer-requires-clause-room g c = rw c.self.invariant.database (HasRoom-after c.self.inside.history.items (omega arith))

pub answer-requires-clause-numbers : goal.answer-requires-clause-numbers
answer-requires-clause-numbers g c = omega (arith, c.self.invariant.numbers)

pub returns-in_err-reserve-clause-err : goal.returns-in_err-reserve-clause-err
returns-in_err-reserve-clause-err g c = rw (← c.self.view_is) (on_err _ _ (unanswered_kept _ _ c.self.inside.database c.self.inside.history.items c.reserve.new.self.items c.self.inside.phase c.args.session c.args.text c.in_err-reserve.ensures.items))

pub answer-requires-clause-short : goal.answer-requires-clause-short
answer-requires-clause-short g c = rw c.as_str.ensures.same c.requires.short

pub returns-in_err-reply-clause-err : goal.returns-in_err-reply-clause-err
returns-in_err-reply-clause-err g c =
    let kept : c.reserve.new.self.items ≡ c.self.inside.history.items = search rules in
    rw (← c.self.view_is) (on_err _ _ (unanswered_at _ _ _ c.self.inside.database c.answer.new.database c.self.inside.history.items c.reserve.new.self.items c.self.inside.phase c.args.session c.args.text c.as_str.result.now kept c.as_str.ensures.same c.in_err-reply.ensures.err c.in_err-reply.ensures.unopened c.in_err-reply.ensures.lost))

pub returns-clause-ok : goal.returns-clause-ok
returns-clause-ok g c =
    let pushed : c.push.new.self.items ≡ c.self.inside.history.items ++ entry c.args.session c.self.inside.phase c.args.text c.in_ok-reply.kept ∷ [] = search rules in
    rw (← c.self.view_is) (answered _ _ _ c.self.inside.database c.answer.new.database c.sweep.new.self c.self.inside.history.items c.push.new.self.items c.self.inside.phase c.args.session c.args.text c.args.text c.in_ok-reply.reply c.in_ok-reply.kept c.requires.from c.requires.to pushed refl (rw c.as_str.ensures.same at c.in_ok-reply.ensures.ok) (rw c.as_str.ensures.same at c.in_ok-reply.ensures.handles) c.answer.ensures.opened c.sweep.ensures.same)

pub invariant_of-self-2 : goal.invariant_of-self-2
invariant_of-self-2 g c =
    let pushed : c.push.new.self.items ≡ c.self.inside.history.items ++ entry c.args.session c.self.inside.phase c.args.text c.in_ok-reply.kept ∷ [] = search rules in
    let did = answered _ _ _ c.self.inside.database c.answer.new.database c.sweep.new.self c.self.inside.history.items c.push.new.self.items c.self.inside.phase c.args.session c.args.text c.args.text c.in_ok-reply.reply c.in_ok-reply.kept c.requires.from c.requires.to pushed refl (rw c.as_str.ensures.same at c.in_ok-reply.ensures.ok) (rw c.as_str.ensures.same at c.in_ok-reply.ensures.handles) c.answer.ensures.opened c.sweep.ensures.same in
    IsSound-Answers _ _ _ (shown_of c.self.inside.history.items c.self.inside.phase c.self.inside.database) (shown_of c.push.new.self.items c.self.inside.phase c.sweep.new.self) c.args.session c.args.text c.in_ok-reply.reply c.self.invariant did

pub returns-clause-sound : goal.returns-clause-sound
returns-clause-sound g c =
    let pushed : c.push.new.self.items ≡ c.self.inside.history.items ++ entry c.args.session c.self.inside.phase c.args.text c.in_ok-reply.kept ∷ [] = search rules in
    let did = answered _ _ _ c.self.inside.database c.answer.new.database c.sweep.new.self c.self.inside.history.items c.push.new.self.items c.self.inside.phase c.args.session c.args.text c.args.text c.in_ok-reply.reply c.in_ok-reply.kept c.requires.from c.requires.to pushed refl (rw c.as_str.ensures.same at c.in_ok-reply.ensures.ok) (rw c.as_str.ensures.same at c.in_ok-reply.ensures.handles) c.answer.ensures.opened c.sweep.ensures.same in
    IsSound-Answers _ _ _ (shown_of c.self.inside.history.items c.self.inside.phase c.self.inside.database) (shown_of c.push.new.self.items c.self.inside.phase c.sweep.new.self) c.args.session c.args.text c.in_ok-reply.reply c.self.invariant did

pub returns-clause-sees : goal.returns-clause-sees
returns-clause-sees g c = rw (← c.self.view_is) (sees_then _ _ _ _ _ c.answer.ensures.sees c.sweep.ensures.sees (opens_swept c.answer.new.database c.sweep.new.self c.sweep.ensures.same))

pub returns-in_err-reserve-clause-sees : goal.returns-in_err-reserve-clause-sees
returns-in_err-reserve-clause-sees g c = rw (← c.self.view_is) (sees_itself _ _)
