use Rattle.std.proofs.Common.{◌≡◌, ◌∙◌, Bool, ap, is_some, subst, sym}
use Rattle.rv_judge.specs.declared.events.Happening.TheVariants.{Ruled}
use Rattle.rv_judge.specs.declared.judging.Verdict.TheVariants.{AbandonForeground}
use Rattle.rv_judge.specs.Course.{next_control}
use Rattle.rv_retrieval.specs.Shape.{MayGo, Shape}
use Rattle.rv_retrieval.proofs.Switching.{goes_ruled, keeps_trans, switch_keeps, trace_keeps}
use Rattle.rv_retrieval.proofs.retrieval.Retrieval.stop_front.Goals as goal

pub returns-then-can_stop-clause-keeps : goal.returns-then-can_stop-clause-keeps
returns-then-can_stop-clause-keeps c =
    let v = c.args.self.now in
    let n = c.note.new.self in
    let listed = c.is_listed-listed.result in
    let says : listed ≡ is_some n.joint.list = c.is_listed-listed.ensures ∙ sym (ap (λ (x : Shape). is_some x.joint.list) c.note.ensures) in
    let goes : MayGo n (next_control n.strategy n.control (Ruled AbandonForeground c.args.more listed)) = subst (λ (l : Bool). MayGo n (next_control n.strategy n.control (Ruled AbandonForeground c.args.more l))) (sym says) (goes_ruled n AbandonForeground c.args.more) in
    keeps_trans v n c.go.new.self (trace_keeps v n _ c.note.ensures) (switch_keeps n c.go.new.self (next_control n.strategy n.control (Ruled AbandonForeground c.args.more listed)) c.go.ensures.same goes)
