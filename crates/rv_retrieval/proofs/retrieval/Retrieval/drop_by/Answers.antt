use Rattle.std.proofs.Common.{◌≡◌, ◌∙◌, Bool, ap, is_some, refl, subst, sym}
use Rattle.rv_judge.specs.declared.events.Happening.TheVariants.{Ruled}
use Rattle.rv_judge.specs.Course.{next_control}
use Rattle.rv_jscan.specs.Steps.{abandoned}
use Rattle.rv_retrieval.specs.Shape.{MayGo, Shape}
use Rattle.rv_retrieval.proofs.Switching.{borrow_keeps, goes_ruled, joint_keeps, keeps_trans, switch_keeps, trace_keeps}
use Rattle.rv_jscan.proofs.Fits.{abandoned_fits}
use Rattle.rv_retrieval.proofs.retrieval.Retrieval.drop_by.Goals as goal

pub returns-else-next-clause-keeps : goal.returns-else-next-clause-keeps
returns-else-next-clause-keeps c =
    let v = c.args.self.now in
    let d = c.drop_scan.new.self in
    let b = c.borrow_next.new.self in
    let n = c.note_drop.new.self in
    let verdict = c.args.verdict in
    let more = c.args.more in
    let listed = c.is_listed-listed.result in
    let says : listed ≡ is_some n.joint.list = c.is_listed-listed.ensures ∙ sym (ap (λ (x : Shape). is_some x.joint.list) c.note_drop.ensures ∙ ap (λ (x : Shape). is_some x.joint.list) c.borrow_next.ensures ∙ ap (λ (x : Shape). is_some x.joint.list) c.drop_scan.ensures.same) in
    let goes : MayGo n (next_control n.strategy n.control (Ruled verdict more listed)) = subst (λ (l : Bool). MayGo n (next_control n.strategy n.control (Ruled verdict more l))) (sym says) (goes_ruled n verdict more) in
    let dropped = joint_keeps v d (abandoned v.joint) c.drop_scan.ensures.same c.requires.back (record { plans = refl; snap = refl }) (λ shown f. abandoned_fits v.joint shown c.requires.way f) in
    let lent = borrow_keeps d b _ c.borrow_next.ensures in
    let told = trace_keeps b n _ c.note_drop.ensures in
    let switched = switch_keeps n c.go.new.self (next_control n.strategy n.control (Ruled verdict more listed)) c.go.ensures.same goes in
    keeps_trans v d c.go.new.self dropped (keeps_trans d b c.go.new.self lent (keeps_trans b n c.go.new.self told switched))
