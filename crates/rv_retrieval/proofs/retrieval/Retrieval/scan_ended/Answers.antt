use Rattle.std.proofs.Common.{◌≡◌, ◌∙◌, Bool, ap, is_some, subst, sym}
use Rattle.rv_judge.specs.declared.events.Happening.TheVariants.{ScanEnded}
use Rattle.rv_judge.specs.Course.{next_control}
use Rattle.rv_retrieval.specs.Shape.{MayGo, Shape}
use Rattle.rv_retrieval.proofs.Switching.{aside_keeps, goes_ended, keeps_trans, switch_keeps}
use Rattle.rv_retrieval.proofs.retrieval.Retrieval.scan_ended.Goals as goal

pub returns-else-more-clause-keeps : goal.returns-else-more-clause-keeps
returns-else-more-clause-keeps c =
    let v = c.args.self.now in
    let b = c.take_list.new.self in
    let more = c.is_under_way-more.result in
    let listed = c.is_listed-listed.result in
    let says : listed ≡ is_some b.joint.list = c.is_listed-listed.ensures ∙ sym (ap (λ (x : Shape). is_some x.joint.list) c.take_list.ensures) in
    let goes : MayGo b (next_control b.strategy b.control (ScanEnded more listed)) = subst (λ (l : Bool). MayGo b (next_control b.strategy b.control (ScanEnded more l))) (sym says) (goes_ended b more) in
    keeps_trans v b c.go.new.self (aside_keeps v b _ _ _ c.take_list.ensures) (switch_keeps b c.go.new.self (next_control b.strategy b.control (ScanEnded more listed)) c.go.ensures.same goes)
