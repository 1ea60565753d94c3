use Rattle.std.proofs.Common.{◌≡◌, ◌∙◌, ap, arith, true}
use Rattle.std.proofs.lemmas.Bool.Decides.{nat_tests}
use Rattle.rv_retrieval.specs.Shape.{Shape, is_background, rest}
use Rattle.rv_retrieval.proofs.Switching.{joint_rest}
use Rattle.rv_retrieval.proofs.retrieval.Retrieval.take_piece.Goals as goal

pub returns-clause-rest : goal.returns-clause-rest
returns-clause-rest g c =
    let shown = g.R.Reader.shown c.args.reader.now in
    let v = c.args.self.now in
    let back : is_background v.control ≡ true = grind (arith, nat_tests, c.is_background.ensures, c.if-not-is_background.false) in
    ap (λ (x : Shape). rest x shown) c.take_joint.ensures.same ∙ joint_rest v c.take_joint.new.self.joint shown back
