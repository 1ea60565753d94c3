use Rattle.std.proofs.Common.{◌≡◌, arith, true}
use Rattle.std.proofs.lemmas.Bool.Decides.{nat_tests}
use Rattle.rv_retrieval.specs.Shape.{is_background}
use Rattle.rv_retrieval.proofs.Switching.{gives_plans, joint_keeps, keeps_trans}
use Rattle.rv_retrieval.proofs.retrieval.Retrieval.give_piece.Goals as goal

pub returns-then-eq-clause-keeps : goal.returns-then-eq-clause-keeps
returns-then-eq-clause-keeps g c =
    let v = c.args.self.now in
    let mid = c.give_joint.new.self in
    let back : is_background v.control ≡ true = grind (arith, nat_tests, c.is_background.ensures, c.if-not-is_background.false) in
    keeps_trans v mid c.accepted.new.self (joint_keeps v mid mid.joint c.give_joint.ensures.same back (gives_plans v.joint mid.joint _ c.in_ok-given.given c.in_ok-given.ensures.given) c.give_joint.ensures.fits) c.accepted.ensures.keeps
