use Rattle.rv_union.proofs.Efforts.{gives_less, gives_work}
use Rattle.rv_union.proofs.Gives.{gives_keep, gives_kin}
use Rattle.rv_final.proofs.Givings.{right_of}
use Rattle.rv_union.proofs.Tellings.{gives_tell}
use Rattle.rv_union.proofs.Leaves.{gives_leaves}
use Rattle.rv_union.proofs.uniting.Union.give.Goals as goal

pub returns-clause-same : goal.returns-clause-same
returns-clause-same g c = (gives_kin c.give_piece.result (right_of c.give_piece.ensures.stays) _ _ c.args.sieved c.args.self.now c.give_piece.new.self c.give_piece.ensures.obeys c.give_piece.ensures.err).same

pub returns-clause-counts : goal.returns-clause-counts
returns-clause-counts g c = (gives_kin c.give_piece.result (right_of c.give_piece.ensures.stays) _ _ c.args.sieved c.args.self.now c.give_piece.new.self c.give_piece.ensures.obeys c.give_piece.ensures.err).counts

pub returns-clause-keeps : goal.returns-clause-keeps
returns-clause-keeps g c = gives_keep c.give_piece.result (right_of c.give_piece.ensures.stays) _ _ c.args.sieved c.args.self.now c.give_piece.new.self c.give_piece.ensures.given c.give_piece.ensures.obeys c.give_piece.ensures.err

pub returns-clause-tells : goal.returns-clause-tells
returns-clause-tells g c t = gives_tell c.give_piece.result (right_of c.give_piece.ensures.stays) _ _ c.args.sieved c.args.self.now c.give_piece.new.self c.give_piece.ensures.given c.give_piece.ensures.obeys c.give_piece.ensures.err t

pub returns-clause-less : goal.returns-clause-less
returns-clause-less g c shown f = gives_less c.give_piece.result (right_of c.give_piece.ensures.stays) _ _ c.args.sieved c.args.self.now c.give_piece.new.self shown c.give_piece.ensures.given c.give_piece.ensures.obeys c.give_piece.ensures.err f

pub returns-clause-spends : goal.returns-clause-spends
returns-clause-spends g c shown f = gives_work c.give_piece.result (right_of c.give_piece.ensures.stays) _ _ c.args.sieved c.args.self.now c.give_piece.new.self shown c.give_piece.ensures.given c.give_piece.ensures.obeys f

pub returns-clause-nearer : goal.returns-clause-nearer
returns-clause-nearer g c shown = gives_leaves c.give_piece.result (right_of c.give_piece.ensures.stays) _ _ c.args.sieved c.args.self.now c.give_piece.new.self shown c.give_piece.ensures.given c.give_piece.ensures.obeys c.give_piece.ensures.err
