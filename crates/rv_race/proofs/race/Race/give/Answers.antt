use Rattle.rv_race.proofs.Efforts.{gives_less, gives_work}
use Rattle.rv_race.proofs.Gives.{gives_keep, gives_kin, gives_turns}
use Rattle.rv_final.proofs.Givings.{right_of}
use Rattle.rv_race.proofs.Tellings.{gives_tell}
use Rattle.rv_race.proofs.race.Race.give.Goals as goal

pub returns-clause-turns : goal.returns-clause-turns
returns-clause-turns g c = gives_turns c.give_piece.result (right_of c.give_piece.ensures.stays) _ _ c.args.sieved c.args.self.now c.give_piece.new.self c.give_piece.ensures.given c.give_piece.ensures.obeys

pub returns-clause-same : goal.returns-clause-same
returns-clause-same g c = (gives_kin c.give_piece.result (right_of c.give_piece.ensures.stays) _ _ c.args.sieved c.args.self.now c.give_piece.new.self c.give_piece.ensures.obeys c.give_piece.ensures.err).same

pub returns-clause-counts : goal.returns-clause-counts
returns-clause-counts g c = (gives_kin c.give_piece.result (right_of c.give_piece.ensures.stays) _ _ c.args.sieved c.args.self.now c.give_piece.new.self c.give_piece.ensures.obeys c.give_piece.ensures.err).counts

pub returns-clause-keeps : goal.returns-clause-keeps
returns-clause-keeps g c = gives_keep c.give_piece.result (right_of c.give_piece.ensures.stays) _ _ c.args.sieved c.args.self.now c.give_piece.new.self c.give_piece.ensures.given c.give_piece.ensures.obeys c.give_piece.ensures.err

pub returns-clause-tells : goal.returns-clause-tells
returns-clause-tells g c t = gives_tell c.give_piece.result (right_of c.give_piece.ensures.stays) _ _ c.args.sieved c.args.self.now c.give_piece.new.self c.give_piece.ensures.given c.give_piece.ensures.obeys c.give_piece.ensures.err t

pub returns-clause-less : goal.returns-clause-less
returns-clause-less g c shown f = gives_less c.give_piece.result (right_of c.give_piece.ensures.stays) _ _ c.args.sieved c.args.self.now c.give_piece.new.self shown c.give_piece.ensures.given c.give_piece.ensures.obeys c.give_piece.ensures.err f

pub returns-clause-spends : goal.returns-clause-spends
returns-clause-spends g c shown f = gives_work c.give_piece.result (right_of c.give_piece.ensures.stays) _ _ c.args.sieved c.args.self.now c.give_piece.new.self shown c.give_piece.ensures.given c.give_piece.ensures.obeys f
