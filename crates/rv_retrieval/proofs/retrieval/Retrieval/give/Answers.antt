use Rattle.rv_retrieval.proofs.Tellings.{given_tells}
use Rattle.rv_retrieval.proofs.Efforts.{give_awaits, give_if, give_less}
use Rattle.rv_retrieval.proofs.retrieval.Retrieval.give.Goals as goal

pub returns-clause-tells : goal.returns-clause-tells
returns-clause-tells g c t = given_tells c.give_piece.result _ _ _ _ c.args.self.now c.give_piece.new.self c.give_piece.ensures.given c.give_piece.ensures.obeys c.give_piece.ensures.err t

pub returns-clause-less : goal.returns-clause-less
returns-clause-less g c shown f = give_less c.give_piece.result _ _ _ c.args.sieved c.args.self.now c.give_piece.new.self shown c.give_piece.ensures.given c.give_piece.ensures.obeys c.give_piece.ensures.err f

pub returns-clause-spends : goal.returns-clause-spends
returns-clause-spends g c shown f = give_if c.give_piece.result _ _ _ c.args.sieved c.args.self.now c.give_piece.new.self shown c.give_piece.ensures.given c.give_piece.ensures.obeys f

pub returns-clause-awaiting : goal.returns-clause-awaiting
returns-clause-awaiting g c a = give_awaits c.give_piece.result _ _ _ c.args.sieved c.args.self.now c.give_piece.new.self c.give_piece.ensures.given c.give_piece.ensures.obeys c.give_piece.ensures.err a
