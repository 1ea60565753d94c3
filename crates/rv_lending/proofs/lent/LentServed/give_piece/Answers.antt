use Rattle.rv_lending.proofs.lent.LentServed.give_piece.Goals as goal

pub returns-clause-given : goal.returns-clause-given
returns-clause-given g c = let e = c.give_piece.ensures in record {
  gives = record { given = e.given; err = e.err; same = e.same };
  rules = record { would = e.rules; settings = e.settings };
}
