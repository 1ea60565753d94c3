use Rattle.std.proofs.Common.{ap}
use Rattle.rv_lending.proofs.Shows.{takes_piece}
use Rattle.rv_lending.proofs.lent.LentServed.take_piece.Goals as goal

pub returns-clause-taken : goal.returns-clause-taken
returns-clause-taken g c = let e = c.take_piece.ensures in record {
  takes = takes_piece _ _ _ _ _ _ c.take_piece.new.steps c.new-steps.ensures e.taken e.tried e.same;
  stands = ap (λ j. (goal.Judge-dyn g (j.vtable, j.value)).state j.value) e.judge;
  rules = record { would = ap (λ j. (goal.Judge-dyn g (j.vtable, j.value)).would j.value) e.judge; settings = e.settings };
}
