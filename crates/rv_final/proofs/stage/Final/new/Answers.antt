use Rattle.std.proofs.Common.{[], refl}
use Rattle.rv_final.proofs.Tables.{no_skip, unseen_all}
use Rattle.rv_final.proofs.stage.Final.new.Goals as goal

pub returns-clause-unbegun : goal.returns-clause-unbegun
returns-clause-unbegun c = record { keys = refl; pages = λ rows. unseen_all c.new-last.result rows (c.new-last.ensures.rest rows [] no_skip) }
