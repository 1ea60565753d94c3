use Rattle.rv_bounded.proofs.CursorLaws.{cursors_bounded, opens_begin}
use Rattle.rv_bounded.proofs.cursors_are_bounded.Goals as goal

pub returns-clause-opens : goal.returns-clause-opens
returns-clause-opens c = opens_begin

pub returns-clause-moved : goal.returns-clause-moved
returns-clause-moved c = cursors_bounded
