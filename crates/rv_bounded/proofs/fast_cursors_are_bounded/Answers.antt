use Rattle.rv_bounded.proofs.CursorLaws.{fast_cursors_bounded}
use Rattle.rv_bounded.proofs.fast_cursors_are_bounded.Goals as goal

pub returns : goal.returns
returns c = fast_cursors_bounded
