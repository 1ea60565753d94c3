use Rattle.rv_keylist.proofs.Bits.{Marks-from_empty}
use Rattle.rv_keylist.proofs.narrowing.remark.Goals as goal

pub returns-in-Some-clause-marks : goal.returns-in-Some-clause-marks
returns-in-Some-clause-marks c = Marks-from_empty _ _ _ c.clear.ensures c.fill.ensures
