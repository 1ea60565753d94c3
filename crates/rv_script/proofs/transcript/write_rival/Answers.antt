use Rattle.rv_io.proofs.Streams.{goes_none}
use Rattle.rv_script.proofs.transcript.write_rival.Goals as goal

pub returns-in-View : goal.returns-in-View
returns-in-View g c = rw c.in-View.is (goes_none _ _ _)

pub returns-in-Commit : goal.returns-in-Commit
returns-in-Commit g c = rw c.in-Commit.is c.write_number.ensures
