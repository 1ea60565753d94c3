use Rattle.rv_io.proofs.Streams.{goes_then}
use Rattle.std.proofs.Common.{append_assoc}
use Rattle.rv_script.proofs.transcript.write_by.Goals as goal

pub returns : goal.returns
returns g c =
    let all = goes_then c.write_number-front.ensures c.write_number.ensures in
    simp (append_assoc) (simp (append_assoc) at all)
