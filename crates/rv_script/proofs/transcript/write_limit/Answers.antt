use Rattle.rv_io.proofs.Streams.{goes_then}
use Rattle.rv_script.proofs.transcript.write_limit.Goals as goal

pub returns : goal.returns
returns g c =
    let word = rw c.limit_word.ensures at c.write_two-front.ensures in
    goes_then word c.write_number.ensures
