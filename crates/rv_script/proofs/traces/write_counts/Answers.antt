use Rattle.rv_io.proofs.Streams.{goes_then}
use Rattle.std.proofs.Common.{append_assoc, append-nil}
use Rattle.rv_script.proofs.traces.write_counts.Goals as goal

pub returns : goal.returns
returns g c =
    let all = goes_then (goes_then c.write_named_count-pages.ensures c.write_named_count-leaves.ensures) c.write_named_count.ensures in
    simp (append_assoc, append-nil) (simp (append_assoc, append-nil) at all)
