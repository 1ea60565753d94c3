use Rattle.std.proofs.Common.{arith, ◌≡◌, ◌++◌, ◌∷◌, [], append-nil}
use Rattle.std.proofs.lemmas.List.{take_more}
use Rattle.std.proofs.lemmas.Grind.{flat_map-append}
use Rattle.rv_io.proofs.Streams.{goes_then}
use Rattle.rv_script.proofs.transcript.write_text.Goals as goal

pub entries-preserved : goal.entries-preserved
entries-preserved g c =
    let one = take_more c.args.entries.now c.entries.entry-index c.entry-item.result (omega arith) in
    rw (one, ← c.entry-item.is, flat_map-append) (simp append-nil (goes_then c.entries.invariant c.write_entry-sofar.ensures))
