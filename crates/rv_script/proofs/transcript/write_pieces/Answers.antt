use Rattle.std.proofs.Common.{append_assoc}
use Rattle.rv_io.proofs.Streams.{goes_then}
use Rattle.rv_script.proofs.transcript.write_pieces.Goals as goal

pub returns : goal.returns
returns g c =
    let asked = rw (c.as_bytes-2.ensures.value, c.as_str.ensures.same) at c.write_next-asked.ensures in
    let session = rw (c.as_bytes.ensures.value, c.format.ensures.text) at c.write_next-session.ensures in
    simp append_assoc (goes_then session (goes_then c.write_next-space.ensures (goes_then asked (goes_then c.write_next-sign.ensures (goes_then c.write_reply-reply.ensures c.write_next.ensures)))))
