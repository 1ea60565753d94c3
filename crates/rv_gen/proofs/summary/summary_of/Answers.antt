use Rattle.std.proofs.Common.{◌≡◌, ◌<◌, ◌^◌, arith, length, take}
use Rattle.std.proofs.lemmas.List.{length-take-le}
use Rattle.rv_gen.proofs.Counts.{small}
use Rattle.rv_gen.proofs.summary.summary_of.Goals as goal

pub with_reply-summary-requires : goal.with_reply-summary-requires
with_reply-summary-requires c =
    let read : length (take c.entries.entry-index c.args.entries.now) ≡ c.entries.entry-index = length-take-le c.entries.entry-index c.args.entries.now (omega arith) in
    let fewer : length (take c.entries.entry-index c.args.entries.now) < 2 ^ 63 = omega (arith, read) in
    rw c.entries.invariant (small (take c.entries.entry-index c.args.entries.now) fewer)
