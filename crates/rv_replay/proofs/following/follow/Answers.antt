use Rattle.std.proofs.Common.{◌≡◌, ◌<◌, ◌+◌, ◌^◌, arith, length, refl, take}
use Rattle.std.proofs.lemmas.List.{length-take-le}
use Rattle.rv_model.proofs.Bounds.{HasRoom-after}
use Rattle.rv_replay.proofs.Ends.{breaks, follows}
use Rattle.rv_replay.proofs.Follows.{is_next, not_next}
use Rattle.rv_replay.proofs.Named.{apart_after}
use Rattle.rv_replay.proofs.following.follow.Goals as goal

pub judge_entry-requires-clause-room : goal.judge_entry-requires-clause-room
judge_entry-requires-clause-room c =
    let read : length (take c.entries.entry-index c.args.entries.now) ≡ c.entries.entry-index = length-take-le c.entries.entry-index c.args.entries.now (omega arith) in
    let fewer : length (take c.entries.entry-index c.args.entries.now) < 2 ^ 63 = omega (arith, read) in
    rw c.entries.invariant.state (HasRoom-after (take c.entries.entry-index c.args.entries.now) fewer)

pub judge_entry-requires-clause-apart : goal.judge_entry-requires-clause-apart
judge_entry-requires-clause-apart c = rw c.entries.invariant.state (apart_after (take c.entries.entry-index c.args.entries.now))

pub returns-then-not-follows : goal.returns-then-not-follows
returns-then-not-follows c =
    let wrong = not_next c.in_ok-follows.follows c.entries.plain c.judge_entry.new.plain c.entries.phase c.entry-item.result c.if-not-follows.true c.in_ok-follows.ensures in
    breaks c.args.entries.now c.entries.entry-index c.entries.plain c.entries.phase c.entries.number c.entry-item.result (omega arith) c.entry-item.is c.entries.invariant (c.entries.number + 1) wrong refl

pub entries-preserved : goal.entries-preserved
entries-preserved c =
    let made = is_next c.in_ok-follows.follows c.entries.plain c.judge_entry.new.plain c.entries.phase c.entry-item.result c.if-not-follows.false c.in_ok-follows.ensures in
    follows c.args.entries.now c.entries.entry-index c.entries.plain c.entries.phase c.entries.number c.entry-item.result (omega arith) c.entry-item.is c.entries.invariant c.judge_entry.new.plain (c.entries.number + 1) made.0 made.1 refl
