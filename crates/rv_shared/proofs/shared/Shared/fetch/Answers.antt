use Rattle.std.proofs.Common.{rules, arith, ◌∙◌, ◌≡◌, ◌+◌, ◌≤◌}
use Rattle.rv_shared.proofs.Onward.{all_turns, answered_is, goes_after, no_turns, replied_after, unanswered_after, working_is}
use Rattle.rv_shared.proofs.shared.Shared.fetch.Goals as goal

pub returns-in-Ok-Some-clause-ok : goal.returns-in-Ok-Some-clause-ok
returns-in-Ok-Some-clause-ok g c =
    let i = c.turns.invariant in
    replied_after c.args.pass.now.number c.turns.pass.number _ _ _ c.args.pass.now.seen c.turns.pass.seen c.step.new.pass.seen i.number i.seen (answered_is _ _ _ _ _ _ _ c.in-Ok-Some.field-0-is c.in-Ok-Some.ensures.ok)

pub returns-in-Err-clause-err : goal.returns-in-Err-clause-err
returns-in-Err-clause-err g c =
    let i = c.turns.invariant in
    unanswered_after c.args.pass.now.number c.turns.pass.number c.args.pass.now.seen c.turns.pass.seen c.step.new.pass.seen i.number i.seen c.in-Err.ensures.err

pub turns-preserved : goal.turns-preserved
turns-preserved g c =
    let i = c.turns.invariant in
    let e = c.step.ensures in
    record {
      own = e.own.0;
      number = e.own.1 ∙ i.number;
      granted = let taken = e.left.0 in let left = e.left.1 in let b = i.granted in omega arith;
      turns = let taken = e.left.0 in let b = i.turns in omega arith;
      seen = goes_after c.args.pass.now.number c.turns.pass.number c.args.pass.now.seen c.turns.pass.seen c.step.new.pass.seen i.number i.seen (working_is _ _ _ _ _ _ c.in-Ok-None.field-0-is c.in-Ok-None.ensures.ok).1;
    }

pub returns-clause-ok : goal.returns-clause-ok
returns-clause-ok g c =
    let i = c.turns.invariant in
    all_turns c.args.pass.now.number c.turns.pass.number _ _ c.args.pass.now.seen c.turns.pass.seen c.whole.new.pass.seen c.whole.result i.number i.seen c.whole.ensures.ok

pub returns-clause-err : goal.returns-clause-err
returns-clause-err g c =
    let i = c.turns.invariant in
    no_turns c.args.pass.now.number c.turns.pass.number c.args.pass.now.seen c.turns.pass.seen c.whole.new.pass.seen c.whole.result i.number i.seen c.whole.ensures.err
