use Rattle.std.proofs.Common.{rules, ◌∙◌}
use Rattle.rv_shared.proofs.Onward.{all_turns, more_turns, no_turns, one_turn, working_is}
use Rattle.rv_shared.proofs.shared.Shared.turns.Goals as goal

pub returns-clause-ok : goal.returns-clause-ok
returns-clause-ok g c = all_turns c.args.pass.now.number c.step.new.pass.number _ _ c.args.pass.now.seen c.step.new.pass.seen c.fetch.new.pass.seen c.fetch.result c.step.ensures.own.1 (working_is _ _ _ _ _ _ c.in-Ok-None.field-0-is c.in-Ok-None.ensures.ok).1 c.fetch.ensures.ok

pub returns-clause-err : goal.returns-clause-err
returns-clause-err g c = no_turns c.args.pass.now.number c.step.new.pass.number c.args.pass.now.seen c.step.new.pass.seen c.fetch.new.pass.seen c.fetch.result c.step.ensures.own.1 (working_is _ _ _ _ _ _ c.in-Ok-None.field-0-is c.in-Ok-None.ensures.ok).1 c.fetch.ensures.err

pub returns-in-Ok-Some-clause-turns : goal.returns-in-Ok-Some-clause-turns
returns-in-Ok-Some-clause-turns g c = one_turn c.args.text.now c.args.pass.now c.step.new.pass c.step.ensures.left

pub returns-in-Err-clause-turns : goal.returns-in-Err-clause-turns
returns-in-Err-clause-turns g c = one_turn c.args.text.now c.args.pass.now c.step.new.pass c.step.ensures.left

pub returns-clause-turns : goal.returns-clause-turns
returns-clause-turns g c = more_turns c.args.text.now c.args.pass.now c.step.new.pass c.fetch.new.pass c.step.ensures.left c.fetch.ensures.granted c.fetch.ensures.most (working_is _ _ _ _ _ _ c.in-Ok-None.field-0-is c.in-Ok-None.ensures.ok).0
