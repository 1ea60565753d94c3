use Rattle.std.proofs.Common.{ap, sym, ◌∙◌}
use Rattle.std.specs.Option.{option_copied}
use Rattle.rv_audit.proofs.Marking.{passed_all, passed_line, passed_mark, passed_none}
use Rattle.rv_audit.proofs.marks.part.Goals as goal

pub lines-init : goal.lines-init
lines-init c = passed_none c.args.input.now

pub lines-preserved : goal.lines-preserved
lines-preserved c = passed_line c.args.input.now c.lines.left.now c.cut_at.result.0.now c.in-Some.behind.now c.lines.passed c.lines.invariant c.cut_at.ensures.word (sym (ap option_copied c.in-Some.is) ∙ c.cut_at.ensures.more) (sym c.is_mark.ensures ∙ c.if-is_mark.false)

pub returns-then-is_mark : goal.returns-then-is_mark
returns-then-is_mark c = passed_mark c.args.input.now c.lines.left.now c.cut_at.result.0.now c.in-Some.behind.now c.lines.passed c.lines.invariant c.cut_at.ensures.word (sym (ap option_copied c.in-Some.is) ∙ c.cut_at.ensures.more) (sym c.is_mark.ensures ∙ c.if-is_mark.true)

pub returns-in-None : goal.returns-in-None
returns-in-None c = passed_all c.args.input.now c.lines.left.now c.cut_at.result.0.now c.lines.passed c.lines.invariant c.cut_at.ensures.word (sym (ap option_copied c.in-None.is) ∙ c.cut_at.ensures.more) (sym c.is_last_mark.ensures ∙ c.if-is_last_mark.false)
