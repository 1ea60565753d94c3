use Rattle.std.proofs.Common.{◌∙◌, ap, drop, subst, sym, take}
use Rattle.rv_reader.specs.Entries.{AreLong, Ascend, run}
use Rattle.rv_reader.proofs.Sorting.{entries_ascend}
use Rattle.rv_rivals.specs.Points.{point}
use Rattle.rv_overlay.proofs.Runs.{in_range}
use Rattle.rv_rivals.proofs.Finding.{entries_long, other_is}
use Rattle.rv_rivals.proofs.statement.other_with.Goals as goal

pub span_of-span-requires-clause-ascend : goal.span_of-span-requires-clause-ascend
span_of-span-requires-clause-ascend c = subst Ascend (sym c.requires.are.are) (entries_ascend c.requires.are.columns c.requires.are.rows c.requires.are.ascend)

pub span_of-span-requires-clause-long : goal.span_of-span-requires-clause-long
span_of-span-requires-clause-long c =
    subst (λ r. AreLong r c.args.entries.now) (sym c.requires.range)
    (subst (AreLong (point c.args.sought.now.key)) (sym c.requires.are.are) (entries_long c.requires.are.columns c.requires.are.rows c.args.sought.now.key c.requires.are.long))

pub returns : goal.returns
returns c columns rows ascend are long =
    c.first_of.ensures
    ∙ other_is columns c.args.sought.now.key c.args.row.0 c.span_of-span.result.count rows c.in_ok-run.run'.items _ _ c.args.entries.now ascend long are
    (c.span_of-span.ensures.span ∙ in_range c.args.sought.now.range c.args.entries.now ∙ ap (λ r. run c.args.entries.now r) c.requires.range) (c.in_ok-run.ensures ∙ ap (λ n. take n (drop c.span_of-span.result.at c.args.entries.now)) c.min.ensures) c.as_slice.ensures.value
