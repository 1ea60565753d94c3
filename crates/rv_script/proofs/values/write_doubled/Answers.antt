use Rattle.std.proofs.Common.{sym, ◌∙◌}
use Rattle.std.proofs.lemmas.List.{take_rest}
use Rattle.rv_script.proofs.Doubling.{cut_at, cut_nowhere, told_all, told_more}
use Rattle.rv_script.proofs.values.write_doubled.Goals as goal

pub runs-preserved : goal.runs-preserved
runs-preserved g c =
    let cut = cut_at c.runs.rest.now c.in-Some.place c.in-Some.ensures in
    let run = rw c.split_at.ensures.front at c.write_next-before.ensures in
    rw (take_rest c.split_at.result.1.now 1, c.split_at.ensures.back) (told_more cut c.runs.invariant run c.write_next-written.ensures)

pub returns : goal.returns
returns g c =
    let none = cut_nowhere c.runs.rest.now (sym c.in_default.is ∙ c.first_quote.ensures) in
    told_all none c.runs.invariant c.write_next.ensures
