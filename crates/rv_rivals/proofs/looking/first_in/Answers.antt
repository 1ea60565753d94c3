use Rattle.std.proofs.Common.{sym, ap, ◌∙◌}
use Rattle.rv_value.specs.declared.record.IndexEntry.{IndexEntry}
use Rattle.rv_rivals.specs.Points.{first_row}
use Rattle.rv_rivals.proofs.Finding.{found, next_leaf}
use Rattle.rv_rivals.proofs.looking.first_in.Goals as goal

pub returns-in-Some : goal.returns-in-Some
returns-in-Some g c =
    found (λ (e : IndexEntry). g.T.RowTest.keeps c.args.test.now e.row.0) c.in_ok-entries.field-0.entries _ _ _ c.in-Some.row
    (sym c.in-Some.is ∙ c.first_of.ensures ∙ ap (first_row (g.T.RowTest.keeps c.args.test.now)) c.as_slice.ensures)
    (rw c.as_ref.ensures.value at c.in_ok-entries.ensures.chunk.parts) c.leaves.invariant

pub leaves-preserved : goal.leaves-preserved
leaves-preserved g c =
    next_leaf (λ (e : IndexEntry). g.T.RowTest.keeps c.args.test.now e.row.0) _ c.in_ok-entries.field-0.entries _ _ c.args.range.now c.in_ok-entries.field-0.next c.in-Some-next.cut c.in-Some-next.is
    (sym c.in-None.is ∙ c.first_of.ensures ∙ ap (first_row (g.T.RowTest.keeps c.args.test.now)) c.as_slice.ensures)
    (rw c.as_ref.ensures.value at c.in_ok-entries.ensures.chunk.parts) c.leaves.invariant
