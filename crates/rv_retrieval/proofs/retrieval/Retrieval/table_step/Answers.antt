use Rattle.std.proofs.Common.{◌≡◌, ap, inr, ◌∙◌}
use Rattle.rv_judge.specs.declared.events.Control.TheVariants.{FinalTable}
use Rattle.rv_reader.specs.declared.step.Step.TheVariants.{Row, Working, End}
use Rattle.rv_retrieval.specs.Shape.{Shape}
use Rattle.rv_retrieval.proofs.Controls.{ended, final_ends, table_scanned}
use Rattle.rv_retrieval.proofs.retrieval.Retrieval.table_step.Goals as goal

pub returns-in-End-clause-step : goal.returns-in-End-clause-step
returns-in-End-clause-step g c =
    let shown = g.R.Reader.shown c.args.reader.now in
    let v = c.args.self.now in
    let mid = c.scan_last.new.self in
    let control : mid.control ≡ FinalTable = ap (λ (x : Shape). x.control) c.scan_last.ensures.same ∙ c.requires.control in
    let none = table_scanned v mid shown End c.requires.control c.scan_last.ensures.same c.requires.fits (rw c.in-End.is at c.in_ok-found.ensures.marks) in
    ended v mid c.go.new.self shown none.0 (final_ends mid c.go.new.self (inr control) c.go.ensures.same)

pub returns-in-Row-clause-step : goal.returns-in-Row-clause-step
returns-in-Row-clause-step g c = table_scanned c.args.self.now c.scan_last.new.self (g.R.Reader.shown c.args.reader.now) (Row c.in-Row.found) c.requires.control c.scan_last.ensures.same c.requires.fits (rw c.in-Row.is at c.in_ok-found.ensures.marks)

pub returns-in-Working-clause-step : goal.returns-in-Working-clause-step
returns-in-Working-clause-step g c = table_scanned c.args.self.now c.scan_last.new.self (g.R.Reader.shown c.args.reader.now) Working c.requires.control c.scan_last.ensures.same c.requires.fits (rw c.in-Working.is at c.in_ok-found.ensures.marks)
