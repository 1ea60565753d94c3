use Rattle.std.proofs.Common.{IfOk, subst}
use Rattle.std.specs.Option.{option_copied}
use Rattle.rv_scan.specs.Due.{StepsTo}
use Rattle.rv_scan.specs.Places.{Fits as PlaceFits, PageTurns, rest, work}
use Rattle.rv_final.specs.Stage.{Staged, own_pages, own_rows}
use Rattle.rv_final.proofs.Tables.{passing, table_marks_if}
use Rattle.rv_final.proofs.stage.Final.table_step.Goals as goal

pub returns-clause-marks : goal.returns-clause-marks
returns-clause-marks g c need =
    let shown = g.R.Reader.shown c.args.reader.now in
    let v = c.args.self.now in
    let last = c.step.new.self in
    let delivered = option_copied c.args.delivered in
    let step = subst (λ (x : Staged). IfOk c.step.result (λ s. StepsTo s (rest x.last (own_rows x.last shown) c.args.only.now (passing delivered)) (work x.last (own_rows x.last shown) (own_pages x.last shown)) (rest last (own_rows x.last shown) c.args.only.now (passing delivered)) (work last (own_rows x.last shown) (own_pages x.last shown)))) c.self.view_is c.step.ensures.step in
    let drawn = subst (λ (x : Staged). PlaceFits last (own_rows x.last shown)) c.self.view_is c.step.ensures.fits in
    table_marks_if c.step.result need c.args.only.now (own_rows v.last shown) delivered v.last last (work v.last (own_rows v.last shown) (own_pages v.last shown)) (work last (own_rows v.last shown) (own_pages v.last shown)) c.requires.ascend c.requires.drawn drawn step

pub returns-clause-turns : goal.returns-clause-turns
returns-clause-turns g c =
    let shown = g.R.Reader.shown c.args.reader.now in
    subst (λ (x : Staged). IfOk c.step.result (λ s. PageTurns s x.last c.step.new.self (own_pages x.last shown))) c.self.view_is c.step.ensures.pages
