use Rattle.std.proofs.Common.{◌≡◌, ◌∙◌, ℕ, IfOk, List, None, OnErr, ap, refl, subst, sym}
use Rattle.rv_value.specs.declared.record.Record.{Record}
use Rattle.rv_scan.specs.Places.{Fits as PlaceFits, PageTurns, work}
use Rattle.rv_final.specs.Rest.{StepMarks}
use Rattle.rv_final.specs.Shell.{Shelled}
use Rattle.rv_final.specs.Stage.{Staged, own_pages, own_rows, table_left}
use Rattle.rv_final.specs.Work.{Falls, Tries}
use Rattle.rv_final.proofs.Endings.{pages_same, rows_same}
use Rattle.rv_final.proofs.Givings.{put_if}
use Rattle.rv_final.proofs.Shells.{stage_of, with_stage}
use Rattle.rv_final.proofs.shell.Shell.scan_table.Goals as goal

pub returns-clause-same : goal.returns-clause-same
returns-clause-same g c =
    let s = c.table_step.new.self in
    subst (λ (x : Shelled). with_stage x s ≡ record c.args.self.now { last = s.last }) (sym c.self.view_is) (ap (with_stage c.args.self.now) (c.table_step.ensures.same ∙ ap (λ (x : Shelled). record (stage_of x) { last = s.last }) c.self.view_is))

pub returns-clause-err : goal.returns-clause-err
returns-clause-err g c =
    let s = c.table_step.new.self in
    let same = subst (λ (x : Staged). OnErr c.table_step.result (s ≡ x)) (ap stage_of c.self.view_is) c.table_step.ensures.err in
    subst (λ (x : Shelled). OnErr c.table_step.result (with_stage x s ≡ c.args.self.now)) (sym c.self.view_is) (put_if c.table_step.result (with_stage c.args.self.now) s (stage_of c.args.self.now) c.args.self.now refl same)

pub returns-clause-last : goal.returns-clause-last
returns-clause-last g c =
    let shown = g.R.Reader.shown c.args.reader.now in
    let v = c.args.self.now in
    let l = c.requires.last in
    let last = c.table_step.new.self.last in
    record {
      of_table = subst (λ (x : Shelled). last.table ≡ x.last.table) c.self.view_is c.table_step.ensures.table ∙ l.of_table;
      at_snap = subst (λ (x : Shelled). last.snap ≡ x.last.snap) c.self.view_is c.table_step.ensures.snap ∙ l.at_snap;
      drawn = subst (PlaceFits last) (rows_same c.args.table c.args.snap v.last shown l) (subst (λ (x : Shelled). PlaceFits last (own_rows x.last shown)) c.self.view_is c.table_step.ensures.drawn);
    }

pub returns-clause-marks : goal.returns-clause-marks
returns-clause-marks g c need =
    let shown = g.R.Reader.shown c.args.reader.now in
    let v = c.args.self.now in
    let only = c.args.only.now in
    let last = c.table_step.new.self.last in
    let own = subst (λ (x : Shelled). IfOk c.table_step.result (λ s. StepMarks need only (own_rows x.last shown) s (table_left x.last (own_rows x.last shown) None) (table_left last (own_rows x.last shown) None))) c.self.view_is (c.table_step.ensures.marks need) in
    subst (λ (rs : List Record). IfOk c.table_step.result (λ s. StepMarks need only rs s (table_left v.last rs None) (table_left last rs None))) (rows_same c.args.table c.args.snap v.last shown c.requires.last) own

pub returns-clause-tries : goal.returns-clause-tries
returns-clause-tries g c =
    let shown = g.R.Reader.shown c.args.reader.now in
    let v = c.args.self.now in
    let last = c.table_step.new.self.last in
    let rows = shown.rows c.args.table c.args.snap in
    let pages = shown.pages c.args.table c.args.snap in
    let before = c.args.steps.now in
    let after = c.table_step.new.steps in
    let own = subst (λ (x : Shelled). Tries before after (work x.last (own_rows x.last shown) (own_pages x.last shown)) (work last (own_rows x.last shown) (own_pages x.last shown))) c.self.view_is c.table_step.ensures.tries in
    let over = subst (λ (rs : List Record). Tries before after (work v.last rs (own_pages v.last shown)) (work last rs (own_pages v.last shown))) (rows_same c.args.table c.args.snap v.last shown c.requires.last) own in
    subst (λ (n : ℕ). Tries before after (work v.last rows n) (work last rows n)) (pages_same c.args.table c.args.snap v.last shown c.requires.last) over

pub returns-clause-falls : goal.returns-clause-falls
returns-clause-falls g c =
    let shown = g.R.Reader.shown c.args.reader.now in
    let v = c.args.self.now in
    let last = c.table_step.new.self.last in
    let rows = shown.rows c.args.table c.args.snap in
    let before = c.args.steps.now in
    let after = c.table_step.new.steps in
    let own = subst (λ (x : Shelled). IfOk c.table_step.result (λ s. Falls s before after (work x.last (own_rows x.last shown) (own_pages x.last shown)) (work last (own_rows x.last shown) (own_pages x.last shown)))) c.self.view_is c.table_step.ensures.falls in
    let over = subst (λ (rs : List Record). IfOk c.table_step.result (λ s. Falls s before after (work v.last rs (own_pages v.last shown)) (work last rs (own_pages v.last shown)))) (rows_same c.args.table c.args.snap v.last shown c.requires.last) own in
    subst (λ (n : ℕ). IfOk c.table_step.result (λ s. Falls s before after (work v.last rows n) (work last rows n))) (pages_same c.args.table c.args.snap v.last shown c.requires.last) over

pub returns-clause-turns : goal.returns-clause-turns
returns-clause-turns g c =
    let shown = g.R.Reader.shown c.args.reader.now in
    let v = c.args.self.now in
    let last = c.table_step.new.self.last in
    let own = subst (λ (x : Shelled). IfOk c.table_step.result (λ s. PageTurns s x.last last (own_pages x.last shown))) c.self.view_is c.table_step.ensures.turns in
    subst (λ (n : ℕ). IfOk c.table_step.result (λ s. PageTurns s v.last last n)) (pages_same c.args.table c.args.snap v.last shown c.requires.last) own
