use Rattle.std.proofs.Common.{◌≡◌, ◌∙◌, ℕ, List, IfOk, OnErr, Option, Some, ap, refl, subst, sym}
use Rattle.rv_value.specs.declared.record.Record.{Record}
use Rattle.rv_scan.specs.Places.{Fits as PlaceFits, PageTurns, work}
use Rattle.rv_final.specs.Rest.{StepMarks}
use Rattle.rv_final.specs.Stage.{Staged, own_pages, own_rows, table_left}
use Rattle.rv_final.specs.Work.{Falls, Tries}
use Rattle.rv_final.proofs.Endings.{pages_same, rows_same}
use Rattle.rv_final.proofs.Givings.{put_if}
use Rattle.rv_retrieval.specs.Effort.{table_work}
use Rattle.rv_retrieval.specs.Shape.{Pages, Shape, left_at, rows_of}
use Rattle.rv_retrieval.proofs.Controls.{stage_of, with_stage}
use Rattle.rv_retrieval.proofs.Remembering.{marks_of_table}
use Rattle.rv_retrieval.proofs.retrieval.Retrieval.scan_last.Goals as goal

pub returns-clause-same : goal.returns-clause-same
returns-clause-same g c =
    let s = c.table_step.new.self in
    subst (λ (v : Shape). with_stage v s ≡ record c.args.self.now { last = s.last }) (sym c.self.view_is) (ap (with_stage c.args.self.now) (c.table_step.ensures.same ∙ ap (λ (v : Shape). record (stage_of v) { last = s.last }) c.self.view_is))

pub returns-clause-err : goal.returns-clause-err
returns-clause-err g c =
    let s = c.table_step.new.self in
    let same = subst (λ (x : Staged). OnErr c.table_step.result (s ≡ x)) (ap stage_of c.self.view_is) c.table_step.ensures.err in
    subst (λ (v : Shape). OnErr c.table_step.result (with_stage v s ≡ c.args.self.now)) (sym c.self.view_is) (put_if c.table_step.result (with_stage c.args.self.now) s (stage_of c.args.self.now) c.args.self.now refl same)

pub returns-clause-last : goal.returns-clause-last
returns-clause-last g c =
    let shown = g.R.Reader.shown c.args.reader.now in
    let v = c.args.self.now in
    let f = c.requires.fits in
    let last = c.table_step.new.self.last in
    record {
      of_table = subst (λ (x : Shape). last.table ≡ x.last.table) c.self.view_is c.table_step.ensures.table ∙ f.last.of_table;
      at_snap = subst (λ (x : Shape). last.snap ≡ x.last.snap) c.self.view_is c.table_step.ensures.snap ∙ f.last.at_snap;
      drawn = subst (PlaceFits last) (rows_same v.query.table v.query.snap v.last shown f.last) (subst (λ (x : Shape). PlaceFits last (own_rows x.last shown)) c.self.view_is c.table_step.ensures.drawn);
    }

pub returns-clause-marks : goal.returns-clause-marks
returns-clause-marks g c =
    let shown = g.R.Reader.shown c.args.reader.now in
    let v = c.args.self.now in
    let last = c.table_step.new.self.last in
    let i = c.self.inside in
    let rows = own_rows i.ending.last shown in
    let kept = subst (λ (d : Option (List ℕ)). IfOk c.table_step.result (λ s. StepMarks v.query.need i.query.only rows s (table_left i.ending.last rows d) (table_left last rows d))) c.as_ref.ensures.value (c.table_step.ensures.marks v.query.need) in
    let given = marks_of_table c.table_step.result i.delivered v.query.need i.query.only rows rows i.ending.last last kept in
    let own = subst (λ (x : Shape). IfOk c.table_step.result (λ s. StepMarks v.query.need x.query.only (own_rows x.last shown) s (table_left x.last (own_rows x.last shown) (Some x.delivered)) (table_left last (own_rows x.last shown) (Some x.delivered)))) c.self.view_is given in
    let moved = subst (λ (rs : List Record). IfOk c.table_step.result (λ s. StepMarks v.query.need v.query.only rs s (table_left v.last rs (Some v.delivered)) (table_left last rs (Some v.delivered)))) (rows_same v.query.table v.query.snap v.last shown c.requires.fits.last) own in
    subst (λ (x : Shape). IfOk c.table_step.result (λ s. StepMarks v.query.need v.query.only (rows_of v shown) s (left_at Pages v shown) (left_at Pages (record x { last = last }) shown))) (sym c.self.view_is) moved

pub returns-clause-tries : goal.returns-clause-tries
returns-clause-tries g c =
    let shown = g.R.Reader.shown c.args.reader.now in
    let v = c.args.self.now in
    let last = c.table_step.new.self.last in
    let before = c.args.steps.now in
    let after = c.table_step.new.steps in
    let own = subst (λ (x : Shape). Tries before after (work x.last (own_rows x.last shown) (own_pages x.last shown)) (work last (own_rows x.last shown) (own_pages x.last shown))) c.self.view_is c.table_step.ensures.tries in
    let rows = subst (λ (rs : List Record). Tries before after (work v.last rs (own_pages v.last shown)) (work last rs (own_pages v.last shown))) (rows_same v.query.table v.query.snap v.last shown c.requires.fits.last) own in
    let pages = subst (λ (n : ℕ). Tries before after (work v.last (rows_of v shown) n) (work last (rows_of v shown) n)) (pages_same v.query.table v.query.snap v.last shown c.requires.fits.last) rows in
    subst (λ (x : Shape). Tries before after (table_work v shown) (table_work (record x { last = last }) shown)) (sym c.self.view_is) pages

pub returns-clause-falls : goal.returns-clause-falls
returns-clause-falls g c =
    let shown = g.R.Reader.shown c.args.reader.now in
    let v = c.args.self.now in
    let last = c.table_step.new.self.last in
    let before = c.args.steps.now in
    let after = c.table_step.new.steps in
    let own = subst (λ (x : Shape). IfOk c.table_step.result (λ s. Falls s before after (work x.last (own_rows x.last shown) (own_pages x.last shown)) (work last (own_rows x.last shown) (own_pages x.last shown)))) c.self.view_is c.table_step.ensures.falls in
    let rows = subst (λ (rs : List Record). IfOk c.table_step.result (λ s. Falls s before after (work v.last rs (own_pages v.last shown)) (work last rs (own_pages v.last shown)))) (rows_same v.query.table v.query.snap v.last shown c.requires.fits.last) own in
    let pages = subst (λ (n : ℕ). IfOk c.table_step.result (λ s. Falls s before after (work v.last (rows_of v shown) n) (work last (rows_of v shown) n))) (pages_same v.query.table v.query.snap v.last shown c.requires.fits.last) rows in
    subst (λ (x : Shape). IfOk c.table_step.result (λ s. Falls s before after (table_work v shown) (table_work (record x { last = last }) shown))) (sym c.self.view_is) pages

pub returns-clause-turns : goal.returns-clause-turns
returns-clause-turns g c =
    let shown = g.R.Reader.shown c.args.reader.now in
    let v = c.args.self.now in
    let last = c.table_step.new.self.last in
    let own = subst (λ (x : Shape). IfOk c.table_step.result (λ s. PageTurns s x.last last (own_pages x.last shown))) c.self.view_is c.table_step.ensures.turns in
    subst (λ (n : ℕ). IfOk c.table_step.result (λ s. PageTurns s v.last last n)) (pages_same v.query.table v.query.snap v.last shown c.requires.fits.last) own
