use Rattle.std.proofs.Common.{◌≡◌, ◌∙◌, IfOk, List, OnErr, Option, Some, ap, length, subst, sym, ℕ, ◌+◌, ◌≤◌}
use Rattle.std.specs.Option.{option_copied}
use Rattle.rv_jscan.specs.Joint.{keys_of}
use Rattle.rv_final.specs.Rest.{StepMarks}
use Rattle.rv_final.specs.Stage.{FetchesKey, PassesKeys, first_key, keys_left, list_left}
use Rattle.rv_final.specs.Work.{Falls, Tries}
use Rattle.rv_retrieval.specs.Room.{rows_given}
use Rattle.rv_retrieval.specs.Shape.{Shape, rows_of}
use Rattle.rv_retrieval.proofs.Controls.{stage_of, with_stage}
use Rattle.rv_retrieval.proofs.Remembering.{fetches_of_list, marks_of_list, passes_of_list}
use Rattle.rv_retrieval.proofs.retrieval.Retrieval.scan_list.Goals as goal

pub returns-clause-same : goal.returns-clause-same
returns-clause-same g c =
    let s = c.list_step.new.self in
    subst (λ (v : Shape). with_stage v s ≡ record c.args.self.now { at = s.at }) (sym c.self.view_is) (ap (with_stage c.args.self.now) (c.list_step.ensures.same ∙ ap (λ (v : Shape). record (stage_of v) { at = s.at }) c.self.view_is))

pub returns-clause-marks : goal.returns-clause-marks
returns-clause-marks g c =
    let shown = g.R.Reader.shown c.args.reader.now in
    let i = c.self.inside in
    let at = c.list_step.new.self.at in
    let kept = subst (λ (d : Option (List ℕ)). IfOk c.list_step.result (λ s. StepMarks i.query.need i.query.only (shown.rows i.query.table i.query.snap) s (list_left (keys_of (option_copied c.list.result)) d i.ending.at) (list_left (keys_of (option_copied c.list.result)) d at))) c.as_ref.ensures.value (c.list_step.ensures.marks i.query.need) in
    let lists = subst (λ (l : Option (List ℕ)). IfOk c.list_step.result (λ s. StepMarks i.query.need i.query.only (shown.rows i.query.table i.query.snap) s (list_left l i.delivered i.ending.at) (list_left l i.delivered at))) c.list.ensures.keys kept in
    let given = marks_of_list c.list_step.result i.delivered i.query.need i.query.only (shown.rows i.query.table i.query.snap) i.joint.list i.ending.at at lists in
    subst (λ (v : Shape). IfOk c.list_step.result (λ s. StepMarks v.query.need v.query.only (rows_of v shown) s (list_left v.joint.list (Some v.delivered) v.at) (list_left i.joint.list (Some (rows_given i.delivered)) at))) c.self.view_is given

pub returns-clause-fetches : goal.returns-clause-fetches
returns-clause-fetches g c =
    let shown = g.R.Reader.shown c.args.reader.now in
    let i = c.self.inside in
    let kept = subst (λ (d : Option (List ℕ)). IfOk c.list_step.result (FetchesKey (first_key (keys_of (option_copied c.list.result)) d i.ending.at) i.query.only (shown.rows i.query.table i.query.snap) c.args.steps.now c.list_step.new.steps)) c.as_ref.ensures.value c.list_step.ensures.fetches in
    let lists = subst (λ (l : Option (List ℕ)). IfOk c.list_step.result (FetchesKey (first_key l i.delivered i.ending.at) i.query.only (shown.rows i.query.table i.query.snap) c.args.steps.now c.list_step.new.steps)) c.list.ensures.keys kept in
    let given = fetches_of_list c.list_step.result i.delivered i.joint.list i.ending.at i.query.only (shown.rows i.query.table i.query.snap) c.args.steps.now c.list_step.new.steps lists in
    subst (λ (v : Shape). IfOk c.list_step.result (FetchesKey (first_key v.joint.list (Some v.delivered) v.at) v.query.only (rows_of v shown) c.args.steps.now c.list_step.new.steps)) c.self.view_is given

pub returns-clause-passed : goal.returns-clause-passed
returns-clause-passed g c =
    let i = c.self.inside in
    let at = c.list_step.new.self.at in
    let kept = subst (λ (d : Option (List ℕ)). OnErr c.list_step.result (PassesKeys (keys_of (option_copied c.list.result)) d i.ending.at at)) c.as_ref.ensures.value c.list_step.ensures.passed in
    let lists = subst (λ (l : Option (List ℕ)). OnErr c.list_step.result (PassesKeys l i.delivered i.ending.at at)) c.list.ensures.keys kept in
    let given = passes_of_list c.list_step.result i.delivered i.joint.list i.ending.at at lists in
    subst (λ (v : Shape). OnErr c.list_step.result (PassesKeys v.joint.list (Some v.delivered) v.at at)) c.self.view_is given

pub returns-clause-tries : goal.returns-clause-tries
returns-clause-tries g c =
    let i = c.self.inside in
    let at = c.list_step.new.self.at in
    let lists = subst (λ (l : Option (List ℕ)). Tries c.args.steps.now c.list_step.new.steps (length (keys_left l i.ending.at)) (length (keys_left l at))) c.list.ensures.keys c.list_step.ensures.tries in
    subst (λ (v : Shape). Tries c.args.steps.now c.list_step.new.steps (length (keys_left v.joint.list v.at)) (length (keys_left i.joint.list at))) c.self.view_is lists

pub returns-clause-falls : goal.returns-clause-falls
returns-clause-falls g c =
    let i = c.self.inside in
    let at = c.list_step.new.self.at in
    let lists = subst (λ (l : Option (List ℕ)). IfOk c.list_step.result (λ s. Falls s c.args.steps.now c.list_step.new.steps (length (keys_left l i.ending.at)) (length (keys_left l at)))) c.list.ensures.keys c.list_step.ensures.falls in
    subst (λ (v : Shape). IfOk c.list_step.result (λ s. Falls s c.args.steps.now c.list_step.new.steps (length (keys_left v.joint.list v.at)) (length (keys_left i.joint.list at)))) c.self.view_is lists

pub returns-clause-records : goal.returns-clause-records
returns-clause-records g c =
    let i = c.self.inside in
    let at = c.list_step.new.self.at in
    let lists = subst (λ (l : Option (List ℕ)). IfOk c.list_step.result (λ s. c.list_step.new.steps.records + length (keys_left l at) ≤ c.args.steps.now.records + length (keys_left l i.ending.at))) c.list.ensures.keys c.list_step.ensures.records in
    subst (λ (v : Shape). IfOk c.list_step.result (λ s. c.list_step.new.steps.records + length (keys_left i.joint.list at) ≤ c.args.steps.now.records + length (keys_left v.joint.list v.at))) c.self.view_is lists
