use Rattle.std.proofs.Common.{◌≡◌, ◌∙◌, IfOk, None, OnErr, ap, subst, sym}
use Rattle.std.specs.Option.{option_copied}
use Rattle.rv_jscan.specs.Joint.{keys_of}
use Rattle.rv_final.specs.Rest.{StepMarks}
use Rattle.rv_final.specs.Shell.{Shelled}
use Rattle.rv_final.specs.Stage.{FetchesKey, PassesKeys, first_key, list_left}
use Rattle.rv_final.proofs.Shells.{stage_of, with_stage}
use Rattle.rv_final.proofs.shell.Shell.scan_list.Goals as goal

pub returns-clause-same : goal.returns-clause-same
returns-clause-same g c =
    let s = c.list_step.new.self in
    subst (λ (x : Shelled). with_stage x s ≡ record c.args.self.now { at = s.at }) (sym c.self.view_is) (ap (with_stage c.args.self.now) (c.list_step.ensures.same ∙ ap (λ (x : Shelled). record (stage_of x) { at = s.at }) c.self.view_is))

pub returns-clause-marks : goal.returns-clause-marks
returns-clause-marks g c need =
    let list = keys_of (option_copied c.args.list) in
    let rows = (g.R.Reader.shown c.args.reader.now).rows c.args.table c.args.snap in
    subst (λ (x : Shelled). IfOk c.list_step.result (λ s. StepMarks need c.args.only.now rows s (list_left list None x.at) (list_left list None c.list_step.new.self.at))) c.self.view_is (c.list_step.ensures.marks need)

pub returns-clause-fetches : goal.returns-clause-fetches
returns-clause-fetches g c =
    let list = keys_of (option_copied c.args.list) in
    let rows = (g.R.Reader.shown c.args.reader.now).rows c.args.table c.args.snap in
    subst (λ (x : Shelled). IfOk c.list_step.result (FetchesKey (first_key list None x.at) c.args.only.now rows c.args.steps.now c.list_step.new.steps)) c.self.view_is c.list_step.ensures.fetches

pub returns-clause-passed : goal.returns-clause-passed
returns-clause-passed g c = subst (λ (x : Shelled). OnErr c.list_step.result (PassesKeys (keys_of (option_copied c.args.list)) None x.at c.list_step.new.self.at)) c.self.view_is c.list_step.ensures.passed
