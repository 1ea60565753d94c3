use Rattle.std.proofs.lemmas.Result.{err_from_is_err_and}
use Rattle.std.proofs.Common.{◌≡◌, ◌∙◌, ℕ, Err, List, Some, ap, subst, sym}
use Rattle.rv_keyset.specs.Sets.{Keyed}
use Rattle.rv_final.specs.Shell.{FinalStep, IsFinal, ShellFits}
use Rattle.rv_final.proofs.Shells.{itself_wanting}
use Rattle.rv_union.specs.Unioned.{Unioned, shell_of, with_shell}
use Rattle.rv_union.proofs.uniting.Union.final_step.Goals as goal

pub returns-clause-same : goal.returns-clause-same
returns-clause-same g c =
    let keys = ap (λ (k : Keyed). k.keys) c.in_ok-gather.ensures.ok ∙ ap (λ (u : Unioned). u.keys) c.self.view_is in
    subst (λ (u : Unioned). record (with_shell c.step.new.self u) { keys = c.gather.new.self.keys } ≡ with_shell c.step.new.self c.args.self.now) (sym c.self.view_is) (ap (λ (k : List ℕ). record (with_shell c.step.new.self c.args.self.now) { keys = k }) keys)

pub returns-clause-stepped : goal.returns-clause-stepped
returns-clause-stepped g c =
    let shown = g.R.Reader.shown c.args.reader.now in
    let keys = c.list.ensures.keys ∙ ap (λ (k : Keyed). k.keys) c.in_ok-gather.ensures.ok ∙ ap (λ (u : Unioned). u.keys) c.self.view_is in
    subst (λ (k : List ℕ). FinalStep c.args.self.now.table c.args.self.now.snap c.args.self.now.only (Some k) shown c.args.steps.now c.step.new.steps c.step.result (shell_of c.args.self.now) c.step.new.self) keys (subst (λ (u : Unioned). FinalStep u.table u.snap u.only (Some c.list.result.now.keys) shown c.args.steps.now c.step.new.steps c.step.result (shell_of u) c.step.new.self) c.self.view_is c.step.ensures)

pub step-requires-clause-over : goal.step-requires-clause-over
step-requires-clause-over g c = subst (λ (u : Unioned). IsFinal u.control) (sym c.self.view_is) c.requires.over

pub step-requires-clause-fits : goal.step-requires-clause-fits
step-requires-clause-fits g c = subst (λ (u : Unioned). ShellFits u.table u.snap u.only (g.R.Reader.shown c.args.reader.now) (shell_of u)) (sym c.self.view_is) c.requires.fits.shell

pub returns-in_err-gather-clause-same : goal.returns-in_err-gather-clause-same
returns-in_err-gather-clause-same g c =
    let keys = ap (λ (k : Keyed). k.keys) c.in_err-gather.ensures.err ∙ ap (λ (u : Unioned). u.keys) c.self.view_is in
    subst (λ (u : Unioned). record u { keys = c.gather.new.self.keys } ≡ with_shell (shell_of u) c.args.self.now) (sym c.self.view_is) (ap (λ (k : List ℕ). record c.args.self.now { keys = k }) keys)

pub returns-in_err-gather-clause-stepped : goal.returns-in_err-gather-clause-stepped
returns-in_err-gather-clause-stepped g c =
    let p = err_from_is_err_and c.from_residual.result c.from_residual.ensures.1 in
    rw p.1 (subst (λ (u : Unioned). FinalStep c.args.self.now.table c.args.self.now.snap c.args.self.now.only (Some c.args.self.now.keys) (g.R.Reader.shown c.args.reader.now) c.args.steps.now c.args.steps.now (Err p.0) (shell_of c.args.self.now) (shell_of u)) (sym c.self.view_is) (itself_wanting p.0 c.args.self.now.table c.args.self.now.snap c.args.self.now.only (Some c.args.self.now.keys) (g.R.Reader.shown c.args.reader.now) c.args.steps.now (shell_of c.args.self.now) c.requires.over c.requires.fits.shell.last))
