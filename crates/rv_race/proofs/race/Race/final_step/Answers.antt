use Rattle.std.proofs.Common.{ap, subst, sym}
use Rattle.rv_final.specs.Shell.{FinalStep, IsFinal, ShellFits}
use Rattle.rv_race.specs.Raced.{Raced, shell_of, with_shell}
use Rattle.rv_race.proofs.race.Race.final_step.Goals as goal

pub returns-clause-same : goal.returns-clause-same
returns-clause-same g c = ap (with_shell c.step.new.self) c.self.view_is

pub returns-clause-stepped : goal.returns-clause-stepped
returns-clause-stepped g c = subst (λ (r : Raced). FinalStep r.table r.snap r.only r.list (g.R.Reader.shown c.args.reader.now) c.args.steps.now c.step.new.steps c.step.result (shell_of r) c.step.new.self) c.self.view_is (rw c.as_ref.ensures.value at c.step.ensures)

pub step-requires-clause-over : goal.step-requires-clause-over
step-requires-clause-over g c = subst (λ (r : Raced). IsFinal r.control) (sym c.self.view_is) c.requires.over

pub step-requires-clause-fits : goal.step-requires-clause-fits
step-requires-clause-fits g c = subst (λ (r : Raced). ShellFits r.table r.snap r.only (g.R.Reader.shown c.args.reader.now) (shell_of r)) (sym c.self.view_is) c.requires.fits.shell
