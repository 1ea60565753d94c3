use Rattle.std.proofs.Common.{◌≡◌, ◌∙◌, ap, false, inl, inr, subst, sym, true}
use Rattle.rv_final.specs.Shell.{IsFinal, unfronted}
use Rattle.rv_union.proofs.Stepped.{done_stage, final_stage}
use Rattle.rv_union.proofs.uniting.Union.stage_step.Goals as goal

pub unreachable-requires : goal.unreachable-requires
unreachable-requires g c = elim c.in-Building.is [
  | inl building ↦ absurd (let bad : true ≡ false = sym c.requires.fits.shell.stands ∙ ap unfronted (sym c.control.ensures ∙ building) in cc)
  | inr alone ↦ absurd (let bad : true ≡ false = sym c.requires.fits.shell.stands ∙ ap unfronted (sym c.control.ensures ∙ alone) in cc)
]

pub final_step-requires-clause-over : goal.final_step-requires-clause-over
final_step-requires-clause-over g c = subst IsFinal c.control.ensures c.in-FinalList.is

pub returns-in-FinalList-clause-stepped : goal.returns-in-FinalList-clause-stepped
returns-in-FinalList-clause-stepped g c = final_stage c.final_step.result _ _ (g.R.Reader.shown c.args.reader.now) c.args.steps.now c.final_step.new.steps c.args.self.now c.final_step.new.self (subst IsFinal c.control.ensures c.in-FinalList.is) c.final_step.ensures.same c.final_step.ensures.stepped c.requires.fits

pub returns-in-Done-clause-stepped : goal.returns-in-Done-clause-stepped
returns-in-Done-clause-stepped g c = done_stage _ _ c.args.self.now (g.R.Reader.shown c.args.reader.now) c.args.steps.now (sym c.control.ensures ∙ c.in-Done.is) c.requires.fits
