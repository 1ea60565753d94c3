use Rattle.std.proofs.Common.{◌≡◌, inl, inr, refl, subst}
use Rattle.std.specs.Io.KnownBytes.{Appends}
use Rattle.rv_io.specs.Pieces.{AppendsFront}
use Rattle.rv_script.specs.Drafts.{said_by}
use Rattle.rv_script.specs.Lines.{LineFault, behind_mark, first_line}
use Rattle.rv_run.proofs.Fits.{line_fits}
use Rattle.rv_run.proofs.Served.{line_served, within_grown}
use Rattle.rv_run.proofs.service.serve_line.Goals as goal

pub returns-in-Err-clause-unanswered : goal.returns-in-Err-clause-unanswered
returns-in-Err-clause-unanswered g c = inr (refl, refl)

pub returns-in-Err-clause-fault : goal.returns-in-Err-clause-fault
returns-in-Err-clause-fault g c = λ fault e. let same : c.in-Err.fault ≡ fault = cc in subst (LineFault c.args.number c.args.bytes.now) same c.in-Err.ensures.fault

pub make_saying-requires-clause-fits : goal.make_saying-requires-clause-fits
make_saying-requires-clause-fits g c = (line_fits c.args.number (first_line (behind_mark c.args.number c.args.bytes.now)) (said_by c.in-Ok.form) c.in-Ok.ensures.says.says).0

pub entries_from-requires : goal.entries_from-requires
entries_from-requires g c = within_grown _ _ _ _ _ _ _ _ c.in-Ok-make_saying.ensures.ok c.answered-from.ensures

pub returns-in-Ok-hand_on-clause-ok : goal.returns-in-Ok-hand_on-clause-ok
returns-in-Ok-hand_on-clause-ok g c = line_served _ _ _ _ _ _ _ _ _ _ _ (Appends (g.K.Sink.written c.args.sink.now) (g.K.Sink.written c.hand_on.new.sink)) c.in-Ok.ensures.says c.in-Ok-make_saying.ensures.ok c.answered-from.ensures c.entries_from.ensures c.in-Ok-hand_on.ensures.ok

pub returns-in-Err-hand_on-clause-write : goal.returns-in-Err-hand_on-clause-write
returns-in-Err-hand_on-clause-write g c = λ e. line_served _ _ _ _ _ _ _ _ _ _ _ (AppendsFront (g.K.Sink.written c.args.sink.now) (g.K.Sink.written c.hand_on.new.sink)) c.in-Ok.ensures.says c.in-Ok-make_saying.ensures.ok c.answered-from.ensures c.entries_from.ensures c.in-Err-hand_on.ensures.err

pub returns-in-Err-hand_on-clause-unanswered : goal.returns-in-Err-hand_on-clause-unanswered
returns-in-Err-hand_on-clause-unanswered g c = inl refl

pub returns-in_default-clause-unanswered : goal.returns-in_default-clause-unanswered
returns-in_default-clause-unanswered g c = inr (c.in_default.ensures.err, refl)
