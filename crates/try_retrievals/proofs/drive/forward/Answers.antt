use Rattle.rv_access.specs.Accesses.{query_of}
use Rattle.try_retrievals.proofs.Drives.{gives_row}
use Rattle.try_retrievals.proofs.drive.forward.Goals as goal

pub returns-in_ok-push-in-Row-clause-gives : goal.returns-in_ok-push-in-Row-clause-gives
returns-in_ok-push-in-Row-clause-gives g c = λ due gives.
    let step = rw c.in-Row.is at c.in_ok-row.ensures.step in
    rw c.in_ok-push-in-Row.ensures.items (gives_row (g.R.Reader.shown c.args.reader.now) due c.args.rows.now.items (query_of c.args.access.now).need c.args.access.now c.fg_step.new.self c.in-Row.row gives c.fg_step.ensures.fits step.0)
