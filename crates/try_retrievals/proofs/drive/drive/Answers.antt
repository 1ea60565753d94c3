use Rattle.std.proofs.Common.{Ok, ap}
use Rattle.rv_access.specs.Accesses.{rest}
use Rattle.try_retrievals.proofs.Drives.{gives_all}
use Rattle.try_retrievals.proofs.drive.drive.Goals as goal

pub returns-then-branch : goal.returns-then-branch
returns-then-branch g c =
    let shown = g.R.Reader.shown c.args.reader.now in
    let due = rest c.args.access.now shown in
    λ ended. gives_all shown due c.forward.new.rows.items c.forward.new.access (c.in_ok-forward.ensures.gives due c.steps.invariant) (c.in_ok-forward.ensures.ends (ap (λ b. Ok b) c.if-branch.true))
