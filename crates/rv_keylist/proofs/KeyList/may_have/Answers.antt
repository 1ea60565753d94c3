use Rattle.rv_keylist.proofs.Bits.{filter_never_denies}
use Rattle.rv_keylist.proofs.KeyList.may_have.Goals as goal

pub returns-in-Some-clause-never_denied : goal.returns-in-Some-clause-never_denied
returns-in-Some-clause-never_denied c =
    rw (← c.self.view_is)
    (λ here. filter_never_denies _ _ _ c.args.row.0 _ c.in-Some.is c.self.invariant.marks c.may_hold.ensures here)
