use Rattle.std.proofs.Common.{arith}
use Rattle.rv_store.proofs.Standing.{kept_table}
use Rattle.rv_store.proofs.paged.PagedStore.create_table.Goals as goal

pub invariant_of-self-2 : goal.invariant_of-self-2
invariant_of-self-2 c =
    let next = rw (← c.self.view_is) at c.requires in
    rw (c.in_ok-push.ensures.items, c.new.ensures) (kept_table _ c.args.columns c.self.invariant (omega (arith, next)))
