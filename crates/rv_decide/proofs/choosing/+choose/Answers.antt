use Rattle.std.proofs.Common.{sym, ◌∙◌}
use Rattle.rv_decide.proofs.Early.{none_added}
use Rattle.rv_decide.proofs.choosing.+choose.Goals as goal

pub returns-then-not-may_go_on-clause-found : goal.returns-then-not-may_go_on-clause-found
returns-then-not-may_go_on-clause-found t c =
    let stops = rw c.as_slice.ensures.value at c.may_go_on.ensures in
    none_added c.args.select.now c.args.lists.now c.args.chosen.now.items c.args.found.now.items (sym stops ∙ c.if-not-may_go_on.true)
