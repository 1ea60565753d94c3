use Rattle.rv_core.proofs.Facts.{any_ok}
use Rattle.rv_core.proofs.Handling.{asked_if, never, plans_same, searches}
use Rattle.rv_core.proofs.statements.perform.Goals as goal
use Rattle.rv_value.proofs.Lists.{on_err}
use Rattle.std.proofs.lemmas.Result.{IfOk-weaker}

pub unreachable-requires : goal.unreachable-requires
unreachable-requires g c = never (rw c.in-Fetch.is at c.requires.other)

pub returns-in-Open-clause-handles : goal.returns-in-Open-clause-handles
returns-in-Open-clause-handles g c = rw c.in-Open.is (c.open-replies.ensures.adds _)

pub returns-in-Open-clause-refuses : goal.returns-in-Open-clause-refuses
returns-in-Open-clause-refuses g c refusal = rw c.in-Open.is (c.open-replies.ensures.refuses _ refusal)

pub returns-in-Step-clause-handles : goal.returns-in-Step-clause-handles
returns-in-Step-clause-handles g c = rw c.in-Step.is (c.step.ensures.steps c.args.settings)

pub returns-in-Close-clause-refuses : goal.returns-in-Close-clause-refuses
returns-in-Close-clause-refuses g c refusal = rw c.in-Close.is (IfOk-weaker c.close.result _ _ (λ replies k e. plans_same c.args.database.now c.close.new.self _ (k e) c.close.ensures.opened) (c.close.ensures.refuses refusal))

pub returns-in-Update-clause-handles : goal.returns-in-Update-clause-handles
returns-in-Update-clause-handles g c = rw c.in-Update.is (IfOk-weaker c.change-replies.result _ _ (λ replies found. (searches c.args.database.now c.change-replies.new.self _ _ c.change-replies.ensures.opens c.change-replies.ensures.opened c.change-replies.ensures.asks, found)) c.change-replies.ensures.found)

pub returns-in-Update-clause-refuses : goal.returns-in-Update-clause-refuses
returns-in-Update-clause-refuses g c refusal = rw c.in-Update.is (any_ok c.change-replies.result _ (λ replies e. (asked_if c.args.database.now c.change-replies.new.self _ _ c.change-replies.ensures.opens c.change-replies.ensures.opened c.change-replies.ensures.asks)))

pub returns-in-Update-clause-lost : goal.returns-in-Update-clause-lost
returns-in-Update-clause-lost g c = rw c.in-Update.is (on_err c.change-replies.result _ (searches c.args.database.now c.change-replies.new.self _ _ c.change-replies.ensures.opens c.change-replies.ensures.opened c.change-replies.ensures.asks))

pub returns-in-Delete-clause-handles : goal.returns-in-Delete-clause-handles
returns-in-Delete-clause-handles g c = rw c.in-Delete.is (IfOk-weaker c.change-replies-in-Delete.result _ _ (λ replies found. (searches c.args.database.now c.change-replies-in-Delete.new.self _ _ c.change-replies-in-Delete.ensures.opens c.change-replies-in-Delete.ensures.opened c.change-replies-in-Delete.ensures.asks, found)) c.change-replies-in-Delete.ensures.found)

pub returns-in-Delete-clause-refuses : goal.returns-in-Delete-clause-refuses
returns-in-Delete-clause-refuses g c refusal = rw c.in-Delete.is (any_ok c.change-replies-in-Delete.result _ (λ replies e. (asked_if c.args.database.now c.change-replies-in-Delete.new.self _ _ c.change-replies-in-Delete.ensures.opens c.change-replies-in-Delete.ensures.opened c.change-replies-in-Delete.ensures.asks)))

pub returns-in-Delete-clause-lost : goal.returns-in-Delete-clause-lost
returns-in-Delete-clause-lost g c = rw c.in-Delete.is (on_err c.change-replies-in-Delete.result _ (searches c.args.database.now c.change-replies-in-Delete.new.self _ _ c.change-replies-in-Delete.ensures.opens c.change-replies-in-Delete.ensures.opened c.change-replies-in-Delete.ensures.asks))

pub returns-in-Step-clause-refuses : goal.returns-in-Step-clause-refuses
returns-in-Step-clause-refuses g c refusal = rw c.in-Step.is (c.step.ensures.refuses refusal)
