use Rattle.std.proofs.Common.{◌∙◌, ap}
use Rattle.std.proofs.lemmas.Result.{IfOk-weaker}
use Rattle.rv_model.specs.Offers.{offers_in_order}
use Rattle.rv_replay.proofs.Fetching.{opens, opens_not}
use Rattle.rv_replay.proofs.plain.PlainDatabase.open.Goals as goal

pub returns-in-Err-Refused : goal.returns-in-Err-Refused
returns-in-Err-Refused c =
    let fault = rw (c.txns.ensures, c.in-Err-Refused.field-0-is) at c.in-Err-Refused.ensures.fault in
    let told = opens_not c.self.inside.database.stand.db c.self.inside.cursors c.args.session c.args.name c.args.select.now c.in-Err-Refused.refusal fault in
    rw (← c.self.view_is) (IfOk-weaker c.refused.result _ _ (λ reply is. (is ∙ told.0, told.1)) c.refused.ensures)

pub returns : goal.returns
returns c =
    let base = rw c.txns.ensures at c.in-Ok.ensures.ok in
    let listed = c.in_ok-offers-2.ensures ∙ ap offers_in_order c.in_ok-offers.ensures in
    let pushed = rw (c.new-cursor.ensures, c.first_table.ensures) at c.in_ok-push.ensures.ok in
    rw (← c.self.view_is) (opens c.self.inside.database.stand.db c.self.inside.cursors c.push.new.self c.args.session c.in-Ok._base c.args.name c.args.select.now c.in_ok-offers-2.offers base listed pushed)
