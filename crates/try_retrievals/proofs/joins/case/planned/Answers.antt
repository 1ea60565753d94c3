use Rattle.std.proofs.Common.{◌≡◌, IfOk, List, subst, true}
use Rattle.std.specs.Prelude.{IsPermutation}
use Rattle.rv_model.specs.declared.state.Offer.{Offer}
use Rattle.try_retrievals.proofs.Selects.{can_plan}
use Rattle.try_retrievals.proofs.joins.case.planned.Goals as goal

pub open-requires : goal.open-requires
open-requires g c = can_plan c.args.loaded.now c.args.select.now c.args.indexes.now (g.R.Reader.shown c.args.reader.now) c.requires.select c.requires.indexes c.requires.offers

pub followed-found-requires : goal.followed-found-requires
followed-found-requires g c = c.in_ok-plan.ensures.fits

pub returns : goal.returns
returns g c = subst (λ (due : List Offer). IfOk c.followed-found.result (λ found. found.0.ended ≡ true → IsPermutation due found.0.offers.items)) c.in_ok-plan.ensures.rest c.followed-found.ensures
