use Rattle.rv_decide.proofs.Choices.{offers_found}
use Rattle.rv_decide.proofs.choosing.offers_over.Goals as goal

pub returns : goal.returns
returns c = offers_found c.args.select.now c.args.lists.now c.new-chosen.result.items c.new-found.result.items c.choose.new.found.items c.new-found.ensures.items c.new-chosen.ensures.items c.in_ok-choose.ensures.found
