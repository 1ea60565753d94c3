use Rattle.rv_retrieval.specs.Shape.{rest}
use Rattle.rv_search.specs.Searching.{numbers}
use Rattle.rv_search.proofs.Gathering.{found_from}
use Rattle.std.proofs.Common.{refl}
use Rattle.rv_search.proofs.search.gathered_of.Goals as goal

pub returns-clause-found : goal.returns-clause-found
returns-clause-found g c =
    let owed = rest c.args.retrieval.now (g.R.Reader.shown c.args.reader.now) in
    found_from c.new-found.result.items c.gather.new.found.items (numbers owed) owed c.new-found.ensures.items refl c.in_ok-gather.ensures.found
