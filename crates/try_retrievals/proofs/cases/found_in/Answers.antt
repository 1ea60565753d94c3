use Rattle.std.proofs.Common.{List, ap, ◌∙◌}
use Rattle.rv_restrict.specs.declared.atom.Atom.{Atom}
use Rattle.rv_final.specs.Rest.{qualifying}
use Rattle.rv_search.specs.Searching.{numbers}
use Rattle.try_retrievals.specs.Asking.{Chosen}
use Rattle.try_retrievals.proofs.Asks.{can_search}
use Rattle.try_retrievals.proofs.cases.found_in.Goals as goal

pub find-requires : goal.find-requires
find-requires g c =
    let chosen : Chosen c.args.table.now.loaded 4 c.from_vec.result = rw c.from_vec.ensures c.in_ok-indexes.ensures in
    record { can = can_search (g.R.Reader.shown c.args.reader.now) c.args.table.now c.args.asked.now c.in_ok-only.only c.from_vec.result c.in_ok-only.ensures chosen c.requires }

pub returns : goal.returns
returns g c = c.in_ok-found.ensures.found ∙ ap (λ (only : List (List Atom)). numbers (qualifying only ((g.R.Reader.shown c.args.reader.now).rows 0 c.args.table.now.loaded.snap))) c.in_ok-only.ensures
