use Rattle.std.proofs.Common.{◌∙◌, ap, subst, sym}
use Rattle.rv_reader.specs.Entries.{Ascend}
use Rattle.std.specs.List.{insert}
use Rattle.rv_index.proofs.Places.{insert_placed}
use Rattle.rv_index.proofs.parts.put_entry.Goals as goal

pub place_of-at-requires : goal.place_of-at-requires
place_of-at-requires c = subst Ascend (sym c.as_slice.ensures.value) c.requires

pub returns : goal.returns
returns c =
    let place = rw c.as_slice.ensures.value at c.place_of-at.ensures.place in
    c.in_ok-insert.ensures.items ∙ ap (λ i. insert c.args.entries.now.items i c.args.entry) place ∙ insert_placed c.args.entry c.args.entries.now.items
