use Rattle.std.proofs.Common.{◌-◌, ◌∙◌, List, ap, arith, drop, slice_index_or, subst, sym}
use Rattle.rv_value.specs.declared.record.IndexEntry.{IndexEntry}
use Rattle.rv_reader.specs.Entries.{Ascend}
use Rattle.rv_index.proofs.Places.{child_behind}
use Rattle.rv_index.proofs.parts.child_for.Goals as goal

pub place_behind-at-requires-clause-ascend : goal.place_behind-at-requires-clause-ascend
place_behind-at-requires-clause-ascend c = subst (λ (es : List IndexEntry). Ascend (drop 1 es)) (sym c.entries.ensures.same) c.requires.ascend

pub returns-clause-child : goal.returns-clause-child
returns-clause-child c =
    let place = rw c.entries.ensures.same at c.place_behind-at.ensures.behind in
    ap (λ ids. slice_index_or ids (c.place_behind-at.result - 1) 0) c.children.ensures.same ∙ child_behind c.args.entry.now c.args.node.now.entries c.args.node.now.children (c.place_behind-at.result - 1) 0 (omega arith) c.requires.same c.requires.some
