use Rattle.std.proofs.Common.{◌∙◌, ap, slice_set}
use Rattle.std.proofs.lemmas.List.{set-get_or}
use Rattle.rv_store.specs.declared.indexes.Index.{Index}
use Rattle.rv_store.proofs.whole.note_indexes.Goals as goal

pub indexes-preserved : goal.indexes-preserved
indexes-preserved c =
    let items = c.indexes.indexes.items in
    let same = c.note_nodes.ensures.index ∙ c.index_mut.ensures.value in
    record {
      indexes = ap (λ (x : Index). slice_set items c.indexes.at x) same ∙ set-get_or items c.indexes.at c.index_mut.result.now ∙ c.indexes.invariant.indexes;
      places = c.note_nodes.ensures.places ∙ c.indexes.invariant.places;
    }
