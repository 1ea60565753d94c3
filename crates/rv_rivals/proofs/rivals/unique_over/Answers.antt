use Rattle.std.proofs.Common.{◌≡◌, ◌+◌, ◌≤◌, ◌∙◌, ◌++◌, ◌∷◌, [], suc, Some, ap, arith, length, map, refl, take}
use Rattle.std.specs.Prelude.{slice_get}
use Rattle.std.proofs.lemmas.Option.{slice_get_read}
use Rattle.rv_value.proofs.Lists.{all_got}
use Rattle.rv_catalog.specs.declared.def.IndexDef.{IndexDef}
use Rattle.rv_model.specs.Rivals.{unique_over}
use Rattle.rv_rivals.proofs.Nearing.{unique_next}
use Rattle.rv_rivals.proofs.rivals.unique_over.Goals as goal

pub overflow_add-number : goal.overflow_add-number
overflow_add-number c = (let n = c.indexes.invariant.number in let low = c.indexes-test.true in let few = c.requires.numbers in omega (arith, n, low, few))

pub add_unique-requires-clause-some : goal.add_unique-requires-clause-some
add_unique-requires-clause-some c =
    let indexes = c.args.indexes.now in
    let k = c.indexes.def-index in
    let item = c.def-item.result in
    let is : slice_get indexes k ≡ Some item = slice_get_read indexes (length indexes) k item refl c.indexes-test.true c.def-item.is in
    (all_got (λ (d : IndexDef). (1 ≤ length d.columns) × (length d.columns ≤ 4)) indexes k item c.requires.columns is).0

pub add_unique-requires-clause-few : goal.add_unique-requires-clause-few
add_unique-requires-clause-few c =
    let indexes = c.args.indexes.now in
    let k = c.indexes.def-index in
    let item = c.def-item.result in
    let is : slice_get indexes k ≡ Some item = slice_get_read indexes (length indexes) k item refl c.indexes-test.true c.def-item.is in
    (all_got (λ (d : IndexDef). (1 ≤ length d.columns) × (length d.columns ≤ 4)) indexes k item c.requires.columns is).1

pub indexes-preserved : goal.indexes-preserved
indexes-preserved c =
    let indexes = c.args.indexes.now in
    let k = c.indexes.def-index in
    let item = c.def-item.result in
    let is : slice_get indexes k ≡ Some item = slice_get_read indexes (length indexes) k item refl c.indexes-test.true c.def-item.is in
    let at : slice_get indexes c.indexes.number ≡ Some item = ap (slice_get indexes) c.indexes.invariant.number ∙ is in
    let more : suc k ≡ k + 1 = omega arith in
    record {
      number = ap (λ n. n + 1) c.indexes.invariant.number;
      columns = c.in_ok-add_unique.ensures.columns ∙ ap (λ xs. xs ++ map (λ (d : IndexDef). d.columns) (unique_over c.args.table (item ∷ []))) c.indexes.invariant.columns
          ∙ unique_next c.args.table indexes k item is ∙ ap (λ n. map (λ (d : IndexDef). d.columns) (unique_over c.args.table (take n indexes))) more;
      each = c.in_ok-add_unique.ensures.each indexes at c.indexes.invariant.each;
      entries = c.in_ok-add_unique.ensures.entries c.requires.of_table c.indexes.invariant.entries;
    }
