use Rattle.std.proofs.Common.{◌≡◌, ◌+◌, ◌<◌, suc, ◌∙◌, ap, arith, length, refl, Some, slice_set, take}
use Rattle.std.specs.Option.{option_copied}
use Rattle.std.specs.Prelude.{slice_get}
use Rattle.std.proofs.lemmas.Option.{slice_get_read}
use Rattle.rv_view.specs.Making.{part_after, parts_after}
use Rattle.rv_view.proofs.Keeping.{parts_length}
use Rattle.rv_view.proofs.Parts.{part_there, parts_step}
use Rattle.rv_view.proofs.making.keep_parts.Goals as goal

pub keep_at-requires-clause-there : goal.keep_at-requires-clause-there
keep_at-requires-clause-there c =
    let place = c.indexes.invariant.place in
    let low = c.indexes-test.true in
    let same = c.requires.same in
    let parts : length c.indexes.parts ≡ length c.args.parts.now = ap length c.indexes.invariant.parts ∙ parts_length (take c.indexes.index-index c.args.indexes.now) c.args.table (option_copied c.args.base) (option_copied c.args.old) (option_copied c.args.new) c.args.parts.now in
    omega (arith, place, low, same, parts)

pub indexes-preserved : goal.indexes-preserved
indexes-preserved c =
    let indexes = c.args.indexes.now in
    let base = option_copied c.args.base in
    let old = option_copied c.args.old in
    let new = option_copied c.args.new in
    let k = c.indexes.index-index in
    let place = c.indexes.invariant.place in
    let told = c.indexes.invariant.parts in
    let is : slice_get indexes k ≡ Some c.index-item.result = slice_get_read indexes (length indexes) k c.index-item.result refl c.indexes-test.true c.index-item.is in
    let more : suc k ≡ k + 1 = omega arith in
    let low = c.indexes-test.true in
    let same = c.requires.same in
    let before = parts_after (take k indexes) c.args.table base old new c.args.parts.now in
    let count : length before ≡ length c.args.parts.now = parts_length (take k indexes) c.args.table base old new c.args.parts.now in
    let one = part_there before k (omega (arith, low, same, count)) in
    let at : slice_get c.indexes.parts c.indexes.place ≡ Some one.part = (λ i. slice_get (told i) (place i)) ∙ one.is in
    record {
      place = ap (λ n. n + 1) place;
      parts = c.in_ok-keep_at.ensures one.part at
          ∙ (λ i. slice_set (told i) (place i) (part_after c.index-item.result c.args.table base old new one.part))
          ∙ parts_step indexes k c.index-item.result c.args.table base old new c.args.parts.now one.part is one.is
          ∙ ap (λ n. parts_after (take n indexes) c.args.table base old new c.args.parts.now) more;
    }
