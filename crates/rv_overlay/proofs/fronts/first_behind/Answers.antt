use Rattle.std.proofs.Common.{◌∙◌, sym, refl, arith}
use Rattle.std.specs.Option.{option_copied}
use Rattle.std.proofs.lemmas.Option.{slice_get_past}
use Rattle.rv_reader.specs.Leaves.{is_passed}
use Rattle.rv_reader.proofs.Halving.{passed_parted}
use Rattle.rv_overlay.proofs.Runs.{first_is}
use Rattle.rv_overlay.proofs.fronts.first_behind.Goals as goal

pub count-passed-requires : goal.count-passed-requires
count-passed-requires c = passed_parted c.args.range.now (option_copied c.args.from) c.args.entries.now c.requires.ascend c.requires.long

pub returns-then-at-len : goal.returns-then-at-len
returns-then-at-len c = sym (first_is (is_passed (option_copied c.args.from) c.args.range.now) c.count-passed.result _ c.args.entries.now c.count-passed.ensures.front c.count-passed.ensures.back refl ∙ c.get.ensures)

pub returns-else-at-len : goal.returns-else-at-len
returns-else-at-len c = sym (first_is (is_passed (option_copied c.args.from) c.args.range.now) c.count-passed.result _ c.args.entries.now c.count-passed.ensures.front c.count-passed.ensures.back refl ∙ slice_get_past c.args.entries.now _ (omega (arith, c.if-at-len.false, c.len.ensures.same)))
