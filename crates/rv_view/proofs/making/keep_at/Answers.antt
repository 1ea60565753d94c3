use Rattle.std.proofs.Common.{◌≡◌, ◌∙◌, ◌==◌, ap, sym, arith, cond, false, true, slice_set}
use Rattle.std.specs.Option.{option_copied}
use Rattle.std.proofs.lemmas.Bool.Decides.{nat_tests}
use Rattle.std.proofs.lemmas.Option.{same_Some}
use Rattle.rv_value.proofs.Places.{put_back}
use Rattle.rv_reader.specs.Entries.{entry_at}
use Rattle.rv_overlay.specs.Keeping.{moved}
use Rattle.rv_view.proofs.making.keep_at.Goals as goal

pub returns-then-index-table : goal.returns-then-index-table
returns-then-index-table c part is =
    let d = c.args.index.now in
    let other : (d.table == c.args.table) ≡ false = (let apart = c.if-index-table.true in grind (arith, nat_tests)) in
    let next = moved (entry_at d.columns (option_copied c.args.base)) (entry_at d.columns (option_copied c.args.old)) (entry_at d.columns (option_copied c.args.new)) part in
    sym (ap (λ b. slice_set c.args.parts.now c.args.place (cond b next part)) other ∙ put_back c.args.parts.now c.args.place part is)

pub returns : goal.returns
returns c part is =
    let d = c.args.index.now in
    let own : (d.table == c.args.table) ≡ true = (let here = c.if-index-table.false in grind (arith, nat_tests)) in
    let next = moved (entry_at d.columns (option_copied c.args.base)) (entry_at d.columns (option_copied c.args.old)) (entry_at d.columns (option_copied c.args.new)) part in
    let same = same_Some c.at_mut.result.now part (sym c.at_mut.ensures.value ∙ is) in
    let columns = c.as_slice-columns.ensures in
    let told = c.in_ok-keep_part.ensures ∙ (λ i. moved (entry_at (columns i) (option_copied c.args.base)) (entry_at (columns i) (option_copied c.args.old)) (entry_at (columns i) (option_copied c.args.new)) (same i)) in
    ap (slice_set c.args.parts.now c.args.place) (told ∙ sym (ap (λ b. cond b next part) own))
