use Rattle.std.proofs.Common.{ap, ◌∷◌, [], ◌++◌, arith}
use Rattle.std.proofs.lemmas.List.FromFn.{map-range_with_len_more}
use Rattle.rv_restrict.specs.Parts.{value_in}
use Rattle.rv_scan.proofs.sscan.copy_values.Goals as goal

pub columns-preserved : goal.columns-preserved
columns-preserved c =
    let more = map-range_with_len_more (value_in c.args.columns.now c.args.key.now) 0 c.columns.column c.columns.column (omega arith) in
    rw (more, c.in_ok-push.ensures.items, c.in_ok-copy_value.ensures) (ap (λ values. values ++ value_in c.args.columns.now c.args.key.now c.columns.column ∷ []) c.columns.invariant)
