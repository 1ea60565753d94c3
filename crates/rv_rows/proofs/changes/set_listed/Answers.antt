use Rattle.std.proofs.Common.{◌≡◌, ◌∙◌, drop, false, sym, true}
use Rattle.rv_rows.specs.Kept.{begins_at}
use Rattle.rv_rows.proofs.Forms.{first_others, from_row, inside, set_place}
use Rattle.rv_rows.proofs.Undoing.{same_with}
use Rattle.rv_rows.proofs.changes.set_listed.Goals as goal

pub changes_ahead-place-requires : goal.changes_ahead-place-requires
changes_ahead-place-requires c = rw c.as_slice.ensures c.requires

pub put-requires : goal.put-requires
put-requires c =
    let here : begins_at c.args.key.table c.args.key.row.0 (drop c.changes_ahead-place.result c.args.listed.now) ≡ true = rw c.as_slice-2.ensures at (sym c.stands_at.ensures ∙ c.if-stands_at.true) in
    inside c.args.key.table c.args.key.row.0 c.args.listed.now c.changes_ahead-place.result here

pub returns-then-stands_at : goal.returns-then-stands_at
returns-then-stands_at c =
    let here : begins_at c.args.key.table c.args.key.row.0 (drop c.changes_ahead-place.result c.args.listed.now) ≡ true = rw c.as_slice-2.ensures at (sym c.stands_at.ensures ∙ c.if-stands_at.true) in
    c.put.ensures ∙ set_place c.args.key.table c.args.key.row.0 c.args.values c.args.listed.now c.changes_ahead-place.result c.requires here

pub returns-else-stands_at : goal.returns-else-stands_at
returns-else-stands_at c =
    let other : begins_at c.args.key.table c.args.key.row.0 (drop c.changes_ahead-place.result c.args.listed.now) ≡ false = rw c.as_slice-2.ensures at (sym c.stands_at.ensures ∙ c.if-stands_at.false) in
    let ahead : drop c.changes_ahead-place.result c.args.listed.now ≡ from_row c.args.key.table c.args.key.row.0 c.args.listed.now = rw c.as_slice.ensures at c.changes_ahead-place.ensures.back in
    sym (same_with c.args.key.table c.args.key.row.0 c.args.values c.args.listed.now (first_others c.args.key.table c.args.key.row.0 c.args.listed.now c.requires (rw ahead at other)))
