use Rattle.std.proofs.Common.{◌≡◌, ◌∙◌, ◌-◌, ap, drop, length, remove, sym, true}
use Rattle.rv_rows.specs.Kept.{begins_at}
use Rattle.rv_rows.proofs.Forms.{inside, last_taken}
use Rattle.rv_rows.proofs.changes.take_listed.Goals as goal

pub remove-requires : goal.remove-requires
remove-requires c =
    let here : begins_at c.args.key.table c.args.key.row.0 (drop c.saturating_sub-place.result c.args.listed.now) ≡ true = rw c.as_slice.ensures at (sym c.stands_at.ensures ∙ c.if-stands_at.true) in
    inside c.args.key.table c.args.key.row.0 c.args.listed.now c.saturating_sub-place.result here

pub returns-then-stands_at : goal.returns-then-stands_at
returns-then-stands_at c =
    let here : begins_at c.args.key.table c.args.key.row.0 (drop c.saturating_sub-place.result c.args.listed.now) ≡ true = rw c.as_slice.ensures at (sym c.stands_at.ensures ∙ c.if-stands_at.true) in
    let last : c.saturating_sub-place.result ≡ length c.args.listed.now - 1 = c.saturating_sub-place.ensures ∙ ap (λ n. n - 1) c.len.ensures.same in
    c.remove.ensures.rest ∙ ap (remove c.args.listed.now) last ∙ last_taken c.args.key.table c.args.key.row.0 c.args.listed.now c.requires (rw last at here)
