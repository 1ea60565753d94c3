use Rattle.std.proofs.Common.{◌≡◌, ◌∙◌, ◌<◌, ◌==◌, None, position, subst, ℕ}
use Rattle.rv_value.proofs.Lists.{on_err}
use Rattle.rv_io.proofs.Feeds.{last_line, long_line, none_found, nothing_more, some_more}
use Rattle.rv_io.proofs.lines.read_line.Goals as goal

pub returns-then-len-most-clause-too_big : goal.returns-then-len-most-clause-too_big
returns-then-len-most-clause-too_big g c = λ big. long_line _ _ _ c.pieces.pending.items _ c.pieces.invariant.taken (rw (← c.as_slice.ensures.value, ← c.line_feed.ensures.first) c.in_default.is) (subst (λ (n : ℕ). c.args.most < n) (c.len.ensures ∙ c.pieces.pending.ok.0) c.if-len-most.true)

pub returns-in_err-count-clause-taken : goal.returns-in_err-count-clause-taken
returns-in_err-count-clause-taken g c = on_err c.from_residual-in_err-count.result _ (some_more _ _ _ _ c.pieces.pending.items _ c.pieces.invariant.taken c.in_err-count.ensures.taken)

pub returns-then-count-eq0-clause-one : goal.returns-then-count-eq0-clause-one
returns-then-count-eq0-clause-one g c =
    let none : position (λ (b : ℕ). b == 10) c.pieces.pending.items ≡ None = rw (← c.as_slice.ensures.value, ← c.line_feed.ensures.first) c.in_default.is in
    let same = nothing_more _ _ _ _ _ c.in_ok-count.ensures.piece c.if-count-eq0.true in
    rw (c.replace-bytes.ensures.value, same) (last_line c.pieces.pending.items (none_found c.pieces.pending.items none))
