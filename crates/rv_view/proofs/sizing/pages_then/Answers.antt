use Rattle.std.proofs.Common.{◌≡◌, ◌<◌, ◌+◌, ◌/◌, ◌∙◌, ap, arith, sym, subst, max}
use Rattle.rv_rows.specs.declared.changes.Change.{Change}
use Rattle.rv_rows.specs.Changes.{Rise}
use Rattle.rv_view.specs.Making.{last_of, pages_up, written_after}
use Rattle.rv_view.proofs.Written.{pages_put, pages_taken}
use Rattle.rv_view.proofs.sizing.pages_then.Goals as goal

pub returns-then-is_some : goal.returns-then-is_some
returns-then-is_some c earlier rise is before =
    let change = c.args.change.now in
    let now : pages_up (last_of change.table (written_after change earlier)) c.args.pages ≡ pages_up (last_of change.table c.args.written.now) c.args.pages = ap (λ w. pages_up (last_of change.table w) c.args.pages) (sym is) in
    let it = pages_put change earlier c.args.pages rise (subst Rise is c.requires.rise) (sym c.is_some.ensures ∙ c.if-is_some.true) in
    c.max.ensures ∙ ap (λ n. max n (change.row.0 / 32 + 1)) before ∙ it ∙ now

pub returns-then-up-before : goal.returns-then-up-before
returns-then-up-before c earlier rise is before =
    let change = c.args.change.now in
    let now : pages_up (last_of change.table (written_after change earlier)) c.args.pages ≡ pages_up (last_of change.table c.args.written.now) c.args.pages = ap (λ w. pages_up (last_of change.table w) c.args.pages) (sym is) in
    let low = c.if-up-before.true in
    let reach : change.row.0 / 32 + 1 < pages_up (last_of change.table earlier) c.args.pages = omega (arith, low, before) in
    before ∙ pages_taken change earlier c.args.pages rise (subst Rise is c.requires.rise) (sym c.is_some.ensures ∙ c.if-is_some.false) reach ∙ now
