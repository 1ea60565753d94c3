use Rattle.std.proofs.Common.{◌≡◌, ◌∙◌, ◌-◌, ap, sym, arith, true, false, ◌==◌, cond, Some, None}
use Rattle.std.proofs.lemmas.Bool.Decides.{nat_tests}
use Rattle.rv_rows.proofs.Cuts.{up_to_parted}
use Rattle.rv_view.proofs.Last.{last_at, last_none}
use Rattle.rv_view.proofs.sizing.last_of.Goals as goal

pub count-rank-requires : goal.count-rank-requires
count-rank-requires c = up_to_parted c.args.table c.args.written.now c.requires

pub returns-then-rank-eq0 : goal.returns-then-rank-eq0
returns-then-rank-eq0 c = sym (last_none c.args.table c.count-rank.result c.args.written.now c.count-rank.ensures.front c.if-rank-eq0.true)

pub returns-then-last-table : goal.returns-then-last-table
returns-then-last-table c =
    let own : (c.get-last.result.now.table == c.args.table) ≡ true = (let same = c.if-last-table.true in grind (arith, nat_tests)) in
    sym (last_at c.args.table c.count-rank.result c.args.written.now c.get-last.result.now c.requires c.count-rank.ensures.bound c.count-rank.ensures.front (omega (arith, c.if-rank-eq0.false)) c.get-last.ensures ∙ ap (λ b. cond b (Some c.get-last.result.now) None) own)

pub returns-else-last-table : goal.returns-else-last-table
returns-else-last-table c =
    let other : (c.get-last.result.now.table == c.args.table) ≡ false = (let apart = c.if-last-table.false in grind (arith, nat_tests)) in
    sym (last_at c.args.table c.count-rank.result c.args.written.now c.get-last.result.now c.requires c.count-rank.ensures.bound c.count-rank.ensures.front (omega (arith, c.if-rank-eq0.false)) c.get-last.ensures ∙ ap (λ b. cond b (Some c.get-last.result.now) None) other)
