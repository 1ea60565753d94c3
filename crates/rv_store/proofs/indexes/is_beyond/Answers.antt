use Rattle.std.proofs.Common.{◌≡◌, ◌<◌, ◌-◌, suc, length, arith}
use Rattle.rv_store.proofs.Owning.{high_none, low_none}
use Rattle.rv_store.proofs.indexes.is_beyond.Goals as goal

pub returns-then-table-changes : goal.returns-then-table-changes
returns-then-table-changes c told =
    let some = c.if-count-eq0.false in
    let there : 0 < length c.args.changes.now = omega (arith, some) in
    low_none c.args.table c.args.changes.now c.index-changes-0.result c.requires c.if-table-changes.true there

pub returns-else-table-changes : goal.returns-else-table-changes
returns-else-table-changes c told =
    let some = c.if-count-eq0.false in
    let end : suc (length c.args.changes.now - 1) ≡ length c.args.changes.now = omega (arith, some) in
    high_none c.args.table (length c.args.changes.now - 1) c.args.changes.now c.index-changes-last.result c.requires end told
