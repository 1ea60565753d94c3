use Rattle.std.proofs.Common.{arith}
use Rattle.rv_rows.specs.Changes.{change_at}
use Rattle.rv_rows.proofs.Merges.{ascend_above, passes_put}
use Rattle.rv_txn.specs.Changing.{kept_change}
use Rattle.rv_txn.proofs.changing.lay_one.Goals as goal

pub returns-clause-ascend : goal.returns-clause-ascend
returns-clause-ascend c = ascend_above c.args.key.now.row.0 c.args.rows.now c.in_ok-rest.rest.now c.requires.ascend c.in_ok-rest.ensures.left

pub returns-clause-passes : goal.returns-clause-passes
returns-clause-passes c =
    let put = rw c.kept_values.ensures at c.in_ok-rest.ensures.put in
    passes_put c.args.table (kept_change c.args.only.now (change_at (c.args.key.now, c.args.values.now))) c.args.all.now.items c.args.rows.now c.put_row.new.new.items c.in_ok-rest.rest.now c.requires.ascend (omega arith) put c.in_ok-rest.ensures.left
