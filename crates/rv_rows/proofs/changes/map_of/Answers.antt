use Rattle.std.proofs.Common.{List, Option, ap}
use Rattle.rv_value.specs.declared.value.Value.{Value}
use Rattle.rv_rows.specs.Changes.{change_at}
use Rattle.rv_rows.proofs.Forms.{mapped_more}
use Rattle.rv_rows.proofs.changes.map_of.Goals as goal

pub listed-preserved : goal.listed-preserved
listed-preserved c =
    let shared = ap (λ (v : Option (List Value)). change_at (record { table = c.change-item.result.table; row = c.change-item.result.row }, v)) c.in_ok-values.ensures in
    mapped_more c.args.listed.now c.listed.change-index c.change-item.result c.listed.all.entries c.insert.new.self.entries (record { table = c.change-item.result.table; row = c.change-item.result.row }) c.in_ok-values.values c.requires c.listed-test.true c.change-item.is shared c.in_ok-insert.ensures.entries c.listed.invariant
