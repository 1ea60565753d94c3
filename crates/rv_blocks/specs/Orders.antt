-- The order of changes, by which they are kept in blocks.
use Rattle.std.specs.Ordering.{nat_cmp, then_cmp, on}
use Rattle.std.specs.Cmp.{IsTotalOrder, nat_cmp_total, on_total, then_total}
use Rattle.std.specs.declared.cmp.Ordering.{Ordering}
use Rattle.rv_rows.specs.declared.changes.Change.{Change}

-- by table, then by row
abbrev pub change_cmp : Change → Change → Ordering
change_cmp = then_cmp (on (λ (c : Change). c.table) nat_cmp) (on (λ (c : Change). c.row.0) nat_cmp)

pub change_cmp_total : IsTotalOrder change_cmp
change_cmp_total =
    then_total (on_total (λ (c : Change). c.table) nat_cmp_total) (on_total (λ (c : Change). c.row.0) nat_cmp_total)
