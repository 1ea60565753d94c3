-- What the judges for skewed columns answer.
use Rattle.std.specs.Prelude.{ℕ, Bool, true, false, ◌+◌, ◌-◌, ◌*◌, ◌/◌, ◌^◌, ◌==◌, ◌&&◌, ◌||◌, max, min, nat_lt, nat_le, if◌then◌else◌}
use Rattle.rv_judge.specs.declared.judging.Facts.{Facts}
use Rattle.rv_judge.specs.declared.judging.Verdict.{Verdict}
use Rattle.rv_judge.specs.declared.judging.Verdict.TheVariants.{Continue, AbandonScan, AbandonForeground}
use Rattle.rv_judge.specs.declared.events.Control.{Control}
use Rattle.rv_judge.specs.declared.events.Control.TheVariants.{Building}
use Rattle.rv_judge.specs.Costs.{projection}

-- How many entries a range is likely to have. An estimate counts a node as its least filling, 16; nodes of a tree
-- that grew are fuller. Below 256 it counts leaves, from there on the nodes above them too.
abbrev pub likely_entries : ℕ → ℕ
likely_entries estimate = min (estimate + estimate / (if nat_lt estimate 256 then 4 else 2)) (2 ^ 64 - 1)

-- the projected cost of a scan, by the entries that its range is likely to have
abbrev pub likely_cost : Facts → ℕ
likely_cost facts = projection (max (likely_entries facts.estimate) facts.scanned) facts.scanned facts.kept

-- A scan is dear where its likely cost is 7 fourths of the guarantee or more; a scan behind the first one, where it is
-- the guarantee or more. A first list may yet be cut down by the next scan.
abbrev pub is_dear : Facts → Bool
is_dear facts =
    if facts.scan == 0 then nat_le (7 * facts.guaranteed) (4 * likely_cost facts) else
    nat_le facts.guaranteed (likely_cost facts)

-- Whether an estimate is that of a range over two neighbouring nodes, which may have far fewer entries: 256 for nodes
-- above the leaves, 4,096 and 65,536 for the levels above those.
abbrev pub may_be_few : ℕ → Bool
may_be_few estimate = estimate == 256 || estimate == 4096 || estimate == 65536

-- whether the foreground runs beside the scan
abbrev pub is_building : Control → Bool
is_building Building = true
is_building _ = false

-- How many leaves of a scan are read before the one by which it may be dropped as dear: a 64th of the guarantee and one
-- where the estimate may be far too high; else one, but none beside a foreground, which fetches what is listed
-- meanwhile.
abbrev pub leaves_granted : Facts → ℕ
leaves_granted facts =
    if may_be_few facts.estimate then 1 + facts.guaranteed / 64 else
    if is_building facts.control then 0 else 1

-- whether a scan is dropped: it is dear, and has read the leaves that it was granted
abbrev pub is_dropped : Facts → Bool
is_dropped facts = nat_lt (leaves_granted facts) facts.spent && is_dear facts

-- For all rows: a dear scan is dropped once it has read its leaves, and a foreground is stopped as soon as it is met.
abbrev pub all_rows : Facts → Verdict
all_rows facts =
    if is_dropped facts then AbandonScan else
    if is_building facts.control then AbandonForeground else Continue

-- whether a foreground was tried long enough: a row was given, more than 48 keys are listed, or a scan has ended
abbrev pub was_tried : Facts → Bool
was_tried facts = nat_lt 0 facts.delivered || nat_lt 48 facts.kept || nat_lt 0 facts.scan

-- For the first rows: beside a foreground a dear scan is dropped at once, and the foreground is stopped when it was
-- tried long enough. From then on it is as for all rows.
abbrev pub first_rows : Facts → Verdict
first_rows facts =
    if is_building facts.control then
    if is_dear facts then AbandonScan else
    if was_tried facts then AbandonForeground else Continue
    else all_rows facts
