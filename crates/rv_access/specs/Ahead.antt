-- HOW MANY LEAVES AN ACCESS MAY STILL READ where members are put together. Of a retrieval and of a race nothing is said
-- here.
use Rattle.std.specs.Prelude.{◌≡◌, ℕ, Bool, true, false}
use Rattle.rv_judge.specs.declared.counting.Counts.{Counts}
use Rattle.rv_reader.specs.Shown.{Shown}
use Rattle.rv_union.specs.Leaves.{LeavesFall, leaves_left, planned_leaves}
use Rattle.rv_access.specs.declared.access.Access.{Access}
use Rattle.rv_access.specs.declared.access.Access.TheVariants.{Competing, Racing, Uniting}
use Rattle.rv_access.specs.Accesses.{planned_of, query_of}

-- whether members are put together
abbrev pub is_union : Access → Bool
is_union (Competing v) = false
is_union (Racing r) = false
is_union (Uniting u) = true

abbrev pub leaves_ahead : Access → Shown → ℕ
leaves_ahead (Competing v) shown = 0
leaves_ahead (Racing r) shown = 0
leaves_ahead (Uniting u) shown = leaves_left u.value.union shown

-- WHERE IT BEGINS they are the leaves that may hold the members' ranges
abbrev pub AllAhead : Shown → Access → Type 0
AllAhead shown v = is_union v ≡ true → leaves_ahead v shown ≡ planned_leaves (planned_of v) shown (query_of v).snap

-- THE LEAVES THAT A CALL READS are no longer ahead
abbrev pub LeavesNear : Shown → Counts → Counts → Access → Access → Type 0
LeavesNear shown before after old new =
    is_union old ≡ true → LeavesFall before after (leaves_ahead old shown) (leaves_ahead new shown)
