-- HOW MUCH A PLAN OVER ONE FROM ITEM READS UNDER JUDGES THAT ARE BOUNDED where its indexes race, or members are put
-- together, and a cursor with such a plan.
use Rattle.std.specs.Prelude.{ℕ, ◌+◌, ◌*◌, ◌^◌, ◌<◌, ◌≤◌, List, length, Box}
use Rattle.std.specs.declared.alloc.Global.{Global}
use Rattle.rv_reader.specs.Shown.{Shown}
use Rattle.rv_access.specs.declared.access.Access.TheVariants.{Racing, Uniting}
use Rattle.rv_access.specs.declared.racing.RacedQuery.{RacedQuery}
use Rattle.rv_access.specs.declared.uniting.UnitedQuery.{UnitedQuery}
use Rattle.rv_join.specs.Plans.{Planned, plan_trace}
use Rattle.rv_cursor.specs.Left.{seen_by}
use Rattle.rv_core.specs.Short.{Held}
use Rattle.rv_bounded.specs.Bounds.{reads_told}
use Rattle.rv_bounded.specs.Cursors.{CallsSpend, CursorCall}
use Rattle.rv_bounded.specs.Plans.{PlanBegins, PlanCall, PlanSpendsAll}

-- the pages of the table of a race, as it is seen
abbrev pub raced_pages : Shown → RacedQuery → ℕ
raced_pages shown r = shown.pages r.query.table r.query.snap

-- and of a union
abbrev pub united_pages : Shown → UnitedQuery → ℕ
united_pages shown u = shown.pages u.query.table u.query.snap

-- LAW: a plan over one FROM item whose indexes race never reads more than twice the table's pages, two leaves for each
-- planned scan and 48 records, but for one for each call for which no memory was found; whatever calls come, in
-- whatever order, under whatever judges that are bounded
abbrev pub RacedPlansAreBounded : Type 0
RacedPlansAreBounded =
    (shown : Shown) (calls : List PlanCall) (lost : ℕ) (opened now : Planned) (r : Box RacedQuery Global)
    → PlanBegins shown opened (Racing r) → raced_pages shown r.value < 2 ^ 63
    → PlanSpendsAll calls shown lost opened now
    → reads_told (plan_trace now) ≤ 2 * raced_pages shown r.value + 2 * length r.value.race.plans + 48 + lost

-- LAW: and one whose members are put together, of which there are at most 2 ^ 32, no more than twice the table's pages
-- and for each member two leaves and 48 records
abbrev pub UnitedPlansAreBounded : Type 0
UnitedPlansAreBounded =
    (shown : Shown) (calls : List PlanCall) (lost : ℕ) (opened now : Planned) (u : Box UnitedQuery Global)
    → PlanBegins shown opened (Uniting u) → length u.value.union.plans ≤ 2 ^ 32 → united_pages shown u.value < 2 ^ 63
    → PlanSpendsAll calls shown lost opened now
    → reads_told (plan_trace now) ≤ 2 * united_pages shown u.value + 50 * length u.value.union.plans + lost

-- LAW: so do cursors with such plans, whatever calls of the core come, each under a judge of its own
abbrev pub RacedCursorsAreBounded : Type 0
RacedCursorsAreBounded =
    (calls : List CursorCall) (lost : ℕ) (opened now : Held) (r : Box RacedQuery Global)
    → PlanBegins (seen_by opened.store opened.cursor) opened.cursor.plan (Racing r)
    → raced_pages (seen_by opened.store opened.cursor) r.value < 2 ^ 63 → CallsSpend calls lost opened now
    → reads_told (plan_trace now.cursor.plan)
    ≤ 2 * raced_pages (seen_by opened.store opened.cursor) r.value + 2 * length r.value.race.plans + 48 + lost

abbrev pub UnitedCursorsAreBounded : Type 0
UnitedCursorsAreBounded =
    (calls : List CursorCall) (lost : ℕ) (opened now : Held) (u : Box UnitedQuery Global)
    → PlanBegins (seen_by opened.store opened.cursor) opened.cursor.plan (Uniting u)
    → length u.value.union.plans ≤ 2 ^ 32 → united_pages (seen_by opened.store opened.cursor) u.value < 2 ^ 63
    → CallsSpend calls lost opened now
    → reads_told (plan_trace now.cursor.plan)
    ≤ 2 * united_pages (seen_by opened.store opened.cursor) u.value + 50 * length u.value.union.plans + lost
