-- The bounds with which a cursor's plan begins, from what its opening makes of a counter at zero.
use Rattle.std.proofs.Common.{◌≡◌, ℕ, ◌+◌, ◌-◌, ◌≤◌, true, List, ap, arith, Result, Ok, Err, IfOk}
use Rattle.rv_judge.specs.Counting.{no_counts, reads, raised}
use Rattle.rv_judge.specs.declared.counting.Counts.{Counts}
use Rattle.rv_catalog.specs.declared.def.IndexDef.{IndexDef}
use Rattle.rv_catalog.specs.declared.def.Select.{Select}
use Rattle.rv_reader.specs.Shown.{Shown}
use Rattle.rv_access.specs.Accesses.{Settled, fetches_left, query_of}
use Rattle.rv_retrieval.specs.Short.{OnlyLeaves, has_short}
use Rattle.rv_judge.specs.Tracing.{CountsAll}
use Rattle.rv_join.specs.Alone.{plan_effort, plan_life}
use Rattle.rv_join.specs.Asking.{lives_of}
use Rattle.rv_join.specs.Plans.{Planned, plan_trace, plan_work}
use Rattle.rv_join.specs.Work.{row_cost}
use Rattle.rv_cursor.specs.declared.cursor.Open.{Open}
use Rattle.rv_core.specs.Obeying.{BeginsWithin}

-- a count that began at zero
no_more : (before after count : ℕ) → after ≡ before → count ≡ raised 0 (after - before) → count ≡ 0
no_more before after count same counted = omega (arith, same, counted)

at_most : (before after count : ℕ) → count ≡ raised 0 (after - before) → count ≤ after
at_most before after count counted = omega (arith, counted)

bounded : (shown : Shown) (s : Select) (indexes : List IndexDef) (snap : ℕ) (before after : Counts) (p : Planned) → before ≡ no_counts → OnlyLeaves before after → CountsAll (plan_trace p) before after
    → plan_work shown p ≤ row_cost (lives_of p.asked.only) shown snap p.asked.items
    → reads after + plan_effort shown p ≤ reads before + plan_life s indexes shown snap p
    → (has_short (query_of p.stack.at.here) shown ≡ true → Settled p.stack.at.here × (fetches_left p.stack.at.here shown ≤ 20))
    → BeginsWithin shown s indexes snap p
bounded shown s indexes snap before after p fresh only counted work life short =
    let pages = no_more before.pages after.pages p.reads.pages only.pages counted.pages in
    let records = no_more before.records after.records p.reads.records only.records counted.fetches in
    let leaves = at_most before.leaves after.leaves p.reads.leaves counted.leaves in
    let none : reads before ≡ 0 = ap reads fresh in
    record { work = work; life = omega (arith, pages, records, leaves, none, life); pages = pages; records = records; short = short }

pub opens_bounded : {E : Type 0} (r : Result Open E) (shown : Shown) (s : Select) (indexes : List IndexDef) (snap : ℕ) (before after : Counts) → before ≡ no_counts → OnlyLeaves before after
    → IfOk r (λ c. CountsAll (plan_trace c.plan) before after)
    → IfOk r (λ c. plan_work shown c.plan ≤ row_cost (lives_of c.plan.asked.only) shown snap c.plan.asked.items)
    → IfOk r (λ c. reads after + plan_effort shown c.plan ≤ reads before + plan_life s indexes shown snap c.plan)
    → IfOk r (λ c. has_short (query_of c.plan.stack.at.here) shown ≡ true → Settled c.plan.stack.at.here × (fetches_left c.plan.stack.at.here shown ≤ 20))
    → IfOk r (λ c. BeginsWithin shown s indexes snap c.plan)
opens_bounded (Err e) shown s indexes snap before after fresh only counted work life short = tt
opens_bounded (Ok c) shown s indexes snap before after fresh only counted work life short = bounded shown s indexes snap before after c.plan fresh only counted work life short
