-- A plan over one FROM item: what its one retrieval does, and what the first item's retrieval keeps.
use Rattle.std.proofs.Common.{Bool, ◌&&◌, ◌≡◌, ℕ, ◌+◌, ◌*◌, ◌-◌, ◌^◌, ◌<◌, ◌≤◌, List, [], ◌∷◌, ◌++◌, length, true, false, Option, Some, None, is_some, refl, ap, sym, ◌∙◌, arith, subst, inl, inr, zero, suc, slice_index_or, slice_set, Result, Ok, Err, IfOk, OnOk, OnErr, mul-le-mul_right, le_trans, le-add_right, le_refl}
use Rattle.rv_value.specs.declared.value.Value.{Value}
use Rattle.rv_judge.specs.Counting.{reads, raised}
use Rattle.rv_judge.specs.declared.counting.Counts.{Counts}
use Rattle.rv_judge.specs.declared.judging.Facts.{Facts}
use Rattle.rv_judge.specs.Verdicts.{Ruling}
use Rattle.rv_judge.specs.Account.{life_bound}
use Rattle.rv_restrict.specs.declared.atom.Atom.{Atom}
use Rattle.rv_restrict.specs.Branches.{widths}
use Rattle.rv_restrict.proofs.Widths.{bound_widths}
use Rattle.rv_reader.specs.Shown.{Shown}
use Rattle.rv_jscan.specs.declared.jscan.Given.{Given}
use Rattle.rv_jscan.specs.declared.jscan.Given.TheVariants.{Accepted, Stale}
use Rattle.rv_reader.specs.declared.step.Step.{Step}
use Rattle.rv_value.specs.declared.record.Record.{Record}
use Rattle.rv_retrieval.specs.Effort.{GiveSpends, cuts_and_entries, life_of as retrieval_life}
use Rattle.rv_retrieval.specs.Short.{has_short}
use Rattle.rv_final.specs.Work.{Tries}
use Rattle.rv_judge.specs.Tracing.{CountsAll}
use Rattle.rv_access.specs.declared.access.Access.{Access}
use Rattle.rv_access.specs.declared.access.Access.TheVariants.{Competing, Racing, Uniting}
use Rattle.rv_access.specs.Accesses.{SamePlans, Settled, effort, fetches_left, query_of, trace_of}
use Rattle.rv_access.proofs.Lives.{lives_less}
use Rattle.rv_access.specs.Given.{TakesLeaf}
use Rattle.rv_access.specs.Opened.{Begins, IsShort, Opened, OpenedBy, is_table, life_of, lives, races, unites}
use Rattle.rv_access.specs.Stepping.{MayReadIts, OnlyTakes, SameCourse, SettledTake, StepsAs}
use Rattle.rv_access.proofs.Accesses.{course_plans, plans_stay, steps_plans}
use Rattle.rv_access.proofs.Chosen.{chosen_apart, no_union, raced_strategy}
use Rattle.rv_access.proofs.Counting.{OneUp, may_up, same_up}
use Rattle.rv_reader.specs.declared.step.Step.TheVariants.{Row, Working, End}
use Rattle.rv_join.specs.declared.level.Level.{Level}
use Rattle.rv_join.specs.Alone.{CallsOnce, Fetches, FewFetches, FgCalls, IsAlone, LevelSpends, MovedSpends, PlanSpends, Spends, StepsOnce, TakesOnce, level_effort}
use Rattle.rv_catalog.specs.declared.def.IndexDef.{IndexDef}
use Rattle.rv_catalog.specs.declared.def.Select.{Select}
use Rattle.rv_model.specs.declared.state.Offer.{Offer}
use Rattle.rv_choice.specs.declared.query.Query.{Query}
use Rattle.rv_choice.specs.declared.choosing.Choice.{Choice}
use Rattle.rv_choice.specs.Choice.{IsChosen, candidates_of}
use Rattle.rv_judge.specs.declared.events.Strategy.TheVariants.{BackgroundOnly}
use Rattle.rv_join.specs.declared.places.Asked.{Asked}
use Rattle.rv_join.specs.Asking.{Asks, IsAsked, indexes_from, table_at}
use Rattle.rv_join.specs.Levels.{StackFits, Stacked, down, first_in, first_of, used}
use Rattle.rv_join.specs.Plans.{Gives, Planned, reads_with}
use Rattle.rv_join.specs.Rules.{IsByRules, StandsBy}
use Rattle.rv_join.specs.Work.{held_rows}
use Rattle.rv_join.proofs.Accounting.{alone_above}

-- Strategy and planned scans.

fg_plans : (fg : Option (Step Record)) (would : ℕ → Facts → Ruling) (state after : ℕ) (shown : Shown) (c d : Counts) (old new : Access) → FgCalls fg would state after shown c d old new → SamePlans old new
fg_plans (Some fg) would state after shown c d old new calls = steps_plans would state after shown c d fg old new calls.does
fg_plans None would state after shown c d old new calls = course_plans old new (calls.wants refl).1

-- the retrieval of a level made a step, or none
pub once_plans : (would : ℕ → Facts → Ruling) (state after : ℕ) (shown : Shown) (c d : Counts) (old new : Access) → CallsOnce would state after shown c d old new → SamePlans old new
once_plans would state after shown c d old new calls = elim calls [
  | inl call ↦ fg_plans call.0 would state after shown c d old new call.1
  | inr still ↦ subst (SamePlans old) (sym still.0) (plans_stay old)
]

-- The calls of a level's retrieval.

never_none : {A X : Type 0} (x : A) → Some x ≡ None → X
never_none x e = absurd (cc)

pub ok_calls : (would : ℕ → Facts → Ruling) (state after : ℕ) (shown : Shown) (c d : Counts) (fg : Step Record) (old new : Access) → StepsAs would state after shown c d fg old new → MayReadIts old c d → (Settled old → Settled new) → (Settled old → after ≡ state) → (Settled old → d.pages ≡ c.pages) → (Settled old → d.records + fetches_left new shown ≤ c.records + fetches_left old shown) → CallsOnce would state after shown c d old new
ok_calls would state after shown c d fg old new does reads settled unasked pages records = inl (
  Some fg,
  record {
    does = does;
    wants = λ e. never_none fg e;
    may_read = reads;
    settled = λ s. (settled s, unasked s, pages s);
    records = records;
    fewer = λ e. never_none fg e;
  },
)

pub err_calls : (would : ℕ → Facts → Ruling) (state after : ℕ) (shown : Shown) (c d : Counts) (old new : Access) → after ≡ state → SameCourse old new → OnlyTakes old new → MayReadIts old c d → fetches_left new shown ≤ fetches_left old shown → (Settled old → Settled new) → (Settled old → d.pages ≡ c.pages) → CallsOnce would state after shown c d old new
err_calls would state after shown c d old new quiet course takes reads fewer settled pages = inl (
  None,
  record {
    does = tt;
    wants = λ e. (quiet, course, takes);
    may_read = reads;
    settled = λ s. (settled s, quiet, pages s);
    records = λ s. tt;
    fewer = λ e. fewer;
  },
)

-- nothing was called
pub no_call : (would : ℕ → Facts → Ruling) (state : ℕ) (shown : Shown) (c : Counts) (l : Level) → StepsOnce would state state shown c c l l
no_call would state shown c l = record { calls = inr (refl, refl, refl); tries = record { once = omega arith; less = omega arith } }

less_held : (e f k : ℕ) → e < f → e + k < f + k
less_held e f k h = omega (arith, h)

pub held_tries : (c d : Counts) (e f : ℕ) (row now : Option (List Value)) → now ≡ row → Tries c d f e → Tries c d (f + held_rows row) (e + held_rows now)
held_tries c d e f row now same tries = let less = tries.less in rw same (record { once = tries.once; less = omega (arith, less) })

-- a row was found, and is held
pub row_tries : (c d : Counts) (e f : ℕ) (row : Option (List Value)) → row ≡ None → Tries c d f e → e < f → Tries c d (f + held_rows row) (e + 1)
row_tries c d e f row none tries less = rw none (record { once = tries.once; less = omega (arith, less) })

pub row_spends : (c d : Counts) (e f : ℕ) (row : Option (List Value)) → row ≡ None → Spends c d f e → e < f → Spends c d (f + held_rows row) e × (e < f + held_rows row)
row_spends c d e f row none spends less = rw none (omega (arith, spends), omega (arith, less))

pub worked_spends : (c d : Counts) (e f : ℕ) (row : Option (List Value)) → Spends c d f e → e < f → Spends c d (f + held_rows row) (e + held_rows row) × (e + held_rows row < f + held_rows row)
worked_spends c d e f row spends less = (omega (arith, spends), omega (arith, less))

pub ended_spends : (c d : Counts) (e f : ℕ) (row : Option (List Value)) → Spends c d f e → e ≤ f → Spends c d (f + held_rows row) (e + held_rows row) × (e + held_rows row ≤ f + held_rows row)
ended_spends c d e f row spends less = (omega (arith, spends), omega (arith, less))

-- a row that was held is used
pub held_spends : (c : Counts) (e : ℕ) (row : Option (List Value)) → is_some row ≡ true → Spends c c (e + held_rows row) e × (e < e + held_rows row)
held_spends c e None some = absurd (cc)
held_spends c e (Some row) some = (omega arith, omega arith)

-- Steps of the nested loops.

-- the row is dropped, whatever the step is then called
pub used_spends : (shown : Shown) (m : Step Offer) (c d : Counts) (o : ℕ) (v : Stacked) → Spends c d o (effort v.at.here shown) → effort v.at.here shown < o → MovedSpends m c d o (level_effort shown (used v).at)
used_spends shown (Row offer) c d o v spends less = (omega (arith, spends), omega (arith, less))
used_spends shown End c d o v spends less = (omega (arith, spends), omega (arith, less))
used_spends shown Working c d o v spends less = (omega (arith, spends), omega (arith, less))

pub used_once : (would : ℕ → Facts → Ruling) (state after : ℕ) (shown : Shown) (c d : Counts) (old : Level) (v : Stacked) → StepsOnce would state after shown c d old v.at → StepsOnce would state after shown c d old (used v).at
used_once would state after shown c d old v once = let tries = once.tries in let less = tries.less in record { calls = once.calls; tries = record { once = tries.once; less = omega (arith, less) } }

moved_one : (m : Step Offer) (c d : Counts) (old new : ℕ) → MovedSpends m c d old new → PlanSpends m c d old new
moved_one (Row o) c d old new spends = let less = spends.1 in (spends.0, omega (arith, less))
moved_one End c d old new spends = spends
moved_one Working c d old new spends = spends

pub moved_spends : {E : Type 0} (r : Result (Step Offer) E) (c d : Counts) (old new : ℕ) → IfOk r (λ m. MovedSpends m c d old new) → IfOk r (λ m. PlanSpends m c d old new)
moved_spends (Ok m) c d old new spends = moved_one m c d old new spends
moved_spends (Err e) c d old new spends = tt

-- A look for a level's next row: it failed, it came to no row, and it found one.

pub catch_err : (would : ℕ → Facts → Ruling) (state after : ℕ) (shown : Shown) (c d : Counts) (old : Level) (new : Access) → after ≡ state → SameCourse old.here new → OnlyTakes old.here new → MayReadIts old.here c d → fetches_left new shown ≤ fetches_left old.here shown → (Settled old.here → Settled new) → (Settled old.here → d.pages ≡ c.pages) → Tries c d (effort old.here shown) (effort new shown) → StepsOnce would state after shown c d old (record old { here = new })
catch_err would state after shown c d old new quiet course takes reads fewer settled pages tries = record { calls = err_calls would state after shown c d old.here new quiet course takes reads fewer settled pages; tries = held_tries c d (effort new shown) (effort old.here shown) old.row old.row refl tries }

pub catch_none : (would : ℕ → Facts → Ruling) (state after : ℕ) (shown : Shown) (c d : Counts) (fg : Step Record) (old : Level) (new : Access) → StepsAs would state after shown c d fg old.here new → MayReadIts old.here c d → (Settled old.here → Settled new) → (Settled old.here → after ≡ state) → (Settled old.here → d.pages ≡ c.pages) → (Settled old.here → d.records + fetches_left new shown ≤ c.records + fetches_left old.here shown) → Tries c d (effort old.here shown) (effort new shown) → StepsOnce would state after shown c d old (record old { here = new })
catch_none would state after shown c d fg old new does reads settled unasked pages records tries = record { calls = ok_calls would state after shown c d fg old.here new does reads settled unasked pages records; tries = held_tries c d (effort new shown) (effort old.here shown) old.row old.row refl tries }

pub catch_row : (would : ℕ → Facts → Ruling) (state after : ℕ) (shown : Shown) (c d : Counts) (fg : Step Record) (old : Level) (new : Access) (values : List Value) → old.row ≡ None → StepsAs would state after shown c d fg old.here new → MayReadIts old.here c d → (Settled old.here → Settled new) → (Settled old.here → after ≡ state) → (Settled old.here → d.pages ≡ c.pages) → (Settled old.here → d.records + fetches_left new shown ≤ c.records + fetches_left old.here shown) → Tries c d (effort old.here shown) (effort new shown) → effort new shown < effort old.here shown → StepsOnce would state after shown c d old (record { outer = old.outer; row = Some values; here = new })
catch_row would state after shown c d fg old new values none does reads settled unasked pages records tries less = record { calls = ok_calls would state after shown c d fg old.here new does reads settled unasked pages records; tries = row_tries c d (effort new shown) (effort old.here shown) old.row none tries less }

-- Open levels.

pub alone_ended : (a : Asked) (shown : Shown) (old mid new : Stacked) → StackFits a shown old → mid ≡ record old { at = mid.at } → (mid.above ≡ [] → new ≡ mid) → length a.items ≡ 1 → new ≡ mid
alone_ended a shown old mid new fits same ends one = ends (ap (λ (v : Stacked). v.above) same ∙ alone_above a shown old fits one)

pub alone_none : (a : Asked) (shown : Shown) (old mid : Stacked) → StackFits a shown old → mid ≡ record old { at = mid.at } → length a.items ≡ 1 → mid.above ≡ []
alone_none a shown old mid fits same one = ap (λ (v : Stacked). v.above) same ∙ alone_above a shown old fits one

pub done_spends : (m : Step Offer) (c d : Counts) (old new : ℕ) → m ≡ End → Spends c d old new × (new ≤ old) → MovedSpends m c d old new
done_spends m c d old new done spends = rw done spends

pub uses_once : {E : Type 0} (r : Result (Step Offer) E) (would : ℕ → Facts → Ruling) (state after : ℕ) (shown : Shown) (c d end : Counts) (old : Level) (mid new : Stacked) → OnOk r (new ≡ used mid) → OnErr r (new ≡ mid) → end ≡ d → StepsOnce would state after shown c d old mid.at → StepsOnce would state after shown c end old new.at
uses_once (Ok m) would state after shown c d end old mid new uses err same once = rw (uses, same) (used_once would state after shown c d old mid once)
uses_once (Err e) would state after shown c d end old mid new uses err same once = rw (err, same) once

pub uses_spends : {E : Type 0} (r : Result (Step Offer) E) (shown : Shown) (c d end : Counts) (old : Level) (mid new : Stacked) → OnOk r (new ≡ used mid) → end ≡ d → LevelSpends shown (Row tt) c d old mid.at → IfOk r (λ m. MovedSpends m c end (level_effort shown old) (level_effort shown new.at))
uses_spends (Ok m) shown c d end old mid new uses same spends = rw (uses, same) (used_spends shown m c d (level_effort shown old) mid spends.0 spends.1)
uses_spends (Err e) shown c d end old mid new uses same spends = tt

pub first_plans : (old new : Stacked) → new ≡ record old { at = new.at } → SamePlans old.at.here new.at.here → SamePlans (first_of old).here (first_of new).here
first_plans old new same plans = subst (λ (ls : List Level). SamePlans (first_of old).here (first_in ls new.at).here) (sym (ap (λ (v : Stacked). v.above) same)) (by_above old.above)
  where
    by_above : (ls : List Level) → SamePlans (first_in ls old.at).here (first_in ls new.at).here
    by_above [] = plans
    by_above (l ∷ ls) = plans_stay l.here

pub climbed_first : (old new : List Level) (at left : Level) → old ≡ new ++ at ∷ [] → first_in new at ≡ first_in old left
climbed_first old [] at left is = rw is refl
climbed_first old (l ∷ ls) at left is = rw is refl

pub down_first : (v : Stacked) (inner : Level) → (first_of (down v inner)).here ≡ (first_of v).here
down_first v inner = by_above v.above
  where
    by_above : (ls : List Level) → (first_in (ls ++ (record v.at { row = None }) ∷ []) inner).here ≡ (first_in ls v.at).here
    by_above [] = refl
    by_above (l ∷ ls) = refl

pub list_plans : (ls : List Level) (i : ℕ) (old new : Level) → i < length ls → old ≡ slice_index_or ls i old → SamePlans old.here new.here → (d : Level) → SamePlans (first_in ls d).here (first_in (slice_set ls i new) d).here
list_plans [] i old new le is plans d = absurd (omega (arith, le))
list_plans (l ∷ ls) zero old new le is plans d = subst (λ (x : Level). SamePlans x.here new.here) is plans
list_plans (l ∷ ls) (suc i) old new le is plans d = plans_stay l.here

-- What a step may fetch where the background is over.

-- nothing was fetched
pub no_fetch : (shown : Shown) (c : Counts) (v : Access) → Fetches shown c c v v
no_fetch shown c v = record { records = λ s. le_refl (c.records + fetches_left v shown) }

pub fetches_same : (shown : Shown) (c : Counts) (old new : Planned) → new ≡ record old { gathered = new.gathered } → Fetches shown c c old.stack.at.here new.stack.at.here
fetches_same shown c old new same = subst (λ (v : Stacked). Fetches shown c c old.stack.at.here v.at.here) (sym (ap (λ (p : Planned). p.stack) same)) (no_fetch shown c old.stack.at.here)

-- the row that was found is used
pub uses_fetches : {E : Type 0} (r : Result (Step Offer) E) (shown : Shown) (c d end : Counts) (old : Access) (mid new : Stacked) → OnOk r (new ≡ used mid) → end ≡ d → Fetches shown c d old mid.at.here → OnOk r (Fetches shown c end old new.at.here)
uses_fetches (Ok m) shown c d end old mid new uses same fetches = rw (uses, same) fetches
uses_fetches (Err e) shown c d end old mid new uses same fetches = tt

calls_up : (would : ℕ → Facts → Ruling) (state after : ℕ) (shown : Shown) (c d : Counts) (old new : Access) → c.records < 2 ^ 64 → CallsOnce would state after shown c d old new → OneUp c d
calls_up would state after shown c d old new within calls = elim calls [
  | inl call ↦ may_up old c d within call.1.may_read
  | inr still ↦ same_up c d (ap (λ (k : Counts). k.records) still.1)
]

calls_settled : (would : ℕ → Facts → Ruling) (state after : ℕ) (shown : Shown) (c d : Counts) (old new : Access) → CallsOnce would state after shown c d old new → Settled old → Settled new
calls_settled would state after shown c d old new calls s = elim calls [
  | inl call ↦ (call.1.settled s).0
  | inr still ↦ subst Settled (sym still.0) s
]

fewer_kept : (c d left were : ℕ) → d + left ≤ c + were → d + left ≤ c + were + 1
fewer_kept c d left were kept = omega (arith, kept)

fewer_read : (c d left were : ℕ) → d ≤ c + 1 → left ≤ were → d + left ≤ c + were + 1
fewer_read c d left were most fewer = omega (arith, most, fewer)

fg_fewer : (fg : Option (Step Record)) (would : ℕ → Facts → Ruling) (state after : ℕ) (shown : Shown) (c d : Counts) (old new : Access) → d.records ≤ c.records + 1 → FgCalls fg would state after shown c d old new → Settled old → d.records + fetches_left new shown ≤ c.records + fetches_left old shown + 1
fg_fewer (Some fg) would state after shown c d old new most calls s = fewer_kept c.records d.records (fetches_left new shown) (fetches_left old shown) (calls.records s)
fg_fewer None would state after shown c d old new most calls s = fewer_read c.records d.records (fetches_left new shown) (fetches_left old shown) most (calls.fewer refl)

calls_fewer : (would : ℕ → Facts → Ruling) (state after : ℕ) (shown : Shown) (c d : Counts) (old new : Access) → d.records ≤ c.records + 1 → CallsOnce would state after shown c d old new → Settled old → d.records + fetches_left new shown ≤ c.records + fetches_left old shown + 1
calls_fewer would state after shown c d old new most calls s = elim calls [
  | inl call ↦ fg_fewer call.0 would state after shown c d old new most call.1 s
  | inr still ↦ rw still.0 (fewer_read c.records d.records (fetches_left old shown) (fetches_left old shown) most (le_refl (fetches_left old shown)))
]

-- the plan counts what was read
sum_few : (c d had has left were n : ℕ) → has ≡ had → c ≤ d → d + left ≤ c + were + n → raised has (d - c) + left ≤ had + were + n
sum_few c d had has left were n same up few = omega (arith, same, up, few)

counted_few : (n : ℕ) (shown : Shown) (c d : Counts) (old mid new : Planned) → mid.reads ≡ old.reads → new ≡ record mid { reads = reads_with mid.reads c d } → c.records ≤ d.records → (Settled old.stack.at.here → Settled mid.stack.at.here) → (Settled old.stack.at.here → d.records + fetches_left mid.stack.at.here shown ≤ c.records + fetches_left old.stack.at.here shown + n) → FewFetches n shown old new
counted_few n shown c d old mid new reads same up settled few = rw same (record {
  settled = settled;
  few = λ s. sum_few c.records d.records old.reads.records mid.reads.records (fetches_left mid.stack.at.here shown) (fetches_left old.stack.at.here shown) n (ap (λ (k : Counts). k.records) reads) up (few s);
})

counted_as : (mid new : Planned) (c d before after : Counts) → before ≡ c → after ≡ d → new ≡ record mid { reads = reads_with mid.reads before after } → new ≡ record mid { reads = reads_with mid.reads c d }
counted_as mid new c d before after b a same = rw (b, a) at same

-- an answered step
pub few_ok : {E : Type 0} (r : Result (Step Offer) E) (would : ℕ → Facts → Ruling) (state after : ℕ) (shown : Shown) (c d before behind : Counts) (old mid new : Planned) → before ≡ c → behind ≡ d → before.records < 2 ^ 64 → mid.reads ≡ old.reads → new ≡ record mid { reads = reads_with mid.reads before behind } → (IsAlone old → StepsOnce would state after shown c d old.stack.at mid.stack.at) → (IsAlone old → OnOk r (Fetches shown c d old.stack.at.here mid.stack.at.here)) → IsAlone old → OnOk r (FewFetches 0 shown old new)
few_ok (Ok m) would state after shown c d before behind old mid new b e within reads same once fetches one =
    let calls = (once one).calls in
    let up = calls_up would state after shown c d old.stack.at.here mid.stack.at.here (subst (λ (k : Counts). k.records < 2 ^ 64) b within) calls in
    counted_few 0 shown c d old mid new reads (counted_as mid new c d before behind b e same) up.0 (calls_settled would state after shown c d old.stack.at.here mid.stack.at.here calls) (λ s. le_trans ((fetches one).records s) (le-add_right _ 0))
few_ok (Err x) would state after shown c d before behind old mid new b e within reads same once fetches one = tt

-- a step, whatever it answers
pub few_lost : (would : ℕ → Facts → Ruling) (state after : ℕ) (shown : Shown) (c d before behind : Counts) (old mid new : Planned) → before ≡ c → behind ≡ d → before.records < 2 ^ 64 → mid.reads ≡ old.reads → new ≡ record mid { reads = reads_with mid.reads before behind } → (IsAlone old → StepsOnce would state after shown c d old.stack.at mid.stack.at) → IsAlone old → FewFetches 1 shown old new
few_lost would state after shown c d before behind old mid new b e within reads same once one =
    let calls = (once one).calls in
    let up = calls_up would state after shown c d old.stack.at.here mid.stack.at.here (subst (λ (k : Counts). k.records < 2 ^ 64) b within) calls in
    counted_few 1 shown c d old mid new reads (counted_as mid new c d before behind b e same) up.0 (calls_settled would state after shown c d old.stack.at.here mid.stack.at.here calls) (calls_fewer would state after shown c d old.stack.at.here mid.stack.at.here up.1 calls)

-- Takes and gives over one FROM item.

pub taken_once : (shown : Shown) (c d : Counts) (old : Level) (new : Access) → Tries c d (effort old.here shown) (effort new shown) → (Settled old.here → SettledTake shown c d old.here new) → TakesLeaf old.here new → TakesOnce shown c d old (record old { here = new })
taken_once shown c d old new tries settled leaf = record {
  leaf = inr leaf;
  tries = held_tries c d (effort new shown) (effort old.here shown) old.row old.row refl tries;
  settled = λ s. ((settled s).settled, (settled s).unread, (settled s).same);
}

pub taken_spends : {T E : Type 0} (r : Result T E) (shown : Shown) (c d : Counts) (old : Level) (new : Access) → IfOk r (λ t. reads d + effort new shown ≤ reads c + effort old.here shown) → IfOk r (λ t. Spends c d (level_effort shown old) (level_effort shown (record old { here = new })))
taken_spends (Ok t) shown c d old new spends = let s = spends in omega (arith, s)
taken_spends (Err e) shown c d old new spends = tt

pub none_above : {X : Type 0} (i : ℕ) (ls : List Level) → i < length ls → ls ≡ [] → X
none_above i ls le none = let e = ap length none in absurd (omega (arith, le, e))

pub still_once : (shown : Shown) (c : Counts) (l : Level) → TakesOnce shown c c l l
still_once shown c l = record { leaf = inl refl; tries = record { once = omega arith; less = omega arith }; settled = λ s. (s, refl, refl) }

pub given_less : {E : Type 0} (r : Result Given E) (shown : Shown) (old : Level) (new : Access) → IfOk r (λ g. GiveSpends g (effort old.here shown) (effort new shown)) → IfOk r (λ g. GiveSpends g (level_effort shown old) (level_effort shown (record old { here = new })))
given_less (Ok Accepted) shown old new less = let l = less in omega (arith, l)
given_less (Ok (Stale asked now)) shown old new same = ap (λ (n : ℕ). n + held_rows old.row) same
given_less (Err e) shown old new less = tt

-- Plans.

one_given : (m : Step Offer) (had has : List Offer) → Gives m had has → (c : Counts) (n : ℕ) → PlanSpends m c c n n
one_given (Row o) had has gives c n = (omega arith, omega arith)
one_given End had has gives c n = (omega arith, omega arith)
one_given Working had has gives c n = absurd (cc)

pub given_spends : {E : Type 0} (r : Result (Step Offer) E) (had has : List Offer) → IfOk r (λ m. Gives m had has) → (c : Counts) (n : ℕ) → IfOk r (λ m. PlanSpends m c c n n)
given_spends (Ok m) had has gives c n = one_given m had has gives c n
given_spends (Err e) had has gives c n = tt

-- all are gathered, and the first is given
one_spends : (m : Step Offer) (had has : List Offer) (c d : Counts) (old new : ℕ) → Gives m had has → Spends c d old new × (new ≤ old) → PlanSpends m c d old new
one_spends (Row o) had has c d old new gives spends = spends
one_spends End had has c d old new gives spends = spends
one_spends Working had has c d old new gives spends = absurd (cc)

pub all_spends : {E : Type 0} (r : Result (Step Offer) E) (had has : List Offer) (c d : Counts) (old new : ℕ) → IfOk r (λ m. Gives m had has) → Spends c d old new × (new ≤ old) → IfOk r (λ m. PlanSpends m c d old new)
all_spends (Ok m) had has c d old new gives spends = one_spends m had has c d old new gives spends
all_spends (Err e) had has c d old new gives spends = tt

-- At opening.

-- what is read by an access to the first FROM item, as a plan's life
abbrev pub first_life : Select → List IndexDef → Shown → ℕ → Access → ℕ
first_life s indexes shown snap v = lives v s.only * life_bound (shown.pages (table_at s 0) snap) (cuts_and_entries (indexes_from (table_at s 0) 0 indexes) shown snap)

life_within : (s : Select) (indexes : List IndexDef) (shown : Shown) (snap cursor : ℕ) (a : Asked) (q : Query) (v : Access) → 1 ≤ length s.tables → IsAsked s indexes snap cursor a → Asks a [] q → life_of v q shown ≤ first_life s indexes shown snap v
life_within s indexes shown snap cursor a q v some asked asks =
    let item = asked.items 0 some in
    let few = subst (λ (x : List (List Atom)). widths q.only ≤ widths x) asked.only (subst (λ (x : List (List Atom)). widths x ≤ widths a.only) (sym asks.only) (bound_widths 0 [] a.only)) in
    let same : retrieval_life q shown ≡ life_bound (shown.pages (table_at s 0) snap) (cuts_and_entries (indexes_from (table_at s 0) 0 indexes) shown snap) = rw (asks.item.table ∙ item.table, asks.item.snap ∙ asked.snap, asks.item.over ∙ item.over) refl in
    let product : lives v q.only * retrieval_life q shown ≤ lives v s.only * retrieval_life q shown = mul-le-mul_right (retrieval_life q shown) (lives_less v q.only s.only few) in
    subst (λ (n : ℕ). life_of v q shown ≤ lives v s.only * n) same product

pub begins_life : (s : Select) (indexes : List IndexDef) (shown : Shown) (snap cursor : ℕ) (a : Asked) (v : Stacked) (c d : Counts) → 1 ≤ length s.tables → IsAsked s indexes snap cursor a → Asks a [] (query_of v.at.here) → v.at.row ≡ None → reads d + effort v.at.here shown ≤ reads c + life_of v.at.here (query_of v.at.here) shown → reads d + level_effort shown v.at ≤ reads c + first_life s indexes shown snap v.at.here
begins_life s indexes shown snap cursor a v c d some asked asks none life =
    rw none (chained (reads d) (effort v.at.here shown) (reads c) (life_of v.at.here (query_of v.at.here) shown) (first_life s indexes shown snap v.at.here) life (life_within s indexes shown snap cursor a (query_of v.at.here) v.at.here some asked asks))
  where
    chained : (n m a b c : ℕ) → n + m ≤ a + b → b ≤ c → n + (m + 0) ≤ a + c
    chained n m a b c h i = omega (arith, h, i)

-- what is said of the query that was asked is said of that of the access

pub opened_as : {E : Type 0} (r : Result Access E) (race : Bool) (q : Query) (shown : Shown) (cursor opening : ℕ) (c d : Counts) → IfOk r (Begins q shown c d) → IfOk r (Opened race q shown cursor opening) → IfOk r (λ v. Opened race (query_of v) shown cursor opening v)
opened_as (Ok v) race q shown cursor opening c d begins opened = subst (λ (x : Query). Opened race x shown cursor opening v) (sym begins.asked) opened
opened_as (Err e) race q shown cursor opening c d begins opened = tt

pub opened_counts : {E : Type 0} (r : Result Access E) (q : Query) (shown : Shown) (c d : Counts) → IfOk r (Begins q shown c d) → IfOk r (λ v. CountsAll (trace_of v) c d)
opened_counts (Ok v) q shown c d begins = begins.counts
opened_counts (Err e) q shown c d begins = tt

pub opened_life : {E : Type 0} (r : Result Access E) (q : Query) (shown : Shown) (c d : Counts) → IfOk r (Begins q shown c d) → IfOk r (λ v. reads d + effort v shown ≤ reads c + life_of v (query_of v) shown)
opened_life (Ok v) q shown c d begins = subst (λ (x : Query). reads d + effort v shown ≤ reads c + life_of v x shown) (sym begins.asked) begins.life
opened_life (Err e) q shown c d begins = tt

pub opened_short : {E : Type 0} (r : Result Access E) (q : Query) (shown : Shown) (c d : Counts) → IfOk r (Begins q shown c d) → (has_short q shown ≡ true → IfOk r (IsShort shown)) → IfOk r (λ v. has_short (query_of v) shown ≡ true → Settled v × (fetches_left v shown ≤ 20))
opened_short (Ok v) q shown c d begins short = λ e. (let is = short (subst (λ (x : Query). has_short x shown ≡ true) begins.asked e) in (is.settled, is.few))
opened_short (Err e) q shown c d begins short = tt

-- where indexes race the table would not be read
raced_alone : (choice : Choice) (shown : Shown) (query : Query) → BackgroundOnly ≡ choice.strategy → unites query shown choice ≡ false
raced_alone choice shown query e = no_union query shown choice (ap is_table (sym e))

opened_by : (race unite : Bool) (shown : Shown) (cursor opening : ℕ) (choice : Choice) (v : Access) → IsChosen (query_of v).order (query_of v).goal (candidates_of (query_of v) shown) choice → (race ≡ true → BackgroundOnly ≡ choice.strategy) → unites (query_of v) shown choice ≡ unite → OpenedBy race unite (query_of v) shown cursor opening choice v → IsByRules shown v
opened_by false false shown cursor opening choice (Competing v) chosen alone none is = record { choice = is.choice; chosen = is.chosen; stands = subst (λ (b : Bool). StandsBy b shown is.choice (Competing v)) (sym (chosen_apart v.value.query shown choice is.choice chosen is.chosen none)) (is.made.strategy, is.made.scans) }
opened_by false false shown cursor opening choice (Racing r) chosen alone none is = absurd is
opened_by false false shown cursor opening choice (Uniting u) chosen alone none is = absurd is
opened_by false true shown cursor opening choice (Competing v) chosen alone some is = absurd is
opened_by false true shown cursor opening choice (Racing r) chosen alone some is = absurd is
opened_by false true shown cursor opening choice (Uniting u) chosen alone some is = record { choice = choice; chosen = chosen; stands = subst (λ (b : Bool). StandsBy b shown choice (Uniting u)) (sym some) (refl, is.members) }
opened_by true unite shown cursor opening choice (Competing v) chosen alone either is = absurd is
opened_by true unite shown cursor opening choice (Racing r) chosen alone either is = record { choice = choice; chosen = chosen; stands = subst (λ (b : Bool). StandsBy b shown choice (Racing r)) (sym (raced_alone choice shown (query_of (Racing r)) (alone refl))) (alone refl, is.scans) }
opened_by true unite shown cursor opening choice (Uniting u) chosen alone either is = absurd is

pub opened_rules : (race : Bool) (shown : Shown) (cursor opening : ℕ) (v : Access) → Opened race (query_of v) shown cursor opening v → IsByRules shown v
opened_rules race shown cursor opening v opened = opened_by (race && races opened.choice (candidates_of (query_of v) shown)) (unites (query_of v) shown opened.choice) shown cursor opening opened.choice v opened.chosen (raced_strategy race opened.choice (candidates_of (query_of v) shown)) refl opened.opened
