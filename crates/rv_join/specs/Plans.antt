-- A whole plan: its offers as they are found, or gathered and sorted.
use Rattle.std.specs.Prelude.{◌≡◌, ℕ, ◌-◌, ◌<◌, ◌≤◌, Bool, true, false, List, [], ◌∷◌, ◌++◌, length, Option, Some, None, if◌then◌else◌, ◌==◌, ◌||◌, map}
use Rattle.std.specs.List.Sorted.{IsPermutation, IsSortedBy}
use Rattle.rv_judge.specs.declared.counting.Counts.{Counts}
use Rattle.rv_judge.specs.declared.events.Trace.{Trace}
use Rattle.rv_catalog.specs.declared.def.Select.{Select}
use Rattle.rv_catalog.specs.declared.def.IndexDef.{IndexDef}
use Rattle.rv_model.specs.declared.state.Offer.{Offer}
use Rattle.rv_reader.specs.Shown.{Shown}
use Rattle.rv_judge.specs.Counting.{raised}
use Rattle.rv_access.specs.Accesses.{query_of, trace_of}
use Rattle.rv_access.specs.Opened.{Opened}
use Rattle.rv_join.specs.declared.places.Asked.{Asked}
use Rattle.rv_join.specs.declared.gather.Stage.{Stage}
use Rattle.rv_join.specs.declared.gather.Stage.TheVariants.{AsFound, Gathering, Giving}
use Rattle.rv_reader.specs.declared.step.Step.{Step}
use Rattle.rv_reader.specs.declared.step.Step.TheVariants.{Row, Working, End}
use Rattle.rv_join.specs.Asking.{Asks, CanRun, by_index}
use Rattle.rv_join.specs.Levels.{Stacked, StackFits, bag, first_of}
use Rattle.rv_join.specs.Rules.{IsByRules}
use Rattle.rv_join.specs.Work.{loops_work}
use Rattle.rv_join.specs.Moves.{Kept, Rises}
use Rattle.rv_join.specs.Order.{IsByFirst, IsLeastOf, Led, before}

-- What a plan keeps: what it is asked, its open levels, the offers gathered, which stage it is in, and what its calls
-- have read.
pub record Planned : Type 0 where
  pub asked : Asked
  pub stack : Stacked
  pub gathered : List Offer
  pub stage : Stage
  pub reads : Counts

abbrev pub rest_at : Stage → List Offer → List Offer → List Offer
rest_at AsFound gathered to_come = to_come
rest_at Gathering gathered to_come = gathered ++ to_come
rest_at Giving gathered to_come = gathered

-- THE REST OF A PLAN, as a bag of offers
abbrev pub plan_rest : Shown → Planned → List Offer
plan_rest shown p = rest_at p.stage p.gathered (bag p.asked shown p.stack)

-- THE WORK LEFT OF A PLAN: that of its nested loops
abbrev pub plan_work : Shown → Planned → ℕ
plan_work shown p = loops_work p.asked shown p.stack

-- Working lowers it; no answer raises it
abbrev pub WorkTo : Step Offer → ℕ → ℕ → Type 0
WorkTo (Row o) old new = new ≤ old
WorkTo End old new = new ≤ old
WorkTo Working old new = new < old

-- the stage in which a plan begins: its offers are gathered where an order is asked that no index gives
abbrev pub stage_of : Select → List IndexDef → Stage
stage_of s indexes = if (length s.order == 0) || by_index s indexes then AsFound else Gathering

-- the counts of a trace
pub record AreReads (t : Trace) (reads : Counts) : Type 0 where
  pub pages : reads.pages ≡ t.pages
  pub leaves : reads.leaves ≡ t.leaves
  pub fetches : reads.records ≡ t.fetches

-- what a call has read, added
abbrev pub reads_with : Counts → Counts → Counts → Counts
reads_with reads before after = record {
  pages = raised reads.pages (after.pages - before.pages);
  leaves = raised reads.leaves (after.leaves - before.leaves);
  records = raised reads.records (after.records - before.records);
}

-- the events of the first FROM item's retrieval, with the counts of all retrievals of the plan
abbrev pub plan_trace : Planned → Trace
plan_trace p = record (trace_of (first_of p.stack).here) {
  pages = p.reads.pages;
  leaves = p.reads.leaves;
  fetches = p.reads.records;
}

-- the numbers of indexes
abbrev pub numbers_of : List (ℕ × List ℕ) → List ℕ
numbers_of indexes = map (λ (i : ℕ × List ℕ). i.0) indexes

-- What it holds was drawn from what a reader shows, and the reader can be read as it will be. Where offers are given as
-- they are found, they come by the order of the first item's rows.
pub record HoldsGood (shown : Shown) (p : Planned) : Type 0 where
  pub can : CanRun p.asked shown
  pub stack : StackFits p.asked shown p.stack
  pub ordered : p.stage ≡ AsFound → IsByFirst p.asked
  pub led : p.stage ≡ AsFound → Led p.asked shown p.stack
  pub sorted : p.stage ≡ Giving → IsSortedBy before p.gathered

-- The strategy and the planned scans of the first item's retrieval are those of the five rules. Over one FROM item its
-- counts are those of the one retrieval, too.
pub record PlanFits (shown : Shown) (p : Planned) : Type 0 where
  pub holds : HoldsGood shown p
  pub rules : IsByRules shown (first_of p.stack).here
  pub counted : length p.asked.items ≡ 1 → AreReads (trace_of (first_of p.stack).here) p.reads

-- over one FROM item a call of the one retrieval was made, or none was
abbrev pub RisesAlone : Planned → Planned → Counts → Counts → Type 0
RisesAlone old new before after =
    length old.asked.items ≡ 1 → Rises (first_of old.stack).here (first_of new.stack).here before after

-- one goes out, and none that stays comes before it
pub record GivesOne (o : Offer) (old new : List Offer) : Type 0 where
  pub out : IsPermutation old (o ∷ new)
  pub least : IsLeastOf o new

-- WHAT A STEP DOES to the rest: one offer goes out, or it stays, or it is empty
abbrev pub StepsTo : Step Offer → List Offer → List Offer → Type 0
StepsTo (Row o) old new = GivesOne o old new
StepsTo End old new = (old ≡ []) × (new ≡ [])
StepsTo Working old new = IsPermutation old new

pub record PlanMoves (shown : Shown) (m : Step Offer) (old new : Planned) : Type 0 where
  pub asked : new.asked ≡ old.asked
  pub step : StepsTo m (plan_rest shown old) (plan_rest shown new)
  pub work : WorkTo m (plan_work shown old) (plan_work shown new)

-- the rest stays, in some order
pub record PlanKept (shown : Shown) (old new : Planned) : Type 0 where
  pub asked : new.asked ≡ old.asked
  pub rest_kept : IsPermutation (plan_rest shown old) (plan_rest shown new)
  pub work : plan_work shown new ≤ plan_work shown old

-- the rest stays as it is
pub record PlanStays (shown : Shown) (old new : Planned) : Type 0 where
  pub asked : new.asked ≡ old.asked
  pub rest_same : plan_rest shown new ≡ plan_rest shown old
  pub work : plan_work shown new ≤ plan_work shown old

-- one retrieval is open, that of the first FROM item, as the first that the cursor has opened; its strategy and its
-- scans are those of the five rules, and the counts are its own
pub record LeadsWith (shown : Shown) (p : Planned) : Type 0 where
  pub above : p.stack.above ≡ []
  pub asks : Asks p.asked [] (query_of p.stack.at.here)
  pub opened : Opened p.asked.race (query_of p.stack.at.here) shown p.asked.cursor 1 p.stack.at.here
  pub counted : AreReads (trace_of p.stack.at.here) p.reads

-- Gathering.

-- a step that gathers, and one at which all are gathered
pub record GathersMore (a : Asked) (shown : Shown) (old : Stacked) (had : List Offer) (new : Stacked)
    (has : List Offer) : Type 0 where
  pub fits : StackFits a shown new
  pub bag : IsPermutation (had ++ bag a shown old) (has ++ bag a shown new)
  pub work : loops_work a shown new < loops_work a shown old

pub record GathersAll (a : Asked) (shown : Shown) (old : Stacked) (had : List Offer) (new : Stacked)
    (has : List Offer) : Type 0 where
  pub kept : Kept a shown old new
  pub none : bag a shown old ≡ []
  pub offers : has ≡ had

abbrev pub Gathers : Bool → Asked → Shown → Stacked → List Offer → Stacked → List Offer → Type 0
Gathers true a shown old had new has = GathersAll a shown old had new has
Gathers false a shown old had new has = GathersMore a shown old had new has

-- the first of a list, if any, is taken
abbrev pub Taken : Option Offer → List Offer → List Offer → Type 0
Taken (Some o) old new = old ≡ o ∷ new
Taken None old new = (old ≡ []) × (new ≡ [])

abbrev pub Gives : Step Offer → List Offer → List Offer → Type 0
Gives (Row o) old new = old ≡ o ∷ new
Gives End old new = (old ≡ []) × (new ≡ [])
Gives Working old new = true ≡ false

-- the offers are sorted, and are to be given
pub record Sorts (old new : Planned) : Type 0 where
  pub same : new ≡ record old { gathered = new.gathered; stage = Giving }
  pub moved : IsPermutation old.gathered new.gathered
  pub sorted : IsSortedBy before new.gathered
