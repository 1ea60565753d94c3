-- WHAT A STEP OF A PLAN DOES TO ITS OPEN RETRIEVALS; a plan over one FROM item, whose calls are those of its one
-- retrieval.
use Rattle.std.specs.Prelude.{◌≡◌, ◌⊎◌, ℕ, ◌+◌, ◌*◌, ◌<◌, ◌≤◌, ◌++◌, ◌∷◌, [], Bool, true, false, List, length, Option, None, IfSome}
use Rattle.rv_judge.specs.Account.{life_bound}
use Rattle.rv_judge.specs.Counting.{raised, reads}
use Rattle.rv_judge.specs.declared.counting.Counts.{Counts}
use Rattle.rv_judge.specs.declared.judging.Facts.{Facts}
use Rattle.rv_judge.specs.Verdicts.{Ruling}
use Rattle.rv_catalog.specs.declared.def.IndexDef.{IndexDef}
use Rattle.rv_catalog.specs.declared.def.Select.{Select}
use Rattle.rv_reader.specs.Shown.{Shown}
use Rattle.rv_reader.specs.declared.step.Step.{Step}
use Rattle.rv_value.specs.declared.record.Record.{Record}
use Rattle.rv_retrieval.specs.Effort.{cuts_and_entries}
use Rattle.rv_final.specs.Work.{Tries}
use Rattle.rv_retrieval.specs.Short.{OnlyLeaves}
use Rattle.rv_access.specs.declared.access.Access.{Access}
use Rattle.rv_access.specs.Accesses.{Settled, effort, fetches_left}
use Rattle.rv_access.specs.Given.{TakesLeaf}
use Rattle.rv_access.specs.Opened.{lives}
use Rattle.rv_access.specs.Stepping.{MayReadIts, OnlyTakes, SameCourse, StepsAs}
use Rattle.rv_model.specs.declared.state.Offer.{Offer}
use Rattle.rv_reader.specs.declared.step.Step.TheVariants.{Row, Working, End}
use Rattle.rv_join.specs.declared.level.Level.{Level}
use Rattle.rv_join.specs.declared.places.Asked.{Asked}
use Rattle.rv_join.specs.Asking.{indexes_from, table_at}
use Rattle.rv_join.specs.Levels.{Stacked, down, used}
use Rattle.rv_join.specs.Moves.{OpensInner}
use Rattle.rv_join.specs.Plans.{Planned}
use Rattle.rv_join.specs.Work.{held_rows}

abbrev pub IsAlone : Planned → Type 0
IsAlone p = length p.asked.items ≡ 1

-- A step of the retrieval was made, which answered this, or for which memory was wanting: it did and read what a
-- foreground step does and may read, and asked the judge as one does; without memory it may have taken a leaf, and
-- accepted no piece. Where a short index was scanned at opening it asked no judge and read no page.
pub record FgCalls (fg : Option (Step Record)) (would : ℕ → Facts → Ruling) (state after : ℕ) (shown : Shown) (c d : Counts)
    (old new : Access) : Type 0 where
  pub does : IfSome fg (λ s. StepsAs would state after shown c d s old new)
  pub wants : fg ≡ None → (after ≡ state) × SameCourse old new × OnlyTakes old new
  pub may_read : MayReadIts old c d
  pub settled : Settled old → Settled new × (after ≡ state) × (d.pages ≡ c.pages)
  pub records : Settled old → IfSome fg (λ s. d.records + fetches_left new shown ≤ c.records + fetches_left old shown)
  pub fewer : fg ≡ None → fetches_left new shown ≤ fetches_left old shown

-- WHAT AN ANSWERED STEP MAY FETCH where a short index was scanned at opening: the records fetched and those that may
-- still be fetched are together no more than before
pub record Fetches (shown : Shown) (c d : Counts) (old new : Access) : Type 0 where
  pub records : Settled old → d.records + fetches_left new shown ≤ c.records + fetches_left old shown

-- a step was made, or nothing was done
abbrev pub CallsOnce : (ℕ → Facts → Ruling) → ℕ → ℕ → Shown → Counts → Counts → Access → Access → Type 0
CallsOnce would state after shown c d old new =
    ((fg : Option (Step Record)) × FgCalls fg would state after shown c d old new) ⊎ ((new ≡ old) × (d ≡ c) × (after ≡ state))

-- THE EFFORT OF A PLAN OVER ONE FROM ITEM: that of its retrieval, and one for a row that is held
abbrev pub level_effort : Shown → Level → ℕ
level_effort shown l = effort l.here shown + held_rows l.row

abbrev pub plan_effort : Shown → Planned → ℕ
plan_effort shown p = level_effort shown p.stack.at

-- WHAT A STEP DOES TO THE ONE RETRIEVAL, whatever it answers: at most one step of it, which reads at most once and
-- does not raise the effort
pub record StepsOnce (would : ℕ → Facts → Ruling) (state after : ℕ) (shown : Shown) (c d : Counts)
    (old new : Level) : Type 0 where
  pub calls : CallsOnce would state after shown c d old.here new.here
  pub tries : Tries c d (level_effort shown old) (level_effort shown new)

-- HOW NESTED LOOPS GO ON once the innermost retrieval was called: they rest; the row that it holds is used; the next
-- item's retrieval is opened over that row, under the cursor's next opening number; no memory is found to open it,
-- which may have read leaves; or the level above is returned to
pub data Onward : Type 0 where
  Rests : Onward
  Uses : Onward
  Opens : Level → Onward
  Fails : Onward
  Returns : Onward

abbrev pub GoesBy : Onward → Asked → Shown → Counts → Counts → Stacked → Stacked → Type 0
GoesBy Rests a shown c d old new = (new ≡ old) × (d ≡ c)
GoesBy Uses a shown c d old new = (new ≡ used old) × (d ≡ c)
GoesBy (Opens inner) a shown c d old new =
    (new ≡ down old inner) × OpensInner a shown (raised old.openings 1) c d old.at inner
GoesBy Fails a shown c d old new = (new ≡ old) × OnlyLeaves c d
GoesBy Returns a shown c d old new = (old.above ≡ new.above ++ new.at ∷ []) × (new.openings ≡ old.openings) × (d ≡ c)

abbrev pub GoesOn : Asked → Shown → Counts → Counts → Stacked → Stacked → Type 0
GoesOn a shown c d old new = (onward : Onward) × GoesBy onward a shown c d old new

-- the innermost open retrieval was called once, and the nested loops went on
pub record StackCalls (would : ℕ → Facts → Ruling) (state after : ℕ) (a : Asked) (shown : Shown) (c d : Counts)
    (old new : Stacked) : Type 0 where
  pub level : Level
  pub counts : Counts
  pub once : StepsOnce would state after shown c counts old.at level
  pub goes : GoesOn a shown counts d (record old { at = level }) new

-- or nothing was called
abbrev pub StackAsks : (ℕ → Facts → Ruling) → ℕ → ℕ → Asked → Shown → Counts → Counts → Stacked → Stacked → Type 0
StackAsks would state after a shown c d old new =
    StackCalls would state after a shown c d old new ⊎ ((new ≡ old) × (d ≡ c) × (after ≡ state))

-- A STEP OF A PLAN, whatever it answers: at most one step of the innermost open retrieval, upon which the judge is
-- asked and obeyed as by that step, and never else; what it reads behind that step an inner item's opening has read
abbrev pub PlanAsks : (ℕ → Facts → Ruling) → ℕ → ℕ → Shown → Counts → Counts → Planned → Planned → Type 0
PlanAsks would state after shown c d old new = StackAsks would state after old.asked shown c d old.stack new.stack

-- the effort falls by the reads
abbrev pub Spends : Counts → Counts → ℕ → ℕ → Type 0
Spends c d old new = reads d + new ≤ reads c + old

-- WHAT A STEP SPENDS: it lowers the effort by its reads, and Working by at least one
abbrev pub PlanSpends : Step Offer → Counts → Counts → ℕ → ℕ → Type 0
PlanSpends (Row o) c d old new = Spends c d old new × (new ≤ old)
PlanSpends End c d old new = Spends c d old new × (new ≤ old)
PlanSpends Working c d old new = Spends c d old new × (new < old)

-- the same of a look for a level's next row, whose row is still held
abbrev pub LevelSpends : Shown → Step (Unit {0}) → Counts → Counts → Level → Level → Type 0
LevelSpends shown (Row held) c d old new =
    Spends c d (level_effort shown old) (effort new.here shown) × (effort new.here shown < level_effort shown old)
LevelSpends shown End c d old new =
    Spends c d (level_effort shown old) (level_effort shown new) × (level_effort shown new ≤ level_effort shown old)
LevelSpends shown Working c d old new =
    Spends c d (level_effort shown old) (level_effort shown new) × (level_effort shown new < level_effort shown old)

-- the same of a step of the nested loops
abbrev pub MovedSpends : Step Offer → Counts → Counts → ℕ → ℕ → Type 0
MovedSpends (Row o) c d old new = Spends c d old new × (new < old)
MovedSpends End c d old new = Spends c d old new × (new ≤ old)
MovedSpends Working c d old new = Spends c d old new × (new < old)

-- the same of a step that gathers, which may find that all is gathered
abbrev pub GatherSpends : Bool → Counts → Counts → ℕ → ℕ → Type 0
GatherSpends true c d old new = Spends c d old new × (new ≤ old)
GatherSpends false c d old new = Spends c d old new × (new < old)

-- THE RECORDS THAT A PLAN OVER ONE FROM ITEM HAS FETCHED and may still fetch, where the background is over
abbrev pub plan_fetches : Shown → Planned → ℕ
plan_fetches shown p = p.reads.records + fetches_left p.stack.at.here shown

-- where it is over, it stays so, and they come to no more than before; but for so many more where memory is wanting
pub record FewFetches (wanting : ℕ) (shown : Shown) (old new : Planned) : Type 0 where
  pub settled : Settled old.stack.at.here → Settled new.stack.at.here
  pub few : Settled old.stack.at.here → plan_fetches shown new ≤ plan_fetches shown old + wanting

-- WHAT A TAKE DOES TO THE ONE RETRIEVAL: the leaf that it read may be held, or all is as it was
pub record TakesOnce (shown : Shown) (c d : Counts) (old new : Level) : Type 0 where
  pub leaf : (new.here ≡ old.here) ⊎ TakesLeaf old.here new.here
  pub tries : Tries c d (level_effort shown old) (level_effort shown new)
  pub settled : Settled old.here → Settled new.here × (d ≡ c)
      × (fetches_left new.here shown ≡ fetches_left old.here shown)

-- THE BOUND AT OPENING, of the select, its indexes and the reader's lists: where the first FROM item is read by a
-- retrieval or a race, one life bound of its table; where by a union, one for each branch that the groups may have
abbrev pub plan_life : Select → List IndexDef → Shown → ℕ → Planned → ℕ
plan_life s indexes shown snap p =
    lives p.stack.at.here s.only
    * life_bound (shown.pages (table_at s 0) snap) (cuts_and_entries (indexes_from (table_at s 0) 0 indexes) shown snap)
