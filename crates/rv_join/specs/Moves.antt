-- What the calls do to open levels: whatever they answer, the bag of offers stays but for an offer that is given.
use Rattle.std.specs.Prelude.{◌≡◌, ◌⊎◌, ℕ, ◌+◌, ◌<◌, ◌≤◌, length, List, [], ◌∷◌, ◌++◌, None, Some, IsSome}
use Rattle.std.specs.List.{flat_map}
use Rattle.std.specs.List.Sorted.{IsPermutation}
use Rattle.rv_value.specs.declared.value.Value.{Value}
use Rattle.rv_model.specs.declared.state.Offer.{Offer}
use Rattle.rv_reader.specs.Shown.{Shown}
use Rattle.rv_judge.specs.declared.counting.Counts.{Counts}
use Rattle.rv_access.specs.declared.access.Access.{Access}
use Rattle.rv_access.specs.Accesses.{query_of, rest, trace_of}
use Rattle.rv_access.specs.Opened.{Opened}
use Rattle.rv_judge.specs.Tracing.{CountsAll, CountsRise}
use Rattle.rv_retrieval.specs.Short.{OnlyLeaves}
use Rattle.rv_scan.specs.Told.{width}
use Rattle.rv_join.specs.declared.places.Asked.{Asked}
use Rattle.rv_join.specs.declared.level.Level.{Level}
use Rattle.rv_reader.specs.declared.step.Step.{Step}
use Rattle.rv_reader.specs.declared.step.Step.TheVariants.{Row, Working, End}
use Rattle.rv_join.specs.Levels.{AllFit, LevelFits, Stacked, StackFits, bag, over_held, still, tables_of, under, widened}
use Rattle.rv_join.specs.Asking.{Asks, item_at, lives_of}
use Rattle.rv_join.specs.Work.{items_below, level_work, levels_work, loops_work, row_cost}
use Rattle.rv_join.specs.Order.{IsByFirst, IsLeastOf, Led, LevelLed}

-- a level's retrieval was called, and owes what it owed
pub record LevelStays (a : Asked) (shown : Shown) (old new : Level) : Type 0 where
  pub fits : LevelFits a shown new
  pub outer : new.outer ≡ old.outer
  pub row : new.row ≡ old.row
  pub left : rest new.here shown ≡ rest old.here shown
  pub work : level_work a shown new ≤ level_work a shown old

-- a level may have taken a row out of its retrieval, and holds it
pub record LevelMoves (a : Asked) (shown : Shown) (old new : Level) : Type 0 where
  pub fits : LevelFits a shown new
  pub outer : new.outer ≡ old.outer
  pub bag : IsPermutation (still a shown old) (still a shown new)
  pub led : old.outer ≡ [] → IsByFirst a → LevelLed a shown old → LevelLed a shown new
  pub work : level_work a shown new ≤ level_work a shown old

abbrev pub Catches : Asked → Shown → Step (Unit {0}) → Level → Level → Type 0
Catches a shown (Row held) old new = LevelMoves a shown old new × IsSome new.row
Catches a shown End old new = LevelMoves a shown old new × (still a shown new ≡ [])
Catches a shown Working old new = LevelMoves a shown old new × (level_work a shown new < level_work a shown old)

-- A call of an access was made, whose counts rise by what is counted, or none was.
abbrev pub Rises : Access → Access → Counts → Counts → Type 0
Rises old new before after = CountsRise (trace_of old) (trace_of new) before after ⊎ ((new ≡ old) × (after ≡ before))

-- a level over the row that another holds
pub record Descends (a : Asked) (shown : Shown) (old new : Level) : Type 0 where
  pub fits : LevelFits a shown new
  pub deeper : length new.outer ≡ length old.outer + 1
  pub none : new.row ≡ None
  pub work : level_work a shown new < row_cost (lives_of a.only) shown a.snap (items_below a old)
  pub bag : still a shown new ≡ over_held a shown old old.row

-- THE ACCESS OF AN INNER FROM ITEM, opened over the rows chosen before it and the one that is held: it is asked what
-- the plan asks of that item; which it is, and what it scans, go by the rules, with a race where the plan is asked
-- for one; its pieces bear the cursor's number and that of this opening. The opening reads leaves alone, and they are
-- the counts of its trace.
pub record OpensInner (a : Asked) (shown : Shown) (opening : ℕ) (before after : Counts) (old new : Level) : Type 0 where
  pub row : List Value
  pub held : old.row ≡ Some row
  pub over : new.outer ≡ old.outer ++ widened (width (item_at a (length old.outer)).need) row ∷ []
  pub none : new.row ≡ None
  pub asks : Asks a new.outer (query_of new.here)
  pub opened : Opened a.race (query_of new.here) shown a.cursor opening new.here
  pub counts : CountsAll (trace_of new.here) before after
  pub only : OnlyLeaves before after

-- the bag stays
pub record Kept (a : Asked) (shown : Shown) (old new : Stacked) : Type 0 where
  pub fits : StackFits a shown new
  pub work : loops_work a shown new ≤ loops_work a shown old
  pub bag : IsPermutation (bag a shown old) (bag a shown new)
  pub led : IsByFirst a → Led a shown old → Led a shown new

-- an offer was taken out, least of those that are left
pub record Takes (a : Asked) (shown : Shown) (o : Offer) (old new : Stacked) : Type 0 where
  pub fits : StackFits a shown new
  pub work : loops_work a shown new < loops_work a shown old
  pub least : IsByFirst a → Led a shown old → IsLeastOf o (bag a shown new)
  pub led : IsByFirst a → Led a shown old → Led a shown new
  pub bag : IsPermutation (bag a shown old) (o ∷ bag a shown new)

abbrev pub Moves : Asked → Shown → Step Offer → Stacked → Stacked → Type 0
Moves a shown (Row o) old new = Takes a shown o old new
Moves a shown End old new = Kept a shown old new × (bag a shown old ≡ [])
Moves a shown Working old new = Kept a shown old new × (loops_work a shown new < loops_work a shown old)

-- one of some levels was called
pub record LevelsStay (a : Asked) (shown : Shown) (place : ℕ) (old new : List Level) : Type 0 where
  pub fits : AllFit a shown place new
  pub count : length new ≡ length old
  pub bag : flat_map (still a shown) new ≡ flat_map (still a shown) old
  pub work : levels_work a shown new ≤ levels_work a shown old

-- the first of some levels holds what it held
abbrev pub SameFirst : Asked → Shown → List Level → List Level → Type 0
SameFirst a shown [] new = new ≡ []
SameFirst a shown (f ∷ ls) [] = ⊥
SameFirst a shown (f ∷ ls) (g ∷ ms) =
    (over_held a shown g g.row ≡ over_held a shown f f.row)
    × (flat_map (still a shown) ms ≡ flat_map (still a shown) ls)

-- a stack was called, and owes what it owed
pub record StackStays (a : Asked) (shown : Shown) (old new : Stacked) : Type 0 where
  pub fits : StackFits a shown new
  pub work : loops_work a shown new ≤ loops_work a shown old
  pub bag : bag a shown new ≡ bag a shown old
  pub led : Led a shown old → Led a shown new

-- a stack that was just opened
pub record Starts (a : Asked) (shown : Shown) (v : Stacked) : Type 0 where
  pub fits : StackFits a shown v
  pub top : v.above ≡ []
  pub work : loops_work a shown v ≤ row_cost (lives_of a.only) shown a.snap a.items
  pub bag : bag a shown v ≡ under a shown (tables_of a) []
  pub led : IsByFirst a → Led a shown v
