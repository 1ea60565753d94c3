-- The strategy and the planned scans of an access are those of the five rules, from its opening on.
use Rattle.std.specs.Prelude.{◌≡◌, Bool, true, false}
use Rattle.rv_judge.specs.declared.events.Strategy.TheVariants.{Union}
use Rattle.rv_reader.specs.Shown.{Shown}
use Rattle.rv_choice.specs.declared.choosing.Choice.{Choice}
use Rattle.rv_choice.specs.Choice.{AreScans, IsChosen, candidates_of}
use Rattle.rv_choice.specs.Members.{AreUnited}
use Rattle.rv_access.specs.declared.access.Access.{Access}
use Rattle.rv_access.specs.Accesses.{planned_of, query_of, strategy_of}
use Rattle.rv_access.specs.Opened.{unites}

-- by whether members are put together
abbrev pub StandsBy : Bool → Shown → Choice → Access → Type 0
StandsBy true shown choice v = (strategy_of v ≡ Union) × AreUnited (query_of v) shown (planned_of v)
StandsBy false shown choice v =
    (strategy_of v ≡ choice.strategy)
    × AreScans (query_of v).only (candidates_of (query_of v) shown) choice.background (planned_of v)

-- ITS STRATEGY AND PLANNED SCANS ARE THOSE OF THE FIVE RULES, for what it was asked; where the table would be read
-- and a group serves, they are those of a union
pub record IsByRules (shown : Shown) (v : Access) : Type 0 where
  pub choice : Choice
  pub chosen : IsChosen (query_of v).order (query_of v).goal (candidates_of (query_of v) shown) choice
  pub stands : StandsBy (unites (query_of v) shown choice) shown choice v
