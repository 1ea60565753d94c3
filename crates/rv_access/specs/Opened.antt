-- How an access is chosen, and what it is when it was opened.
use Rattle.std.specs.Prelude.{◌≡◌, ℕ, ◌+◌, ◌*◌, ◌<◌, ◌≤◌, Bool, true, false, ◌&&◌, List, length, filter, nat_le}
use Rattle.rv_judge.specs.declared.counting.Counts.{Counts}
use Rattle.rv_judge.specs.Counting.{reads}
use Rattle.rv_judge.specs.Tracing.{CountsAll}
use Rattle.rv_judge.specs.declared.events.Strategy.{Strategy}
use Rattle.rv_judge.specs.declared.events.Strategy.TheVariants.{Table, BackgroundOnly, FastFirst, Sorted, IndexOnly, Union}
use Rattle.rv_restrict.specs.declared.atom.Atom.{Atom}
use Rattle.rv_reader.specs.Shown.{Shown}
use Rattle.rv_choice.specs.declared.query.Query.{Query}
use Rattle.rv_choice.specs.declared.choosing.Background.{Background}
use Rattle.rv_choice.specs.declared.choosing.Background.TheVariants.{Nothing, One, Each, EachBut}
use Rattle.rv_choice.specs.declared.choosing.Candidate.{Candidate}
use Rattle.rv_choice.specs.declared.choosing.Choice.{Choice}
use Rattle.rv_choice.specs.Choice.{AreScans, IsChosen, candidates_of}
use Rattle.rv_choice.specs.Members.{AreUnited, some_serves}
use Rattle.rv_restrict.specs.Branches.{widths}
use Rattle.rv_final.specs.Rest.{qualifying}
use Rattle.rv_retrieval.specs.Effort.{life_of as retrieval_life}
use Rattle.rv_retrieval.specs.Opened.{Opened as RetrievalOpened}
use Rattle.rv_race.specs.Opened.{Opened as RaceOpened}
use Rattle.rv_access.specs.declared.access.Access.{Access}
use Rattle.rv_access.specs.declared.access.Access.TheVariants.{Competing, Racing, Uniting}
use Rattle.rv_access.specs.declared.racing.RacedQuery.{RacedQuery}
use Rattle.rv_access.specs.declared.uniting.UnitedQuery.{UnitedQuery}
use Rattle.rv_race.specs.Effort.{effort as race_effort}
use Rattle.rv_race.specs.Raced.{rest as race_rest}
use Rattle.rv_union.specs.Effort.{effort as union_effort}
use Rattle.rv_union.specs.Opened.{Opened as UnionOpened}
use Rattle.rv_union.specs.Unioned.{rest as union_rest}
use Rattle.rv_access.specs.Accesses.{AccessFits, Awaiting, RacedFits, RacedTells, Settled, Tells, UnitedFits, UnitedTells, effort, fetches_left, query_of, rest, trace_of}

abbrev pub is_background_only : Strategy → Bool
is_background_only Table = false
is_background_only BackgroundOnly = true
is_background_only FastFirst = false
is_background_only Sorted = false
is_background_only IndexOnly = false
is_background_only Union = false

abbrev pub is_each : Background → Bool
is_each Nothing = false
is_each (One index) = false
is_each Each = true
is_each (EachBut index) = false

-- how many indexes are restricted
abbrev pub restricted : List Candidate → ℕ
restricted cs = length (filter (λ (c : Candidate). c.restricted) cs)

-- WHERE INDEXES CAN RACE: only a background is chosen, which scans each restricted index, and there are at least two
abbrev pub races : Choice → List Candidate → Bool
races choice cs = is_background_only choice.strategy && (is_each choice.background && nat_le 2 (restricted cs))

abbrev pub is_table : Strategy → Bool
is_table Table = true
is_table BackgroundOnly = false
is_table FastFirst = false
is_table Sorted = false
is_table IndexOnly = false
is_table Union = false

-- WHERE MEMBERS ARE PUT TOGETHER: the table would be read, and a group has two branches or more that bound an index
-- each
abbrev pub unites : Query → Shown → Choice → Bool
unites query shown choice = is_table choice.strategy && some_serves query shown

-- HOW MANY LIFE BOUNDS: one of a retrieval and of a race; of a union one for each branch that the groups may
-- have
abbrev pub lives : Access → List (List Atom) → ℕ
lives (Competing v) only = 1
lives (Racing r) only = 1
lives (Uniting u) only = widths only

-- THE LIFE OF AN ACCESS, so many times that of a retrieval
abbrev pub life_of : Access → Query → Shown → ℕ
life_of a query shown = lives a query.only * retrieval_life query shown

-- the race of what was chosen
pub record IsRaced (query : Query) (shown : Shown) (cursor opening : ℕ) (choice : Choice)
    (r : RacedQuery) : Type 0 where
  pub asked : r.query ≡ query
  pub scans : AreScans query.only (candidates_of query shown) choice.background r.race.plans
  pub opened : RaceOpened query.table query.snap query.only r.race.plans cursor opening
      (shown.pages query.table query.snap) r.race

-- WHAT A RACE IS WHERE IT BEGINS: it owes each record that qualifies, and its effort is below the bound
pub record BeginsRace (query : Query) (shown : Shown) (choice : Choice) (cursor opening : ℕ)
    (r : RacedQuery) : Type 0 where
  pub raced : IsRaced query shown cursor opening choice r
  pub fits : RacedFits r shown
  pub owes : race_rest r.race shown ≡ qualifying query.only (shown.rows query.table query.snap)
  pub tells : RacedTells r
  pub life : race_effort r.race shown < retrieval_life query shown

-- the union of the members of the first group that serves
pub record IsUnited (query : Query) (shown : Shown) (cursor opening : ℕ) (u : UnitedQuery) : Type 0 where
  pub asked : u.query ≡ query
  pub members : AreUnited query shown u.union.plans
  pub opened : UnionOpened query.table query.snap query.only u.union.plans cursor opening
      (shown.pages query.table query.snap) u.union

-- WHAT A UNION IS WHERE IT BEGINS, likewise
pub record BeginsUnion (query : Query) (shown : Shown) (cursor opening : ℕ) (u : UnitedQuery) : Type 0 where
  pub united : IsUnited query shown cursor opening u
  pub fits : UnitedFits u shown
  pub owes : union_rest u.union shown ≡ qualifying query.only (shown.rows query.table query.snap)
  pub tells : UnitedTells u
  pub life : union_effort u.union shown < widths query.only * retrieval_life query shown

-- a retrieval was opened; a race of what was chosen was; a union was
abbrev pub Competes : Query → Shown → ℕ → ℕ → Access → Type 0
Competes query shown cursor opening (Competing v) = RetrievalOpened query shown cursor opening v.value
Competes query shown cursor opening (Racing r) = ⊥
Competes query shown cursor opening (Uniting u) = ⊥

abbrev pub Races : Query → Shown → ℕ → ℕ → Choice → Access → Type 0
Races query shown cursor opening choice (Competing v) = ⊥
Races query shown cursor opening choice (Racing r) = IsRaced query shown cursor opening choice r.value
Races query shown cursor opening choice (Uniting u) = ⊥

abbrev pub Unites : Query → Shown → ℕ → ℕ → Access → Type 0
Unites query shown cursor opening (Competing v) = ⊥
Unites query shown cursor opening (Racing r) = ⊥
Unites query shown cursor opening (Uniting u) = IsUnited query shown cursor opening u.value

-- by whether indexes race and whether members are put together
abbrev pub OpenedBy : Bool → Bool → Query → Shown → ℕ → ℕ → Choice → Access → Type 0
OpenedBy true united query shown cursor opening choice a = Races query shown cursor opening choice a
OpenedBy false true query shown cursor opening choice a = Unites query shown cursor opening a
OpenedBy false false query shown cursor opening choice a = Competes query shown cursor opening a

-- THE STRATEGY AND THE SCANS ARE THOSE OF THE FIVE RULES. Where a race is asked and indexes can race they do. Where
-- the table would be read and a group serves its members are put together.
pub record Opened (race : Bool) (query : Query) (shown : Shown) (cursor opening : ℕ) (a : Access) : Type 0 where
  pub choice : Choice
  pub chosen : IsChosen query.order query.goal (candidates_of query shown) choice
  pub opened : OpenedBy (race && races choice (candidates_of query shown)) (unites query shown choice) query shown
      cursor opening choice a

-- WHAT IT IS WHERE IT BEGINS: it owes each record that qualifies; what the opening has read is counted, and with the
-- effort it is within the life of an access of its kind
pub record Begins (query : Query) (shown : Shown) (c d : Counts) (a : Access) : Type 0 where
  pub asked : query_of a ≡ query
  pub fits : AccessFits a shown
  pub owes : rest a shown ≡ qualifying query.only (shown.rows query.table query.snap)
  pub tells : Tells a
  pub awaiting : Awaiting a
  pub counts : CountsAll (trace_of a) c d
  pub life : reads d + effort a shown ≤ reads c + life_of a query shown
  pub most : effort a shown ≤ life_of a query shown

-- where a short index was scanned at opening
pub record IsShort (shown : Shown) (a : Access) : Type 0 where
  pub settled : Settled a
  pub few : fetches_left a shown ≤ 20

-- whether two indexes race
abbrev pub is_race : Access → Bool
is_race (Competing v) = false
is_race (Racing r) = true
is_race (Uniting u) = false
