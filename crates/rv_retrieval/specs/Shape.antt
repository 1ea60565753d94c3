-- A retrieval as contracts see it, and the records that it still owes.
use Rattle.std.specs.Prelude.{◌≡◌, ℕ, ◌<◌, Bool, true, false, not, ◌&&◌, ◌||◌, ◌⊎◌, List, [], take, length, Option, Some, None, IsSome}
use Rattle.rv_value.specs.declared.record.Record.{Record}
use Rattle.rv_value.specs.declared.record.IndexEntry.{IndexEntry}
use Rattle.rv_rows.specs.Rows.{Ascend}
use Rattle.rv_keylist.specs.Keys.{has_key}
use Rattle.rv_keylist.specs.Rows.{AddsRow}
use Rattle.rv_judge.specs.declared.events.Strategy.{Strategy}
use Rattle.rv_judge.specs.declared.events.Strategy.TheVariants.{Table, BackgroundOnly, FastFirst, Sorted, IndexOnly, Union}
use Rattle.rv_judge.specs.declared.events.Control.{Control}
use Rattle.rv_judge.specs.declared.events.Control.TheVariants.{Building, ForegroundAlone, BackgroundAlone, FinalList, FinalTable, Done}
use Rattle.rv_judge.specs.declared.events.Trace.{Trace}
use Rattle.rv_judge.specs.declared.events.Happening.TheVariants.{Full}
use Rattle.rv_judge.specs.Course.{next_control}
use Rattle.rv_reader.specs.Entries.{entries_of}
use Rattle.rv_reader.specs.Shown.{Shown, CanRead}
use Rattle.rv_restrict.specs.Parts.{stands_among}
use Rattle.rv_scan.specs.Alongs.{Follows}
use Rattle.rv_scan.specs.Due.{HaveColumns}
use Rattle.rv_scan.specs.Places.{Place, unseen}
use Rattle.rv_jscan.specs.Joint.{Joint, JointFits, CanTake, meets, plan_at}
use Rattle.rv_choice.specs.declared.query.Query.{Query}
use Rattle.rv_retrieval.specs.Fronts.{front_left}
use Rattle.rv_scan.specs.Fronts.{Front, CanFront, walk_of}
use Rattle.rv_reader.specs.declared.step.Step.{Step}
use Rattle.rv_reader.specs.declared.step.Step.TheVariants.{Row, Working, End}
use Rattle.rv_final.specs.Rest.{IsLeast, Steps, rest_by, qualifies_at, Agree, has_row}
use Rattle.rv_final.specs.Stage.{LastFits, Unbegun, keys_left}

-- Everything that a retrieval keeps. `borrowed` counts the keys that fast-first has borrowed of the list that it
-- borrows from, `at` those of the complete list that the final stage has passed, and `last` is the final scan of the
-- table.
pub record Shape : Type 0 where
  pub query : Query
  pub strategy : Strategy
  pub control : Control
  pub joint : Joint
  pub front : Front
  pub delivered : List ℕ
  pub borrowed : ℕ
  pub at : ℕ
  pub last : Place
  pub guaranteed : ℕ
  pub trace : Trace

abbrev pub rows_of : Shape → Shown → List Record
rows_of v shown = shown.rows v.query.table v.query.snap

-- From what the rows come that are still to be given: from all that were not delivered, from the entries ahead of the
-- foreground's scan, from the keys left of the complete list, from the table's pages left, or from nowhere.
pub data Source : Type 0 where
  Undelivered : Source
  Ahead : Source
  Keys : Source
  Pages : Source
  Nowhere : Source

abbrev pub while_building : Strategy → Source
while_building Table = Undelivered
while_building BackgroundOnly = Undelivered
while_building Union = Undelivered
while_building FastFirst = Undelivered
while_building Sorted = Ahead
while_building IndexOnly = Ahead

abbrev pub source_of : Control → Strategy → Source
source_of Building strategy = while_building strategy
source_of ForegroundAlone strategy = Ahead
source_of BackgroundAlone strategy = Undelivered
source_of FinalList strategy = Keys
source_of FinalTable strategy = Pages
source_of Done strategy = Nowhere

abbrev pub source : Shape → Source
source v = source_of v.control v.strategy

abbrev pub front_entries : Shape → Shown → List IndexEntry
front_entries v shown = shown.entries (walk_of v.front).index v.query.snap

-- whether a row is still to be given, if it qualifies
abbrev pub left_by : Source → Front → List IndexEntry → Option (List ℕ) → ℕ → Place → List Record → List ℕ → ℕ → Bool
left_by Undelivered front entries list at last rows delivered n = not (has_key n delivered)
left_by Ahead front entries list at last rows delivered n = front_left front entries n
left_by Keys front entries list at last rows delivered n = has_key n (keys_left list at) && not (has_key n delivered)
left_by Pages front entries list at last rows delivered n = has_row n (unseen last rows) && not (has_key n delivered)
left_by Nowhere front entries list at last rows delivered n = false

abbrev pub left_at : Source → Shape → Shown → ℕ → Bool
left_at s v shown n = left_by s v.front (front_entries v shown) v.joint.list v.at v.last (rows_of v shown) v.delivered n

-- THE REST: the records of the snapshot that qualify and are still to be given, in ascending row number
abbrev pub rest : Shape → Shown → List Record
rest v shown = rest_by (left_at (source v) v shown) v.query.only (rows_of v shown)

abbrev pub is_building : Control → Bool
is_building Building = true
is_building ForegroundAlone = false
is_building BackgroundAlone = false
is_building FinalList = false
is_building FinalTable = false
is_building Done = false

-- where pieces are awaited
abbrev pub is_background : Control → Bool
is_background Building = true
is_background ForegroundAlone = false
is_background BackgroundAlone = true
is_background FinalList = false
is_background FinalTable = false
is_background Done = false

abbrev pub is_sorted : Strategy → Bool
is_sorted Table = false
is_sorted BackgroundOnly = false
is_sorted Union = false
is_sorted FastFirst = false
is_sorted Sorted = true
is_sorted IndexOnly = false

abbrev pub is_index_only : Strategy → Bool
is_index_only Table = false
is_index_only BackgroundOnly = false
is_index_only Union = false
is_index_only FastFirst = false
is_index_only Sorted = false
is_index_only IndexOnly = true

-- a foreground's scan of an index delivers
abbrev pub is_led : Strategy → Bool
is_led strategy = is_sorted strategy || is_index_only strategy

-- the final stage has not begun
abbrev pub is_early : Source → Bool
is_early Undelivered = true
is_early Ahead = true
is_early Keys = false
is_early Pages = false
is_early Nowhere = false

-- the foreground's scan was drawn from what a reader shows; its index has every row that qualifies, where it is scanned
-- alone, as in an index-only retrieval, every column needed, and where the retrieval is ordered it begins with the
-- order columns
pub record FrontFits (query : Query) (strategy : Strategy) (f : Front) (shown : Shown) : Type 0 where
  pub can : CanFront f query.only query.table shown query.snap
  pub follows : Follows (walk_of f) (shown.entries (walk_of f).index query.snap)
  pub entries : shown.entries (walk_of f).index query.snap ≡ entries_of f.columns (shown.rows query.table query.snap)
  pub alone : is_index_only strategy ≡ true → f.alone ≡ true
  pub covering : f.alone ≡ true → (c : ℕ) → stands_among query.need c ≡ true → stands_among f.columns c ≡ true
  pub begins : is_sorted strategy ≡ true → take (length query.order) f.columns ≡ query.order
  pub needs : (c : ℕ) → stands_among query.order c ≡ true → stands_among query.need c ≡ true

-- WHAT IT HOLDS WAS DRAWN FROM WHAT A READER SHOWS, and the reader can be read as it will be.
pub record RetrievalFits (v : Shape) (shown : Shown) : Type 0 where
  pub ascend : Ascend (rows_of v shown)
  pub read : CanRead shown v.query.table v.query.snap
  pub columns : HaveColumns v.query.only (rows_of v shown)
  pub at_snap : v.joint.snap ≡ v.query.snap
  pub joint : JointFits v.joint shown
  pub scans : CanTake v.joint shown
  pub planned : (i : ℕ) → i < length v.joint.plans → (n : ℕ) → qualifies_at v.query.only (rows_of v shown) n ≡ true
      → meets (plan_at v.joint.plans i) shown v.joint.snap n ≡ true
  pub front : is_led v.strategy ≡ true → FrontFits v.query v.strategy v.front shown
  pub led : source v ≡ Ahead → is_led v.strategy ≡ true
  pub last : LastFits v.query.table v.query.snap v.last shown
  pub unbegun : is_early (source v) ≡ true → Unbegun v.at v.last
  pub listed : source v ≡ Keys → IsSome v.joint.list
  pub room : is_building v.control ≡ true → length v.delivered < 1024
  pub remembered : (is_building v.control && is_index_only v.strategy) ≡ true
      → Agree v.query.only (rows_of v shown) (λ n. not (has_key n v.delivered))
      (front_left v.front (front_entries v shown))
  pub ordered : is_sorted v.strategy ≡ false → v.query.order ≡ []
  pub sorted : is_sorted v.strategy ≡ true → (source v ≡ Ahead) ⊎ (source v ≡ Nowhere)

-- the query, the fit and the rest stay
pub record Keeps (old new : Shape) : Type 0 where
  pub query : new.query ≡ old.query
  pub fits : (shown : Shown) → RetrievalFits old shown → RetrievalFits new shown
  pub rest : (shown : Shown) → RetrievalFits old shown → rest new shown ≡ rest old shown

-- the list that fast-first borrows from: the complete one, or else the one being built
abbrev pub lending_of : Option (List ℕ) → List ℕ → List ℕ
lending_of None building = building
lending_of (Some keys) building = keys

abbrev pub lending : Joint → List ℕ
lending j = lending_of j.list j.building

-- a row is remembered
pub record Remembers (old new : Shape) (row : ℕ) : Type 0 where
  pub same : new ≡ record old { delivered = new.delivered }
  pub adds : AddsRow old.delivered new.delivered row

-- a row is remembered, and a full buffer changes the control
pub record Delivers (old new : Shape) (row : ℕ) : Type 0 where
  pub adds : AddsRow old.delivered new.delivered row
  pub same : new ≡ record old { delivered = new.delivered; control = new.control; trace = new.trace }
  pub counts : (new.trace.pages ≡ old.trace.pages) × (new.trace.leaves ≡ old.trace.leaves)
      × (new.trace.fetches ≡ old.trace.fetches)
  pub full : (length new.delivered ≡ 1024 → new.control ≡ next_control old.strategy old.control Full)
  pub less : (length new.delivered < 1024) ⊎ (length new.delivered ≡ 1024)
  pub room : length new.delivered < 1024 → new.control ≡ old.control

-- what a step does to the rest, and what it leaves where memory was wanting
abbrev pub DoesStep : Shape → Shape → Shown → Step Record → Type 0
DoesStep old new shown scanned = Steps old.query.need old.query.order scanned (rest old shown) (rest new shown)

-- an end leads to the last control
abbrev pub EndsIn : Shape → Step Record → Type 0
EndsIn v (Row r) = Unit {0}
EndsIn v Working = Unit {0}
EndsIn v End = v.control ≡ Done

-- the record that a foreground's scan gives is least of those that are left
abbrev pub LeastOf : Shape → Shown → Step Record → Type 0
LeastOf v shown (Row r) =
    IsLeast v.query.order r (rest_by (front_left v.front (front_entries v shown)) v.query.only (rows_of v shown))
LeastOf v shown Working = Unit {0}
LeastOf v shown End = Unit {0}

-- Where a happening may lead.

abbrev pub BothSides : Shape → Type 0
BothSides v = (is_building v.control && is_index_only v.strategy) ≡ true

-- what is left are the rows that were not delivered
abbrev pub FromBuffer : Shape → Type 0
FromBuffer v = (source v ≡ Undelivered) ⊎ BothSides v

abbrev pub Leads : Shape → Source → Type 0
Leads v s =
    (s ≡ source v)
    ⊎ ((FromBuffer v × (s ≡ Undelivered))
    ⊎ ((FromBuffer v × (s ≡ Keys) × IsSome v.joint.list)
    ⊎ ((source v ≡ Undelivered) × (s ≡ Pages))))

pub record MayGo (v : Shape) (c : Control) : Type 0 where
  pub leads : Leads v (source_of c v.strategy)
  pub stays : is_building c ≡ true → c ≡ v.control
