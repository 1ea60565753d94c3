-- What a search asks, and what it finds.
use Rattle.std.specs.Prelude.{◌≡◌, ℕ, ◌+◌, ◌≤◌, Bool, true, false, not, List, [], ◌∷◌, ◌++◌, Option, Some, None, map, IsPermutation}
use Rattle.std.specs.List.{list_any}
use Rattle.rv_value.specs.declared.record.Record.{Record}
use Rattle.rv_value.specs.declared.record.RowNo.{RowNo}
use Rattle.rv_value.specs.Ranges.{is_whole}
use Rattle.rv_judge.specs.declared.counting.Counts.{Counts}
use Rattle.rv_judge.specs.declared.judging.Facts.{Facts}
use Rattle.rv_judge.specs.Verdicts.{Ruling}
use Rattle.rv_judge.specs.Counting.{reads}
use Rattle.rv_judge.specs.Tracing.{CountsAll}
use Rattle.rv_restrict.specs.declared.atom.Atom.{Atom}
use Rattle.rv_restrict.specs.Ranges.{range_for}
use Rattle.rv_reader.specs.Shown.{Shown}
use Rattle.rv_reader.specs.Tables.{row_at}
use Rattle.rv_choice.specs.declared.query.Query.{Query}
use Rattle.rv_choice.specs.declared.query.Goal2.TheVariants.{TotalTime}
use Rattle.rv_retrieval.specs.Effort.{Awaiting, effort}
use Rattle.rv_retrieval.specs.Shape.{RetrievalFits, Shape, rest}
use Rattle.rv_retrieval.specs.Short.{OnlyLeaves, Settled, fetches_left, has_short}
use Rattle.rv_retrieval.specs.Opened.{Opened}
use Rattle.rv_retrieval.specs.Stepping.{StepsAs}
use Rattle.rv_reader.specs.declared.step.Step.{Step}
use Rattle.rv_reader.specs.declared.step.Step.TheVariants.{End}
use Rattle.rv_search.specs.Named.{columns_named}

-- WHAT A SEARCH ASKS: the rows of a table at a snapshot for which a restriction is True, in any order. The columns
-- that the restriction names are needed, and all rows are wanted soon.
abbrev pub search_of : ℕ → ℕ → List (List Atom) → List (ℕ × List ℕ) → Query
search_of table snap only indexes = record {
  table = table;
  snap = snap;
  only = only;
  indexes = indexes;
  need = columns_named only;
  order = [];
  goal = TotalTime;
}

-- one of some indexes narrows a search: the restriction gives a range of it
abbrev pub any_narrows : List (List Atom) → List (ℕ × List ℕ) → Bool
any_narrows only indexes = list_any (λ (i : ℕ × List ℕ). not (is_whole (range_for only i.1))) indexes

-- the numbers of rows
abbrev pub numbers : List Record → List RowNo
numbers rows = map (λ (r : Record). r.row) rows

abbrev pub with_found : Option Record → List Record → List Record
with_found None rows = rows
with_found (Some r) rows = r ∷ rows

-- the rows of these numbers, in their order; a number of which there is no row gives none
abbrev pub rows_of : List Record → List RowNo → List Record
rows_of rows [] = []
rows_of rows (n ∷ ns) = with_found (row_at rows n.0) (rows_of rows ns)

-- WHAT STEPS OF A SEARCH LEAVE: the rows found and those that the retrieval still owes are, each once, those that
-- were found and owed before; what was read and the effort that is left are together no more than before. Where a
-- short index was scanned at opening no page is read, and the records fetched and those that may still be fetched are
-- no more than before.
pub record Gathers (shown : Shown) (c d : Counts) (before after : List RowNo) (old new : Shape) : Type 0 where
  pub fits : RetrievalFits new shown
  pub awaiting : Awaiting new
  pub once : IsPermutation (before ++ numbers (rest old shown)) (after ++ numbers (rest new shown))
  pub spends : reads d + effort new shown ≤ reads c + effort old shown
  pub settled : Settled old → Settled new
  pub pages : Settled old → d.pages ≡ c.pages
  pub records : Settled old → d.records + fetches_left new shown ≤ c.records + fetches_left old shown

-- WHAT THE FETCH OF SO MANY ROWS READS: at most one record for each, no page and no leaf
pub record OnlyRecords (most : ℕ) (c d : Counts) : Type 0 where
  pub pages : d.pages ≡ c.pages
  pub leaves : d.leaves ≡ c.leaves
  pub records : d.records ≤ c.records + most

-- HOW A SEARCH GOES: a retrieval of what it asks is opened, and stepped to its end.

-- the retrieval, where the judge stands, and what was read
pub record Searched : Type 0 where
  pub retrieval : Shape
  pub judge : ℕ
  pub counts : Counts

abbrev pub searched : Shape → ℕ → Counts → Searched
searched retrieval judge counts = record { retrieval = retrieval; judge = judge; counts = counts }

-- foreground steps that came to these answers, the last one first in the list; each does, reads and asks as one does
abbrev pub StepsAll : List (Step Record) → (ℕ → Facts → Ruling) → Shown → Searched → Searched → Type 0
StepsAll [] would shown old new = new ≡ old
StepsAll (fg ∷ fgs) would shown old new =
    (mid : Searched) × StepsAll fgs would shown old mid
    × StepsAs would mid.judge new.judge shown mid.counts new.counts fg mid.retrieval new.retrieval

-- such steps lead from one retrieval to another
pub record Goes (would : ℕ → Facts → Ruling) (state after : ℕ) (shown : Shown) (c d : Counts)
    (old new : Shape) : Type 0 where
  pub answers : List (Step Record)
  pub made : StepsAll answers would shown (searched old state c) (searched new after d)

-- somewhere, and there the judge stands
pub record GoesSome (would : ℕ → Facts → Ruling) (state after : ℕ) (shown : Shown) (c : Counts)
    (old : Shape) : Type 0 where
  pub last : Shape
  pub counts : Counts
  pub goes : Goes would state after shown c counts old last

-- to the end, which the last one found
pub record GoesOut (would : ℕ → Facts → Ruling) (state after : ℕ) (shown : Shown) (c d : Counts)
    (old : Shape) : Type 0 where
  pub before : List (Step Record)
  pub last : Shape
  pub made : StepsAll (End ∷ before) would shown (searched old state c) (searched last after d)

-- one step, by whether it found the end
abbrev pub StepsOn : Bool → (ℕ → Facts → Ruling) → ℕ → ℕ → Shown → Counts → Counts → Shape → Shape → Type 0
StepsOn true would state after shown c d old new = StepsAs would state after shown c d End old new
StepsOn false would state after shown c d old new = (fg : Step Record) × StepsAs would state after shown c d fg old new

-- A SEARCH, however far it came: its retrieval was opened and stepped, and the judge stands where these steps leave it
pub record Ran (would : ℕ → Facts → Ruling) (state after : ℕ) (shown : Shown) (query : Query) : Type 0 where
  pub begun : Shape
  pub counts : Counts
  pub opened : Opened query shown 0 0 begun
  pub goes : GoesSome would state after shown counts begun

-- A SEARCH TO ITS END, which read leaves alone at opening, and where no index is short nothing, and then what these
-- steps read
pub record RanOut (would : ℕ → Facts → Ruling) (state after : ℕ) (shown : Shown) (c d : Counts)
    (query : Query) : Type 0 where
  pub begun : Shape
  pub counts : Counts
  pub only : OnlyLeaves c counts
  pub unread : has_short query shown ≡ false → counts ≡ c
  pub told : CountsAll begun.trace c counts
  pub opened : Opened query shown 0 0 begun
  pub goes : GoesOut would state after shown counts d begun

-- and what is found is fetched, so many records at most
pub record RanFetched (most : ℕ) (would : ℕ → Facts → Ruling) (state after : ℕ) (shown : Shown) (c d : Counts)
    (query : Query) : Type 0 where
  pub counts : Counts
  pub ran : RanOut would state after shown c counts query
  pub fetched : OnlyRecords most counts d
