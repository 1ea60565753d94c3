-- HOW MUCH A RETRIEVAL READS UNDER JUDGES THAT ARE BOUNDED.
use Rattle.std.specs.Prelude.{◌≡◌, ℕ, ◌+◌, ◌*◌, ◌/◌, ◌^◌, ◌<◌, ◌≤◌, false, List, length, nat_lt, if◌then◌else◌}
use Rattle.rv_judge.specs.declared.counting.Counts.{Counts}
use Rattle.rv_judge.specs.declared.events.Strategy.TheVariants.{BackgroundOnly, FastFirst}
use Rattle.rv_judge.specs.declared.events.Trace.{Trace}
use Rattle.rv_judge.specs.declared.judging.Facts.{Facts}
use Rattle.rv_judge.specs.Counting.{reads}
use Rattle.rv_judge.specs.Verdicts.{Ruling}
use Rattle.rv_judge.specs.Tracing.{CountsAll}
use Rattle.rv_reader.specs.Shown.{Shown}
use Rattle.rv_choice.specs.declared.query.Query.{Query}
use Rattle.rv_retrieval.specs.Effort.{Awaiting}
use Rattle.rv_retrieval.specs.Opened.{Opened}
use Rattle.rv_retrieval.specs.Shape.{RetrievalFits, Shape, is_led}
use Rattle.rv_retrieval.specs.Short.{has_short}
use Rattle.rv_search.specs.Searching.{RanOut}
use Rattle.skew_judges.specs.Guard.{IsBounded}
use Rattle.rv_bounded.specs.Calls.{Call, DoesAll, lost_by}

-- WHAT `open` TELLS OF A RETRIEVAL WHOSE FOREGROUND SCANS NO INDEX: its strategy is background-only, fast-first or that
-- of the table; no index is short, so none was scanned, and nothing was read
pub record OpensAlone (query : Query) (shown : Shown) (v : Shape) : Type 0 where
  pub cursor : ℕ
  pub opening : ℕ
  pub opened : Opened query shown cursor opening v
  pub fits : RetrievalFits v shown
  pub awaiting : Awaiting v
  pub alone : is_led v.strategy ≡ false
  pub long : has_short query shown ≡ false
  pub steps : Counts
  pub unread : CountsAll v.trace steps steps

-- LAW: whatever calls come, in whatever order, under whatever judges that are bounded, such a retrieval never reads
-- more leaves than the table has pages and two for each planned scan, but for one for each call for which no memory was
-- found
abbrev pub LeavesAreFew : Type 0
LeavesAreFew =
    (query : Query) (shown : Shown) (calls : List Call) (opened now : Shape)
    → OpensAlone query shown opened → DoesAll calls shown opened now
    → now.trace.leaves ≤ shown.pages query.table query.snap + 2 * length opened.joint.plans + lost_by calls

-- all that a trace has counted: pages, leaves and records
abbrev pub reads_told : Trace → ℕ
reads_told t = t.pages + t.leaves + t.fetches

-- LAW: and where it is background-only, it never reads more than twice the table's pages, two leaves for each planned
-- scan and the 48 keys of a last piece, but for one for each call for which no memory was found
abbrev pub ReadsAreBounded : Type 0
ReadsAreBounded =
    (query : Query) (shown : Shown) (calls : List Call) (opened now : Shape)
    → OpensAlone query shown opened → opened.strategy ≡ BackgroundOnly → shown.pages query.table query.snap < 2 ^ 63
    → DoesAll calls shown opened now
    → reads_told now.trace
    ≤ 2 * shown.pages query.table query.snap + 2 * length opened.joint.plans + 48 + lost_by calls

-- an eighth of the pages of a table that has fewer than 64
abbrev pub spare : ℕ → ℕ
spare pages = if nat_lt pages 64 then pages / 8 else 0

-- LAW: a fast-first one, which fetches what its scans list while they run, never reads more than twice the table's
-- pages, twice an eighth of them, and 50 for each planned scan, of a table that has fewer than 64 pages an eighth of
-- them more, and one for each call for which no memory was found
abbrev pub FastReadsAreBounded : Type 0
FastReadsAreBounded =
    (query : Query) (shown : Shown) (calls : List Call) (opened now : Shape)
    → OpensAlone query shown opened → opened.strategy ≡ FastFirst → shown.pages query.table query.snap < 2 ^ 63
    → DoesAll calls shown opened now
    → reads_told now.trace
    ≤ 2 * shown.pages query.table query.snap + 2 * (shown.pages query.table query.snap / 8)
    + spare (shown.pages query.table query.snap) + 50 * length opened.joint.plans + lost_by calls

-- LAW: a background-only search to its end among at most eight indexes, in all that it reads, keeps to the bound of a
-- background-only retrieval under a judge that is bounded
abbrev pub SearchesAreBounded : Type 0
SearchesAreBounded =
    (would : ℕ → Facts → Ruling) (state after : ℕ) (shown : Shown) (before behind : Counts) (query : Query)
    (ran : RanOut would state after shown before behind query) → IsBounded would → length query.indexes ≤ 8
    → has_short query shown ≡ false → ran.begun.strategy ≡ BackgroundOnly
    → shown.pages query.table query.snap < 2 ^ 63
    → reads behind
    ≤ reads before + 2 * shown.pages query.table query.snap + 2 * length ran.begun.joint.plans + 48
