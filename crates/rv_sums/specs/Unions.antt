-- WHAT A UNION FETCHES OVER ITS WHOLE LIFE.
use Rattle.std.specs.Prelude.{◌≡◌, ℕ, ◌+◌, ◌≤◌, List, [], ◌∷◌, length}
use Rattle.rv_judge.specs.declared.judging.Facts.{Facts}
use Rattle.rv_judge.specs.Verdicts.{Ruling}
use Rattle.rv_restrict.specs.declared.atom.Atom.{Atom}
use Rattle.rv_reader.specs.Shown.{Shown}
use Rattle.rv_jscan.specs.declared.jscan.ScanPlan.{ScanPlan}
use Rattle.rv_union.specs.Opened.{Opened}
use Rattle.rv_union.specs.Unioned.{SameUnion, UnionFits, Unioned}
use Rattle.rv_bounded.specs.Calls.{Call, lost_by}
use Rattle.rv_bounded.specs.Unions.{UnionDoesCall}
use Rattle.rv_sums.specs.Sums.{HasMet}

-- a call of a union under some judge, which leaves what is asked and the members; what it then holds was drawn from
-- what the reader shows
pub record UnionCalled (call : Call) (shown : Shown) (old new : Unioned) : Type 0 where
  pub would : ℕ → Facts → Ruling
  pub does : UnionDoesCall call would old new
  pub same : SameUnion old new
  pub fits : UnionFits new shown

-- such calls one after another, the last one first in the list
abbrev pub UnionLives : List Call → Shown → Unioned → Unioned → Type 0
UnionLives [] shown old new = new ≡ old
UnionLives (call ∷ calls) shown old new =
    (mid : Unioned) × UnionLives calls shown old mid × UnionCalled call shown mid new

-- LAW: OVER ITS WHOLE LIFE A UNION FETCHES AT MOST AS MANY RECORDS AS THERE ARE DIFFERENT ROWS that meet some member,
-- but for one for each call for which no memory was found; whatever calls come, in whatever order, and whatever judges
-- rule: a list that has each of these rows is no shorter
abbrev pub UnionsFetchFew : Type 0
UnionsFetchFew =
    (table snap : ℕ) (only : List (List Atom)) (members : List ScanPlan) (cursor opening pages : ℕ) (calls : List Call)
    (shown : Shown) (rows : List ℕ) (opened now : Unioned)
    → Opened table snap only members cursor opening pages opened → HasMet rows opened shown
    → UnionLives calls shown opened now → now.trace.fetches ≤ length rows + lost_by calls
