-- HOW MUCH A UNION READS IN ALL UNDER JUDGES THAT ARE BOUNDED.
use Rattle.std.specs.Prelude.{◌≡◌, ℕ, ◌+◌, ◌*◌, ◌^◌, ◌<◌, ◌≤◌, List, [], ◌∷◌, length}
use Rattle.rv_judge.specs.declared.judging.Facts.{Facts}
use Rattle.rv_judge.specs.Verdicts.{Ruling}
use Rattle.rv_restrict.specs.declared.atom.Atom.{Atom}
use Rattle.rv_reader.specs.Shown.{Shown}
use Rattle.rv_jscan.specs.declared.jscan.ScanPlan.{ScanPlan}
use Rattle.rv_union.specs.Opened.{Opened}
use Rattle.rv_union.specs.Unioned.{UnionFits, Unioned}
use Rattle.rv_bounded.specs.Bounds.{reads_told}
use Rattle.rv_bounded.specs.Calls.{Call, lost_by}
use Rattle.rv_bounded.specs.Calls.Call.{Step, StepLost, Take, TakeLost, Give}
use Rattle.rv_bounded.specs.Unions.{UnionDoesAll, UnionDoesCall}

-- A CALL OVER A TABLE OF SO MANY PAGES: a step reads such a one, and behind a take, and a step for which no memory is
-- found, what the union holds was drawn from what a reader shows
abbrev pub UnionOver : (call : Call) (would : ℕ → Facts → Ruling) (pages : ℕ) (old new : Unioned)
    → UnionDoesCall call would old new → Type 0
UnionOver Step would pages old new does = does.shown.pages old.table old.snap ≡ pages
UnionOver StepLost would pages old new does = (shown : Shown) × UnionFits new shown
UnionOver Take would pages old new does = (shown : Shown) × UnionFits new shown
UnionOver TakeLost would pages old new does = (shown : Shown) × UnionFits new shown
UnionOver Give would pages old new does = Unit {0}

abbrev pub UnionAllOver : (calls : List Call) (pages : ℕ) (old new : Unioned) → UnionDoesAll calls old new → Type 0
UnionAllOver [] pages old new does = Unit {0}
UnionAllOver (call ∷ calls) pages old new does =
    UnionAllOver calls pages old does.0 does.1 × UnionOver call does.2.would pages does.0 new does.2.does

-- LAW: whatever calls come, in whatever order, under whatever judges that are bounded, a union never reads more than
-- twice the table's pages and for each member two leaves and the 48 keys of a last piece, but for one for each call for
-- which no memory was found
abbrev pub UnionsAreBounded : Type 0
UnionsAreBounded =
    (table snap : ℕ) (only : List (List Atom)) (members : List ScanPlan) (cursor opening pages : ℕ) (calls : List Call)
    (opened now : Unioned)
    → 1 ≤ length members → length members ≤ 2 ^ 32 → pages < 2 ^ 63
    → Opened table snap only members cursor opening pages opened
    → (does : UnionDoesAll calls opened now) → UnionAllOver calls pages opened now does
    → reads_told now.trace ≤ 2 * pages + 50 * length members + lost_by calls
