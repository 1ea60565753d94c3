-- Bridge, the other way: a run is one by turns of the working definition. The cases were written by a script.
use Rattle.std.proofs.Common.{◌≡◌, refl, sym, ap, subst, ◌∙◌, inl, inr, ◌⊎◌}
use Rattle.std.specs.Prelude.{ℕ, List, [], ◌∷◌, ◌++◌, true, false, Option, Some, None, is_some}
use Rattle.rv_value.proofs.Tests.{no_some}
use Rattle.rv_judge.specs.declared.events.Strategy.{Strategy}
use Rattle.rv_judge.specs.declared.events.Strategy.TheVariants.{Table, BackgroundOnly, FastFirst, Sorted, IndexOnly, Union}
use Rattle.rv_judge.specs.declared.events.Control.{Control}
use Rattle.rv_judge.specs.declared.events.Control.TheVariants.{Building, ForegroundAlone, BackgroundAlone, FinalList, FinalTable, Done}
use Rattle.rv_judge.specs.declared.events.Event.{Event}
use Rattle.rv_judge.specs.declared.events.Event.TheVariants.{At, Scan, List as ListOf, Drop, Full as Filled, Stop}
use Rattle.rv_judge.specs.declared.judging.Verdict.TheVariants.{AbandonScan, AbandonForeground, AbandonBackground}
use Rattle.rv_judge.specs.declared.events.Happening.{Happening}
use Rattle.rv_judge.specs.declared.events.Happening.TheVariants.{ScanEnded, Ruled, Full, FrontEnded, FinalEnded}
use Rattle.rv_judge.specs.Runs as today
use Rattle.rv_judge.specs.Runs.{Standing}
use Rattle.rv_believed.specs.Course.{course}
use Rattle.rv_believed.specs.Runs.{at, is_more, scan_at, Ends, completes, is_dropped, Goes, next_scan, last_scan, drops_background, drops_front, fills, finishes, Runs, rests, goes}
use Rattle.rv_believed.proofs.RunsSame.{same_more}

abbrev Back : Strategy → Standing → List (Event) → Standing → Type 0
Back st s events t = (turn : today.Turn) × today.MayCome st s turn.happening turn.keys
    × (today.events_of st s turn ≡ events) × (today.after st s turn ≡ t)

abbrev turn : Happening → ℕ → today.Turn
turn happening keys = record { happening = happening; keys = keys }

abbrev control_or : Control → Option Control → Control
control_or c None = c
control_or c (Some d) = d

from_some : {c next : Control} (P : Control → Type 0) → Some c ≡ Some next → P c → P next
from_some {c = c} P q x = subst P (ap (control_or c) q) x

list_more : (st : Strategy) (c next : Control) (i j keys : ℕ) (ahead : List ℕ) (old : Option ℕ) → is_more (j ∷ ahead) (Some keys) ≡ true → course st c (ScanEnded true true) ≡ Some next
    → Back st (at c (Some i) (j ∷ ahead) old) (ListOf i keys ∷ Scan j ∷ []) (at next (Some j) ahead (Some keys))
list_more Table Building next i j keys ahead old p q = from_some (λ d. Back Table (at Building (Some i) (j ∷ ahead) old) (ListOf i keys ∷ Scan j ∷ []) (at d (Some j) ahead (Some keys))) q (turn (ScanEnded true true) keys, (refl, sym p, refl), refl, refl)
list_more Table ForegroundAlone next i j keys ahead old p q = no_some q
list_more Table BackgroundAlone next i j keys ahead old p q = from_some (λ d. Back Table (at BackgroundAlone (Some i) (j ∷ ahead) old) (ListOf i keys ∷ Scan j ∷ []) (at d (Some j) ahead (Some keys))) q (turn (ScanEnded true true) keys, (refl, sym p, refl), refl, refl)
list_more Table FinalList next i j keys ahead old p q = no_some q
list_more Table FinalTable next i j keys ahead old p q = no_some q
list_more Table Done next i j keys ahead old p q = no_some q
list_more BackgroundOnly Building next i j keys ahead old p q = from_some (λ d. Back BackgroundOnly (at Building (Some i) (j ∷ ahead) old) (ListOf i keys ∷ Scan j ∷ []) (at d (Some j) ahead (Some keys))) q (turn (ScanEnded true true) keys, (refl, sym p, refl), refl, refl)
list_more BackgroundOnly ForegroundAlone next i j keys ahead old p q = no_some q
list_more BackgroundOnly BackgroundAlone next i j keys ahead old p q = from_some (λ d. Back BackgroundOnly (at BackgroundAlone (Some i) (j ∷ ahead) old) (ListOf i keys ∷ Scan j ∷ []) (at d (Some j) ahead (Some keys))) q (turn (ScanEnded true true) keys, (refl, sym p, refl), refl, refl)
list_more BackgroundOnly FinalList next i j keys ahead old p q = no_some q
list_more BackgroundOnly FinalTable next i j keys ahead old p q = no_some q
list_more BackgroundOnly Done next i j keys ahead old p q = no_some q
list_more Union Building next i j keys ahead old p q = from_some (λ d. Back Union (at Building (Some i) (j ∷ ahead) old) (ListOf i keys ∷ Scan j ∷ []) (at d (Some j) ahead (Some keys))) q (turn (ScanEnded true true) keys, (refl, sym p, refl), refl, refl)
list_more Union ForegroundAlone next i j keys ahead old p q = no_some q
list_more Union BackgroundAlone next i j keys ahead old p q = from_some (λ d. Back Union (at BackgroundAlone (Some i) (j ∷ ahead) old) (ListOf i keys ∷ Scan j ∷ []) (at d (Some j) ahead (Some keys))) q (turn (ScanEnded true true) keys, (refl, sym p, refl), refl, refl)
list_more Union FinalList next i j keys ahead old p q = no_some q
list_more Union FinalTable next i j keys ahead old p q = no_some q
list_more Union Done next i j keys ahead old p q = no_some q
list_more FastFirst Building next i j keys ahead old p q = from_some (λ d. Back FastFirst (at Building (Some i) (j ∷ ahead) old) (ListOf i keys ∷ Scan j ∷ []) (at d (Some j) ahead (Some keys))) q (turn (ScanEnded true true) keys, (refl, sym p, refl), refl, refl)
list_more FastFirst ForegroundAlone next i j keys ahead old p q = no_some q
list_more FastFirst BackgroundAlone next i j keys ahead old p q = from_some (λ d. Back FastFirst (at BackgroundAlone (Some i) (j ∷ ahead) old) (ListOf i keys ∷ Scan j ∷ []) (at d (Some j) ahead (Some keys))) q (turn (ScanEnded true true) keys, (refl, sym p, refl), refl, refl)
list_more FastFirst FinalList next i j keys ahead old p q = no_some q
list_more FastFirst FinalTable next i j keys ahead old p q = no_some q
list_more FastFirst Done next i j keys ahead old p q = no_some q
list_more Sorted Building next i j keys ahead old p q = from_some (λ d. Back Sorted (at Building (Some i) (j ∷ ahead) old) (ListOf i keys ∷ Scan j ∷ []) (at d (Some j) ahead (Some keys))) q (turn (ScanEnded true true) keys, (refl, sym p, refl), refl, refl)
list_more Sorted ForegroundAlone next i j keys ahead old p q = no_some q
list_more Sorted BackgroundAlone next i j keys ahead old p q = from_some (λ d. Back Sorted (at BackgroundAlone (Some i) (j ∷ ahead) old) (ListOf i keys ∷ Scan j ∷ []) (at d (Some j) ahead (Some keys))) q (turn (ScanEnded true true) keys, (refl, sym p, refl), refl, refl)
list_more Sorted FinalList next i j keys ahead old p q = no_some q
list_more Sorted FinalTable next i j keys ahead old p q = no_some q
list_more Sorted Done next i j keys ahead old p q = no_some q
list_more IndexOnly Building next i j keys ahead old p q = from_some (λ d. Back IndexOnly (at Building (Some i) (j ∷ ahead) old) (ListOf i keys ∷ Scan j ∷ []) (at d (Some j) ahead (Some keys))) q (turn (ScanEnded true true) keys, (refl, sym p, refl), refl, refl)
list_more IndexOnly ForegroundAlone next i j keys ahead old p q = no_some q
list_more IndexOnly BackgroundAlone next i j keys ahead old p q = from_some (λ d. Back IndexOnly (at BackgroundAlone (Some i) (j ∷ ahead) old) (ListOf i keys ∷ Scan j ∷ []) (at d (Some j) ahead (Some keys))) q (turn (ScanEnded true true) keys, (refl, sym p, refl), refl, refl)
list_more IndexOnly FinalList next i j keys ahead old p q = no_some q
list_more IndexOnly FinalTable next i j keys ahead old p q = no_some q
list_more IndexOnly Done next i j keys ahead old p q = no_some q

list_last : (st : Strategy) (c next : Control) (i keys : ℕ) (ahead : List ℕ) (old : Option ℕ) → is_more ahead (Some keys) ≡ false → course st c (ScanEnded false true) ≡ Some next
    → Back st (at c (Some i) ahead old) (ListOf i keys ∷ At next ∷ []) (at next None ahead (Some keys))
list_last Table Building next i keys ahead old p q = no_some q
list_last Table ForegroundAlone next i keys ahead old p q = no_some q
list_last Table BackgroundAlone next i keys ahead old p q = from_some (λ d. Back Table (at BackgroundAlone (Some i) ahead old) (ListOf i keys ∷ At d ∷ []) (at d None ahead (Some keys))) q (turn (ScanEnded false true) keys, (refl, sym (same_more ahead (Some keys) ∙ p), refl), refl, refl)
list_last Table FinalList next i keys ahead old p q = no_some q
list_last Table FinalTable next i keys ahead old p q = no_some q
list_last Table Done next i keys ahead old p q = no_some q
list_last BackgroundOnly Building next i keys ahead old p q = no_some q
list_last BackgroundOnly ForegroundAlone next i keys ahead old p q = no_some q
list_last BackgroundOnly BackgroundAlone next i keys ahead old p q = from_some (λ d. Back BackgroundOnly (at BackgroundAlone (Some i) ahead old) (ListOf i keys ∷ At d ∷ []) (at d None ahead (Some keys))) q (turn (ScanEnded false true) keys, (refl, sym (same_more ahead (Some keys) ∙ p), refl), refl, refl)
list_last BackgroundOnly FinalList next i keys ahead old p q = no_some q
list_last BackgroundOnly FinalTable next i keys ahead old p q = no_some q
list_last BackgroundOnly Done next i keys ahead old p q = no_some q
list_last Union Building next i keys ahead old p q = no_some q
list_last Union ForegroundAlone next i keys ahead old p q = no_some q
list_last Union BackgroundAlone next i keys ahead old p q = from_some (λ d. Back Union (at BackgroundAlone (Some i) ahead old) (ListOf i keys ∷ At d ∷ []) (at d None ahead (Some keys))) q (turn (ScanEnded false true) keys, (refl, sym (same_more ahead (Some keys) ∙ p), refl), refl, refl)
list_last Union FinalList next i keys ahead old p q = no_some q
list_last Union FinalTable next i keys ahead old p q = no_some q
list_last Union Done next i keys ahead old p q = no_some q
list_last FastFirst Building next i keys ahead old p q = from_some (λ d. Back FastFirst (at Building (Some i) ahead old) (ListOf i keys ∷ At d ∷ []) (at d None ahead (Some keys))) q (turn (ScanEnded false true) keys, (refl, sym (same_more ahead (Some keys) ∙ p), refl), refl, refl)
list_last FastFirst ForegroundAlone next i keys ahead old p q = no_some q
list_last FastFirst BackgroundAlone next i keys ahead old p q = from_some (λ d. Back FastFirst (at BackgroundAlone (Some i) ahead old) (ListOf i keys ∷ At d ∷ []) (at d None ahead (Some keys))) q (turn (ScanEnded false true) keys, (refl, sym (same_more ahead (Some keys) ∙ p), refl), refl, refl)
list_last FastFirst FinalList next i keys ahead old p q = no_some q
list_last FastFirst FinalTable next i keys ahead old p q = no_some q
list_last FastFirst Done next i keys ahead old p q = no_some q
list_last Sorted Building next i keys ahead old p q = from_some (λ d. Back Sorted (at Building (Some i) ahead old) (ListOf i keys ∷ At d ∷ []) (at d None ahead (Some keys))) q (turn (ScanEnded false true) keys, (refl, sym (same_more ahead (Some keys) ∙ p), refl), refl, refl)
list_last Sorted ForegroundAlone next i keys ahead old p q = no_some q
list_last Sorted BackgroundAlone next i keys ahead old p q = from_some (λ d. Back Sorted (at BackgroundAlone (Some i) ahead old) (ListOf i keys ∷ At d ∷ []) (at d None ahead (Some keys))) q (turn (ScanEnded false true) keys, (refl, sym (same_more ahead (Some keys) ∙ p), refl), refl, refl)
list_last Sorted FinalList next i keys ahead old p q = no_some q
list_last Sorted FinalTable next i keys ahead old p q = no_some q
list_last Sorted Done next i keys ahead old p q = no_some q
list_last IndexOnly Building next i keys ahead old p q = from_some (λ d. Back IndexOnly (at Building (Some i) ahead old) (ListOf i keys ∷ At d ∷ []) (at d None ahead (Some keys))) q (turn (ScanEnded false true) keys, (refl, sym (same_more ahead (Some keys) ∙ p), refl), refl, refl)
list_last IndexOnly ForegroundAlone next i keys ahead old p q = no_some q
list_last IndexOnly BackgroundAlone next i keys ahead old p q = from_some (λ d. Back IndexOnly (at BackgroundAlone (Some i) ahead old) (ListOf i keys ∷ At d ∷ []) (at d None ahead (Some keys))) q (turn (ScanEnded false true) keys, (refl, sym (same_more ahead (Some keys) ∙ p), refl), refl, refl)
list_last IndexOnly FinalList next i keys ahead old p q = no_some q
list_last IndexOnly FinalTable next i keys ahead old p q = no_some q
list_last IndexOnly Done next i keys ahead old p q = no_some q

drop_more_none : (st : Strategy) (c next : Control) (i j n : ℕ) (ahead : List ℕ) → is_more (j ∷ ahead) None ≡ true → course st c (ScanEnded true false) ≡ Some next
    → Back st (at c (Some i) (j ∷ ahead) None) (Drop i ∷ Scan j ∷ []) (at next (Some j) ahead None)
drop_more_none Table Building next i j n ahead p q = from_some (λ d. Back Table (at Building (Some i) (j ∷ ahead) None) (Drop i ∷ Scan j ∷ []) (at d (Some j) ahead None)) q (turn (Ruled AbandonScan true false) 0, (refl, sym p, refl), refl, refl)
drop_more_none Table ForegroundAlone next i j n ahead p q = no_some q
drop_more_none Table BackgroundAlone next i j n ahead p q = from_some (λ d. Back Table (at BackgroundAlone (Some i) (j ∷ ahead) None) (Drop i ∷ Scan j ∷ []) (at d (Some j) ahead None)) q (turn (Ruled AbandonScan true false) 0, (refl, sym p, refl), refl, refl)
drop_more_none Table FinalList next i j n ahead p q = no_some q
drop_more_none Table FinalTable next i j n ahead p q = no_some q
drop_more_none Table Done next i j n ahead p q = no_some q
drop_more_none BackgroundOnly Building next i j n ahead p q = from_some (λ d. Back BackgroundOnly (at Building (Some i) (j ∷ ahead) None) (Drop i ∷ Scan j ∷ []) (at d (Some j) ahead None)) q (turn (Ruled AbandonScan true false) 0, (refl, sym p, refl), refl, refl)
drop_more_none BackgroundOnly ForegroundAlone next i j n ahead p q = no_some q
drop_more_none BackgroundOnly BackgroundAlone next i j n ahead p q = from_some (λ d. Back BackgroundOnly (at BackgroundAlone (Some i) (j ∷ ahead) None) (Drop i ∷ Scan j ∷ []) (at d (Some j) ahead None)) q (turn (Ruled AbandonScan true false) 0, (refl, sym p, refl), refl, refl)
drop_more_none BackgroundOnly FinalList next i j n ahead p q = no_some q
drop_more_none BackgroundOnly FinalTable next i j n ahead p q = no_some q
drop_more_none BackgroundOnly Done next i j n ahead p q = no_some q
drop_more_none Union Building next i j n ahead p q = from_some (λ d. Back Union (at Building (Some i) (j ∷ ahead) None) (Drop i ∷ Scan j ∷ []) (at d (Some j) ahead None)) q (turn (Ruled AbandonScan true false) 0, (refl, sym p, refl), refl, refl)
drop_more_none Union ForegroundAlone next i j n ahead p q = no_some q
drop_more_none Union BackgroundAlone next i j n ahead p q = from_some (λ d. Back Union (at BackgroundAlone (Some i) (j ∷ ahead) None) (Drop i ∷ Scan j ∷ []) (at d (Some j) ahead None)) q (turn (Ruled AbandonScan true false) 0, (refl, sym p, refl), refl, refl)
drop_more_none Union FinalList next i j n ahead p q = no_some q
drop_more_none Union FinalTable next i j n ahead p q = no_some q
drop_more_none Union Done next i j n ahead p q = no_some q
drop_more_none FastFirst Building next i j n ahead p q = from_some (λ d. Back FastFirst (at Building (Some i) (j ∷ ahead) None) (Drop i ∷ Scan j ∷ []) (at d (Some j) ahead None)) q (turn (Ruled AbandonScan true false) 0, (refl, sym p, refl), refl, refl)
drop_more_none FastFirst ForegroundAlone next i j n ahead p q = no_some q
drop_more_none FastFirst BackgroundAlone next i j n ahead p q = from_some (λ d. Back FastFirst (at BackgroundAlone (Some i) (j ∷ ahead) None) (Drop i ∷ Scan j ∷ []) (at d (Some j) ahead None)) q (turn (Ruled AbandonScan true false) 0, (refl, sym p, refl), refl, refl)
drop_more_none FastFirst FinalList next i j n ahead p q = no_some q
drop_more_none FastFirst FinalTable next i j n ahead p q = no_some q
drop_more_none FastFirst Done next i j n ahead p q = no_some q
drop_more_none Sorted Building next i j n ahead p q = from_some (λ d. Back Sorted (at Building (Some i) (j ∷ ahead) None) (Drop i ∷ Scan j ∷ []) (at d (Some j) ahead None)) q (turn (Ruled AbandonScan true false) 0, (refl, sym p, refl), refl, refl)
drop_more_none Sorted ForegroundAlone next i j n ahead p q = no_some q
drop_more_none Sorted BackgroundAlone next i j n ahead p q = from_some (λ d. Back Sorted (at BackgroundAlone (Some i) (j ∷ ahead) None) (Drop i ∷ Scan j ∷ []) (at d (Some j) ahead None)) q (turn (Ruled AbandonScan true false) 0, (refl, sym p, refl), refl, refl)
drop_more_none Sorted FinalList next i j n ahead p q = no_some q
drop_more_none Sorted FinalTable next i j n ahead p q = no_some q
drop_more_none Sorted Done next i j n ahead p q = no_some q
drop_more_none IndexOnly Building next i j n ahead p q = from_some (λ d. Back IndexOnly (at Building (Some i) (j ∷ ahead) None) (Drop i ∷ Scan j ∷ []) (at d (Some j) ahead None)) q (turn (Ruled AbandonScan true false) 0, (refl, sym p, refl), refl, refl)
drop_more_none IndexOnly ForegroundAlone next i j n ahead p q = no_some q
drop_more_none IndexOnly BackgroundAlone next i j n ahead p q = from_some (λ d. Back IndexOnly (at BackgroundAlone (Some i) (j ∷ ahead) None) (Drop i ∷ Scan j ∷ []) (at d (Some j) ahead None)) q (turn (Ruled AbandonScan true false) 0, (refl, sym p, refl), refl, refl)
drop_more_none IndexOnly FinalList next i j n ahead p q = no_some q
drop_more_none IndexOnly FinalTable next i j n ahead p q = no_some q
drop_more_none IndexOnly Done next i j n ahead p q = no_some q

drop_last_none : (st : Strategy) (c next : Control) (i n : ℕ) (ahead : List ℕ) → is_more ahead None ≡ false → course st c (ScanEnded false false) ≡ Some next
    → Back st (at c (Some i) ahead None) (Drop i ∷ At next ∷ []) (at next None ahead None)
drop_last_none Table Building next i n ahead p q = no_some q
drop_last_none Table ForegroundAlone next i n ahead p q = no_some q
drop_last_none Table BackgroundAlone next i n ahead p q = from_some (λ d. Back Table (at BackgroundAlone (Some i) ahead None) (Drop i ∷ At d ∷ []) (at d None ahead None)) q (turn (Ruled AbandonScan false false) 0, (refl, sym (same_more ahead None ∙ p), refl), refl, refl)
drop_last_none Table FinalList next i n ahead p q = no_some q
drop_last_none Table FinalTable next i n ahead p q = no_some q
drop_last_none Table Done next i n ahead p q = no_some q
drop_last_none BackgroundOnly Building next i n ahead p q = no_some q
drop_last_none BackgroundOnly ForegroundAlone next i n ahead p q = no_some q
drop_last_none BackgroundOnly BackgroundAlone next i n ahead p q = from_some (λ d. Back BackgroundOnly (at BackgroundAlone (Some i) ahead None) (Drop i ∷ At d ∷ []) (at d None ahead None)) q (turn (Ruled AbandonScan false false) 0, (refl, sym (same_more ahead None ∙ p), refl), refl, refl)
drop_last_none BackgroundOnly FinalList next i n ahead p q = no_some q
drop_last_none BackgroundOnly FinalTable next i n ahead p q = no_some q
drop_last_none BackgroundOnly Done next i n ahead p q = no_some q
drop_last_none Union Building next i n ahead p q = no_some q
drop_last_none Union ForegroundAlone next i n ahead p q = no_some q
drop_last_none Union BackgroundAlone next i n ahead p q = from_some (λ d. Back Union (at BackgroundAlone (Some i) ahead None) (Drop i ∷ At d ∷ []) (at d None ahead None)) q (turn (Ruled AbandonScan false false) 0, (refl, sym (same_more ahead None ∙ p), refl), refl, refl)
drop_last_none Union FinalList next i n ahead p q = no_some q
drop_last_none Union FinalTable next i n ahead p q = no_some q
drop_last_none Union Done next i n ahead p q = no_some q
drop_last_none FastFirst Building next i n ahead p q = from_some (λ d. Back FastFirst (at Building (Some i) ahead None) (Drop i ∷ At d ∷ []) (at d None ahead None)) q (turn (Ruled AbandonScan false false) 0, (refl, sym (same_more ahead None ∙ p), refl), refl, refl)
drop_last_none FastFirst ForegroundAlone next i n ahead p q = no_some q
drop_last_none FastFirst BackgroundAlone next i n ahead p q = from_some (λ d. Back FastFirst (at BackgroundAlone (Some i) ahead None) (Drop i ∷ At d ∷ []) (at d None ahead None)) q (turn (Ruled AbandonScan false false) 0, (refl, sym (same_more ahead None ∙ p), refl), refl, refl)
drop_last_none FastFirst FinalList next i n ahead p q = no_some q
drop_last_none FastFirst FinalTable next i n ahead p q = no_some q
drop_last_none FastFirst Done next i n ahead p q = no_some q
drop_last_none Sorted Building next i n ahead p q = from_some (λ d. Back Sorted (at Building (Some i) ahead None) (Drop i ∷ At d ∷ []) (at d None ahead None)) q (turn (Ruled AbandonScan false false) 0, (refl, sym (same_more ahead None ∙ p), refl), refl, refl)
drop_last_none Sorted ForegroundAlone next i n ahead p q = no_some q
drop_last_none Sorted BackgroundAlone next i n ahead p q = from_some (λ d. Back Sorted (at BackgroundAlone (Some i) ahead None) (Drop i ∷ At d ∷ []) (at d None ahead None)) q (turn (Ruled AbandonScan false false) 0, (refl, sym (same_more ahead None ∙ p), refl), refl, refl)
drop_last_none Sorted FinalList next i n ahead p q = no_some q
drop_last_none Sorted FinalTable next i n ahead p q = no_some q
drop_last_none Sorted Done next i n ahead p q = no_some q
drop_last_none IndexOnly Building next i n ahead p q = from_some (λ d. Back IndexOnly (at Building (Some i) ahead None) (Drop i ∷ At d ∷ []) (at d None ahead None)) q (turn (Ruled AbandonScan false false) 0, (refl, sym (same_more ahead None ∙ p), refl), refl, refl)
drop_last_none IndexOnly ForegroundAlone next i n ahead p q = no_some q
drop_last_none IndexOnly BackgroundAlone next i n ahead p q = from_some (λ d. Back IndexOnly (at BackgroundAlone (Some i) ahead None) (Drop i ∷ At d ∷ []) (at d None ahead None)) q (turn (Ruled AbandonScan false false) 0, (refl, sym (same_more ahead None ∙ p), refl), refl, refl)
drop_last_none IndexOnly FinalList next i n ahead p q = no_some q
drop_last_none IndexOnly FinalTable next i n ahead p q = no_some q
drop_last_none IndexOnly Done next i n ahead p q = no_some q

background_none : (st : Strategy) (c next : Control) (i n : ℕ) (ahead : List ℕ) → course st c (Ruled AbandonBackground true false) ≡ Some next
    → Back st (at c (Some i) ahead None) (Drop i ∷ At next ∷ []) (at next None ahead None)
background_none Table Building next i n ahead q = no_some q
background_none Table ForegroundAlone next i n ahead q = no_some q
background_none Table BackgroundAlone next i n ahead q = from_some (λ d. Back Table (at BackgroundAlone (Some i) ahead None) (Drop i ∷ At d ∷ []) (at d None ahead None)) q (turn (Ruled AbandonBackground (today.is_more ahead None) false) 0, (refl, refl, refl), refl, refl)
background_none Table FinalList next i n ahead q = no_some q
background_none Table FinalTable next i n ahead q = no_some q
background_none Table Done next i n ahead q = no_some q
background_none BackgroundOnly Building next i n ahead q = no_some q
background_none BackgroundOnly ForegroundAlone next i n ahead q = no_some q
background_none BackgroundOnly BackgroundAlone next i n ahead q = from_some (λ d. Back BackgroundOnly (at BackgroundAlone (Some i) ahead None) (Drop i ∷ At d ∷ []) (at d None ahead None)) q (turn (Ruled AbandonBackground (today.is_more ahead None) false) 0, (refl, refl, refl), refl, refl)
background_none BackgroundOnly FinalList next i n ahead q = no_some q
background_none BackgroundOnly FinalTable next i n ahead q = no_some q
background_none BackgroundOnly Done next i n ahead q = no_some q
background_none Union Building next i n ahead q = no_some q
background_none Union ForegroundAlone next i n ahead q = no_some q
background_none Union BackgroundAlone next i n ahead q = from_some (λ d. Back Union (at BackgroundAlone (Some i) ahead None) (Drop i ∷ At d ∷ []) (at d None ahead None)) q (turn (Ruled AbandonBackground (today.is_more ahead None) false) 0, (refl, refl, refl), refl, refl)
background_none Union FinalList next i n ahead q = no_some q
background_none Union FinalTable next i n ahead q = no_some q
background_none Union Done next i n ahead q = no_some q
background_none FastFirst Building next i n ahead q = from_some (λ d. Back FastFirst (at Building (Some i) ahead None) (Drop i ∷ At d ∷ []) (at d None ahead None)) q (turn (Ruled AbandonBackground (today.is_more ahead None) false) 0, (refl, refl, refl), refl, refl)
background_none FastFirst ForegroundAlone next i n ahead q = no_some q
background_none FastFirst BackgroundAlone next i n ahead q = from_some (λ d. Back FastFirst (at BackgroundAlone (Some i) ahead None) (Drop i ∷ At d ∷ []) (at d None ahead None)) q (turn (Ruled AbandonBackground (today.is_more ahead None) false) 0, (refl, refl, refl), refl, refl)
background_none FastFirst FinalList next i n ahead q = no_some q
background_none FastFirst FinalTable next i n ahead q = no_some q
background_none FastFirst Done next i n ahead q = no_some q
background_none Sorted Building next i n ahead q = from_some (λ d. Back Sorted (at Building (Some i) ahead None) (Drop i ∷ At d ∷ []) (at d None ahead None)) q (turn (Ruled AbandonBackground (today.is_more ahead None) false) 0, (refl, refl, refl), refl, refl)
background_none Sorted ForegroundAlone next i n ahead q = no_some q
background_none Sorted BackgroundAlone next i n ahead q = from_some (λ d. Back Sorted (at BackgroundAlone (Some i) ahead None) (Drop i ∷ At d ∷ []) (at d None ahead None)) q (turn (Ruled AbandonBackground (today.is_more ahead None) false) 0, (refl, refl, refl), refl, refl)
background_none Sorted FinalList next i n ahead q = no_some q
background_none Sorted FinalTable next i n ahead q = no_some q
background_none Sorted Done next i n ahead q = no_some q
background_none IndexOnly Building next i n ahead q = from_some (λ d. Back IndexOnly (at Building (Some i) ahead None) (Drop i ∷ At d ∷ []) (at d None ahead None)) q (turn (Ruled AbandonBackground (today.is_more ahead None) false) 0, (refl, refl, refl), refl, refl)
background_none IndexOnly ForegroundAlone next i n ahead q = no_some q
background_none IndexOnly BackgroundAlone next i n ahead q = from_some (λ d. Back IndexOnly (at BackgroundAlone (Some i) ahead None) (Drop i ∷ At d ∷ []) (at d None ahead None)) q (turn (Ruled AbandonBackground (today.is_more ahead None) false) 0, (refl, refl, refl), refl, refl)
background_none IndexOnly FinalList next i n ahead q = no_some q
background_none IndexOnly FinalTable next i n ahead q = no_some q
background_none IndexOnly Done next i n ahead q = no_some q

front_none : (st : Strategy) (c next : Control) (i n : ℕ) (ahead : List ℕ) → course st c (Ruled AbandonForeground true true) ≡ Some next
    → Back st (at c (Some i) ahead None) (Stop ∷ At next ∷ []) (at next (Some i) ahead None)
front_none Table Building next i n ahead q = no_some q
front_none Table ForegroundAlone next i n ahead q = no_some q
front_none Table BackgroundAlone next i n ahead q = no_some q
front_none Table FinalList next i n ahead q = no_some q
front_none Table FinalTable next i n ahead q = no_some q
front_none Table Done next i n ahead q = no_some q
front_none BackgroundOnly Building next i n ahead q = no_some q
front_none BackgroundOnly ForegroundAlone next i n ahead q = no_some q
front_none BackgroundOnly BackgroundAlone next i n ahead q = no_some q
front_none BackgroundOnly FinalList next i n ahead q = no_some q
front_none BackgroundOnly FinalTable next i n ahead q = no_some q
front_none BackgroundOnly Done next i n ahead q = no_some q
front_none Union Building next i n ahead q = no_some q
front_none Union ForegroundAlone next i n ahead q = no_some q
front_none Union BackgroundAlone next i n ahead q = no_some q
front_none Union FinalList next i n ahead q = no_some q
front_none Union FinalTable next i n ahead q = no_some q
front_none Union Done next i n ahead q = no_some q
front_none FastFirst Building next i n ahead q = from_some (λ d. Back FastFirst (at Building (Some i) ahead None) (Stop ∷ At d ∷ []) (at d (Some i) ahead None)) q (turn (Ruled AbandonForeground (today.is_more ahead None) false) 0, (refl, refl, refl), refl, refl)
front_none FastFirst ForegroundAlone next i n ahead q = no_some q
front_none FastFirst BackgroundAlone next i n ahead q = no_some q
front_none FastFirst FinalList next i n ahead q = no_some q
front_none FastFirst FinalTable next i n ahead q = no_some q
front_none FastFirst Done next i n ahead q = no_some q
front_none Sorted Building next i n ahead q = no_some q
front_none Sorted ForegroundAlone next i n ahead q = no_some q
front_none Sorted BackgroundAlone next i n ahead q = no_some q
front_none Sorted FinalList next i n ahead q = no_some q
front_none Sorted FinalTable next i n ahead q = no_some q
front_none Sorted Done next i n ahead q = no_some q
front_none IndexOnly Building next i n ahead q = from_some (λ d. Back IndexOnly (at Building (Some i) ahead None) (Stop ∷ At d ∷ []) (at d (Some i) ahead None)) q (turn (Ruled AbandonForeground (today.is_more ahead None) false) 0, (refl, refl, refl), refl, refl)
front_none IndexOnly ForegroundAlone next i n ahead q = no_some q
front_none IndexOnly BackgroundAlone next i n ahead q = no_some q
front_none IndexOnly FinalList next i n ahead q = no_some q
front_none IndexOnly FinalTable next i n ahead q = no_some q
front_none IndexOnly Done next i n ahead q = no_some q

drop_more_some : (st : Strategy) (c next : Control) (i j n : ℕ) (ahead : List ℕ) → is_more (j ∷ ahead) (Some n) ≡ true → course st c (ScanEnded true true) ≡ Some next
    → Back st (at c (Some i) (j ∷ ahead) (Some n)) (Drop i ∷ Scan j ∷ []) (at next (Some j) ahead (Some n))
drop_more_some Table Building next i j n ahead p q = from_some (λ d. Back Table (at Building (Some i) (j ∷ ahead) (Some n)) (Drop i ∷ Scan j ∷ []) (at d (Some j) ahead (Some n))) q (turn (Ruled AbandonScan true true) 0, (refl, sym p, refl), refl, refl)
drop_more_some Table ForegroundAlone next i j n ahead p q = no_some q
drop_more_some Table BackgroundAlone next i j n ahead p q = from_some (λ d. Back Table (at BackgroundAlone (Some i) (j ∷ ahead) (Some n)) (Drop i ∷ Scan j ∷ []) (at d (Some j) ahead (Some n))) q (turn (Ruled AbandonScan true true) 0, (refl, sym p, refl), refl, refl)
drop_more_some Table FinalList next i j n ahead p q = no_some q
drop_more_some Table FinalTable next i j n ahead p q = no_some q
drop_more_some Table Done next i j n ahead p q = no_some q
drop_more_some BackgroundOnly Building next i j n ahead p q = from_some (λ d. Back BackgroundOnly (at Building (Some i) (j ∷ ahead) (Some n)) (Drop i ∷ Scan j ∷ []) (at d (Some j) ahead (Some n))) q (turn (Ruled AbandonScan true true) 0, (refl, sym p, refl), refl, refl)
drop_more_some BackgroundOnly ForegroundAlone next i j n ahead p q = no_some q
drop_more_some BackgroundOnly BackgroundAlone next i j n ahead p q = from_some (λ d. Back BackgroundOnly (at BackgroundAlone (Some i) (j ∷ ahead) (Some n)) (Drop i ∷ Scan j ∷ []) (at d (Some j) ahead (Some n))) q (turn (Ruled AbandonScan true true) 0, (refl, sym p, refl), refl, refl)
drop_more_some BackgroundOnly FinalList next i j n ahead p q = no_some q
drop_more_some BackgroundOnly FinalTable next i j n ahead p q = no_some q
drop_more_some BackgroundOnly Done next i j n ahead p q = no_some q
drop_more_some Union Building next i j n ahead p q = from_some (λ d. Back Union (at Building (Some i) (j ∷ ahead) (Some n)) (Drop i ∷ Scan j ∷ []) (at d (Some j) ahead (Some n))) q (turn (Ruled AbandonScan true true) 0, (refl, sym p, refl), refl, refl)
drop_more_some Union ForegroundAlone next i j n ahead p q = no_some q
drop_more_some Union BackgroundAlone next i j n ahead p q = from_some (λ d. Back Union (at BackgroundAlone (Some i) (j ∷ ahead) (Some n)) (Drop i ∷ Scan j ∷ []) (at d (Some j) ahead (Some n))) q (turn (Ruled AbandonScan true true) 0, (refl, sym p, refl), refl, refl)
drop_more_some Union FinalList next i j n ahead p q = no_some q
drop_more_some Union FinalTable next i j n ahead p q = no_some q
drop_more_some Union Done next i j n ahead p q = no_some q
drop_more_some FastFirst Building next i j n ahead p q = from_some (λ d. Back FastFirst (at Building (Some i) (j ∷ ahead) (Some n)) (Drop i ∷ Scan j ∷ []) (at d (Some j) ahead (Some n))) q (turn (Ruled AbandonScan true true) 0, (refl, sym p, refl), refl, refl)
drop_more_some FastFirst ForegroundAlone next i j n ahead p q = no_some q
drop_more_some FastFirst BackgroundAlone next i j n ahead p q = from_some (λ d. Back FastFirst (at BackgroundAlone (Some i) (j ∷ ahead) (Some n)) (Drop i ∷ Scan j ∷ []) (at d (Some j) ahead (Some n))) q (turn (Ruled AbandonScan true true) 0, (refl, sym p, refl), refl, refl)
drop_more_some FastFirst FinalList next i j n ahead p q = no_some q
drop_more_some FastFirst FinalTable next i j n ahead p q = no_some q
drop_more_some FastFirst Done next i j n ahead p q = no_some q
drop_more_some Sorted Building next i j n ahead p q = from_some (λ d. Back Sorted (at Building (Some i) (j ∷ ahead) (Some n)) (Drop i ∷ Scan j ∷ []) (at d (Some j) ahead (Some n))) q (turn (Ruled AbandonScan true true) 0, (refl, sym p, refl), refl, refl)
drop_more_some Sorted ForegroundAlone next i j n ahead p q = no_some q
drop_more_some Sorted BackgroundAlone next i j n ahead p q = from_some (λ d. Back Sorted (at BackgroundAlone (Some i) (j ∷ ahead) (Some n)) (Drop i ∷ Scan j ∷ []) (at d (Some j) ahead (Some n))) q (turn (Ruled AbandonScan true true) 0, (refl, sym p, refl), refl, refl)
drop_more_some Sorted FinalList next i j n ahead p q = no_some q
drop_more_some Sorted FinalTable next i j n ahead p q = no_some q
drop_more_some Sorted Done next i j n ahead p q = no_some q
drop_more_some IndexOnly Building next i j n ahead p q = from_some (λ d. Back IndexOnly (at Building (Some i) (j ∷ ahead) (Some n)) (Drop i ∷ Scan j ∷ []) (at d (Some j) ahead (Some n))) q (turn (Ruled AbandonScan true true) 0, (refl, sym p, refl), refl, refl)
drop_more_some IndexOnly ForegroundAlone next i j n ahead p q = no_some q
drop_more_some IndexOnly BackgroundAlone next i j n ahead p q = from_some (λ d. Back IndexOnly (at BackgroundAlone (Some i) (j ∷ ahead) (Some n)) (Drop i ∷ Scan j ∷ []) (at d (Some j) ahead (Some n))) q (turn (Ruled AbandonScan true true) 0, (refl, sym p, refl), refl, refl)
drop_more_some IndexOnly FinalList next i j n ahead p q = no_some q
drop_more_some IndexOnly FinalTable next i j n ahead p q = no_some q
drop_more_some IndexOnly Done next i j n ahead p q = no_some q

drop_last_some : (st : Strategy) (c next : Control) (i n : ℕ) (ahead : List ℕ) → is_more ahead (Some n) ≡ false → course st c (ScanEnded false true) ≡ Some next
    → Back st (at c (Some i) ahead (Some n)) (Drop i ∷ At next ∷ []) (at next None ahead (Some n))
drop_last_some Table Building next i n ahead p q = no_some q
drop_last_some Table ForegroundAlone next i n ahead p q = no_some q
drop_last_some Table BackgroundAlone next i n ahead p q = from_some (λ d. Back Table (at BackgroundAlone (Some i) ahead (Some n)) (Drop i ∷ At d ∷ []) (at d None ahead (Some n))) q (turn (Ruled AbandonScan false true) 0, (refl, sym (same_more ahead (Some n) ∙ p), refl), refl, refl)
drop_last_some Table FinalList next i n ahead p q = no_some q
drop_last_some Table FinalTable next i n ahead p q = no_some q
drop_last_some Table Done next i n ahead p q = no_some q
drop_last_some BackgroundOnly Building next i n ahead p q = no_some q
drop_last_some BackgroundOnly ForegroundAlone next i n ahead p q = no_some q
drop_last_some BackgroundOnly BackgroundAlone next i n ahead p q = from_some (λ d. Back BackgroundOnly (at BackgroundAlone (Some i) ahead (Some n)) (Drop i ∷ At d ∷ []) (at d None ahead (Some n))) q (turn (Ruled AbandonScan false true) 0, (refl, sym (same_more ahead (Some n) ∙ p), refl), refl, refl)
drop_last_some BackgroundOnly FinalList next i n ahead p q = no_some q
drop_last_some BackgroundOnly FinalTable next i n ahead p q = no_some q
drop_last_some BackgroundOnly Done next i n ahead p q = no_some q
drop_last_some Union Building next i n ahead p q = no_some q
drop_last_some Union ForegroundAlone next i n ahead p q = no_some q
drop_last_some Union BackgroundAlone next i n ahead p q = from_some (λ d. Back Union (at BackgroundAlone (Some i) ahead (Some n)) (Drop i ∷ At d ∷ []) (at d None ahead (Some n))) q (turn (Ruled AbandonScan false true) 0, (refl, sym (same_more ahead (Some n) ∙ p), refl), refl, refl)
drop_last_some Union FinalList next i n ahead p q = no_some q
drop_last_some Union FinalTable next i n ahead p q = no_some q
drop_last_some Union Done next i n ahead p q = no_some q
drop_last_some FastFirst Building next i n ahead p q = from_some (λ d. Back FastFirst (at Building (Some i) ahead (Some n)) (Drop i ∷ At d ∷ []) (at d None ahead (Some n))) q (turn (Ruled AbandonScan false true) 0, (refl, sym (same_more ahead (Some n) ∙ p), refl), refl, refl)
drop_last_some FastFirst ForegroundAlone next i n ahead p q = no_some q
drop_last_some FastFirst BackgroundAlone next i n ahead p q = from_some (λ d. Back FastFirst (at BackgroundAlone (Some i) ahead (Some n)) (Drop i ∷ At d ∷ []) (at d None ahead (Some n))) q (turn (Ruled AbandonScan false true) 0, (refl, sym (same_more ahead (Some n) ∙ p), refl), refl, refl)
drop_last_some FastFirst FinalList next i n ahead p q = no_some q
drop_last_some FastFirst FinalTable next i n ahead p q = no_some q
drop_last_some FastFirst Done next i n ahead p q = no_some q
drop_last_some Sorted Building next i n ahead p q = from_some (λ d. Back Sorted (at Building (Some i) ahead (Some n)) (Drop i ∷ At d ∷ []) (at d None ahead (Some n))) q (turn (Ruled AbandonScan false true) 0, (refl, sym (same_more ahead (Some n) ∙ p), refl), refl, refl)
drop_last_some Sorted ForegroundAlone next i n ahead p q = no_some q
drop_last_some Sorted BackgroundAlone next i n ahead p q = from_some (λ d. Back Sorted (at BackgroundAlone (Some i) ahead (Some n)) (Drop i ∷ At d ∷ []) (at d None ahead (Some n))) q (turn (Ruled AbandonScan false true) 0, (refl, sym (same_more ahead (Some n) ∙ p), refl), refl, refl)
drop_last_some Sorted FinalList next i n ahead p q = no_some q
drop_last_some Sorted FinalTable next i n ahead p q = no_some q
drop_last_some Sorted Done next i n ahead p q = no_some q
drop_last_some IndexOnly Building next i n ahead p q = from_some (λ d. Back IndexOnly (at Building (Some i) ahead (Some n)) (Drop i ∷ At d ∷ []) (at d None ahead (Some n))) q (turn (Ruled AbandonScan false true) 0, (refl, sym (same_more ahead (Some n) ∙ p), refl), refl, refl)
drop_last_some IndexOnly ForegroundAlone next i n ahead p q = no_some q
drop_last_some IndexOnly BackgroundAlone next i n ahead p q = from_some (λ d. Back IndexOnly (at BackgroundAlone (Some i) ahead (Some n)) (Drop i ∷ At d ∷ []) (at d None ahead (Some n))) q (turn (Ruled AbandonScan false true) 0, (refl, sym (same_more ahead (Some n) ∙ p), refl), refl, refl)
drop_last_some IndexOnly FinalList next i n ahead p q = no_some q
drop_last_some IndexOnly FinalTable next i n ahead p q = no_some q
drop_last_some IndexOnly Done next i n ahead p q = no_some q

background_some : (st : Strategy) (c next : Control) (i n : ℕ) (ahead : List ℕ) → course st c (Ruled AbandonBackground true true) ≡ Some next
    → Back st (at c (Some i) ahead (Some n)) (Drop i ∷ At next ∷ []) (at next None ahead (Some n))
background_some Table Building next i n ahead q = no_some q
background_some Table ForegroundAlone next i n ahead q = no_some q
background_some Table BackgroundAlone next i n ahead q = from_some (λ d. Back Table (at BackgroundAlone (Some i) ahead (Some n)) (Drop i ∷ At d ∷ []) (at d None ahead (Some n))) q (turn (Ruled AbandonBackground (today.is_more ahead (Some n)) true) 0, (refl, refl, refl), refl, refl)
background_some Table FinalList next i n ahead q = no_some q
background_some Table FinalTable next i n ahead q = no_some q
background_some Table Done next i n ahead q = no_some q
background_some BackgroundOnly Building next i n ahead q = no_some q
background_some BackgroundOnly ForegroundAlone next i n ahead q = no_some q
background_some BackgroundOnly BackgroundAlone next i n ahead q = from_some (λ d. Back BackgroundOnly (at BackgroundAlone (Some i) ahead (Some n)) (Drop i ∷ At d ∷ []) (at d None ahead (Some n))) q (turn (Ruled AbandonBackground (today.is_more ahead (Some n)) true) 0, (refl, refl, refl), refl, refl)
background_some BackgroundOnly FinalList next i n ahead q = no_some q
background_some BackgroundOnly FinalTable next i n ahead q = no_some q
background_some BackgroundOnly Done next i n ahead q = no_some q
background_some Union Building next i n ahead q = no_some q
background_some Union ForegroundAlone next i n ahead q = no_some q
background_some Union BackgroundAlone next i n ahead q = from_some (λ d. Back Union (at BackgroundAlone (Some i) ahead (Some n)) (Drop i ∷ At d ∷ []) (at d None ahead (Some n))) q (turn (Ruled AbandonBackground (today.is_more ahead (Some n)) true) 0, (refl, refl, refl), refl, refl)
background_some Union FinalList next i n ahead q = no_some q
background_some Union FinalTable next i n ahead q = no_some q
background_some Union Done next i n ahead q = no_some q
background_some FastFirst Building next i n ahead q = from_some (λ d. Back FastFirst (at Building (Some i) ahead (Some n)) (Drop i ∷ At d ∷ []) (at d None ahead (Some n))) q (turn (Ruled AbandonBackground (today.is_more ahead (Some n)) true) 0, (refl, refl, refl), refl, refl)
background_some FastFirst ForegroundAlone next i n ahead q = no_some q
background_some FastFirst BackgroundAlone next i n ahead q = from_some (λ d. Back FastFirst (at BackgroundAlone (Some i) ahead (Some n)) (Drop i ∷ At d ∷ []) (at d None ahead (Some n))) q (turn (Ruled AbandonBackground (today.is_more ahead (Some n)) true) 0, (refl, refl, refl), refl, refl)
background_some FastFirst FinalList next i n ahead q = no_some q
background_some FastFirst FinalTable next i n ahead q = no_some q
background_some FastFirst Done next i n ahead q = no_some q
background_some Sorted Building next i n ahead q = from_some (λ d. Back Sorted (at Building (Some i) ahead (Some n)) (Drop i ∷ At d ∷ []) (at d None ahead (Some n))) q (turn (Ruled AbandonBackground (today.is_more ahead (Some n)) true) 0, (refl, refl, refl), refl, refl)
background_some Sorted ForegroundAlone next i n ahead q = no_some q
background_some Sorted BackgroundAlone next i n ahead q = from_some (λ d. Back Sorted (at BackgroundAlone (Some i) ahead (Some n)) (Drop i ∷ At d ∷ []) (at d None ahead (Some n))) q (turn (Ruled AbandonBackground (today.is_more ahead (Some n)) true) 0, (refl, refl, refl), refl, refl)
background_some Sorted FinalList next i n ahead q = no_some q
background_some Sorted FinalTable next i n ahead q = no_some q
background_some Sorted Done next i n ahead q = no_some q
background_some IndexOnly Building next i n ahead q = from_some (λ d. Back IndexOnly (at Building (Some i) ahead (Some n)) (Drop i ∷ At d ∷ []) (at d None ahead (Some n))) q (turn (Ruled AbandonBackground (today.is_more ahead (Some n)) true) 0, (refl, refl, refl), refl, refl)
background_some IndexOnly ForegroundAlone next i n ahead q = no_some q
background_some IndexOnly BackgroundAlone next i n ahead q = from_some (λ d. Back IndexOnly (at BackgroundAlone (Some i) ahead (Some n)) (Drop i ∷ At d ∷ []) (at d None ahead (Some n))) q (turn (Ruled AbandonBackground (today.is_more ahead (Some n)) true) 0, (refl, refl, refl), refl, refl)
background_some IndexOnly FinalList next i n ahead q = no_some q
background_some IndexOnly FinalTable next i n ahead q = no_some q
background_some IndexOnly Done next i n ahead q = no_some q

front_some : (st : Strategy) (c next : Control) (i n : ℕ) (ahead : List ℕ) → course st c (Ruled AbandonForeground true true) ≡ Some next
    → Back st (at c (Some i) ahead (Some n)) (Stop ∷ At next ∷ []) (at next (Some i) ahead (Some n))
front_some Table Building next i n ahead q = no_some q
front_some Table ForegroundAlone next i n ahead q = no_some q
front_some Table BackgroundAlone next i n ahead q = no_some q
front_some Table FinalList next i n ahead q = no_some q
front_some Table FinalTable next i n ahead q = no_some q
front_some Table Done next i n ahead q = no_some q
front_some BackgroundOnly Building next i n ahead q = no_some q
front_some BackgroundOnly ForegroundAlone next i n ahead q = no_some q
front_some BackgroundOnly BackgroundAlone next i n ahead q = no_some q
front_some BackgroundOnly FinalList next i n ahead q = no_some q
front_some BackgroundOnly FinalTable next i n ahead q = no_some q
front_some BackgroundOnly Done next i n ahead q = no_some q
front_some Union Building next i n ahead q = no_some q
front_some Union ForegroundAlone next i n ahead q = no_some q
front_some Union BackgroundAlone next i n ahead q = no_some q
front_some Union FinalList next i n ahead q = no_some q
front_some Union FinalTable next i n ahead q = no_some q
front_some Union Done next i n ahead q = no_some q
front_some FastFirst Building next i n ahead q = from_some (λ d. Back FastFirst (at Building (Some i) ahead (Some n)) (Stop ∷ At d ∷ []) (at d (Some i) ahead (Some n))) q (turn (Ruled AbandonForeground (today.is_more ahead (Some n)) true) 0, (refl, refl, refl), refl, refl)
front_some FastFirst ForegroundAlone next i n ahead q = no_some q
front_some FastFirst BackgroundAlone next i n ahead q = no_some q
front_some FastFirst FinalList next i n ahead q = no_some q
front_some FastFirst FinalTable next i n ahead q = no_some q
front_some FastFirst Done next i n ahead q = no_some q
front_some Sorted Building next i n ahead q = no_some q
front_some Sorted ForegroundAlone next i n ahead q = no_some q
front_some Sorted BackgroundAlone next i n ahead q = no_some q
front_some Sorted FinalList next i n ahead q = no_some q
front_some Sorted FinalTable next i n ahead q = no_some q
front_some Sorted Done next i n ahead q = no_some q
front_some IndexOnly Building next i n ahead q = from_some (λ d. Back IndexOnly (at Building (Some i) ahead (Some n)) (Stop ∷ At d ∷ []) (at d (Some i) ahead (Some n))) q (turn (Ruled AbandonForeground (today.is_more ahead (Some n)) true) 0, (refl, refl, refl), refl, refl)
front_some IndexOnly ForegroundAlone next i n ahead q = no_some q
front_some IndexOnly BackgroundAlone next i n ahead q = no_some q
front_some IndexOnly FinalList next i n ahead q = no_some q
front_some IndexOnly FinalTable next i n ahead q = no_some q
front_some IndexOnly Done next i n ahead q = no_some q

full_none : (st : Strategy) (c next : Control) (i : ℕ) (ahead : List ℕ) (old : Option ℕ) → course st c Full ≡ Some next
    → Back st (at c None ahead old) (Filled ∷ At next ∷ []) (at next (scan_at next None) ahead old)
full_none Table Building next i ahead old q = no_some q
full_none Table ForegroundAlone next i ahead old q = no_some q
full_none Table BackgroundAlone next i ahead old q = no_some q
full_none Table FinalList next i ahead old q = no_some q
full_none Table FinalTable next i ahead old q = no_some q
full_none Table Done next i ahead old q = no_some q
full_none BackgroundOnly Building next i ahead old q = no_some q
full_none BackgroundOnly ForegroundAlone next i ahead old q = no_some q
full_none BackgroundOnly BackgroundAlone next i ahead old q = no_some q
full_none BackgroundOnly FinalList next i ahead old q = no_some q
full_none BackgroundOnly FinalTable next i ahead old q = no_some q
full_none BackgroundOnly Done next i ahead old q = no_some q
full_none Union Building next i ahead old q = no_some q
full_none Union ForegroundAlone next i ahead old q = no_some q
full_none Union BackgroundAlone next i ahead old q = no_some q
full_none Union FinalList next i ahead old q = no_some q
full_none Union FinalTable next i ahead old q = no_some q
full_none Union Done next i ahead old q = no_some q
full_none FastFirst Building next i ahead old q = from_some (λ d. Back FastFirst (at Building None ahead old) (Filled ∷ At d ∷ []) (at d (scan_at d None) ahead old)) q (turn Full 0, refl, refl, refl)
full_none FastFirst ForegroundAlone next i ahead old q = no_some q
full_none FastFirst BackgroundAlone next i ahead old q = no_some q
full_none FastFirst FinalList next i ahead old q = no_some q
full_none FastFirst FinalTable next i ahead old q = no_some q
full_none FastFirst Done next i ahead old q = no_some q
full_none Sorted Building next i ahead old q = no_some q
full_none Sorted ForegroundAlone next i ahead old q = no_some q
full_none Sorted BackgroundAlone next i ahead old q = no_some q
full_none Sorted FinalList next i ahead old q = no_some q
full_none Sorted FinalTable next i ahead old q = no_some q
full_none Sorted Done next i ahead old q = no_some q
full_none IndexOnly Building next i ahead old q = from_some (λ d. Back IndexOnly (at Building None ahead old) (Filled ∷ At d ∷ []) (at d (scan_at d None) ahead old)) q (turn Full 0, refl, refl, refl)
full_none IndexOnly ForegroundAlone next i ahead old q = no_some q
full_none IndexOnly BackgroundAlone next i ahead old q = no_some q
full_none IndexOnly FinalList next i ahead old q = no_some q
full_none IndexOnly FinalTable next i ahead old q = no_some q
full_none IndexOnly Done next i ahead old q = no_some q

front_end_none : (st : Strategy) (c next : Control) (i : ℕ) (ahead : List ℕ) (old : Option ℕ) → course st c FrontEnded ≡ Some next
    → Back st (at c None ahead old) (At next ∷ []) (at next None ahead old)
front_end_none Table Building next i ahead old q = no_some q
front_end_none Table ForegroundAlone next i ahead old q = no_some q
front_end_none Table BackgroundAlone next i ahead old q = no_some q
front_end_none Table FinalList next i ahead old q = no_some q
front_end_none Table FinalTable next i ahead old q = no_some q
front_end_none Table Done next i ahead old q = no_some q
front_end_none BackgroundOnly Building next i ahead old q = no_some q
front_end_none BackgroundOnly ForegroundAlone next i ahead old q = no_some q
front_end_none BackgroundOnly BackgroundAlone next i ahead old q = no_some q
front_end_none BackgroundOnly FinalList next i ahead old q = no_some q
front_end_none BackgroundOnly FinalTable next i ahead old q = no_some q
front_end_none BackgroundOnly Done next i ahead old q = no_some q
front_end_none Union Building next i ahead old q = no_some q
front_end_none Union ForegroundAlone next i ahead old q = no_some q
front_end_none Union BackgroundAlone next i ahead old q = no_some q
front_end_none Union FinalList next i ahead old q = no_some q
front_end_none Union FinalTable next i ahead old q = no_some q
front_end_none Union Done next i ahead old q = no_some q
front_end_none FastFirst Building next i ahead old q = no_some q
front_end_none FastFirst ForegroundAlone next i ahead old q = no_some q
front_end_none FastFirst BackgroundAlone next i ahead old q = no_some q
front_end_none FastFirst FinalList next i ahead old q = no_some q
front_end_none FastFirst FinalTable next i ahead old q = no_some q
front_end_none FastFirst Done next i ahead old q = no_some q
front_end_none Sorted Building next i ahead old q = from_some (λ d. Back Sorted (at Building None ahead old) (At d ∷ []) (at d None ahead old)) q (turn FrontEnded 0, refl, refl, refl)
front_end_none Sorted ForegroundAlone next i ahead old q = from_some (λ d. Back Sorted (at ForegroundAlone None ahead old) (At d ∷ []) (at d None ahead old)) q (turn FrontEnded 0, refl, refl, refl)
front_end_none Sorted BackgroundAlone next i ahead old q = no_some q
front_end_none Sorted FinalList next i ahead old q = no_some q
front_end_none Sorted FinalTable next i ahead old q = no_some q
front_end_none Sorted Done next i ahead old q = no_some q
front_end_none IndexOnly Building next i ahead old q = from_some (λ d. Back IndexOnly (at Building None ahead old) (At d ∷ []) (at d None ahead old)) q (turn FrontEnded 0, refl, refl, refl)
front_end_none IndexOnly ForegroundAlone next i ahead old q = from_some (λ d. Back IndexOnly (at ForegroundAlone None ahead old) (At d ∷ []) (at d None ahead old)) q (turn FrontEnded 0, refl, refl, refl)
front_end_none IndexOnly BackgroundAlone next i ahead old q = no_some q
front_end_none IndexOnly FinalList next i ahead old q = no_some q
front_end_none IndexOnly FinalTable next i ahead old q = no_some q
front_end_none IndexOnly Done next i ahead old q = no_some q

final_end_none : (st : Strategy) (c next : Control) (i : ℕ) (ahead : List ℕ) (old : Option ℕ) → course st c FinalEnded ≡ Some next
    → Back st (at c None ahead old) (At next ∷ []) (at next None ahead old)
final_end_none Table Building next i ahead old q = no_some q
final_end_none Table ForegroundAlone next i ahead old q = no_some q
final_end_none Table BackgroundAlone next i ahead old q = no_some q
final_end_none Table FinalList next i ahead old q = from_some (λ d. Back Table (at FinalList None ahead old) (At d ∷ []) (at d None ahead old)) q (turn FinalEnded 0, refl, refl, refl)
final_end_none Table FinalTable next i ahead old q = from_some (λ d. Back Table (at FinalTable None ahead old) (At d ∷ []) (at d None ahead old)) q (turn FinalEnded 0, refl, refl, refl)
final_end_none Table Done next i ahead old q = no_some q
final_end_none BackgroundOnly Building next i ahead old q = no_some q
final_end_none BackgroundOnly ForegroundAlone next i ahead old q = no_some q
final_end_none BackgroundOnly BackgroundAlone next i ahead old q = no_some q
final_end_none BackgroundOnly FinalList next i ahead old q = from_some (λ d. Back BackgroundOnly (at FinalList None ahead old) (At d ∷ []) (at d None ahead old)) q (turn FinalEnded 0, refl, refl, refl)
final_end_none BackgroundOnly FinalTable next i ahead old q = from_some (λ d. Back BackgroundOnly (at FinalTable None ahead old) (At d ∷ []) (at d None ahead old)) q (turn FinalEnded 0, refl, refl, refl)
final_end_none BackgroundOnly Done next i ahead old q = no_some q
final_end_none Union Building next i ahead old q = no_some q
final_end_none Union ForegroundAlone next i ahead old q = no_some q
final_end_none Union BackgroundAlone next i ahead old q = no_some q
final_end_none Union FinalList next i ahead old q = from_some (λ d. Back Union (at FinalList None ahead old) (At d ∷ []) (at d None ahead old)) q (turn FinalEnded 0, refl, refl, refl)
final_end_none Union FinalTable next i ahead old q = from_some (λ d. Back Union (at FinalTable None ahead old) (At d ∷ []) (at d None ahead old)) q (turn FinalEnded 0, refl, refl, refl)
final_end_none Union Done next i ahead old q = no_some q
final_end_none FastFirst Building next i ahead old q = no_some q
final_end_none FastFirst ForegroundAlone next i ahead old q = no_some q
final_end_none FastFirst BackgroundAlone next i ahead old q = no_some q
final_end_none FastFirst FinalList next i ahead old q = from_some (λ d. Back FastFirst (at FinalList None ahead old) (At d ∷ []) (at d None ahead old)) q (turn FinalEnded 0, refl, refl, refl)
final_end_none FastFirst FinalTable next i ahead old q = from_some (λ d. Back FastFirst (at FinalTable None ahead old) (At d ∷ []) (at d None ahead old)) q (turn FinalEnded 0, refl, refl, refl)
final_end_none FastFirst Done next i ahead old q = no_some q
final_end_none Sorted Building next i ahead old q = no_some q
final_end_none Sorted ForegroundAlone next i ahead old q = no_some q
final_end_none Sorted BackgroundAlone next i ahead old q = no_some q
final_end_none Sorted FinalList next i ahead old q = from_some (λ d. Back Sorted (at FinalList None ahead old) (At d ∷ []) (at d None ahead old)) q (turn FinalEnded 0, refl, refl, refl)
final_end_none Sorted FinalTable next i ahead old q = from_some (λ d. Back Sorted (at FinalTable None ahead old) (At d ∷ []) (at d None ahead old)) q (turn FinalEnded 0, refl, refl, refl)
final_end_none Sorted Done next i ahead old q = no_some q
final_end_none IndexOnly Building next i ahead old q = no_some q
final_end_none IndexOnly ForegroundAlone next i ahead old q = no_some q
final_end_none IndexOnly BackgroundAlone next i ahead old q = no_some q
final_end_none IndexOnly FinalList next i ahead old q = from_some (λ d. Back IndexOnly (at FinalList None ahead old) (At d ∷ []) (at d None ahead old)) q (turn FinalEnded 0, refl, refl, refl)
final_end_none IndexOnly FinalTable next i ahead old q = from_some (λ d. Back IndexOnly (at FinalTable None ahead old) (At d ∷ []) (at d None ahead old)) q (turn FinalEnded 0, refl, refl, refl)
final_end_none IndexOnly Done next i ahead old q = no_some q

full_some : (st : Strategy) (c next : Control) (i : ℕ) (ahead : List ℕ) (old : Option ℕ) → course st c Full ≡ Some next
    → Back st (at c (Some i) ahead old) (Filled ∷ At next ∷ []) (at next (scan_at next (Some i)) ahead old)
full_some Table Building next i ahead old q = no_some q
full_some Table ForegroundAlone next i ahead old q = no_some q
full_some Table BackgroundAlone next i ahead old q = no_some q
full_some Table FinalList next i ahead old q = no_some q
full_some Table FinalTable next i ahead old q = no_some q
full_some Table Done next i ahead old q = no_some q
full_some BackgroundOnly Building next i ahead old q = no_some q
full_some BackgroundOnly ForegroundAlone next i ahead old q = no_some q
full_some BackgroundOnly BackgroundAlone next i ahead old q = no_some q
full_some BackgroundOnly FinalList next i ahead old q = no_some q
full_some BackgroundOnly FinalTable next i ahead old q = no_some q
full_some BackgroundOnly Done next i ahead old q = no_some q
full_some Union Building next i ahead old q = no_some q
full_some Union ForegroundAlone next i ahead old q = no_some q
full_some Union BackgroundAlone next i ahead old q = no_some q
full_some Union FinalList next i ahead old q = no_some q
full_some Union FinalTable next i ahead old q = no_some q
full_some Union Done next i ahead old q = no_some q
full_some FastFirst Building next i ahead old q = from_some (λ d. Back FastFirst (at Building (Some i) ahead old) (Filled ∷ At d ∷ []) (at d (scan_at d (Some i)) ahead old)) q (turn Full 0, refl, refl, refl)
full_some FastFirst ForegroundAlone next i ahead old q = no_some q
full_some FastFirst BackgroundAlone next i ahead old q = no_some q
full_some FastFirst FinalList next i ahead old q = no_some q
full_some FastFirst FinalTable next i ahead old q = no_some q
full_some FastFirst Done next i ahead old q = no_some q
full_some Sorted Building next i ahead old q = no_some q
full_some Sorted ForegroundAlone next i ahead old q = no_some q
full_some Sorted BackgroundAlone next i ahead old q = no_some q
full_some Sorted FinalList next i ahead old q = no_some q
full_some Sorted FinalTable next i ahead old q = no_some q
full_some Sorted Done next i ahead old q = no_some q
full_some IndexOnly Building next i ahead old q = from_some (λ d. Back IndexOnly (at Building (Some i) ahead old) (Filled ∷ At d ∷ []) (at d (scan_at d (Some i)) ahead old)) q (turn Full 0, refl, refl, refl)
full_some IndexOnly ForegroundAlone next i ahead old q = no_some q
full_some IndexOnly BackgroundAlone next i ahead old q = no_some q
full_some IndexOnly FinalList next i ahead old q = no_some q
full_some IndexOnly FinalTable next i ahead old q = no_some q
full_some IndexOnly Done next i ahead old q = no_some q

front_end_some : (st : Strategy) (c next : Control) (i : ℕ) (ahead : List ℕ) (old : Option ℕ) → course st c FrontEnded ≡ Some next
    → Back st (at c (Some i) ahead old) (At next ∷ []) (at next None ahead old)
front_end_some Table Building next i ahead old q = no_some q
front_end_some Table ForegroundAlone next i ahead old q = no_some q
front_end_some Table BackgroundAlone next i ahead old q = no_some q
front_end_some Table FinalList next i ahead old q = no_some q
front_end_some Table FinalTable next i ahead old q = no_some q
front_end_some Table Done next i ahead old q = no_some q
front_end_some BackgroundOnly Building next i ahead old q = no_some q
front_end_some BackgroundOnly ForegroundAlone next i ahead old q = no_some q
front_end_some BackgroundOnly BackgroundAlone next i ahead old q = no_some q
front_end_some BackgroundOnly FinalList next i ahead old q = no_some q
front_end_some BackgroundOnly FinalTable next i ahead old q = no_some q
front_end_some BackgroundOnly Done next i ahead old q = no_some q
front_end_some Union Building next i ahead old q = no_some q
front_end_some Union ForegroundAlone next i ahead old q = no_some q
front_end_some Union BackgroundAlone next i ahead old q = no_some q
front_end_some Union FinalList next i ahead old q = no_some q
front_end_some Union FinalTable next i ahead old q = no_some q
front_end_some Union Done next i ahead old q = no_some q
front_end_some FastFirst Building next i ahead old q = no_some q
front_end_some FastFirst ForegroundAlone next i ahead old q = no_some q
front_end_some FastFirst BackgroundAlone next i ahead old q = no_some q
front_end_some FastFirst FinalList next i ahead old q = no_some q
front_end_some FastFirst FinalTable next i ahead old q = no_some q
front_end_some FastFirst Done next i ahead old q = no_some q
front_end_some Sorted Building next i ahead old q = from_some (λ d. Back Sorted (at Building (Some i) ahead old) (At d ∷ []) (at d None ahead old)) q (turn FrontEnded 0, refl, refl, refl)
front_end_some Sorted ForegroundAlone next i ahead old q = from_some (λ d. Back Sorted (at ForegroundAlone (Some i) ahead old) (At d ∷ []) (at d None ahead old)) q (turn FrontEnded 0, refl, refl, refl)
front_end_some Sorted BackgroundAlone next i ahead old q = no_some q
front_end_some Sorted FinalList next i ahead old q = no_some q
front_end_some Sorted FinalTable next i ahead old q = no_some q
front_end_some Sorted Done next i ahead old q = no_some q
front_end_some IndexOnly Building next i ahead old q = from_some (λ d. Back IndexOnly (at Building (Some i) ahead old) (At d ∷ []) (at d None ahead old)) q (turn FrontEnded 0, refl, refl, refl)
front_end_some IndexOnly ForegroundAlone next i ahead old q = from_some (λ d. Back IndexOnly (at ForegroundAlone (Some i) ahead old) (At d ∷ []) (at d None ahead old)) q (turn FrontEnded 0, refl, refl, refl)
front_end_some IndexOnly BackgroundAlone next i ahead old q = no_some q
front_end_some IndexOnly FinalList next i ahead old q = no_some q
front_end_some IndexOnly FinalTable next i ahead old q = no_some q
front_end_some IndexOnly Done next i ahead old q = no_some q

final_end_some : (st : Strategy) (c next : Control) (i : ℕ) (ahead : List ℕ) (old : Option ℕ) → course st c FinalEnded ≡ Some next
    → Back st (at c (Some i) ahead old) (At next ∷ []) (at next None ahead old)
final_end_some Table Building next i ahead old q = no_some q
final_end_some Table ForegroundAlone next i ahead old q = no_some q
final_end_some Table BackgroundAlone next i ahead old q = no_some q
final_end_some Table FinalList next i ahead old q = from_some (λ d. Back Table (at FinalList (Some i) ahead old) (At d ∷ []) (at d None ahead old)) q (turn FinalEnded 0, refl, refl, refl)
final_end_some Table FinalTable next i ahead old q = from_some (λ d. Back Table (at FinalTable (Some i) ahead old) (At d ∷ []) (at d None ahead old)) q (turn FinalEnded 0, refl, refl, refl)
final_end_some Table Done next i ahead old q = no_some q
final_end_some BackgroundOnly Building next i ahead old q = no_some q
final_end_some BackgroundOnly ForegroundAlone next i ahead old q = no_some q
final_end_some BackgroundOnly BackgroundAlone next i ahead old q = no_some q
final_end_some BackgroundOnly FinalList next i ahead old q = from_some (λ d. Back BackgroundOnly (at FinalList (Some i) ahead old) (At d ∷ []) (at d None ahead old)) q (turn FinalEnded 0, refl, refl, refl)
final_end_some BackgroundOnly FinalTable next i ahead old q = from_some (λ d. Back BackgroundOnly (at FinalTable (Some i) ahead old) (At d ∷ []) (at d None ahead old)) q (turn FinalEnded 0, refl, refl, refl)
final_end_some BackgroundOnly Done next i ahead old q = no_some q
final_end_some Union Building next i ahead old q = no_some q
final_end_some Union ForegroundAlone next i ahead old q = no_some q
final_end_some Union BackgroundAlone next i ahead old q = no_some q
final_end_some Union FinalList next i ahead old q = from_some (λ d. Back Union (at FinalList (Some i) ahead old) (At d ∷ []) (at d None ahead old)) q (turn FinalEnded 0, refl, refl, refl)
final_end_some Union FinalTable next i ahead old q = from_some (λ d. Back Union (at FinalTable (Some i) ahead old) (At d ∷ []) (at d None ahead old)) q (turn FinalEnded 0, refl, refl, refl)
final_end_some Union Done next i ahead old q = no_some q
final_end_some FastFirst Building next i ahead old q = no_some q
final_end_some FastFirst ForegroundAlone next i ahead old q = no_some q
final_end_some FastFirst BackgroundAlone next i ahead old q = no_some q
final_end_some FastFirst FinalList next i ahead old q = from_some (λ d. Back FastFirst (at FinalList (Some i) ahead old) (At d ∷ []) (at d None ahead old)) q (turn FinalEnded 0, refl, refl, refl)
final_end_some FastFirst FinalTable next i ahead old q = from_some (λ d. Back FastFirst (at FinalTable (Some i) ahead old) (At d ∷ []) (at d None ahead old)) q (turn FinalEnded 0, refl, refl, refl)
final_end_some FastFirst Done next i ahead old q = no_some q
final_end_some Sorted Building next i ahead old q = no_some q
final_end_some Sorted ForegroundAlone next i ahead old q = no_some q
final_end_some Sorted BackgroundAlone next i ahead old q = no_some q
final_end_some Sorted FinalList next i ahead old q = from_some (λ d. Back Sorted (at FinalList (Some i) ahead old) (At d ∷ []) (at d None ahead old)) q (turn FinalEnded 0, refl, refl, refl)
final_end_some Sorted FinalTable next i ahead old q = from_some (λ d. Back Sorted (at FinalTable (Some i) ahead old) (At d ∷ []) (at d None ahead old)) q (turn FinalEnded 0, refl, refl, refl)
final_end_some Sorted Done next i ahead old q = no_some q
final_end_some IndexOnly Building next i ahead old q = no_some q
final_end_some IndexOnly ForegroundAlone next i ahead old q = no_some q
final_end_some IndexOnly BackgroundAlone next i ahead old q = no_some q
final_end_some IndexOnly FinalList next i ahead old q = from_some (λ d. Back IndexOnly (at FinalList (Some i) ahead old) (At d ∷ []) (at d None ahead old)) q (turn FinalEnded 0, refl, refl, refl)
final_end_some IndexOnly FinalTable next i ahead old q = from_some (λ d. Back IndexOnly (at FinalTable (Some i) ahead old) (At d ∷ []) (at d None ahead old)) q (turn FinalEnded 0, refl, refl, refl)
final_end_some IndexOnly Done next i ahead old q = no_some q

back_next : (st : Strategy) (c next : Control) (i j : ℕ) (ahead : List ℕ) (old new : Option ℕ) (event : Event)
    → Ends i old event new → is_more (j ∷ ahead) new ≡ true → course st c (ScanEnded true (is_some new)) ≡ Some next
    → Back st (at c (Some i) (j ∷ ahead) old) (event ∷ Scan j ∷ []) (at next (Some j) ahead new)
back_next st c next i j ahead old new event (completes keys before) p q = list_more st c next i j keys ahead before p q
back_next st c next i j ahead old new event (is_dropped None) p q = drop_more_none st c next i j 0 ahead p q
back_next st c next i j ahead old new event (is_dropped (Some n)) p q = drop_more_some st c next i j n ahead p q

back_last : (st : Strategy) (c next : Control) (i : ℕ) (ahead : List ℕ) (old new : Option ℕ) (event : Event)
    → Ends i old event new → is_more ahead new ≡ false → course st c (ScanEnded false (is_some new)) ≡ Some next
    → Back st (at c (Some i) ahead old) (event ∷ At next ∷ []) (at next None ahead new)
back_last st c next i ahead old new event (completes keys before) p q = list_last st c next i keys ahead before p q
back_last st c next i ahead old new event (is_dropped None) p q = drop_last_none st c next i 0 ahead p q
back_last st c next i ahead old new event (is_dropped (Some n)) p q = drop_last_some st c next i n ahead p q

back_background : (st : Strategy) (c next : Control) (i : ℕ) (ahead : List ℕ) (listed : Option ℕ)
    → course st c (Ruled AbandonBackground true (is_some listed)) ≡ Some next
    → Back st (at c (Some i) ahead listed) (Drop i ∷ At next ∷ []) (at next None ahead listed)
back_background st c next i ahead None q = background_none st c next i 0 ahead q
back_background st c next i ahead (Some n) q = background_some st c next i n ahead q

back_front : (st : Strategy) (c next : Control) (i : ℕ) (ahead : List ℕ) (listed : Option ℕ)
    → course st c (Ruled AbandonForeground true true) ≡ Some next
    → Back st (at c (Some i) ahead listed) (Stop ∷ At next ∷ []) (at next (Some i) ahead listed)
back_front st c next i ahead None q = front_none st c next i 0 ahead q
back_front st c next i ahead (Some n) q = front_some st c next i n ahead q

back_full : (st : Strategy) (c next : Control) (scan : Option ℕ) (ahead : List ℕ) (listed : Option ℕ)
    → course st c Full ≡ Some next
    → Back st (at c scan ahead listed) (Filled ∷ At next ∷ []) (at next (scan_at next scan) ahead listed)
back_full st c next None ahead listed q = full_none st c next 0 ahead listed q
back_full st c next (Some i) ahead listed q = full_some st c next i ahead listed q

back_end : (st : Strategy) (c next : Control) (scan : Option ℕ) (ahead : List ℕ) (listed : Option ℕ)
    → (course st c FrontEnded ≡ Some next) ⊎ (course st c FinalEnded ≡ Some next)
    → Back st (at c scan ahead listed) (At next ∷ []) (at next None ahead listed)
back_end st c next None ahead listed (inl q) = front_end_none st c next 0 ahead listed q
back_end st c next None ahead listed (inr q) = final_end_none st c next 0 ahead listed q
back_end st c next (Some i) ahead listed (inl q) = front_end_some st c next i ahead listed q
back_end st c next (Some i) ahead listed (inr q) = final_end_some st c next i ahead listed q

back : (st : Strategy) (s : Standing) (events : List (Event)) (t : Standing)
    → Goes st s events t → Back st s events t
back st s events t (next_scan c next i j ahead old new event ends p q) = back_next st c next i j ahead old new event ends p q
back st s events t (last_scan c next i ahead old new event ends p q) = back_last st c next i ahead old new event ends p q
back st s events t (drops_background c next i ahead listed q) = back_background st c next i ahead listed q
back st s events t (drops_front c next i ahead listed q) = back_front st c next i ahead listed q
back st s events t (fills c next scan ahead listed q) = back_full st c next scan ahead listed q
back st s events t (finishes c next scan ahead listed q) = back_end st c next scan ahead listed q

abbrev pub BackRun : Strategy → Standing → List (Event) → Type 0
BackRun st s events = (turns : List today.Turn) × today.IsRun st s turns × (today.run_events st s turns ≡ events)

joined : (st : Strategy) (s t : Standing) (events more : List (Event))
    → Back st s events t → BackRun st t more → BackRun st s (events ++ more)
joined st s t events more b r = (
  b.0 ∷ r.0,
  (b.1, subst (λ u. today.IsRun st u r.0) (sym b.3) r.1),
  (λ k. b.2 k ++ today.run_events st (b.3 k) r.0) ∙ ap (λ l. events ++ l) r.2,
)

-- THE BRIDGE
pub runs_back : (st : Strategy) (s : Standing) (events : List (Event)) → Runs st s events → BackRun st s events
runs_back st s events (rests u) = ([], tt, refl)
runs_back st s events (goes u t now more g r) = joined st u t now more (back st u now t g) (runs_back st t more r)
