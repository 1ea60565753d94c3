-- The turns of a run, by cases: what each puts into the trace and where it leads.
use Rattle.std.proofs.Common.{◌≡◌, ℕ, List, [], ◌∷◌, ◌||◌, Bool, true, false, Option, Some, None, refl}
use Rattle.rv_judge.specs.declared.events.Control.{Control}
use Rattle.rv_judge.specs.declared.events.Control.TheVariants.{Building, ForegroundAlone, BackgroundAlone, FinalList, FinalTable, Done}
use Rattle.rv_judge.specs.declared.events.Event.{Event}
use Rattle.rv_judge.specs.declared.events.Event.TheVariants.{At, List as ListOf, Drop, Full as FullEvent, Stop}
use Rattle.rv_judge.specs.declared.events.Happening.{Happening}
use Rattle.rv_judge.specs.declared.events.Happening.TheVariants.{ScanEnded, Ruled, Full, FrontEnded, FinalEnded}
use Rattle.rv_judge.specs.declared.events.Strategy.{Strategy}
use Rattle.rv_judge.specs.declared.events.Strategy.TheVariants.{Table, BackgroundOnly, FastFirst, Sorted, IndexOnly, Union}
use Rattle.rv_judge.specs.declared.judging.Verdict.TheVariants.{AbandonScan, AbandonForeground, AbandonBackground}
use Rattle.rv_judge.specs.Course.{building, fast_first, final, foreground_alone, has_row, index_only, next_control}
use Rattle.rv_judge.specs.Runs.{Standing, after, begun, events_of, idle, scan_events}
use Rattle.rv_retrieval.specs.Shape.{is_background, is_building, is_led}
use Rattle.rv_retrieval.specs.Runs.{runs_both}

-- a turn where the run stands puts these events into the trace and leads there
pub record OneTurn (strategy : Strategy) (s : Standing) (happening : Happening) (keys : ℕ) (events : List Event) (next : Standing) : Type 0 where
  pub told : events_of strategy s (record { happening = happening; keys = keys }) ≡ events
  pub moves : after strategy s (record { happening = happening; keys = keys }) ≡ next

abbrev pub standing : Control → Option ℕ → List ℕ → Option ℕ → Standing
standing now scan ahead listed = record { control = now; scan = scan; ahead = ahead; listed = listed }

-- a scan completes
pub list_on : (st : Strategy) (now : Control) (i : ℕ) (ahead : List ℕ) (l : Option ℕ) (keys : ℕ) → is_background now ≡ true → (is_building now ≡ true → runs_both st ≡ true) → OneTurn st (standing now (Some i) ahead l) (ScanEnded true true) keys (ListOf i keys ∷ scan_events (begun now ahead (Some keys)).scan) (begun now ahead (Some keys))
list_on st BackgroundAlone i ahead l keys back both = record { told = refl; moves = refl }
list_on FastFirst Building i ahead l keys back both = record { told = refl; moves = refl }
list_on Sorted Building i ahead l keys back both = record { told = refl; moves = refl }
list_on IndexOnly Building i ahead l keys back both = record { told = refl; moves = refl }
list_on Table Building i ahead l keys back both = let bad : false ≡ true = both refl in absurd (cc)
list_on BackgroundOnly Building i ahead l keys back both = let bad : false ≡ true = both refl in absurd (cc)
list_on Union Building i ahead l keys back both = let bad : false ≡ true = both refl in absurd (cc)
list_on st ForegroundAlone i ahead l keys back both = absurd (cc)
list_on st FinalList i ahead l keys back both = absurd (cc)
list_on st FinalTable i ahead l keys back both = absurd (cc)
list_on st Done i ahead l keys back both = absurd (cc)

pub list_last : (st : Strategy) (now : Control) (i : ℕ) (ahead : List ℕ) (l : Option ℕ) (keys : ℕ) → is_background now ≡ true → (is_building now ≡ true → runs_both st ≡ true) → OneTurn st (standing now (Some i) ahead l) (ScanEnded false true) keys (ListOf i keys ∷ At (next_control st now (ScanEnded false true)) ∷ []) (idle (next_control st now (ScanEnded false true)) ahead (Some keys))
list_last st BackgroundAlone i ahead l keys back both = record { told = refl; moves = refl }
list_last FastFirst Building i ahead l keys back both = record { told = refl; moves = refl }
list_last Sorted Building i ahead l keys back both = record { told = refl; moves = refl }
list_last IndexOnly Building i ahead l keys back both = record { told = refl; moves = refl }
list_last Table Building i ahead l keys back both = let bad : false ≡ true = both refl in absurd (cc)
list_last BackgroundOnly Building i ahead l keys back both = let bad : false ≡ true = both refl in absurd (cc)
list_last Union Building i ahead l keys back both = let bad : false ≡ true = both refl in absurd (cc)
list_last st ForegroundAlone i ahead l keys back both = absurd (cc)
list_last st FinalList i ahead l keys back both = absurd (cc)
list_last st FinalTable i ahead l keys back both = absurd (cc)
list_last st Done i ahead l keys back both = absurd (cc)

-- a scan is dropped
pub drop_on : (st : Strategy) (now : Control) (i : ℕ) (ahead : List ℕ) (l : Option ℕ) (listed : Bool) → is_background now ≡ true → (is_building now ≡ true → runs_both st ≡ true) → OneTurn st (standing now (Some i) ahead l) (Ruled AbandonScan true listed) 0 (Drop i ∷ scan_events (begun now ahead l).scan) (begun now ahead l)
drop_on st BackgroundAlone i ahead l true back both = record { told = refl; moves = refl }
drop_on st BackgroundAlone i ahead l false back both = record { told = refl; moves = refl }
drop_on FastFirst Building i ahead l true back both = record { told = refl; moves = refl }
drop_on FastFirst Building i ahead l false back both = record { told = refl; moves = refl }
drop_on Sorted Building i ahead l true back both = record { told = refl; moves = refl }
drop_on Sorted Building i ahead l false back both = record { told = refl; moves = refl }
drop_on IndexOnly Building i ahead l true back both = record { told = refl; moves = refl }
drop_on IndexOnly Building i ahead l false back both = record { told = refl; moves = refl }
drop_on Table Building i ahead l a back both = let bad : false ≡ true = both refl in absurd (cc)
drop_on BackgroundOnly Building i ahead l a back both = let bad : false ≡ true = both refl in absurd (cc)
drop_on Union Building i ahead l a back both = let bad : false ≡ true = both refl in absurd (cc)
drop_on st ForegroundAlone i ahead l a back both = absurd (cc)
drop_on st FinalList i ahead l a back both = absurd (cc)
drop_on st FinalTable i ahead l a back both = absurd (cc)
drop_on st Done i ahead l a back both = absurd (cc)

pub drop_last : (st : Strategy) (now : Control) (i : ℕ) (ahead : List ℕ) (l : Option ℕ) (listed : Bool) → is_background now ≡ true → (is_building now ≡ true → runs_both st ≡ true) → OneTurn st (standing now (Some i) ahead l) (Ruled AbandonScan false listed) 0 (Drop i ∷ At (next_control st now (Ruled AbandonScan false listed)) ∷ []) (idle (next_control st now (Ruled AbandonScan false listed)) ahead l)
drop_last st BackgroundAlone i ahead l true back both = record { told = refl; moves = refl }
drop_last st BackgroundAlone i ahead l false back both = record { told = refl; moves = refl }
drop_last FastFirst Building i ahead l true back both = record { told = refl; moves = refl }
drop_last FastFirst Building i ahead l false back both = record { told = refl; moves = refl }
drop_last Sorted Building i ahead l true back both = record { told = refl; moves = refl }
drop_last Sorted Building i ahead l false back both = record { told = refl; moves = refl }
drop_last IndexOnly Building i ahead l true back both = record { told = refl; moves = refl }
drop_last IndexOnly Building i ahead l false back both = record { told = refl; moves = refl }
drop_last Table Building i ahead l a back both = let bad : false ≡ true = both refl in absurd (cc)
drop_last BackgroundOnly Building i ahead l a back both = let bad : false ≡ true = both refl in absurd (cc)
drop_last Union Building i ahead l a back both = let bad : false ≡ true = both refl in absurd (cc)
drop_last st ForegroundAlone i ahead l a back both = absurd (cc)
drop_last st FinalList i ahead l a back both = absurd (cc)
drop_last st FinalTable i ahead l a back both = absurd (cc)
drop_last st Done i ahead l a back both = absurd (cc)

-- the background is dropped
pub drop_all : (st : Strategy) (now : Control) (i : ℕ) (ahead : List ℕ) (l : Option ℕ) (more listed : Bool) → is_background now ≡ true → (is_building now ≡ true → runs_both st ≡ true) → OneTurn st (standing now (Some i) ahead l) (Ruled AbandonBackground more listed) 0 (Drop i ∷ At (next_control st now (Ruled AbandonBackground more listed)) ∷ []) (idle (next_control st now (Ruled AbandonBackground more listed)) ahead l)
drop_all st BackgroundAlone i ahead l true true back both = record { told = refl; moves = refl }
drop_all st BackgroundAlone i ahead l false true back both = record { told = refl; moves = refl }
drop_all st BackgroundAlone i ahead l true false back both = record { told = refl; moves = refl }
drop_all st BackgroundAlone i ahead l false false back both = record { told = refl; moves = refl }
drop_all FastFirst Building i ahead l true true back both = record { told = refl; moves = refl }
drop_all FastFirst Building i ahead l false true back both = record { told = refl; moves = refl }
drop_all FastFirst Building i ahead l true false back both = record { told = refl; moves = refl }
drop_all FastFirst Building i ahead l false false back both = record { told = refl; moves = refl }
drop_all Sorted Building i ahead l true true back both = record { told = refl; moves = refl }
drop_all Sorted Building i ahead l false true back both = record { told = refl; moves = refl }
drop_all Sorted Building i ahead l true false back both = record { told = refl; moves = refl }
drop_all Sorted Building i ahead l false false back both = record { told = refl; moves = refl }
drop_all IndexOnly Building i ahead l true true back both = record { told = refl; moves = refl }
drop_all IndexOnly Building i ahead l false true back both = record { told = refl; moves = refl }
drop_all IndexOnly Building i ahead l true false back both = record { told = refl; moves = refl }
drop_all IndexOnly Building i ahead l false false back both = record { told = refl; moves = refl }
drop_all Table Building i ahead l a b back both = let bad : false ≡ true = both refl in absurd (cc)
drop_all BackgroundOnly Building i ahead l a b back both = let bad : false ≡ true = both refl in absurd (cc)
drop_all Union Building i ahead l a b back both = let bad : false ≡ true = both refl in absurd (cc)
drop_all st ForegroundAlone i ahead l a b back both = absurd (cc)
drop_all st FinalList i ahead l a b back both = absurd (cc)
drop_all st FinalTable i ahead l a b back both = absurd (cc)
drop_all st Done i ahead l a b back both = absurd (cc)

-- none of these leads to a background
pub list_rests : (st : Strategy) (now : Control) → is_background now ≡ true → (is_building now ≡ true → runs_both st ≡ true) → is_background (next_control st now (ScanEnded false true)) ≡ false
list_rests st BackgroundAlone back both = refl
list_rests FastFirst Building back both = refl
list_rests Sorted Building back both = refl
list_rests IndexOnly Building back both = refl
list_rests Table Building back both = let bad : false ≡ true = both refl in absurd (cc)
list_rests BackgroundOnly Building back both = let bad : false ≡ true = both refl in absurd (cc)
list_rests Union Building back both = let bad : false ≡ true = both refl in absurd (cc)
list_rests st ForegroundAlone back both = absurd (cc)
list_rests st FinalList back both = absurd (cc)
list_rests st FinalTable back both = absurd (cc)
list_rests st Done back both = absurd (cc)

pub drop_rests : (st : Strategy) (now : Control) (listed : Bool) → is_background now ≡ true → (is_building now ≡ true → runs_both st ≡ true) → is_background (next_control st now (Ruled AbandonScan false listed)) ≡ false
drop_rests st BackgroundAlone true back both = refl
drop_rests st BackgroundAlone false back both = refl
drop_rests FastFirst Building true back both = refl
drop_rests FastFirst Building false back both = refl
drop_rests Sorted Building true back both = refl
drop_rests Sorted Building false back both = refl
drop_rests IndexOnly Building true back both = refl
drop_rests IndexOnly Building false back both = refl
drop_rests Table Building a back both = let bad : false ≡ true = both refl in absurd (cc)
drop_rests BackgroundOnly Building a back both = let bad : false ≡ true = both refl in absurd (cc)
drop_rests Union Building a back both = let bad : false ≡ true = both refl in absurd (cc)
drop_rests st ForegroundAlone a back both = absurd (cc)
drop_rests st FinalList a back both = absurd (cc)
drop_rests st FinalTable a back both = absurd (cc)
drop_rests st Done a back both = absurd (cc)

pub all_rests : (st : Strategy) (now : Control) (more listed : Bool) → is_background now ≡ true → (is_building now ≡ true → runs_both st ≡ true) → is_background (next_control st now (Ruled AbandonBackground more listed)) ≡ false
all_rests st BackgroundAlone true true back both = refl
all_rests st BackgroundAlone false true back both = refl
all_rests st BackgroundAlone true false back both = refl
all_rests st BackgroundAlone false false back both = refl
all_rests FastFirst Building true true back both = refl
all_rests FastFirst Building false true back both = refl
all_rests FastFirst Building true false back both = refl
all_rests FastFirst Building false false back both = refl
all_rests Sorted Building true true back both = refl
all_rests Sorted Building false true back both = refl
all_rests Sorted Building true false back both = refl
all_rests Sorted Building false false back both = refl
all_rests IndexOnly Building true true back both = refl
all_rests IndexOnly Building false true back both = refl
all_rests IndexOnly Building true false back both = refl
all_rests IndexOnly Building false false back both = refl
all_rests Table Building a b back both = let bad : false ≡ true = both refl in absurd (cc)
all_rests BackgroundOnly Building a b back both = let bad : false ≡ true = both refl in absurd (cc)
all_rests Union Building a b back both = let bad : false ≡ true = both refl in absurd (cc)
all_rests st ForegroundAlone a b back both = absurd (cc)
all_rests st FinalList a b back both = absurd (cc)
all_rests st FinalTable a b back both = absurd (cc)
all_rests st Done a b back both = absurd (cc)

-- the foreground is stopped; while the scan goes on
pub stop_turn : (st : Strategy) (i : ℕ) (ahead : List ℕ) (l : Option ℕ) (more listed : Bool) → (fast_first st || index_only st) ≡ true → OneTurn st (standing Building (Some i) ahead l) (Ruled AbandonForeground more listed) 0 (Stop ∷ At (next_control st Building (Ruled AbandonForeground more listed)) ∷ []) (standing BackgroundAlone (Some i) ahead l) × (next_control st Building (Ruled AbandonForeground more listed) ≡ BackgroundAlone)
stop_turn FastFirst i ahead l true true can = (record { told = refl; moves = refl }, refl)
stop_turn FastFirst i ahead l true false can = (record { told = refl; moves = refl }, refl)
stop_turn FastFirst i ahead l false true can = (record { told = refl; moves = refl }, refl)
stop_turn FastFirst i ahead l false false can = (record { told = refl; moves = refl }, refl)
stop_turn IndexOnly i ahead l true true can = (record { told = refl; moves = refl }, refl)
stop_turn IndexOnly i ahead l true false can = (record { told = refl; moves = refl }, refl)
stop_turn IndexOnly i ahead l false true can = (record { told = refl; moves = refl }, refl)
stop_turn IndexOnly i ahead l false false can = (record { told = refl; moves = refl }, refl)
stop_turn Table i ahead l a b can = absurd (cc)
stop_turn BackgroundOnly i ahead l a b can = absurd (cc)
stop_turn Union i ahead l a b can = absurd (cc)
stop_turn Sorted i ahead l a b can = absurd (cc)

-- the buffer is full
pub full_fast : (i : ℕ) (ahead : List ℕ) (l : Option ℕ) → OneTurn FastFirst (standing Building (Some i) ahead l) Full 0 (FullEvent ∷ At BackgroundAlone ∷ []) (standing BackgroundAlone (Some i) ahead l)
full_fast i ahead l = record { told = refl; moves = refl }

pub full_index : (i : ℕ) (ahead : List ℕ) (l : Option ℕ) → OneTurn IndexOnly (standing Building (Some i) ahead l) Full 0 (FullEvent ∷ At ForegroundAlone ∷ []) (idle ForegroundAlone ahead l)
full_index i ahead l = record { told = refl; moves = refl }

-- the source is at its end
pub front_turn : (st : Strategy) (now : Control) (scan : Option ℕ) (ahead : List ℕ) (l : Option ℕ) → is_led st ≡ true → (building now || foreground_alone now) ≡ true → OneTurn st (standing now scan ahead l) FrontEnded 0 (At Done ∷ []) (idle Done ahead l) × (next_control st now FrontEnded ≡ Done)
front_turn Sorted Building None ahead l led at = (record { told = refl; moves = refl }, refl)
front_turn Sorted Building (Some i) ahead l led at = (record { told = refl; moves = refl }, refl)
front_turn Sorted ForegroundAlone None ahead l led at = (record { told = refl; moves = refl }, refl)
front_turn Sorted ForegroundAlone (Some i) ahead l led at = (record { told = refl; moves = refl }, refl)
front_turn Sorted BackgroundAlone scan ahead l led at = absurd (cc)
front_turn Sorted FinalList scan ahead l led at = absurd (cc)
front_turn Sorted FinalTable scan ahead l led at = absurd (cc)
front_turn Sorted Done scan ahead l led at = absurd (cc)
front_turn IndexOnly Building None ahead l led at = (record { told = refl; moves = refl }, refl)
front_turn IndexOnly Building (Some i) ahead l led at = (record { told = refl; moves = refl }, refl)
front_turn IndexOnly ForegroundAlone None ahead l led at = (record { told = refl; moves = refl }, refl)
front_turn IndexOnly ForegroundAlone (Some i) ahead l led at = (record { told = refl; moves = refl }, refl)
front_turn IndexOnly BackgroundAlone scan ahead l led at = absurd (cc)
front_turn IndexOnly FinalList scan ahead l led at = absurd (cc)
front_turn IndexOnly FinalTable scan ahead l led at = absurd (cc)
front_turn IndexOnly Done scan ahead l led at = absurd (cc)
front_turn Table now scan ahead l led at = absurd (cc)
front_turn BackgroundOnly now scan ahead l led at = absurd (cc)
front_turn Union now scan ahead l led at = absurd (cc)
front_turn FastFirst now scan ahead l led at = absurd (cc)

pub final_turn : (st : Strategy) (now : Control) (scan : Option ℕ) (ahead : List ℕ) (l : Option ℕ) → final now ≡ true → OneTurn st (standing now scan ahead l) FinalEnded 0 (At Done ∷ []) (idle Done ahead l) × (next_control st now FinalEnded ≡ Done)
final_turn st FinalList None ahead l at = (record { told = refl; moves = refl }, refl)
final_turn st FinalList (Some i) ahead l at = (record { told = refl; moves = refl }, refl)
final_turn st FinalTable None ahead l at = (record { told = refl; moves = refl }, refl)
final_turn st FinalTable (Some i) ahead l at = (record { told = refl; moves = refl }, refl)
final_turn st Building scan ahead l at = absurd (cc)
final_turn st BackgroundAlone scan ahead l at = absurd (cc)
final_turn st ForegroundAlone scan ahead l at = absurd (cc)
final_turn st Done scan ahead l at = absurd (cc)

-- the ends have a row in the table
pub front_row : (st : Strategy) (now : Control) → is_led st ≡ true → (building now || foreground_alone now) ≡ true → has_row st now FrontEnded ≡ true
front_row Sorted Building led at = refl
front_row Sorted ForegroundAlone led at = refl
front_row Sorted BackgroundAlone led at = absurd (cc)
front_row Sorted FinalList led at = absurd (cc)
front_row Sorted FinalTable led at = absurd (cc)
front_row Sorted Done led at = absurd (cc)
front_row IndexOnly Building led at = refl
front_row IndexOnly ForegroundAlone led at = refl
front_row IndexOnly BackgroundAlone led at = absurd (cc)
front_row IndexOnly FinalList led at = absurd (cc)
front_row IndexOnly FinalTable led at = absurd (cc)
front_row IndexOnly Done led at = absurd (cc)
front_row Table now led at = absurd (cc)
front_row BackgroundOnly now led at = absurd (cc)
front_row Union now led at = absurd (cc)
front_row FastFirst now led at = absurd (cc)

pub final_row : (st : Strategy) (now : Control) → final now ≡ true → has_row st now FinalEnded ≡ true
final_row st FinalList at = refl
final_row st FinalTable at = refl
final_row st Building at = absurd (cc)
final_row st BackgroundAlone at = absurd (cc)
final_row st ForegroundAlone at = absurd (cc)
final_row st Done at = absurd (cc)
