-- The runs of which a race's trace tells: the scans that are over, one after another, and then one under way.
use Rattle.std.proofs.Common.{◌≡◌, ◌∙◌, ℕ, ◌+◌, ◌*◌, ◌-◌, List, [], ◌∷◌, ◌++◌, Bool, true, false, ◌||◌, Option, Some, None, is_some, length, take, nat_eq, refl, ap, sym, subst, arith, append_assoc, length-append}
use Rattle.std.specs.List.{list_all}
use Rattle.std.proofs.Math.Seq.{take-append_seam}
use Rattle.std.proofs.lemmas.List.Folds.{list_any-append}
use Rattle.std.specs.Cmp.{first_so, second_so}
use Rattle.std.proofs.lemmas.Bool.{or_from}
use Rattle.rv_value.proofs.Tests.{number_turned, right_false, left_false}
use Rattle.rv_judge.specs.declared.events.Control.{Control}
use Rattle.rv_judge.specs.declared.events.Control.TheVariants.{Building, ForegroundAlone, BackgroundAlone, FinalList, FinalTable, Done}
use Rattle.rv_judge.specs.declared.events.Event.{Event}
use Rattle.rv_judge.specs.declared.events.Event.TheVariants.{At, Scan, List as ListOf, Drop}
use Rattle.rv_judge.specs.declared.events.Happening.{Happening}
use Rattle.rv_judge.specs.declared.events.Happening.TheVariants.{ScanEnded, Ruled, FinalEnded}
use Rattle.rv_judge.specs.declared.events.Strategy.TheVariants.{BackgroundOnly}
use Rattle.rv_judge.specs.declared.judging.Verdict.TheVariants.{AbandonScan, AbandonBackground}
use Rattle.rv_judge.specs.Course.{final, has_row}
use Rattle.rv_judge.specs.Runs.{EachOnce, HasScans, IsRun, MayCome, Standing, Turn, after, begun as begins, events_of, has_index, idle, is_more, run_end, run_events, scan_events, start, start_events}
use Rattle.rv_judge.proofs.RunSteps.{IsRun-push, run_end-push, run_events-push}
use Rattle.rv_final.specs.LaneWork.{ahead}
use Rattle.rv_judge.specs.Drops.{was_dropped}
use Rattle.rv_race.specs.Runs.{Ended, ended_indexes, is_keyed, keyed, later, listed_by, outcome, told_ends}

-- One turn.

-- a turn where the run stands puts these events into the trace and leads there
pub record OneTurn (s : Standing) (happening : Happening) (keys : ℕ) (events : List Event) (to : Standing) : Type 0 where
  pub told : events_of BackgroundOnly s (record { happening = happening; keys = keys }) ≡ events
  pub moves : after BackgroundOnly s (record { happening = happening; keys = keys }) ≡ to

-- a scan of an index stands first, and those behind it are ahead
list_turn : (i : ℕ) (rest : List ℕ) (before : Option ℕ) (keys : ℕ) → OneTurn (begins BackgroundAlone (i ∷ rest) before) (ScanEnded true true) keys (ListOf i keys ∷ scan_events (begins BackgroundAlone rest (Some keys)).scan) (begins BackgroundAlone rest (Some keys))
list_turn i rest before keys = record { told = refl; moves = refl }

drop_turn : (i : ℕ) (rest : List ℕ) (before : Option ℕ) (listed : Bool) → OneTurn (begins BackgroundAlone (i ∷ rest) before) (Ruled AbandonScan true listed) 0 (Drop i ∷ scan_events (begins BackgroundAlone rest before).scan) (begins BackgroundAlone rest before)
drop_turn i rest before true = record { told = refl; moves = refl }
drop_turn i rest before false = record { told = refl; moves = refl }

-- the last one
abbrev pub final_of : Bool → Control
final_of true = FinalList
final_of false = FinalTable

pub list_last : (i : ℕ) (before : Option ℕ) (keys : ℕ) → OneTurn (begins BackgroundAlone (i ∷ []) before) (ScanEnded false true) keys (ListOf i keys ∷ At FinalList ∷ []) (idle FinalList [] (Some keys))
list_last i before keys = record { told = refl; moves = refl }

pub drop_last : (i : ℕ) (before : Option ℕ) (listed : Bool) → OneTurn (begins BackgroundAlone (i ∷ []) before) (Ruled AbandonScan false listed) 0 (Drop i ∷ At (final_of listed) ∷ []) (idle (final_of listed) [] before)
drop_last i before true = record { told = refl; moves = refl }
drop_last i before false = record { told = refl; moves = refl }

pub stop_last : (i : ℕ) (before : Option ℕ) (listed : Bool) → OneTurn (begins BackgroundAlone (i ∷ []) before) (Ruled AbandonBackground false listed) 0 (Drop i ∷ At (final_of listed) ∷ []) (idle (final_of listed) [] before)
stop_last i before true = record { told = refl; moves = refl }
stop_last i before false = record { told = refl; moves = refl }

-- the end of the final stage
abbrev pub standing : Control → Option ℕ → List ℕ → Option ℕ → Standing
standing now scan ahead listed = record { control = now; scan = scan; ahead = ahead; listed = listed }

pub final_turn : (now : Control) (scan : Option ℕ) (ahead : List ℕ) (listed : Option ℕ) → final now ≡ true → OneTurn (standing now scan ahead listed) FinalEnded 0 (At Done ∷ []) (idle Done ahead listed) × (has_row BackgroundOnly now FinalEnded ≡ true)
final_turn FinalList None ahead listed at = (record { told = refl; moves = refl }, refl)
final_turn FinalList (Some i) ahead listed at = (record { told = refl; moves = refl }, refl)
final_turn FinalTable None ahead listed at = (record { told = refl; moves = refl }, refl)
final_turn FinalTable (Some i) ahead listed at = (record { told = refl; moves = refl }, refl)
final_turn Building scan ahead listed at = absurd (cc)
final_turn ForegroundAlone scan ahead listed at = absurd (cc)
final_turn BackgroundAlone scan ahead listed at = absurd (cc)
final_turn Done scan ahead listed at = absurd (cc)

-- One turn more.

pub record Went (planned : List ℕ) (events : List Event) (turns : List Turn) (to : Standing) : Type 0 where
  pub run : IsRun BackgroundOnly (start BackgroundOnly planned) turns
  pub told : events ≡ start_events BackgroundOnly planned ++ run_events BackgroundOnly (start BackgroundOnly planned) turns
  pub ends : run_end BackgroundOnly (start BackgroundOnly planned) turns ≡ to

pub one_more : (planned : List ℕ) (events : List Event) (turns : List Turn) (s to : Standing) (h : Happening) (keys : ℕ) (es : List Event) → Went planned events turns s → MayCome BackgroundOnly s h keys → OneTurn s h keys es to → Went planned (events ++ es) (turns ++ record { happening = h; keys = keys } ∷ []) to
one_more planned events turns s to h keys es w comes l =
    let first = start BackgroundOnly planned in
    let turn : Turn = record { happening = h; keys = keys } in
    let tail : run_events BackgroundOnly first (turns ++ turn ∷ []) ≡ run_events BackgroundOnly first turns ++ es = run_events-push BackgroundOnly first turns turn ∙ ap (λ (x : Standing). run_events BackgroundOnly first turns ++ events_of BackgroundOnly x turn) w.ends ∙ ap (λ (x : List Event). run_events BackgroundOnly first turns ++ x) l.told in
    record {
      run = IsRun-push BackgroundOnly first turns turn w.run (subst (λ (x : Standing). MayCome BackgroundOnly x h keys) (sym w.ends) comes);
      told = ap (λ (x : List Event). x ++ es) w.told ∙ append_assoc (start_events BackgroundOnly planned) (run_events BackgroundOnly first turns) es ∙ ap (λ (x : List Event). start_events BackgroundOnly planned ++ x) (sym tail);
      ends = run_end-push BackgroundOnly first turns turn ∙ ap (λ (x : Standing). after BackgroundOnly x turn) w.ends ∙ l.moves;
    }

-- THE SCANS THAT ARE OVER, and one behind them

abbrev pub turn_by : Option ℕ → Option ℕ → Turn
turn_by before None = record { happening = Ruled AbandonScan true (is_some before); keys = 0 }
turn_by before (Some keys) = record { happening = ScanEnded true true; keys = keys }

abbrev pub turns_of : Option ℕ → List Ended → List Turn
turns_of before [] = []
turns_of before (e ∷ ends) = turn_by before e.keys ∷ turns_of (later before e.keys) ends

record Chain (before : Option ℕ) (ends : List Ended) (low : ℕ) : Type 0 where
  run : IsRun BackgroundOnly (begins BackgroundAlone (ended_indexes ends ++ low ∷ []) before) (turns_of before ends)
  told : scan_events (begins BackgroundAlone (ended_indexes ends ++ low ∷ []) before).scan ++ run_events BackgroundOnly (begins BackgroundAlone (ended_indexes ends ++ low ∷ []) before) (turns_of before ends) ≡ told_ends ends ++ Scan low ∷ []
  stands : run_end BackgroundOnly (begins BackgroundAlone (ended_indexes ends ++ low ∷ []) before) (turns_of before ends) ≡ begins BackgroundAlone (low ∷ []) (listed_by before ends)

-- a scan is ahead, and the list has a key
more_left : (ends : List Ended) (low : ℕ) (before : Option ℕ) → keyed before ≡ true → true ≡ is_more (ended_indexes ends ++ low ∷ []) before
more_left [] low None k = refl
more_left [] low (Some n) k = sym k
more_left (e ∷ ends) low None k = refl
more_left (e ∷ ends) low (Some n) k = sym k

-- one scan that is over, before the others
chain_more : (before between : Option ℕ) (index : ℕ) (h : Happening) (keys : ℕ) (own : Event) (ends : List Ended) (low : ℕ) (ts : List Turn) → MayCome BackgroundOnly (begins BackgroundAlone (index ∷ (ended_indexes ends ++ low ∷ [])) before) h keys → OneTurn (begins BackgroundAlone (index ∷ (ended_indexes ends ++ low ∷ [])) before) h keys (own ∷ scan_events (begins BackgroundAlone (ended_indexes ends ++ low ∷ []) between).scan) (begins BackgroundAlone (ended_indexes ends ++ low ∷ []) between) → Chain between ends low → ts ≡ turns_of between ends → (IsRun BackgroundOnly (begins BackgroundAlone (index ∷ (ended_indexes ends ++ low ∷ [])) before) (record { happening = h; keys = keys } ∷ ts)) × ((Scan index ∷ run_events BackgroundOnly (begins BackgroundAlone (index ∷ (ended_indexes ends ++ low ∷ [])) before) (record { happening = h; keys = keys } ∷ ts)) ≡ Scan index ∷ own ∷ (told_ends ends ++ Scan low ∷ [])) × (run_end BackgroundOnly (begins BackgroundAlone (index ∷ (ended_indexes ends ++ low ∷ [])) before) (record { happening = h; keys = keys } ∷ ts) ≡ begins BackgroundAlone (low ∷ []) (listed_by between ends))
chain_more before between index h keys own ends low ts comes turn c e =
    let rest = ended_indexes ends ++ low ∷ [] in
    let s = begins BackgroundAlone (index ∷ rest) before in
    let to = begins BackgroundAlone rest between in
    let t : Turn = record { happening = h; keys = keys } in
    let sc = scan_events to.scan in (
      (comes, subst (λ (x : Standing). IsRun BackgroundOnly x ts) (sym turn.moves) (subst (IsRun BackgroundOnly to) (sym e) c.run)),
      ap (λ (x : List Event). Scan index ∷ (x ++ run_events BackgroundOnly (after BackgroundOnly s t) ts)) turn.told
          ∙ ap (λ (x : Standing). Scan index ∷ own ∷ (sc ++ run_events BackgroundOnly x ts)) turn.moves
          ∙ ap (λ (x : List Turn). Scan index ∷ own ∷ (sc ++ run_events BackgroundOnly to x)) e
          ∙ ap (λ (x : List Event). Scan index ∷ own ∷ x) c.told,
      ap (λ (x : Standing). run_end BackgroundOnly x ts) turn.moves
          ∙ ap (run_end BackgroundOnly to) e
          ∙ c.stands,
    )

chain : (before : Option ℕ) (ends : List Ended) (low : ℕ) → keyed before ≡ true → list_all is_keyed ends ≡ true → Chain before ends low
chain before [] low k ks = record { run = tt; told = refl; stands = refl }
chain before (e ∷ ends) low k ks = by e.keys (first_so (is_keyed e) (list_all is_keyed ends) ks) (λ between some. chain between ends low some (second_so (is_keyed e) (list_all is_keyed ends) ks))
  where
    by : (keys : Option ℕ) → keyed keys ≡ true → ((between : Option ℕ) → keyed between ≡ true → Chain between ends low) → Chain before (record { index = e.index; keys = keys } ∷ ends) low
    by None some rest =
        let all = chain_more before before e.index (Ruled AbandonScan true (is_some before)) 0 (Drop e.index) ends low (turns_of before ends) (refl, more_left ends low before k, refl) (drop_turn e.index (ended_indexes ends ++ low ∷ []) before (is_some before)) (rest before k) refl in
        record { run = all.0; told = all.1; stands = all.2 }
    by (Some n) some rest =
        let all = chain_more before (Some n) e.index (ScanEnded true true) n (ListOf e.index n) ends low (turns_of (Some n) ends) (refl, more_left ends low (Some n) some, refl) (list_turn e.index (ended_indexes ends ++ low ∷ []) before n) (rest (Some n) some) refl in
        record { run = all.0; told = all.1; stands = all.2 }

first_at : (ends : List Ended) (low : ℕ) → (begins BackgroundAlone (ended_indexes ends ++ low ∷ []) None).control ≡ BackgroundAlone
first_at [] low = refl
first_at (e ∷ ends) low = refl

pub has_scans : (ends : List Ended) (low : ℕ) → HasScans BackgroundOnly (ended_indexes ends ++ low ∷ [])
has_scans [] low = tt
has_scans (e ∷ ends) low = tt

-- the events with which a race's trace begins
abbrev pub so_far : List Ended → List Event
so_far ends = At BackgroundAlone ∷ told_ends ends

pub chain_went : (ends : List Ended) (low : ℕ) → list_all is_keyed ends ≡ true → Went (ended_indexes ends ++ low ∷ []) (so_far ends ++ Scan low ∷ []) (turns_of None ends) (begins BackgroundAlone (low ∷ []) (listed_by None ends))
chain_went ends low ks =
    let c = chain None ends low refl ks in
    let first = begins BackgroundAlone (ended_indexes ends ++ low ∷ []) None in
    record {
      run = c.run;
      told = sym (ap (λ (now : Control). At now ∷ (scan_events first.scan ++ run_events BackgroundOnly first (turns_of None ends))) (first_at ends low) ∙ ap (λ (x : List Event). At BackgroundAlone ∷ x) c.told);
      ends = c.stands;
    }

-- One more that is over.

pub told_more : (ends : List Ended) (e : Ended) → told_ends (ends ++ e ∷ []) ≡ told_ends ends ++ Scan e.index ∷ outcome e.index e.keys ∷ []
told_more [] e = refl
told_more (x ∷ ends) e = ap (λ (es : List Event). Scan x.index ∷ outcome x.index x.keys ∷ es) (told_more ends e)

pub listed_more : (before : Option ℕ) (ends : List Ended) (e : Ended) → listed_by before (ends ++ e ∷ []) ≡ later (listed_by before ends) e.keys
listed_more before [] e = refl
listed_more before (x ∷ ends) e = listed_more (later before x.keys) ends e

pub told_length : (ends : List Ended) → length (told_ends ends) ≡ 2 * length ends
told_length [] = refl
told_length (e ∷ ends) = let more = told_length ends in omega arith

-- The events of a trace.

pub last_off : (xs : List Event) (x : Event) → take (length (xs ++ x ∷ []) - 1) (xs ++ x ∷ []) ≡ xs
last_off xs x =
    let one = length-append xs (x ∷ []) in
    let n : length (xs ++ x ∷ []) - 1 ≡ length xs = omega arith in
    ap (λ (k : ℕ). take k (xs ++ x ∷ [])) n ∙ take-append_seam xs (x ∷ [])

-- Each index is scanned once.

index_append : (i : ℕ) (xs ys : List ℕ) → has_index i (xs ++ ys) ≡ (has_index i xs || has_index i ys)
index_append i xs ys = list_any-append (λ (k : ℕ). nat_eq k i) xs ys

pub once_swap : (xs : List ℕ) (a b : ℕ) (ys : List ℕ) → EachOnce (xs ++ a ∷ b ∷ ys) → EachOnce (xs ++ b ∷ a ∷ ys)
once_swap [] a b ys o = (second (nat_eq b a) (has_index a ys) (has_index b ys) (nat_eq a b) (number_turned a b) o.0 o.1.0, (right_false (nat_eq b a) (has_index a ys) o.0, o.1.1))
  where
    second : (c d e f : Bool) → f ≡ c → (c || d) ≡ false → e ≡ false → (f || e) ≡ false
    second c d e f s h i = grind arith
once_swap (x ∷ xs) a b ys o = (index_append x xs (b ∷ a ∷ ys) ∙ same (has_index x xs) (nat_eq a x) (nat_eq b x) (has_index x ys) ∙ sym (index_append x xs (a ∷ b ∷ ys)) ∙ o.0, once_swap xs a b ys o.1)
  where
    same : (p q r s : Bool) → (p || (r || (q || s))) ≡ (p || (q || (r || s)))
    same p q r s = grind arith

pub once_apart : (xs : List ℕ) (a : ℕ) (ys : List ℕ) → EachOnce (xs ++ a ∷ ys) → has_index a xs ≡ false
once_apart [] a ys o = refl
once_apart (x ∷ xs) a ys o = or_from (nat_eq x a) (has_index a xs) (number_turned x a ∙ off (has_index x xs) (nat_eq a x) (has_index x ys) (sym (index_append x xs (a ∷ ys)) ∙ o.0)) (once_apart xs a ys o.1)
  where
    off : (p q r : Bool) → (p || (q || r)) ≡ false → q ≡ false
    off p q r h = grind arith

-- an index that is not among those of the scans that are over was not dropped
one_undropped : (i index : ℕ) (keys : Option ℕ) (events : List Event) → nat_eq index i ≡ false → was_dropped i events ≡ false → was_dropped i (Scan index ∷ outcome index keys ∷ events) ≡ false
one_undropped i index None events other rest = or_from (nat_eq index i) (was_dropped i events) other rest
one_undropped i index (Some n) events other rest = rest

ends_undropped : (i : ℕ) (ends : List Ended) (low : ℕ) → has_index i (ended_indexes ends) ≡ false → was_dropped i (told_ends ends ++ Scan low ∷ []) ≡ false
ends_undropped i [] low h = refl
ends_undropped i (e ∷ ends) low h = one_undropped i e.index e.keys (told_ends ends ++ Scan low ∷ []) (left_false (nat_eq e.index i) (has_index i (ended_indexes ends)) h) (ends_undropped i ends low (right_false (nat_eq e.index i) (has_index i (ended_indexes ends)) h))

pub undropped : (i : ℕ) (ends : List Ended) (low : ℕ) → has_index i (ended_indexes ends) ≡ false → was_dropped i (so_far ends ++ Scan low ∷ []) ≡ false
undropped i ends low h = ends_undropped i ends low h
