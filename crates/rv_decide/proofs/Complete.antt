-- The events of a run are read.
use Rattle.std.proofs.Common.{◌≡◌, ℕ, List, [], ◌∷◌, ◌++◌, Bool, true, false, refl, sym, ap, ◌∙◌, subst, Option, Some, None, nat_lt}
use Rattle.std.specs.Prelude.{if◌then◌else◌, is_some}
use Rattle.std.proofs.lemmas.Bool.{and_from, or_left, or_right}
use Rattle.rv_value.proofs.Tests.{no_way, same_number}
use Rattle.rv_judge.specs.declared.events.Strategy.{Strategy}
use Rattle.rv_judge.specs.declared.events.Control.{Control}
use Rattle.rv_judge.specs.declared.events.Event.{Event}
use Rattle.rv_judge.specs.declared.events.Event.TheVariants.{At, Scan, List as ListOf, Drop, Full as FullEvent, Stop}
use Rattle.rv_judge.specs.declared.judging.Verdict.TheVariants.{Continue, AbandonScan, AbandonForeground, AbandonBackground}
use Rattle.rv_judge.specs.declared.events.Happening.{Happening}
use Rattle.rv_judge.specs.declared.events.Happening.TheVariants.{ScanEnded, Ruled, Full, FrontEnded, FinalEnded}
use Rattle.rv_judge.specs.Course.{has_row, next_control, scan_over_more}
use Rattle.rv_judge.specs.Runs.{IsRun, MayCome, Standing, Turn, after, events_of, is_more, led_events, listed_after, moved, own_events, run_events, scans}
use Rattle.rv_decide.specs.Course.{begun_by, leads, leads_to, listed_by, may_narrow, reads}
use Rattle.rv_decide.proofs.Controls.{changes, continue_none, dropped_on, ended_on, same_self}
use Rattle.rv_decide.proofs.Sound.{goes_to, led_at, standing}

-- events are read from here on, and the scans that they begin are the next that are planned
pub record Read (s : Strategy) (from : Standing) (es : List Event) : Type 0 where
  pub read : reads s (record { control = from.control; scan = from.scan; listed = from.listed; own = None }) es ≡ true
  pub behind : List ℕ
  pub ahead : from.ahead ≡ begun_by es ++ behind

-- A happening that leads to another control.

leads_next : (s : Strategy) (c : Control) (h : Happening) → scan_over_more h ≡ false → has_row s c h ≡ true → leads s c h (next_control s c h) ≡ true
leads_next s c h over row = and_from _ _ (same_self (next_control s c h)) (changes s c h over row)

-- where a happening with a row, that begins no further scan, leads
moved_is : (s : Strategy) (c : Control) (scan : Option ℕ) (ahead : List ℕ) (listed : Option ℕ) (h : Happening) (keys : ℕ) → scan_over_more h ≡ false → moved (standing c scan ahead listed) (next_control s c h) h keys ≡ standing (next_control s c h) (if scans (next_control s c h) then scan else None) ahead (listed_after h keys listed)
moved_is s c scan ahead listed h keys over = goes_to s c (next_control s c h) scan ahead listed h keys over refl

-- events that tell of themselves
abbrev IsOwn : Event → Type 0
IsOwn (At to) = ⊥
IsOwn (Scan i) = ⊥
IsOwn e = Unit {0}

read_to : (s : Strategy) (c to : Control) (scan : Option ℕ) (ahead : List ℕ) (listed : Option ℕ) (own : Event) (es : List Event) → IsOwn own → leads_to s (record { control = c; scan = scan; listed = listed; own = Some own }) own to ≡ true → Read s (standing to (if scans to then scan else None) ahead (listed_by (Some own) listed)) es → Read s (standing c scan ahead listed) (own ∷ At to ∷ es)
read_to s c to scan ahead listed (ListOf i keys) es is l r = record { read = and_from _ _ l r.read; behind = r.behind; ahead = r.ahead }
read_to s c to scan ahead listed (Drop i) es is l r = record { read = and_from _ _ l r.read; behind = r.behind; ahead = r.ahead }
read_to s c to scan ahead listed FullEvent es is l r = record { read = and_from _ _ l r.read; behind = r.behind; ahead = r.ahead }
read_to s c to scan ahead listed Stop es is l r = record { read = and_from _ _ l r.read; behind = r.behind; ahead = r.ahead }
read_to s c to scan ahead listed (At d) es is l r = absurd is
read_to s c to scan ahead listed (Scan i) es is l r = absurd is

-- what is read behind a happening that leads to another control
abbrev Behind : Strategy → Control → Option ℕ → List ℕ → Option ℕ → Happening → ℕ → List Event → Type 0
Behind s c scan ahead listed h keys es = Read s (standing (next_control s c h) (if scans (next_control s c h) then scan else None) ahead (listed_after h keys listed)) es

front_read : (s : Strategy) (c : Control) (scan : Option ℕ) (ahead : List ℕ) (listed : Option ℕ) (es : List Event) → has_row s c FrontEnded ≡ true → Behind s c scan ahead listed FrontEnded 0 es → Read s (standing c scan ahead listed) (At (next_control s c FrontEnded) ∷ es)
front_read s c scan ahead listed es row r = record { read = and_from _ _ (or_left _ _ (leads_next s c FrontEnded refl row)) r.read; behind = r.behind; ahead = r.ahead }

final_read : (s : Strategy) (c : Control) (scan : Option ℕ) (ahead : List ℕ) (listed : Option ℕ) (es : List Event) → has_row s c FinalEnded ≡ true → Behind s c scan ahead listed FinalEnded 0 es → Read s (standing c scan ahead listed) (At (next_control s c FinalEnded) ∷ es)
final_read s c scan ahead listed es row r = record { read = and_from _ _ (or_right _ _ (leads_next s c FinalEnded refl row)) r.read; behind = r.behind; ahead = r.ahead }

full_read : (s : Strategy) (c : Control) (scan : Option ℕ) (ahead : List ℕ) (listed : Option ℕ) (es : List Event) → has_row s c Full ≡ true → Behind s c scan ahead listed Full 0 es → Read s (standing c scan ahead listed) (FullEvent ∷ At (next_control s c Full) ∷ es)
full_read s c scan ahead listed es row r = read_to s c (next_control s c Full) scan ahead listed FullEvent es tt (leads_next s c Full refl row) r

listed_read : (s : Strategy) (c : Control) (i : ℕ) (ahead : List ℕ) (listed : Option ℕ) (keys : ℕ) (es : List Event) → has_row s c (ScanEnded false true) ≡ true → Behind s c (Some i) ahead listed (ScanEnded false true) keys es → Read s (standing c (Some i) ahead listed) (ListOf i keys ∷ At (next_control s c (ScanEnded false true)) ∷ es)
listed_read s c i ahead listed keys es row r = read_to s c (next_control s c (ScanEnded false true)) (Some i) ahead listed (ListOf i keys) es tt (and_from _ _ (same_number i) (leads_next s c (ScanEnded false true) refl row)) r

dropped_read : (s : Strategy) (c : Control) (i : ℕ) (ahead : List ℕ) (listed : Option ℕ) (es : List Event) (l : Bool) → l ≡ is_some listed → has_row s c (Ruled AbandonScan false l) ≡ true → Behind s c (Some i) ahead listed (Ruled AbandonScan false l) 0 es → Read s (standing c (Some i) ahead listed) (Drop i ∷ At (next_control s c (Ruled AbandonScan false l)) ∷ es)
dropped_read s c i ahead listed es l is row r =
    read_to s c (next_control s c (Ruled AbandonScan false l)) (Some i) ahead listed (Drop i) es tt
    (and_from _ _ (same_number i) (or_left _ _ (subst (λ (b : Bool). leads s c (Ruled AbandonScan false b) (next_control s c (Ruled AbandonScan false l)) ≡ true) is (leads_next s c (Ruled AbandonScan false l) refl row)))) r

given_up_read : (s : Strategy) (c : Control) (i : ℕ) (ahead : List ℕ) (listed : Option ℕ) (es : List Event) (m l : Bool) → l ≡ is_some listed → has_row s c (Ruled AbandonBackground m l) ≡ true → Behind s c (Some i) ahead listed (Ruled AbandonBackground m l) 0 es → Read s (standing c (Some i) ahead listed) (Drop i ∷ At (next_control s c (Ruled AbandonBackground m l)) ∷ es)
given_up_read s c i ahead listed es m l is row r =
    read_to s c (next_control s c (Ruled AbandonBackground m l)) (Some i) ahead listed (Drop i) es tt
    (and_from _ _ (same_number i) (or_right _ _ (subst (λ (b : Bool). leads s c (Ruled AbandonBackground false b) (next_control s c (Ruled AbandonBackground m l)) ≡ true) is (leads_next s c (Ruled AbandonBackground m l) refl row)))) r

stopped_read : (s : Strategy) (c : Control) (i : ℕ) (ahead : List ℕ) (listed : Option ℕ) (es : List Event) (m l : Bool) → has_row s c (Ruled AbandonForeground m l) ≡ true → Behind s c (Some i) ahead listed (Ruled AbandonForeground m l) 0 es → Read s (standing c (Some i) ahead listed) (Stop ∷ At (next_control s c (Ruled AbandonForeground m l)) ∷ es)
stopped_read s c i ahead listed es m l row r = read_to s c (next_control s c (Ruled AbandonForeground m l)) (Some i) ahead listed Stop es tt (leads_next s c (Ruled AbandonForeground m l) refl row) r

-- A happening that leads to a further scan.

listed_further : (s : Strategy) (c : Control) (i j : ℕ) (ahead : List ℕ) (listed : Option ℕ) (keys : ℕ) (es : List Event) → nat_lt 0 keys ≡ true → Read s (standing c (Some j) ahead (Some keys)) es → Read s (standing c (Some i) (j ∷ ahead) listed) (ListOf i keys ∷ Scan j ∷ es)
listed_further s c i j ahead listed keys es some r = record { read = and_from _ _ (and_from _ _ (same_number i) some) r.read; behind = r.behind; ahead = ap (λ xs. j ∷ xs) r.ahead }

may_more : (listed : Option ℕ) (j : ℕ) (ahead : List ℕ) → true ≡ is_more (j ∷ ahead) listed → may_narrow listed ≡ true
may_more None j ahead m = refl
may_more (Some keys) j ahead m = sym m

dropped_further : (s : Strategy) (c : Control) (i j : ℕ) (ahead : List ℕ) (listed : Option ℕ) (es : List Event) → may_narrow listed ≡ true → Read s (standing c (Some j) ahead listed) es → Read s (standing c (Some i) (j ∷ ahead) listed) (Drop i ∷ Scan j ∷ es)
dropped_further s c i j ahead listed es some r = record { read = and_from _ _ (and_from _ _ (same_number i) some) r.read; behind = r.behind; ahead = ap (λ xs. j ∷ xs) r.ahead }

-- A turn with a row.

abbrev Stepped : Strategy → Control → Option ℕ → List ℕ → Option ℕ → Happening → ℕ → List Event → Type 0
Stepped s c scan ahead listed h keys es =
    let next = moved (standing c scan ahead listed) (next_control s c h) h keys in
    Read s next es → Read s (standing c scan ahead listed) ((own_events scan h keys ++ led_events next h) ++ es)

-- by what a happening leads to, where it begins no further scan
by_led : (s : Strategy) (c : Control) (scan : Option ℕ) (ahead : List ℕ) (listed : Option ℕ) (h : Happening) (keys : ℕ) (es : List Event) → scan_over_more h ≡ false → (Behind s c scan ahead listed h keys es → Read s (standing c scan ahead listed) ((own_events scan h keys ++ At (next_control s c h) ∷ []) ++ es)) → Stepped s c scan ahead listed h keys es
by_led s c scan ahead listed h keys es over on =
    subst (λ (x : Standing). Read s x es → Read s (standing c scan ahead listed) ((own_events scan h keys ++ led_events x h) ++ es)) (sym (moved_is s c scan ahead listed h keys over))
    (λ (r : Behind s c scan ahead listed h keys es). subst (λ led. Read s (standing c scan ahead listed) ((own_events scan h keys ++ led) ++ es)) (sym (led_at (standing (next_control s c h) (if scans (next_control s c h) then scan else None) ahead (listed_after h keys listed)) h over)) (on r))

stepped : (s : Strategy) (c : Control) (scan : Option ℕ) (ahead : List ℕ) (listed : Option ℕ) (h : Happening) (keys : ℕ) (es : List Event) → has_row s c h ≡ true → MayCome s (standing c scan ahead listed) h keys → Stepped s c scan ahead listed h keys es
stepped s c None ahead listed (ScanEnded m l) keys es row may = no_way (sym may.0)
stepped s c (Some i) ahead listed (ScanEnded false false) keys es row may = no_way (sym may.2)
stepped s c (Some i) ahead listed (ScanEnded false true) keys es row may = by_led s c (Some i) ahead listed (ScanEnded false true) keys es refl (listed_read s c i ahead listed keys es row)
stepped s c (Some i) [] listed (ScanEnded true l) keys es row may = no_way may.1
stepped s c (Some i) (j ∷ ahead) listed (ScanEnded true l) keys es row may =
    subst (λ (d : Control). Read s (standing d (Some j) ahead (Some keys)) es → Read s (standing c (Some i) (j ∷ ahead) listed) (ListOf i keys ∷ Scan j ∷ es)) (sym (ended_on s c l))
    (listed_further s c i j ahead listed keys es (sym may.1))
stepped s c None ahead listed (Ruled v m l) keys es row may = no_way (sym may.0)
stepped s c (Some i) ahead listed (Ruled Continue m l) keys es row may = no_way (sym row ∙ continue_none s c m l)
stepped s c (Some i) ahead listed (Ruled AbandonScan false l) keys es row may = by_led s c (Some i) ahead listed (Ruled AbandonScan false l) keys es refl (dropped_read s c i ahead listed es l may.2 row)
stepped s c (Some i) [] listed (Ruled AbandonScan true l) keys es row may = no_way may.1
stepped s c (Some i) (j ∷ ahead) listed (Ruled AbandonScan true l) keys es row may =
    subst (λ (d : Control). Read s (standing d (Some j) ahead listed) es → Read s (standing c (Some i) (j ∷ ahead) listed) (Drop i ∷ Scan j ∷ es)) (sym (dropped_on s c l))
    (dropped_further s c i j ahead listed es (may_more listed j ahead may.1))
stepped s c (Some i) ahead listed (Ruled AbandonForeground m l) keys es row may = by_led s c (Some i) ahead listed (Ruled AbandonForeground m l) keys es refl (stopped_read s c i ahead listed es m l row)
stepped s c (Some i) ahead listed (Ruled AbandonBackground m l) keys es row may = by_led s c (Some i) ahead listed (Ruled AbandonBackground m l) keys es refl (given_up_read s c i ahead listed es m l may.2 row)
stepped s c None ahead listed Full keys es row may = by_led s c None ahead listed Full keys es refl (full_read s c None ahead listed es row)
stepped s c (Some i) ahead listed Full keys es row may = by_led s c (Some i) ahead listed Full keys es refl (full_read s c (Some i) ahead listed es row)
stepped s c None ahead listed FrontEnded keys es row may = by_led s c None ahead listed FrontEnded keys es refl (front_read s c None ahead listed es row)
stepped s c (Some i) ahead listed FrontEnded keys es row may = by_led s c (Some i) ahead listed FrontEnded keys es refl (front_read s c (Some i) ahead listed es row)
stepped s c None ahead listed FinalEnded keys es row may = by_led s c None ahead listed FinalEnded keys es refl (final_read s c None ahead listed es row)
stepped s c (Some i) ahead listed FinalEnded keys es row may = by_led s c (Some i) ahead listed FinalEnded keys es refl (final_read s c (Some i) ahead listed es row)

-- A turn, and a run.

one_turn : (s : Strategy) (from : Standing) (t : Turn) (es : List Event) → MayCome s from t.happening t.keys → Read s (after s from t) es → Read s from (events_of s from t ++ es)
one_turn s from t es may r = by (has_row s from.control t.happening) refl r
  where
    by : (b : Bool) → has_row s from.control t.happening ≡ b → Read s (if b then moved from (next_control s from.control t.happening) t.happening t.keys else from) es → Read s from ((if b then own_events from.scan t.happening t.keys ++ led_events (if b then moved from (next_control s from.control t.happening) t.happening t.keys else from) t.happening else []) ++ es)
    by true row r = stepped s from.control from.scan from.ahead from.listed t.happening t.keys es row may r
    by false row r = r

pub complete : (s : Strategy) (from : Standing) (turns : List Turn) → IsRun s from turns → Read s from (run_events s from turns)
complete s from [] run = record { read = refl; behind = from.ahead; ahead = refl }
complete s from (t ∷ turns) run = one_turn s from t (run_events s (after s from t) turns) run.0 (complete s (after s from t) turns run.1)
