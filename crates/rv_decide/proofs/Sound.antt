-- Events that are read are those of a run.
use Rattle.std.proofs.Common.{◌≡◌, ℕ, List, [], ◌∷◌, ◌++◌, Bool, true, false, refl, sym, ap, ◌∙◌, subst, Option, Some, None, nat_lt}
use Rattle.std.specs.Prelude.{if◌then◌else◌, is_some}
use Rattle.std.proofs.lemmas.Bool.{eqb-true}
use Rattle.std.specs.Cmp.{first_so, second_so}
use Rattle.rv_value.proofs.Tests.{either, no_way}
use Rattle.rv_judge.specs.declared.events.Strategy.{Strategy}
use Rattle.rv_judge.specs.declared.events.Control.{Control}
use Rattle.rv_judge.specs.declared.events.Event.{Event}
use Rattle.rv_judge.specs.declared.events.Event.TheVariants.{At, Scan, List as ListOf, Drop, Full as FullEvent, Stop}
use Rattle.rv_judge.specs.declared.judging.Verdict.TheVariants.{AbandonScan, AbandonForeground, AbandonBackground}
use Rattle.rv_judge.specs.declared.events.Happening.{Happening}
use Rattle.rv_judge.specs.declared.events.Happening.TheVariants.{ScanEnded, Ruled, Full, FrontEnded, FinalEnded}
use Rattle.rv_judge.specs.Course.{has_row, next_control, scan_over_more}
use Rattle.rv_judge.specs.Runs.{IsRun, MayCome, Standing, Turn, after, events_of, idle, is_more, led_events, listed_after, moved, own_events, run_events, scans}
use Rattle.rv_decide.specs.Course.{begun_by, goes_on, is_scanning, leads, leads_to, listed_by, may_narrow, reads}
use Rattle.rv_decide.proofs.Controls.{background_ends, drop_ends, dropped_on, ended_on, has_dropped_on, has_ended_on, leads_is, leads_stands, scan_ends}
use Rattle.rv_decide.proofs.Scanned.{no_scans}

abbrev pub standing : Control → Option ℕ → List ℕ → Option ℕ → Standing
standing c scan ahead listed = record { control = c; scan = scan; ahead = ahead; listed = listed }

abbrev pub turn : Happening → ℕ → Turn
turn h keys = record { happening = h; keys = keys }

-- some run from here leaves these events
pub record Runs (s : Strategy) (from : Standing) (es : List Event) : Type 0 where
  pub turns : List Turn
  pub run : IsRun s from turns
  pub told : es ≡ run_events s from turns

-- a turn with a row, and then a run
one_more : (s : Strategy) (from to : Standing) (h : Happening) (keys : ℕ) (led es : List Event) → has_row s from.control h ≡ true → MayCome s from h keys → moved from (next_control s from.control h) h keys ≡ to → led_events to h ≡ led → Runs s to es → Runs s from (own_events from.scan h keys ++ led ++ es)
one_more s from to h keys led es row may goes leads r = record {
  turns = turn h keys ∷ r.turns;
  run = (may, subst (λ (x : Standing). IsRun s x r.turns) (sym stands) r.run);
  told = ap (λ xs. xs ++ es) (sym events) ∙ (ap (λ xs. events_of s from (turn h keys) ++ xs) r.told ∙ ap (λ (x : Standing). events_of s from (turn h keys) ++ run_events s x r.turns) (sym stands));
}
  where
    stands : after s from (turn h keys) ≡ to
    stands = rw row goes

    events : events_of s from (turn h keys) ≡ own_events from.scan h keys ++ led
    events = rw row (ap (λ (x : Standing). own_events from.scan h keys ++ led_events x h) goes ∙ ap (λ xs. own_events from.scan h keys ++ xs) leads)

-- A happening that leads to another control.

pub goes_to : (s : Strategy) (c to : Control) (scan : Option ℕ) (ahead : List ℕ) (listed : Option ℕ) (h : Happening) (keys : ℕ) → scan_over_more h ≡ false → next_control s c h ≡ to → moved (standing c scan ahead listed) (next_control s c h) h keys ≡ standing to (if scans to then scan else None) ahead (listed_after h keys listed)
goes_to s c to scan ahead listed h keys over is = rw is (rw over (by (scans to)))
  where
    by : (b : Bool) → (if b then standing to scan ahead (listed_after h keys listed) else idle to ahead (listed_after h keys listed)) ≡ standing to (if b then scan else None) ahead (listed_after h keys listed)
    by true = refl
    by false = refl

pub led_at : (to : Standing) (h : Happening) → scan_over_more h ≡ false → led_events to h ≡ At to.control ∷ []
led_at to h over = rw over refl

moves_to : (s : Strategy) (c to : Control) (scan : Option ℕ) (ahead : List ℕ) (listed : Option ℕ) (h : Happening) (keys : ℕ) (es : List Event) → scan_over_more h ≡ false → leads s c h to ≡ true → MayCome s (standing c scan ahead listed) h keys → Runs s (standing to (if scans to then scan else None) ahead (listed_after h keys listed)) es → Runs s (standing c scan ahead listed) (own_events scan h keys ++ (At to ∷ []) ++ es)
moves_to s c to scan ahead listed h keys es over l may r =
    one_more s (standing c scan ahead listed) (standing to (if scans to then scan else None) ahead (listed_after h keys listed)) h keys (At to ∷ []) es (leads_stands s c h to l) may (goes_to s c to scan ahead listed h keys over (leads_is s c h to l)) (led_at (standing to (if scans to then scan else None) ahead (listed_after h keys listed)) h over) r

-- the foreground or the final stage ends
front_to : (s : Strategy) (c to : Control) (scan : Option ℕ) (ahead : List ℕ) (listed : Option ℕ) (es : List Event) → leads s c FrontEnded to ≡ true → Runs s (standing to (if scans to then scan else None) ahead listed) es → Runs s (standing c scan ahead listed) (At to ∷ es)
front_to s c to None ahead listed es l r = moves_to s c to None ahead listed FrontEnded 0 es refl l (leads_stands s c FrontEnded to l) r
front_to s c to (Some i) ahead listed es l r = moves_to s c to (Some i) ahead listed FrontEnded 0 es refl l (leads_stands s c FrontEnded to l) r

final_to : (s : Strategy) (c to : Control) (scan : Option ℕ) (ahead : List ℕ) (listed : Option ℕ) (es : List Event) → leads s c FinalEnded to ≡ true → Runs s (standing to (if scans to then scan else None) ahead listed) es → Runs s (standing c scan ahead listed) (At to ∷ es)
final_to s c to None ahead listed es l r = moves_to s c to None ahead listed FinalEnded 0 es refl l (leads_stands s c FinalEnded to l) r
final_to s c to (Some i) ahead listed es l r = moves_to s c to (Some i) ahead listed FinalEnded 0 es refl l (leads_stands s c FinalEnded to l) r

scan_is : (scan : Option ℕ) (i : ℕ) → is_scanning scan i ≡ true → scan ≡ Some i
scan_is None i h = no_way (sym h)
scan_is (Some j) i h = ap (λ n. Some n) (eqb-true j i h)

is_there : (scan : Option ℕ) (i : ℕ) → scan ≡ Some i → is_some scan ≡ true
is_there scan i e = ap is_some e

-- What came before led to a control.

-- a scan completed
listed_to : (s : Strategy) (c to : Control) (listed : Option ℕ) (i keys : ℕ) (es : List Event) → leads s c (ScanEnded false true) to ≡ true → begun_by es ≡ [] → (scan : Option ℕ) → scan ≡ Some i → Runs s (standing to (if scans to then scan else None) (begun_by es) (Some keys)) es → Runs s (standing c scan (begun_by es) listed) (ListOf i keys ∷ At to ∷ es)
listed_to s c to listed i keys es l ahead scan under =
    subst (λ (x : Option ℕ). Runs s (standing to (if scans to then x else None) (begun_by es) (Some keys)) es → Runs s (standing c x (begun_by es) listed) (ListOf i keys ∷ At to ∷ es)) (sym under)
    (moves_to s c to (Some i) (begun_by es) listed (ScanEnded false true) keys es refl l (refl, sym (ap (λ a. is_more a (Some keys)) ahead), refl))

-- a scan was abandoned
dropped_to : (s : Strategy) (c to : Control) (listed : Option ℕ) (i : ℕ) (es : List Event) → leads s c (Ruled AbandonScan false (is_some listed)) to ≡ true → begun_by es ≡ [] → (scan : Option ℕ) → scan ≡ Some i → Runs s (standing to (if scans to then scan else None) (begun_by es) listed) es → Runs s (standing c scan (begun_by es) listed) (Drop i ∷ At to ∷ es)
dropped_to s c to listed i es l ahead scan under =
    subst (λ (x : Option ℕ). Runs s (standing to (if scans to then x else None) (begun_by es) listed) es → Runs s (standing c x (begun_by es) listed) (Drop i ∷ At to ∷ es)) (sym under)
    (moves_to s c to (Some i) (begun_by es) listed (Ruled AbandonScan false (is_some listed)) 0 es refl l (refl, sym (ap (λ a. is_more a listed) ahead), refl))

-- the background was abandoned
given_up_to : (s : Strategy) (c to : Control) (listed : Option ℕ) (i : ℕ) (es : List Event) → leads s c (Ruled AbandonBackground false (is_some listed)) to ≡ true → begun_by es ≡ [] → (scan : Option ℕ) → scan ≡ Some i → Runs s (standing to (if scans to then scan else None) (begun_by es) listed) es → Runs s (standing c scan (begun_by es) listed) (Drop i ∷ At to ∷ es)
given_up_to s c to listed i es l ahead scan under =
    subst (λ (x : Option ℕ). Runs s (standing to (if scans to then x else None) (begun_by es) listed) es → Runs s (standing c x (begun_by es) listed) (Drop i ∷ At to ∷ es)) (sym under)
    (moves_to s c to (Some i) (begun_by es) listed (Ruled AbandonBackground false (is_some listed)) 0 es refl l (refl, sym (ap (λ a. is_more a listed) ahead), refl))

-- the foreground was abandoned
stopped_to : (s : Strategy) (c to : Control) (scan listed : Option ℕ) (es : List Event) → is_some scan ≡ true → leads s c (Ruled AbandonForeground false (is_some listed)) to ≡ true → Runs s (standing to (if scans to then scan else None) (begun_by es) listed) es → Runs s (standing c scan (begun_by es) listed) (Stop ∷ At to ∷ es)
stopped_to s c to None listed es way l r = no_way (sym way)
stopped_to s c to (Some i) listed es way l r = moves_to s c to (Some i) (begun_by es) listed (Ruled AbandonForeground (is_more (begun_by es) listed) (is_some listed)) 0 es refl l (refl, refl, refl) r

-- the buffer became full
full_to : (s : Strategy) (c to : Control) (scan listed : Option ℕ) (es : List Event) → leads s c Full to ≡ true → Runs s (standing to (if scans to then scan else None) (begun_by es) listed) es → Runs s (standing c scan (begun_by es) listed) (FullEvent ∷ At to ∷ es)
full_to s c to None listed es l r = moves_to s c to None (begun_by es) listed Full 0 es refl l (leads_stands s c Full to l) r
full_to s c to (Some i) listed es l r = moves_to s c to (Some i) (begun_by es) listed Full 0 es refl l (leads_stands s c Full to l) r

own_to : (s : Strategy) (c to : Control) (scan listed : Option ℕ) (own : Event) (es : List Event) → leads_to s (record { control = c; scan = scan; listed = listed; own = Some own }) own to ≡ true → (scans to ≡ false → begun_by es ≡ []) → Runs s (standing to (if scans to then scan else None) (begun_by es) (listed_by (Some own) listed)) es → Runs s (standing c scan (begun_by es) listed) (own ∷ At to ∷ es)
own_to s c to scan listed (ListOf i keys) es l none r =
    let ends = second_so (is_scanning scan i) _ l in
    listed_to s c to listed i keys es ends (none (scan_ends s c to ends)) scan (scan_is scan i (first_so _ _ l)) r
own_to s c to scan listed (Drop i) es l none r =
    let under = scan_is scan i (first_so _ _ l) in
    either _ _ (second_so (is_scanning scan i) _ l)
    (λ (ends : leads s c (Ruled AbandonScan false (is_some listed)) to ≡ true). dropped_to s c to listed i es ends (none (drop_ends s c to (is_some listed) ends)) scan under r)
    (λ (ends : leads s c (Ruled AbandonBackground false (is_some listed)) to ≡ true). given_up_to s c to listed i es ends (none (background_ends s c to (is_some listed) ends)) scan under r)
own_to s c to scan listed Stop es l none r = stopped_to s c to scan listed es (first_so _ _ l) (second_so (is_some scan) _ l) r
own_to s c to scan listed FullEvent es l none r = full_to s c to scan listed es l r
own_to s c to scan listed (At d) es l none r = no_way (sym l)
own_to s c to scan listed (Scan i) es l none r = no_way (sym l)

-- What came before led to a further scan.

begins : (s : Strategy) (c : Control) (scan : Option ℕ) (j : ℕ) (ahead : List ℕ) (listed : Option ℕ) (h : Happening) (keys : ℕ) (es : List Event) → has_row s c h ≡ true → scan_over_more h ≡ true → next_control s c h ≡ c → MayCome s (standing c scan (j ∷ ahead) listed) h keys → Runs s (standing c (Some j) ahead (listed_after h keys listed)) es → Runs s (standing c scan (j ∷ ahead) listed) (own_events scan h keys ++ (Scan j ∷ []) ++ es)
begins s c scan j ahead listed h keys es row over stay may r =
    one_more s (standing c scan (j ∷ ahead) listed) (standing c (Some j) ahead (listed_after h keys listed)) h keys (Scan j ∷ []) es row may goes leads r
  where
    moved_on : (next : Control) → moved (standing c scan (j ∷ ahead) listed) next h keys ≡ standing next (Some j) ahead (listed_after h keys listed)
    moved_on next = rw over refl

    goes : moved (standing c scan (j ∷ ahead) listed) (next_control s c h) h keys ≡ standing c (Some j) ahead (listed_after h keys listed)
    goes = moved_on (next_control s c h) ∙ ap (λ d. standing d (Some j) ahead (listed_after h keys listed)) stay

    leads : led_events (standing c (Some j) ahead (listed_after h keys listed)) h ≡ Scan j ∷ []
    leads = rw over refl

listed_on : (s : Strategy) (c : Control) (listed : Option ℕ) (i j keys : ℕ) (ahead : List ℕ) (es : List Event) → scans c ≡ true → nat_lt 0 keys ≡ true → (scan : Option ℕ) → scan ≡ Some i → Runs s (standing c (Some j) ahead (Some keys)) es → Runs s (standing c scan (j ∷ ahead) listed) (ListOf i keys ∷ Scan j ∷ es)
listed_on s c listed i j keys ahead es way some scan under r =
    subst (λ (x : Option ℕ). Runs s (standing c x (j ∷ ahead) listed) (ListOf i keys ∷ Scan j ∷ es)) (sym under)
    (begins s c (Some i) j ahead listed (ScanEnded true true) keys es (has_ended_on s c true way) refl (ended_on s c true) (refl, sym some, refl) r)

may_more : (listed : Option ℕ) (j : ℕ) (ahead : List ℕ) → may_narrow listed ≡ true → true ≡ is_more (j ∷ ahead) listed
may_more None j ahead m = refl
may_more (Some keys) j ahead m = sym m

dropped_further : (s : Strategy) (c : Control) (listed : Option ℕ) (i j : ℕ) (ahead : List ℕ) (es : List Event) → scans c ≡ true → may_narrow listed ≡ true → (scan : Option ℕ) → scan ≡ Some i → Runs s (standing c (Some j) ahead listed) es → Runs s (standing c scan (j ∷ ahead) listed) (Drop i ∷ Scan j ∷ es)
dropped_further s c listed i j ahead es way some scan under r =
    subst (λ (x : Option ℕ). Runs s (standing c x (j ∷ ahead) listed) (Drop i ∷ Scan j ∷ es)) (sym under)
    (begins s c (Some i) j ahead listed (Ruled AbandonScan true (is_some listed)) 0 es (has_dropped_on s c (is_some listed) way) refl (dropped_on s c (is_some listed)) (refl, may_more listed j ahead some, refl) r)

own_on : (s : Strategy) (c : Control) (scan listed : Option ℕ) (own : Event) (j : ℕ) (es : List Event) → (is_some scan ≡ true → scans c ≡ true) → goes_on (record { control = c; scan = scan; listed = listed; own = Some own }) own ≡ true → Runs s (standing c (Some j) (begun_by es) (listed_by (Some own) listed)) es → Runs s (standing c scan (j ∷ begun_by es) listed) (own ∷ Scan j ∷ es)
own_on s c scan listed (ListOf i keys) j es way g r =
    let under = scan_is scan i (first_so _ _ g) in
    listed_on s c listed i j keys (begun_by es) es (way (ap is_some under)) (second_so (is_scanning scan i) _ g) scan under r
own_on s c scan listed (Drop i) j es way g r =
    let under = scan_is scan i (first_so _ _ g) in
    dropped_further s c listed i j (begun_by es) es (way (ap is_some under)) (second_so (is_scanning scan i) _ g) scan under r
own_on s c scan listed (At to) j es way g r = no_way (sym g)
own_on s c scan listed (Scan i) j es way g r = no_way (sym g)
own_on s c scan listed FullEvent j es way g r = no_way (sym g)
own_on s c scan listed Stop j es way g r = no_way (sym g)

-- The whole.

abbrev pending : Option Event → List Event → List Event
pending None es = es
pending (Some own) es = own ∷ es

kept_way : (b : Bool) (scan : Option ℕ) → is_some (if b then scan else None) ≡ true → b ≡ true
kept_way true scan h = refl
kept_way false scan h = no_way (sym h)

none_idle : (b : Bool) (scan : Option ℕ) → b ≡ false → (if b then scan else None) ≡ None
none_idle true scan h = no_way h
none_idle false scan h = refl

pub sound : (s : Strategy) (c : Control) (scan listed : Option ℕ) (own : Option Event) (es : List Event) → (is_some scan ≡ true → scans c ≡ true) → reads s (record { control = c; scan = scan; listed = listed; own = own }) es ≡ true → Runs s (standing c scan (begun_by es) listed) (pending own es)
sound s c scan listed None [] way r = record { turns = []; run = tt; told = refl }
sound s c scan listed (Some own) [] way r = no_way (sym r)
sound s c scan listed None (At to ∷ es) way r =
    let on = sound s to (if scans to then scan else None) listed None es (kept_way (scans to) scan) (second_so _ _ r) in
    either _ _ (first_so _ _ r)
    (λ (l : leads s c FrontEnded to ≡ true). front_to s c to scan (begun_by es) listed es l on)
    (λ (l : leads s c FinalEnded to ≡ true). final_to s c to scan (begun_by es) listed es l on)
sound s c scan listed None (Scan i ∷ es) way r = no_way (sym r)
sound s c scan listed None (ListOf i keys ∷ es) way r = sound s c scan listed (Some (ListOf i keys)) es way r
sound s c scan listed None (Drop i ∷ es) way r = sound s c scan listed (Some (Drop i)) es way r
sound s c scan listed None (FullEvent ∷ es) way r = sound s c scan listed (Some FullEvent) es way r
sound s c scan listed None (Stop ∷ es) way r = sound s c scan listed (Some Stop) es way r
sound s c scan listed (Some own) (At to ∷ es) way r =
    own_to s c to scan listed own es (first_so _ _ r)
    (λ (h : scans to ≡ false). no_scans s to (if scans to then scan else None) (listed_by (Some own) listed) None es (none_idle (scans to) scan h) (second_so _ _ r))
    (sound s to (if scans to then scan else None) (listed_by (Some own) listed) None es (kept_way (scans to) scan) (second_so _ _ r))
sound s c scan listed (Some own) (Scan j ∷ es) way r =
    let g = first_so _ _ r in
    own_on s c scan listed own j es way g
    (sound s c (Some j) (listed_by (Some own) listed) None es (λ (h : true ≡ true). way (under_way scan own g)) (second_so _ _ r))
  where
    under_way : (scan : Option ℕ) (own : Event) → goes_on (record { control = c; scan = scan; listed = listed; own = Some own }) own ≡ true → is_some scan ≡ true
    under_way (Some i) own g = refl
    under_way None (ListOf i keys) g = no_way (sym g)
    under_way None (Drop i) g = no_way (sym g)
    under_way None (At to) g = no_way (sym g)
    under_way None (Scan i) g = no_way (sym g)
    under_way None FullEvent g = no_way (sym g)
    under_way None Stop g = no_way (sym g)
sound s c scan listed (Some own) (ListOf i keys ∷ es) way r = no_way (sym r)
sound s c scan listed (Some own) (Drop i ∷ es) way r = no_way (sym r)
sound s c scan listed (Some own) (FullEvent ∷ es) way r = no_way (sym r)
sound s c scan listed (Some own) (Stop ∷ es) way r = no_way (sym r)
