-- What SHOW answers has the names of indexes of the schema.
use Rattle.std.proofs.Common.{◌≡◌, ℕ, ◌+◌, ◌∷◌, ◌++◌, [], List, Option, Some, None, Bool, true, false, refl, sym, ◌∙◌, subst, length, map, nat_eq, if◌then◌else◌, append_assoc}
use Rattle.std.proofs.Math.Seq.{get_or-append_seam}
use Rattle.std.specs.Prelude.{IfSome}
use Rattle.std.specs.List.{AllByRecursion, slice_index_or, list_all}
use Rattle.std.proofs.lemmas.Bool.{and_parts, eqb-true}
use Rattle.rv_value.proofs.Tests.{either}
use Rattle.rv_value.proofs.Lists.{all_append}
use Rattle.rv_judge.specs.declared.events.Strategy.{Strategy}
use Rattle.rv_judge.specs.declared.events.Strategy.TheVariants.{Table, BackgroundOnly, FastFirst, Sorted, IndexOnly, Union}
use Rattle.rv_judge.specs.declared.events.Control.{Control}
use Rattle.rv_judge.specs.declared.events.Event.{Event}
use Rattle.rv_judge.specs.declared.events.Event.TheVariants as events
use Rattle.rv_judge.specs.declared.events.Trace.{Trace}
use Rattle.rv_judge.specs.declared.events.Happening.{Happening}
use Rattle.rv_judge.specs.declared.events.Happening.TheVariants.{ScanEnded, Ruled, Full, FrontEnded, FinalEnded}
use Rattle.rv_judge.specs.declared.judging.Verdict.TheVariants.{Continue, AbandonScan, AbandonForeground, AbandonBackground}
use Rattle.rv_judge.specs.Course.{has_row, next_control, scan_over_more}
use Rattle.rv_judge.specs.Runs.{Allowed, AllowedBy, AllowedRun, AllowedUnion, Standing, Turn, UnionTail, after, begun, events_of, first_control, has_index, idle, led_events, listed_after, moved, own_events, run_events, scan_events, scans, start, start_events, tail_among, tail_events}
use Rattle.rv_judge.specs.Runs.UnionTail.{Scanning, Fetching, Fetched, Reading, Read}
use Rattle.rv_lang.specs.declared.reply.Shown.{Shown}
use Rattle.rv_catalog.specs.declared.def.IndexDef.{IndexDef}
use Rattle.rv_model.specs.Database.{index_at, no_index}
use Rattle.rv_model.specs.Showing.{ShowsTrace, numbers_over, shown_event}
use Rattle.rv_model.specs.Transcript.{IsName as IsPlainName}
use Rattle.rv_believed.specs.Plain.{IsPlainEvent}
use Rattle.rv_believed.proofs.KindsSame.{one_longer}
use Rattle.rv_believed.proofs.PlainLists.{all_map}

-- ---- a fact of all indexes of a run is one of all its events

abbrev OfEvent : (ℕ → Type 0) → Event → Type 0
OfEvent P (events.At control) = Unit {0}
OfEvent P (events.Scan i) = P i
OfEvent P (events.List i keys) = P i
OfEvent P (events.Drop i) = P i
OfEvent P events.Full = Unit {0}
OfEvent P events.Stop = Unit {0}

-- of the scan that is under way, and of those ahead
abbrev OfStanding : (ℕ → Type 0) → Standing → Type 0
OfStanding P s = IfSome s.scan P × AllByRecursion P s.ahead

begun_of : (P : ℕ → Type 0) (control : Control) (planned : List ℕ) (listed : Option ℕ) → AllByRecursion P planned → OfStanding P (begun control planned listed)
begun_of P control [] listed h = (tt, tt)
begun_of P control (i ∷ ahead) listed h = (h.0, h.1)

chosen_of : (P : ℕ → Type 0) (b : Bool) (s t : Standing) → OfStanding P s → OfStanding P t → OfStanding P (if b then s else t)
chosen_of P true s t p q = p
chosen_of P false s t p q = q

moved_of : (P : ℕ → Type 0) (s : Standing) (next : Control) (h : Happening) (keys : ℕ) → OfStanding P s → OfStanding P (moved s next h keys)
moved_of P s next h keys p =
    let listed : Option ℕ = listed_after h keys s.listed in
    chosen_of P (scan_over_more h) (begun next s.ahead listed)
    (if scans next then record { control = next; scan = s.scan; ahead = s.ahead; listed = listed } else idle next s.ahead listed)
    (begun_of P next s.ahead listed p.1)
    (chosen_of P (scans next) (record { control = next; scan = s.scan; ahead = s.ahead; listed = listed }) (idle next s.ahead listed) p (tt, p.1))

after_of : (P : ℕ → Type 0) (strategy : Strategy) (s : Standing) (turn : Turn) → OfStanding P s → OfStanding P (after strategy s turn)
after_of P strategy s turn p = chosen_of P (has_row strategy s.control turn.happening)
    (moved s (next_control strategy s.control turn.happening) turn.happening turn.keys) s
    (moved_of P s (next_control strategy s.control turn.happening) turn.happening turn.keys p) p

scan_of : (P : ℕ → Type 0) (o : Option ℕ) → IfSome o P → AllByRecursion (OfEvent P) (scan_events o)
scan_of P None p = tt
scan_of P (Some i) p = (p, tt)

own_of : (P : ℕ → Type 0) (o : Option ℕ) (h : Happening) (keys : ℕ) → IfSome o P → AllByRecursion (OfEvent P) (own_events o h keys)
own_of P (Some i) (ScanEnded more listed) keys p = (p, tt)
own_of P (Some i) (Ruled AbandonScan more listed) keys p = (p, tt)
own_of P (Some i) (Ruled AbandonBackground more listed) keys p = (p, tt)
own_of P (Some i) (Ruled AbandonForeground more listed) keys p = (tt, tt)
own_of P (Some i) (Ruled Continue more listed) keys p = tt
own_of P (Some i) Full keys p = (tt, tt)
own_of P (Some i) FrontEnded keys p = tt
own_of P (Some i) FinalEnded keys p = tt
own_of P None (ScanEnded more listed) keys p = tt
own_of P None (Ruled AbandonScan more listed) keys p = tt
own_of P None (Ruled AbandonBackground more listed) keys p = tt
own_of P None (Ruled AbandonForeground more listed) keys p = (tt, tt)
own_of P None (Ruled Continue more listed) keys p = tt
own_of P None Full keys p = (tt, tt)
own_of P None FrontEnded keys p = tt
own_of P None FinalEnded keys p = tt

either_of : (P : ℕ → Type 0) (b : Bool) (xs ys : List Event) → AllByRecursion (OfEvent P) xs → AllByRecursion (OfEvent P) ys → AllByRecursion (OfEvent P) (if b then xs else ys)
either_of P true xs ys p q = p
either_of P false xs ys p q = q

led_of : (P : ℕ → Type 0) (next : Standing) (h : Happening) → OfStanding P next → AllByRecursion (OfEvent P) (led_events next h)
led_of P next h p = either_of P (scan_over_more h) (scan_events next.scan) (events.At next.control ∷ []) (scan_of P next.scan p.0) (tt, tt)

events_of_are : (P : ℕ → Type 0) (strategy : Strategy) (s : Standing) (turn : Turn) → OfStanding P s → AllByRecursion (OfEvent P) (events_of strategy s turn)
events_of_are P strategy s turn p = either_of P (has_row strategy s.control turn.happening)
    (own_events s.scan turn.happening turn.keys ++ led_events (after strategy s turn) turn.happening) []
    (all_append (OfEvent P) (own_events s.scan turn.happening turn.keys) (led_events (after strategy s turn) turn.happening)
    (own_of P s.scan turn.happening turn.keys p.0) (led_of P (after strategy s turn) turn.happening (after_of P strategy s turn p))) tt

run_of : (P : ℕ → Type 0) (strategy : Strategy) (s : Standing) (turns : List Turn) → OfStanding P s → AllByRecursion (OfEvent P) (run_events strategy s turns)
run_of P strategy s [] p = tt
run_of P strategy s (turn ∷ turns) p = all_append (OfEvent P) (events_of strategy s turn) (run_events strategy (after strategy s turn) turns)
    (events_of_are P strategy s turn p) (run_of P strategy (after strategy s turn) turns (after_of P strategy s turn p))

start_of : (P : ℕ → Type 0) (strategy : Strategy) (planned : List ℕ) → AllByRecursion P planned → OfStanding P (start strategy planned)
start_of P strategy planned p = chosen_of P (scans (first_control strategy planned)) (begun (first_control strategy planned) planned None)
    (idle (first_control strategy planned) planned None) (begun_of P (first_control strategy planned) planned None p) (tt, p)

-- ---- indexes by number

abbrev IsPlainNumber : List IndexDef → ℕ → Type 0
IsPlainNumber indexes i = IsPlainName (index_at indexes i).name

abbrev IsPlainIndex : IndexDef → Type 0
IsPlainIndex d = IsPlainName d.name

kept_numbers : (P : ℕ → Type 0) (b : Bool) (n : ℕ) (ns : List ℕ) → P n → AllByRecursion P ns → AllByRecursion P (if b then n ∷ ns else ns)
kept_numbers P true n ns p h = (p, h)
kept_numbers P false n ns p h = h

numbers_plain : (indexes : List IndexDef) (table : ℕ) (rest front : List IndexDef) (n : ℕ) → indexes ≡ front ++ rest → length front ≡ n
    → AllByRecursion IsPlainIndex rest → AllByRecursion (IsPlainNumber indexes) (numbers_over table n rest)
numbers_plain indexes table [] front n q r h = tt
numbers_plain indexes table (d ∷ ds) front n q r h = kept_numbers (IsPlainNumber indexes) (nat_eq d.table table) n (numbers_over table (n + 1) ds)
    (subst IsPlainIndex (sym ((λ k. slice_index_or (q k) n no_index) ∙ (λ k. slice_index_or (front ++ d ∷ ds) (sym r k) no_index)
    ∙ get_or-append_seam front d ds no_index)) h.0)
    (numbers_plain indexes table ds (front ++ d ∷ []) (n + 1) (q ∙ sym (append_assoc front (d ∷ []) ds)) (one_longer front d n r) h.1)

known_one : (P : ℕ → Type 0) (i : ℕ) (ns : List ℕ) → AllByRecursion P ns → has_index i ns ≡ true → P i
known_one P i [] h e = absurd (cc e)
known_one P i (n ∷ ns) h e = either (nat_eq n i) (has_index i ns) e (λ q. subst P (eqb-true n i q) h.0) (λ q. known_one P i ns h.1 q)

known_all : (P : ℕ → Type 0) (ns planned : List ℕ) → AllByRecursion P ns → list_all (λ i. has_index i ns) planned ≡ true → AllByRecursion P planned
known_all P ns [] h e = tt
known_all P ns (i ∷ planned) h e = let parts = and_parts (has_index i ns) (list_all (λ k. has_index k ns) planned) e in
    (known_one P i ns h parts.0, known_all P ns planned h parts.1)

named_plain : (indexes : List IndexDef) (e : Event) → OfEvent (IsPlainNumber indexes) e → IsPlainEvent (shown_event indexes e)
named_plain indexes (events.At control) p = tt
named_plain indexes (events.Scan i) p = p
named_plain indexes (events.List i keys) p = p
named_plain indexes (events.Drop i) p = p
named_plain indexes events.Full p = tt
named_plain indexes events.Stop p = tt

run_plain : (P : ℕ → Type 0) (trace : Trace) (indexes : List ℕ) → AllByRecursion P indexes → AllowedRun trace indexes → AllByRecursion (OfEvent P) trace.events.items
run_plain P trace indexes h a =
    let begins = start_of P trace.strategy a.planned (known_all P indexes a.planned h a.known) in
    subst (AllByRecursion (OfEvent P)) (sym a.told) (all_append (OfEvent P) (start_events trace.strategy a.planned)
    (run_events trace.strategy (start trace.strategy a.planned) a.turns)
    (tt, scan_of P (start trace.strategy a.planned).scan begins.0)
    (run_of P trace.strategy (start trace.strategy a.planned) a.turns begins))

scans_of : (P : ℕ → Type 0) (begun : List ℕ) → AllByRecursion P begun → AllByRecursion (OfEvent P) (map (λ (i : ℕ). events.Scan i) begun)
scans_of P [] h = tt
scans_of P (i ∷ begun) h = (h.0, scans_of P begun h.1)

tail_of : (P : ℕ → Type 0) (tail : UnionTail) (begun : List ℕ) → AllByRecursion P begun → tail_among tail begun ≡ true → AllByRecursion (OfEvent P) (tail_events tail)
tail_of P Scanning begun h e = tt
tail_of P (Fetching i keys) begun h e = (known_one P i begun h e, (tt, tt))
tail_of P (Fetched i keys) begun h e = (known_one P i begun h e, (tt, (tt, tt)))
tail_of P (Reading i) begun h e = (known_one P i begun h e, (tt, tt))
tail_of P (Read i) begun h e = (known_one P i begun h e, (tt, (tt, tt)))

union_plain : (P : ℕ → Type 0) (trace : Trace) (indexes : List ℕ) → AllByRecursion P indexes → AllowedUnion trace indexes → AllByRecursion (OfEvent P) trace.events.items
union_plain P trace indexes h a =
    let begun_are = known_all P indexes a.begun h a.known in
    subst (AllByRecursion (OfEvent P)) (sym a.told) (
      tt,
      all_append (OfEvent P) (map (λ (i : ℕ). events.Scan i) a.begun) (tail_events a.tail)
          (scans_of P a.begun begun_are) (tail_of P a.tail a.begun begun_are a.among),
    )

trace_plain : (P : ℕ → Type 0) (trace : Trace) (indexes : List ℕ) → AllByRecursion P indexes → Allowed trace indexes → AllByRecursion (OfEvent P) trace.events.items
trace_plain P trace indexes h a = by trace.strategy a
  where
    by : (st : Strategy) → AllowedBy st trace indexes → AllByRecursion (OfEvent P) trace.events.items
    by Table a = run_plain P trace indexes h a
    by BackgroundOnly a = run_plain P trace indexes h a
    by FastFirst a = run_plain P trace indexes h a
    by Sorted a = run_plain P trace indexes h a
    by IndexOnly a = run_plain P trace indexes h a
    by Union a = union_plain P trace indexes h a

pub shown_plain : (indexes : List IndexDef) (table : ℕ) (shown : Shown) → AllByRecursion IsPlainIndex indexes → ShowsTrace indexes table shown
    → AllByRecursion IsPlainEvent shown.events
shown_plain indexes table shown h shows =
    subst (λ (t : Shown). AllByRecursion IsPlainEvent t.events) (sym shows.names)
    (all_map (OfEvent (IsPlainNumber indexes)) IsPlainEvent (shown_event indexes) (named_plain indexes) shows.trace.events.items
    (trace_plain (IsPlainNumber indexes) shows.trace (numbers_over table 0 indexes) (numbers_plain indexes table indexes [] 0 refl refl h) shows.allowed))
