-- Bridge: the traces that may be shown are those of the working definition.
use Rattle.std.proofs.Common.{◌≡◌, ◌≢◌, ℕ, zero, suc, ◌<◌, ◌≤◌, List, [], ◌∷◌, ◌++◌, Option, Some, None, Bool, true, false, ◌||◌, refl, sym, ap, ◌∙◌, subst, length, nat_eq, arith, map}
use Rattle.std.specs.List.{AllByRecursion, Contains, list_all, slice_index_or}
use Rattle.std.specs.Option.{option_to_list}
use Rattle.std.proofs.lemmas.Bool.{and_from, and_parts, eqb-true, or_parts}
use Rattle.std.proofs.Math.Bool.{or-true}
use Rattle.rv_value.proofs.Tests.{no_other, same_number}
use Rattle.rv_judge.specs.declared.events.Strategy.{Strategy}
use Rattle.rv_judge.specs.declared.events.Strategy.TheVariants.{Table, BackgroundOnly, FastFirst, Sorted, IndexOnly, Union}
use Rattle.rv_judge.specs.declared.events.Control.{Control}
use Rattle.rv_judge.specs.declared.events.Control.TheVariants.{Building, ForegroundAlone, BackgroundAlone, FinalList, FinalTable, Done}
use Rattle.rv_judge.specs.declared.events.Event.{Event}
use Rattle.rv_judge.specs.declared.events.Event.TheVariants.{At, Scan}
use Rattle.rv_judge.specs.declared.events.Trace.{Trace}
use Rattle.rv_judge.specs.Runs as today
use Rattle.rv_judge.specs.Runs.{Standing, has_index}
use Rattle.rv_judge.specs.Runs.UnionTail.{Scanning, Fetching, Fetched, Reading, Read}
use Rattle.rv_lang.specs.declared.reply.Shown.{Shown}
use Rattle.rv_catalog.specs.declared.def.IndexDef.{IndexDef}
use Rattle.rv_model.specs.Showing.{ShowsTrace, numbers_over}
use Rattle.rv_believed.specs.Runs.{Runs, first_control, start, start_events, EachOnce, Allowed, AllowedBy, AllowedRun, AllowedUnion, UnionTail, Shows}
use Rattle.rv_believed.specs.Runs.UnionTail.{scanning, fetching, fetched, reading, read}
use Rattle.rv_believed.proofs.RunsSame.{runs}
use Rattle.rv_believed.proofs.RunsBack.{BackRun, runs_back}

abbrev IsTrueOne : Bool → Type 0
IsTrueOne true = Unit {0}
IsTrueOne false = ⊥

-- ---- one of the indexes

not_equal : (k i : ℕ) → i ≢ k → (b : Bool) → nat_eq k i ≡ b → b ≡ false
not_equal k i h true e = absurd (h (sym (eqb-true k i e)))
not_equal k i h false e = refl

other_numbers : (k i : ℕ) → i ≢ k → nat_eq k i ≡ false
other_numbers k i h = not_equal k i h (nat_eq k i) refl

contains_by : (n i : ℕ) (ns : List ℕ) → (b : Bool) → nat_eq n i ≡ b → (b || has_index i ns) ≡ true → (has_index i ns ≡ true → Contains ns i)
    → Contains (n ∷ ns) i
contains_by n i ns true e h rest = (0, omega arith, eqb-true n i e)
contains_by n i ns false e h rest = let it = rest h in (suc it.0, (let lt = it.1 in omega (arith, lt)), it.2)

contains_of : (i : ℕ) (ns : List ℕ) → has_index i ns ≡ true → Contains ns i
contains_of i [] h = no_other h
contains_of i (n ∷ ns) h = contains_by n i ns (nat_eq n i) refl h (contains_of i ns)

has_at : (ns : List ℕ) (i k : ℕ) → k < length ns → slice_index_or ns k i ≡ i → has_index i ns ≡ true
has_at [] i k lt e = absurd (omega (arith, lt))
has_at (n ∷ ns) i zero lt e = (λ j. nat_eq (e j) i || has_index i ns) ∙ ap (λ b. b || has_index i ns) (same_number i)
has_at (n ∷ ns) i (suc k) lt e = ap (λ b. nat_eq n i || b) (has_at ns i k (omega (arith, lt)) e) ∙ or-true (nat_eq n i)

has_of : (i : ℕ) (ns : List ℕ) → Contains ns i → has_index i ns ≡ true
has_of i ns h = has_at ns i h.0 h.1 h.2

known_to : (ns planned : List ℕ) → list_all (λ i. has_index i ns) planned ≡ true → AllByRecursion (Contains ns) planned
known_to ns [] h = tt
known_to ns (i ∷ planned) h = let parts = and_parts (has_index i ns) (list_all (λ k. has_index k ns) planned) h in
    (contains_of i ns parts.0, known_to ns planned parts.1)

known_from : (ns planned : List ℕ) → AllByRecursion (Contains ns) planned → list_all (λ i. has_index i ns) planned ≡ true
known_from ns [] h = refl
known_from ns (i ∷ planned) h = and_from (has_index i ns) (list_all (λ k. has_index k ns) planned) (has_of i ns h.0) (known_from ns planned h.1)

-- ---- each once

differs_to : (i : ℕ) (ns : List ℕ) → has_index i ns ≡ false → AllByRecursion (λ j. i ≢ j) ns
differs_to i [] h = tt
differs_to i (n ∷ ns) h = let parts = or_parts (nat_eq n i) (has_index i ns) h in
    ((λ e. no_other (sym parts.0 ∙ ap (λ k. nat_eq k i) (sym e) ∙ same_number i)), differs_to i ns parts.1)

differs_from : (i : ℕ) (ns : List ℕ) → AllByRecursion (λ j. i ≢ j) ns → has_index i ns ≡ false
differs_from i [] h = refl
differs_from i (n ∷ ns) h = λ k. other_numbers n i h.0 k || differs_from i ns h.1 k

once_to : (ns : List ℕ) → today.EachOnce ns → EachOnce ns
once_to [] h = tt
once_to (i ∷ ns) h = (differs_to i ns h.0, once_to ns h.1)

once_from : (ns : List ℕ) → EachOnce ns → today.EachOnce ns
once_from [] h = tt
once_from (i ∷ ns) h = (differs_from i ns h.0, once_from ns h.1)

-- ---- the first control

first_to : (st : Strategy) (planned : List ℕ) → today.HasScans st planned → first_control st planned ≡ Some (today.first_control st planned)
first_to Table planned h = refl
first_to BackgroundOnly [] h = absurd h
first_to BackgroundOnly (i ∷ planned) h = refl
first_to FastFirst [] h = absurd h
first_to FastFirst (i ∷ planned) h = refl
first_to Sorted [] h = refl
first_to Sorted (i ∷ planned) h = refl
first_to IndexOnly [] h = refl
first_to IndexOnly (i ∷ planned) h = refl
first_to Union planned h = absurd h

abbrev control_or : Control → Option Control → Control
control_or c None = c
control_or c (Some d) = d

abbrev IsControl : Option Control → Type 0
IsControl None = ⊥
IsControl (Some c) = Unit {0}

first_from : (st : Strategy) (planned : List ℕ) (c : Control) → first_control st planned ≡ Some c → today.HasScans st planned × (today.first_control st planned ≡ c)
first_from Table planned c e = (tt, ap (control_or c) e)
first_from BackgroundOnly [] c e = absurd (subst IsControl (sym e) tt)
first_from BackgroundOnly (i ∷ planned) c e = (tt, ap (control_or c) e)
first_from FastFirst [] c e = absurd (subst IsControl (sym e) tt)
first_from FastFirst (i ∷ planned) c e = (tt, ap (control_or c) e)
first_from Sorted [] c e = (tt, ap (control_or c) e)
first_from Sorted (i ∷ planned) c e = (tt, ap (control_or c) e)
first_from IndexOnly [] c e = (tt, ap (control_or c) e)
first_from IndexOnly (i ∷ planned) c e = (tt, ap (control_or c) e)
first_from Union planned c e = absurd (subst IsControl (sym e) tt)

start_same : (c : Control) (planned : List ℕ) → today.at_control c planned ≡ start c planned
start_same Building [] = refl
start_same Building (i ∷ planned) = refl
start_same ForegroundAlone [] = refl
start_same ForegroundAlone (i ∷ planned) = refl
start_same BackgroundAlone [] = refl
start_same BackgroundAlone (i ∷ planned) = refl
start_same FinalList [] = refl
start_same FinalList (i ∷ planned) = refl
start_same FinalTable [] = refl
start_same FinalTable (i ∷ planned) = refl
start_same Done [] = refl
start_same Done (i ∷ planned) = refl

scan_same : (o : Option ℕ) → today.scan_events o ≡ map Scan (option_to_list o)
scan_same None = refl
scan_same (Some i) = refl

begins_same : (s : Standing) → (At s.control ∷ today.scan_events s.scan) ≡ start_events s
begins_same s = λ k. At s.control ∷ scan_same s.scan k

-- ---- traces

run_to : (trace : Trace) (indexes : List ℕ) → today.AllowedRun trace indexes → AllowedRun trace indexes
run_to trace indexes a =
    let c : Control = today.first_control trace.strategy a.planned in
    record {
      planned = a.planned;
      known = known_to indexes a.planned a.known;
      once = once_to a.planned a.once;
      control = c;
      first = first_to trace.strategy a.planned a.scanned;
      rest = today.run_events trace.strategy (today.at_control c a.planned) a.turns;
      run = subst (λ s. Runs trace.strategy s (today.run_events trace.strategy (today.at_control c a.planned) a.turns)) (start_same c a.planned)
          (runs trace.strategy a.turns (today.at_control c a.planned) a.run);
      told = a.told ∙ ap (λ es. es ++ today.run_events trace.strategy (today.at_control c a.planned) a.turns)
          (begins_same (today.at_control c a.planned) ∙ ap start_events (start_same c a.planned));
    }

run_from : (trace : Trace) (indexes : List ℕ) → AllowedRun trace indexes → today.AllowedRun trace indexes
run_from trace indexes a =
    let first = first_from trace.strategy a.planned a.control a.first in
    let same : today.start trace.strategy a.planned ≡ start a.control a.planned =
    ap (λ c. today.at_control c a.planned) first.1 ∙ start_same a.control a.planned in
    let back : BackRun trace.strategy (today.start trace.strategy a.planned) a.rest =
    subst (λ s. BackRun trace.strategy s a.rest) (sym same) (runs_back trace.strategy (start a.control a.planned) a.rest a.run) in
    record {
      planned = a.planned;
      known = known_from indexes a.planned a.known;
      once = once_from a.planned a.once;
      scanned = first.0;
      turns = back.0;
      run = back.1;
      told = a.told
          ∙ ap (λ es. es ++ a.rest) (ap start_events (sym same) ∙ sym (begins_same (today.start trace.strategy a.planned)))
          ∙ ap (λ es. today.start_events trace.strategy a.planned ++ es) (sym back.2);
    }

-- ---- unions

tail_to : (tail : today.UnionTail) (begun : List ℕ) → today.tail_among tail begun ≡ true → UnionTail begun (today.tail_events tail)
tail_to Scanning begun h = scanning
tail_to (Fetching i keys) begun h = fetching i keys (contains_of i begun h)
tail_to (Fetched i keys) begun h = fetched i keys (contains_of i begun h)
tail_to (Reading i) begun h = reading i (contains_of i begun h)
tail_to (Read i) begun h = read i (contains_of i begun h)

record TailBack (begun : List ℕ) (events : List Event) : Type 0 where
  tail : today.UnionTail
  among : today.tail_among tail begun ≡ true
  is : events ≡ today.tail_events tail

tail_from : (begun : List ℕ) (events : List Event) → UnionTail begun events → TailBack begun events
tail_from begun events scanning = record { tail = Scanning; among = refl; is = refl }
tail_from begun events (fetching i keys h) = record { tail = Fetching i keys; among = has_of i begun h; is = refl }
tail_from begun events (fetched i keys h) = record { tail = Fetched i keys; among = has_of i begun h; is = refl }
tail_from begun events (reading i h) = record { tail = Reading i; among = has_of i begun h; is = refl }
tail_from begun events (read i h) = record { tail = Read i; among = has_of i begun h; is = refl }

union_to : (trace : Trace) (indexes : List ℕ) → today.AllowedUnion trace indexes → AllowedUnion trace indexes
union_to trace indexes a = by a.begun a.some a.known a.once a.among a.told
  where
    by : (begun : List ℕ) → 1 ≤ length begun → list_all (λ i. has_index i indexes) begun ≡ true → today.EachOnce begun → today.tail_among a.tail begun ≡ true → trace.events.items ≡ today.union_events begun a.tail → AllowedUnion trace indexes
    by [] some known once among told = absurd (omega (arith, some))
    by (first ∷ more) some known once among told = record {
      first = first;
      more = more;
      known = known_to indexes (first ∷ more) known;
      once = once_to (first ∷ more) once;
      tail = today.tail_events a.tail;
      ends = tail_to a.tail (first ∷ more) among;
      told = told;
    }

union_from : (trace : Trace) (indexes : List ℕ) → AllowedUnion trace indexes → today.AllowedUnion trace indexes
union_from trace indexes a =
    let back = tail_from (a.first ∷ a.more) a.tail a.ends in
    record {
      begun = a.first ∷ a.more;
      some = omega arith;
      known = known_from indexes (a.first ∷ a.more) a.known;
      once = once_from (a.first ∷ a.more) a.once;
      tail = back.tail;
      among = back.among;
      told = a.told ∙ ap (λ es. At BackgroundAlone ∷ (map Scan (a.first ∷ a.more) ++ es)) back.is;
    }

pub allowed_to : (trace : Trace) (indexes : List ℕ) → today.Allowed trace indexes → Allowed trace indexes
allowed_to trace indexes a = by trace.strategy a
  where
    by : (st : Strategy) → today.AllowedBy st trace indexes → AllowedBy st trace indexes
    by Table a = run_to trace indexes a
    by BackgroundOnly a = run_to trace indexes a
    by FastFirst a = run_to trace indexes a
    by Sorted a = run_to trace indexes a
    by IndexOnly a = run_to trace indexes a
    by Union a = union_to trace indexes a

pub allowed_from : (trace : Trace) (indexes : List ℕ) → Allowed trace indexes → today.Allowed trace indexes
allowed_from trace indexes a = by trace.strategy a
  where
    by : (st : Strategy) → AllowedBy st trace indexes → today.AllowedBy st trace indexes
    by Table a = run_from trace indexes a
    by BackgroundOnly a = run_from trace indexes a
    by FastFirst a = run_from trace indexes a
    by Sorted a = run_from trace indexes a
    by IndexOnly a = run_from trace indexes a
    by Union a = union_from trace indexes a

pub shows_to : (indexes : List IndexDef) (table : ℕ) (shown : Shown) → ShowsTrace indexes table shown → Shows indexes table shown
shows_to indexes table shown s = record { trace = s.trace; allowed = allowed_to s.trace (numbers_over table 0 indexes) s.allowed; names = s.names }

pub shows_from : (indexes : List IndexDef) (table : ℕ) (shown : Shown) → Shows indexes table shown → ShowsTrace indexes table shown
shows_from indexes table shown s = record { trace = s.trace; allowed = allowed_from s.trace (numbers_over table 0 indexes) s.allowed; names = s.names }
