-- Whether events are read decides whether a trace of them is allowed.
use Rattle.std.proofs.Common.{◌≡◌, ◌↔◌, ℕ, List, [], ◌∷◌, ◌++◌, Bool, true, false, not, ◌&&◌, refl, sym, ap, ◌∙◌, subst, Some, None}
use Rattle.std.specs.Bool.{IsTrue}
use Rattle.std.specs.List.{list_all}
use Rattle.std.proofs.lemmas.Bool.{and_from, not-true}
use Rattle.std.specs.Cmp.{first_so, second_so}
use Rattle.rv_value.proofs.Tests.{no_way}
use Rattle.rv_judge.specs.declared.events.Strategy.{Strategy}
use Rattle.rv_judge.specs.declared.events.Strategy.TheVariants.{Table, BackgroundOnly, FastFirst, Sorted, IndexOnly, Union}
use Rattle.rv_judge.specs.declared.events.Control.{Control}
use Rattle.rv_judge.specs.declared.events.Control.TheVariants.{Building, ForegroundAlone, BackgroundAlone, FinalTable}
use Rattle.rv_judge.specs.declared.events.Event.{Event}
use Rattle.rv_judge.specs.declared.events.Event.TheVariants.{At, Scan, List as ListOf, Drop, Full as FullEvent, Stop}
use Rattle.rv_judge.specs.Runs.{Allowed, AllowedRun, EachOnce, HasScans, IsRun, Turn, first_control, has_index, run_events, scans, start, start_events}
use Rattle.rv_judge.proofs.Indexes.{front_once}
use Rattle.rv_decide.specs.Course.{are_apart, begun_by, is_known, is_read, place_at, reads, reads_all, reads_at, same_control}
use Rattle.rv_decide.specs.Told.{trace_of}
use Rattle.rv_decide.proofs.Controls.{same_is}
use Rattle.rv_decide.proofs.Scanned.{apart, front_known, known, no_scans, once}
use Rattle.rv_decide.proofs.Sound.{Runs, sound, standing}
use Rattle.rv_decide.proofs.Complete.{Read, complete}
use Rattle.rv_decide.proofs.Unions.{union_read, union_reads}

-- What a run leaves is read from the first control on.

record Whole (s : Strategy) (planned : List ℕ) (es : List Event) : Type 0 where
  pub read : reads_all s es ≡ true
  pub behind : List ℕ
  pub ahead : planned ≡ begun_by es ++ behind

idle_reads : (s : Strategy) (c : Control) (es : List Event) → same_control c (first_control s []) ≡ true → not (scans c) ≡ true → reads s (place_at c None) es ≡ true → reads_at s c es ≡ true
idle_reads s c [] first none r = and_from _ _ (and_from _ _ first none) r
idle_reads s c (Scan i ∷ es) first none r = no_way (sym r)
idle_reads s c (At to ∷ es) first none r = and_from _ _ (and_from _ _ first none) r
idle_reads s c (ListOf i keys ∷ es) first none r = and_from _ _ (and_from _ _ first none) r
idle_reads s c (Drop i ∷ es) first none r = and_from _ _ (and_from _ _ first none) r
idle_reads s c (FullEvent ∷ es) first none r = and_from _ _ (and_from _ _ first none) r
idle_reads s c (Stop ∷ es) first none r = and_from _ _ (and_from _ _ first none) r

opens : (s : Strategy) (planned : List ℕ) (es : List Event) → HasScans s planned → Read s (start s planned) es → Whole s planned (start_events s planned ++ es)
opens Table planned es has r = record { read = idle_reads Table FinalTable es refl refl r.read; behind = r.behind; ahead = r.ahead }
opens BackgroundOnly [] es has r = absurd has
opens BackgroundOnly (i ∷ planned) es has r = record { read = r.read; behind = r.behind; ahead = ap (λ xs. i ∷ xs) r.ahead }
opens FastFirst [] es has r = absurd has
opens FastFirst (i ∷ planned) es has r = record { read = r.read; behind = r.behind; ahead = ap (λ xs. i ∷ xs) r.ahead }
opens Sorted [] es has r = record { read = idle_reads Sorted ForegroundAlone es refl refl r.read; behind = r.behind; ahead = r.ahead }
opens Sorted (i ∷ planned) es has r = record { read = r.read; behind = r.behind; ahead = ap (λ xs. i ∷ xs) r.ahead }
opens IndexOnly [] es has r = record { read = idle_reads IndexOnly ForegroundAlone es refl refl r.read; behind = r.behind; ahead = r.ahead }
opens IndexOnly (i ∷ planned) es has r = record { read = r.read; behind = r.behind; ahead = ap (λ xs. i ∷ xs) r.ahead }
opens Union planned es has r = absurd has

whole : (s : Strategy) (events : List Event) (indexes : List ℕ) (a : AllowedRun (trace_of s events) indexes) → Whole s a.planned events
whole s events indexes a = subst (λ es. Whole s a.planned es) (sym a.told) (opens s a.planned (run_events s (start s a.planned) a.turns) a.scanned (complete s (start s a.planned) a.turns a.run))

run_reads : (s : Strategy) (events : List Event) (indexes : List ℕ) → AllowedRun (trace_of s events) indexes → (list_all (is_known indexes) events && are_apart events && reads_all s events) ≡ true
run_reads s events indexes a =
    let w = whole s events indexes a in
    let all = subst (λ xs. list_all (λ i. has_index i indexes) xs ≡ true) w.ahead a.known in
    let each = subst EachOnce w.ahead a.once in
    and_from _ _ (and_from _ _ (known indexes events ∙ front_known indexes (begun_by events) w.behind all) (apart events (front_once (begun_by events) w.behind each))) w.read

allowed_read : (s : Strategy) (events : List Event) (indexes : List ℕ) → Allowed (trace_of s events) indexes → is_read s events indexes ≡ true
allowed_read Table events indexes a = run_reads Table events indexes a
allowed_read BackgroundOnly events indexes a = run_reads BackgroundOnly events indexes a
allowed_read FastFirst events indexes a = run_reads FastFirst events indexes a
allowed_read Sorted events indexes a = run_reads Sorted events indexes a
allowed_read IndexOnly events indexes a = run_reads IndexOnly events indexes a
allowed_read Union events indexes a = union_reads events indexes a

-- What is read from the first control on is left by a run. A union has none.

abbrev has_runs : Strategy → Bool
has_runs Table = true
has_runs BackgroundOnly = true
has_runs FastFirst = true
has_runs Sorted = true
has_runs IndexOnly = true
has_runs Union = false

record Opened (s : Strategy) (planned : List ℕ) (es : List Event) : Type 0 where
  pub scanned : HasScans s planned
  pub turns : List Turn
  pub run : IsRun s (start s planned) turns
  pub told : es ≡ start_events s planned ++ run_events s (start s planned) turns

opened_scan : (s : Strategy) → has_runs s ≡ true → (c : Control) (i : ℕ) (ahead : List ℕ) (es : List Event) → c ≡ first_control s (i ∷ []) → scans c ≡ true → Runs s (standing c (Some i) ahead None) es → Opened s (i ∷ ahead) (At c ∷ Scan i ∷ es)
opened_scan Table h c i ahead es first way = no_way (sym way ∙ ap scans first)
opened_scan BackgroundOnly h c i ahead es first way =
    subst (λ (d : Control). Runs BackgroundOnly (standing d (Some i) ahead None) es → Opened BackgroundOnly (i ∷ ahead) (At d ∷ Scan i ∷ es)) (sym first)
    (λ (r : Runs BackgroundOnly (standing BackgroundAlone (Some i) ahead None) es). record { scanned = tt; turns = r.turns; run = r.run; told = ap (λ xs. At BackgroundAlone ∷ Scan i ∷ xs) r.told })
opened_scan FastFirst h c i ahead es first way =
    subst (λ (d : Control). Runs FastFirst (standing d (Some i) ahead None) es → Opened FastFirst (i ∷ ahead) (At d ∷ Scan i ∷ es)) (sym first)
    (λ (r : Runs FastFirst (standing Building (Some i) ahead None) es). record { scanned = tt; turns = r.turns; run = r.run; told = ap (λ xs. At Building ∷ Scan i ∷ xs) r.told })
opened_scan Sorted h c i ahead es first way =
    subst (λ (d : Control). Runs Sorted (standing d (Some i) ahead None) es → Opened Sorted (i ∷ ahead) (At d ∷ Scan i ∷ es)) (sym first)
    (λ (r : Runs Sorted (standing Building (Some i) ahead None) es). record { scanned = tt; turns = r.turns; run = r.run; told = ap (λ xs. At Building ∷ Scan i ∷ xs) r.told })
opened_scan IndexOnly h c i ahead es first way =
    subst (λ (d : Control). Runs IndexOnly (standing d (Some i) ahead None) es → Opened IndexOnly (i ∷ ahead) (At d ∷ Scan i ∷ es)) (sym first)
    (λ (r : Runs IndexOnly (standing Building (Some i) ahead None) es). record { scanned = tt; turns = r.turns; run = r.run; told = ap (λ xs. At Building ∷ Scan i ∷ xs) r.told })
opened_scan Union h c i ahead es first way = no_way (sym h)

opened_idle : (s : Strategy) (c : Control) (es : List Event) → c ≡ first_control s [] → scans c ≡ false → Runs s (standing c None [] None) es → Opened s [] (At c ∷ es)
opened_idle Table c es first way =
    subst (λ (d : Control). Runs Table (standing d None [] None) es → Opened Table [] (At d ∷ es)) (sym first)
    (λ (r : Runs Table (standing FinalTable None [] None) es). record { scanned = tt; turns = r.turns; run = r.run; told = ap (λ xs. At FinalTable ∷ xs) r.told })
opened_idle BackgroundOnly c es first way = no_way (sym (ap scans first) ∙ way)
opened_idle Union c es first way = no_way (sym (ap scans first) ∙ way)
opened_idle FastFirst c es first way = no_way (sym (ap scans first) ∙ way)
opened_idle Sorted c es first way =
    subst (λ (d : Control). Runs Sorted (standing d None [] None) es → Opened Sorted [] (At d ∷ es)) (sym first)
    (λ (r : Runs Sorted (standing ForegroundAlone None [] None) es). record { scanned = tt; turns = r.turns; run = r.run; told = ap (λ xs. At ForegroundAlone ∷ xs) r.told })
opened_idle IndexOnly c es first way =
    subst (λ (d : Control). Runs IndexOnly (standing d None [] None) es → Opened IndexOnly [] (At d ∷ es)) (sym first)
    (λ (r : Runs IndexOnly (standing ForegroundAlone None [] None) es). record { scanned = tt; turns = r.turns; run = r.run; told = ap (λ xs. At ForegroundAlone ∷ xs) r.told })

-- without a first scan
idle_opened : (s : Strategy) (c : Control) (es : List Event) → (same_control c (first_control s []) && not (scans c) && reads s (place_at c None) es) ≡ true → Opened s (begun_by es) (At c ∷ es)
idle_opened s c es r =
    let front = first_so _ _ r in
    let read = second_so (same_control c (first_control s []) && not (scans c)) _ r in
    let way = not-true _ (second_so (same_control c (first_control s [])) _ front) in
    let none = no_scans s c None None None es refl read in
    let run = sound s c None None None es (λ (h : false ≡ true). no_way (sym h)) read in
    subst (λ xs. Runs s (standing c None xs None) es → Opened s xs (At c ∷ es)) (sym none)
    (opened_idle s c es (same_is _ _ (first_so _ _ front)) way) run

opened_at : (s : Strategy) → has_runs s ≡ true → (c : Control) (es : List Event) → reads_at s c es ≡ true → Opened s (begun_by es) (At c ∷ es)
opened_at s h c [] r = idle_opened s c [] r
opened_at s h c (Scan i ∷ es) r =
    let front = first_so _ _ r in
    let read = second_so (same_control c (first_control s (i ∷ [])) && scans c) _ r in
    let way = second_so (same_control c (first_control s (i ∷ []))) _ front in
    opened_scan s h c i (begun_by es) es (same_is _ _ (first_so _ _ front)) way (sound s c (Some i) None None es (λ (h : true ≡ true). way) read)
opened_at s h c (At to ∷ es) r = idle_opened s c (At to ∷ es) r
opened_at s h c (ListOf i keys ∷ es) r = idle_opened s c (ListOf i keys ∷ es) r
opened_at s h c (Drop i ∷ es) r = idle_opened s c (Drop i ∷ es) r
opened_at s h c (FullEvent ∷ es) r = idle_opened s c (FullEvent ∷ es) r
opened_at s h c (Stop ∷ es) r = idle_opened s c (Stop ∷ es) r

opened : (s : Strategy) → has_runs s ≡ true → (es : List Event) → reads_all s es ≡ true → Opened s (begun_by es) es
opened s h [] r = no_way (sym r)
opened s h (At c ∷ es) r = opened_at s h c es r
opened s h (Scan i ∷ es) r = no_way (sym r)
opened s h (ListOf i keys ∷ es) r = no_way (sym r)
opened s h (Drop i ∷ es) r = no_way (sym r)
opened s h (FullEvent ∷ es) r = no_way (sym r)
opened s h (Stop ∷ es) r = no_way (sym r)

run_read : (s : Strategy) (events : List Event) (indexes : List ℕ) → has_runs s ≡ true → (list_all (is_known indexes) events && are_apart events && reads_all s events) ≡ true → AllowedRun (trace_of s events) indexes
run_read s events indexes h r =
    let front = first_so _ _ r in
    let o = opened s h events (second_so (list_all (is_known indexes) events && are_apart events) _ r) in
    record {
      planned = begun_by events;
      known = sym (known indexes events) ∙ first_so _ _ front;
      once = once events (second_so (list_all (is_known indexes) events) _ front);
      scanned = o.scanned;
      turns = o.turns;
      run = o.run;
      told = o.told;
    }

read_allowed : (s : Strategy) (events : List Event) (indexes : List ℕ) → is_read s events indexes ≡ true → Allowed (trace_of s events) indexes
read_allowed Table events indexes r = run_read Table events indexes refl r
read_allowed BackgroundOnly events indexes r = run_read BackgroundOnly events indexes refl r
read_allowed FastFirst events indexes r = run_read FastFirst events indexes refl r
read_allowed Sorted events indexes r = run_read Sorted events indexes refl r
read_allowed IndexOnly events indexes r = run_read IndexOnly events indexes refl r
read_allowed Union events indexes r = union_read events indexes r

pub decides : (b : Bool) (s : Strategy) (events : List Event) (indexes : List ℕ) → b ≡ is_read s events indexes → IsTrue b ↔ Allowed (trace_of s events) indexes
decides b s events indexes e = ((λ (t : IsTrue b). read_allowed s events indexes (sym e ∙ t)), (λ (a : Allowed (trace_of s events) indexes). e ∙ allowed_read s events indexes a))
