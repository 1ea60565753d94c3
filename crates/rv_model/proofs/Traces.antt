-- Equal texts are of equal traces.
use Rattle.std.proofs.Common.{◌≡◌, ℕ, ◌<◌, ◌^◌, List, [], ◌∷◌, ◌++◌, refl, sym, ap, ◌∙◌, Bool, true, not, codes, eqb, Option, Some, None, append_assoc, bytes_eq, if◌then◌else◌, flat_map, arith}
use Rattle.std.proofs.lemmas.Bool.Decides.{nat_tests}
use Rattle.std.specs.List.{list_all, AllByRecursion}
use Rattle.std.specs.Fmt.{decimal}
use Rattle.std.specs.Str.Parse.{digits_value}
use Rattle.std.proofs.lemmas.Fmt.{decimal_injective}
use Rattle.std.proofs.lemmas.Bool.{and_from}
use Rattle.rv_value.proofs.Lists.{passes_more}
use Rattle.rv_judge.specs.declared.events.Strategy.{Strategy}
use Rattle.rv_judge.specs.declared.events.Strategy.TheVariants as strategies
use Rattle.rv_judge.specs.declared.events.Control.{Control}
use Rattle.rv_judge.specs.declared.events.Control.TheVariants as controls
use Rattle.rv_lang.specs.declared.reply.ShownEvent.{ShownEvent}
use Rattle.rv_lang.specs.declared.reply.ShownEvent.TheVariants as events
use Rattle.rv_lang.specs.declared.reply.Shown.{Shown}
use Rattle.rv_judge.specs.Words.{control_word, strategy_word}
use Rattle.rv_model.specs.Transcript.{event_words, count_words, trace_words, words_text, IsName, is_name_byte, is_capital, IsPlainEvent, IsPlainTrace}
use Rattle.rv_model.proofs.Cuts.{Stops, cut}
use Rattle.rv_model.proofs.Values.{numeric, decimal_pass, value_back}

abbrev pub no_space : ℕ → Bool
no_space c = not (eqb c 32)

-- words without spaces
abbrev pub AreWords : List (List ℕ) → Type 0
AreWords = AllByRecursion (λ (w : List ℕ). list_all no_space w ≡ true)

spaced_stops : (ws : List (List ℕ)) → Stops no_space (words_text ws)
spaced_stops [] = tt
spaced_stops (w ∷ ws) = refl

spaced_same : (ws vs : List (List ℕ)) → AreWords ws → AreWords vs → words_text ws ≡ words_text vs → ws ≡ vs
spaced_same [] [] a b e = refl
spaced_same [] (v ∷ vs) a b e = cc
spaced_same (w ∷ ws) [] a b e = cc
spaced_same (w ∷ ws) (v ∷ vs) a b e =
    let f : w ++ words_text ws ≡ v ++ words_text vs = cc in
    let r = cut no_space w v (words_text ws) (words_text vs) a.0 b.0 (spaced_stops ws) (spaced_stops vs) f in
    let first : w ≡ v = r.0 in
    let others : ws ≡ vs = spaced_same ws vs a.1 b.1 r.1 in
    cc

name_unspaced : (c : ℕ) → is_name_byte c ≡ true → no_space c ≡ true
name_unspaced c h = grind (arith, nat_tests)

capital_unspaced : (c : ℕ) → is_capital c ≡ true → no_space c ≡ true
capital_unspaced c h = grind (arith, nat_tests)

name_word : (n : List ℕ) → IsName n → list_all no_space n ≡ true
name_word [] h = absurd h
name_word (c ∷ cs) h = and_from (no_space c) (list_all no_space cs) (capital_unspaced c h.0) (passes_more is_name_byte no_space name_unspaced cs h.1)

number_unspaced : (c : ℕ) → numeric c ≡ true → no_space c ≡ true
number_unspaced c h = grind (arith, nat_tests)

number_word : (n : ℕ) → n < 2 ^ 64 → list_all no_space (decimal n) ≡ true
number_word n small = passes_more numeric no_space number_unspaced (decimal n) (decimal_pass n small)

control_unspaced : (c : Control) → list_all no_space (control_word c) ≡ true
control_unspaced controls.Building = refl
control_unspaced controls.ForegroundAlone = refl
control_unspaced controls.BackgroundAlone = refl
control_unspaced controls.FinalList = refl
control_unspaced controls.FinalTable = refl
control_unspaced controls.Done = refl

strategy_unspaced : (s : Strategy) → list_all no_space (strategy_word s) ≡ true
strategy_unspaced strategies.Table = refl
strategy_unspaced strategies.BackgroundOnly = refl
strategy_unspaced strategies.FastFirst = refl
strategy_unspaced strategies.Sorted = refl
strategy_unspaced strategies.IndexOnly = refl
strategy_unspaced strategies.Union = refl

join_words : (ws vs : List (List ℕ)) → AreWords ws → AreWords vs → AreWords (ws ++ vs)
join_words [] vs a b = b
join_words (w ∷ ws) vs a b = (a.0, join_words ws vs a.1 b)

event_are_words : (e : ShownEvent) → IsPlainEvent e → AreWords (event_words e)
event_are_words (events.At control) p = (control_unspaced control, tt)
event_are_words (events.Scan name) p = (refl, (name_word name p, tt))
event_are_words (events.List name keys) p = (refl, (name_word name p.0, (number_word keys p.1, tt)))
event_are_words (events.Drop name) p = (refl, (name_word name p, tt))
event_are_words events.Full p = (refl, tt)
event_are_words events.Stop p = (refl, tt)

events_are_words : (es : List ShownEvent) → AllByRecursion IsPlainEvent es → AreWords (flat_map event_words es)
events_are_words [] p = tt
events_are_words (e ∷ es) p = join_words (event_words e) (flat_map event_words es) (event_are_words e p.0) (events_are_words es p.1)

trace_are_words : (shown : Shown) → IsPlainTrace shown → AreWords (trace_words shown)
trace_are_words shown p =
    (strategy_unspaced shown.strategy, join_words (flat_map event_words shown.events) (count_words shown) (events_are_words shown.events p.events) (refl, (number_word shown.pages p.pages, (refl, (number_word shown.leaves p.leaves, (refl, (number_word shown.fetches p.fetches, tt)))))))

-- the event that words begin with, and the words behind it
abbrev named : List (List ℕ) → (List ℕ → ShownEvent) → Option (ShownEvent × List (List ℕ))
named [] f = None
named (n ∷ ws) f = Some (f n, ws)

abbrev numbered : List (List ℕ) → Option (ShownEvent × List (List ℕ))
numbered [] = None
numbered (n ∷ []) = None
numbered (n ∷ k ∷ ws) = Some (events.List n (digits_value 10 k), ws)

abbrev next_event : List (List ℕ) → Option (ShownEvent × List (List ℕ))
next_event [] = None
next_event (w ∷ ws) =
    if bytes_eq w (codes "building") then Some (events.At controls.Building, ws)
    else (if bytes_eq w (codes "foreground") then Some (events.At controls.ForegroundAlone, ws)
    else (if bytes_eq w (codes "background") then Some (events.At controls.BackgroundAlone, ws)
    else (if bytes_eq w (codes "final-list") then Some (events.At controls.FinalList, ws)
    else (if bytes_eq w (codes "final-table") then Some (events.At controls.FinalTable, ws)
    else (if bytes_eq w (codes "done") then Some (events.At controls.Done, ws)
    else (if bytes_eq w (codes "scan") then named ws (λ (n : List ℕ). events.Scan n)
    else (if bytes_eq w (codes "list") then numbered ws
    else (if bytes_eq w (codes "drop") then named ws (λ (n : List ℕ). events.Drop n)
    else (if bytes_eq w (codes "full") then Some (events.Full, ws)
    else (if bytes_eq w (codes "stop") then Some (events.Stop, ws)
    else (None)))))))))))

abbrev event_or : Option (ShownEvent × List (List ℕ)) → ShownEvent
event_or None = events.Stop
event_or (Some p) = p.0

abbrev words_or : Option (ShownEvent × List (List ℕ)) → List (List ℕ)
words_or None = []
words_or (Some p) = p.1

next_is : (e : ShownEvent) (ws : List (List ℕ)) → IsPlainEvent e → next_event (event_words e ++ ws) ≡ Some (e, ws)
next_is (events.At controls.Building) ws p = refl
next_is (events.At controls.ForegroundAlone) ws p = refl
next_is (events.At controls.BackgroundAlone) ws p = refl
next_is (events.At controls.FinalList) ws p = refl
next_is (events.At controls.FinalTable) ws p = refl
next_is (events.At controls.Done) ws p = refl
next_is (events.Scan name) ws p = refl
next_is (events.List name keys) ws p = ap (λ (m : ℕ). Some (events.List name m, ws)) (value_back keys p.1)
next_is (events.Drop name) ws p = refl
next_is events.Full ws p = refl
next_is events.Stop ws p = refl

events_same : (es fs : List ShownEvent) (x y : List (List ℕ)) → AllByRecursion IsPlainEvent es → AllByRecursion IsPlainEvent fs → next_event x ≡ None → next_event y ≡ None → flat_map event_words es ++ x ≡ flat_map event_words fs ++ y → (es ≡ fs) × (x ≡ y)
events_same [] [] x y pe pf nx ny e = (refl, e)
events_same [] (f ∷ fs) x y pe pf nx ny e =
    let g : x ≡ event_words f ++ (flat_map event_words fs ++ y) = e ∙ append_assoc (event_words f) (flat_map event_words fs) y in
    let h : next_event x ≡ Some (f, flat_map event_words fs ++ y) = ap next_event g ∙ next_is f (flat_map event_words fs ++ y) pf.0 in cc
events_same (d ∷ es) [] x y pe pf nx ny e =
    let g : y ≡ event_words d ++ (flat_map event_words es ++ x) = sym e ∙ append_assoc (event_words d) (flat_map event_words es) x in
    let h : next_event y ≡ Some (d, flat_map event_words es ++ x) = ap next_event g ∙ next_is d (flat_map event_words es ++ x) pe.0 in cc
events_same (d ∷ es) (f ∷ fs) x y pe pf nx ny e =
    let g : event_words d ++ (flat_map event_words es ++ x) ≡ event_words f ++ (flat_map event_words fs ++ y) = sym (append_assoc (event_words d) (flat_map event_words es) x) ∙ e ∙ append_assoc (event_words f) (flat_map event_words fs) y in
    let h : ◌≡◌ {A = Option (ShownEvent × List (List ℕ))} (Some (d, flat_map event_words es ++ x)) (Some (f, flat_map event_words fs ++ y)) = sym (next_is d (flat_map event_words es ++ x) pe.0) ∙ ap next_event g ∙ next_is f (flat_map event_words fs ++ y) pf.0 in
    let first : d ≡ f = ap event_or h in
    let rest : flat_map event_words es ++ x ≡ flat_map event_words fs ++ y = ap words_or h in
    let r = events_same es fs x y pe.1 pf.1 nx ny rest in
    let others : es ≡ fs = r.0 in
    (cc, r.1)

abbrev strategy_of : List ℕ → Strategy
strategy_of w = (if bytes_eq w (codes "table") then strategies.Table else (if bytes_eq w (codes "background-only") then strategies.BackgroundOnly else (if bytes_eq w (codes "fast-first") then strategies.FastFirst else (if bytes_eq w (codes "sorted") then strategies.Sorted else (if bytes_eq w (codes "index-only") then strategies.IndexOnly else strategies.Union)))))

strategy_back : (s : Strategy) → strategy_of (strategy_word s) ≡ s
strategy_back strategies.Table = refl
strategy_back strategies.BackgroundOnly = refl
strategy_back strategies.FastFirst = refl
strategy_back strategies.Sorted = refl
strategy_back strategies.IndexOnly = refl
strategy_back strategies.Union = refl

pub trace_same : (a b : Shown) → IsPlainTrace a → IsPlainTrace b → words_text (trace_words a) ≡ words_text (trace_words b) → a ≡ b
trace_same a b pa pb e =
    let words : trace_words a ≡ trace_words b = spaced_same (trace_words a) (trace_words b) (trace_are_words a pa) (trace_are_words b pb) e in
    let heads : strategy_word a.strategy ≡ strategy_word b.strategy = cc in
    let tails : flat_map event_words a.events ++ count_words a ≡ flat_map event_words b.events ++ count_words b = cc in
    let strategy : a.strategy ≡ b.strategy = sym (strategy_back a.strategy) ∙ ap strategy_of heads ∙ strategy_back b.strategy in
    let r = events_same a.events b.events (count_words a) (count_words b) pa.events pb.events refl refl tails in
    let counts : count_words a ≡ count_words b = r.1 in
    let d : decimal a.pages ≡ decimal b.pages = cc in
    let f : decimal a.leaves ≡ decimal b.leaves = cc in
    let g : decimal a.fetches ≡ decimal b.fetches = cc in
    let pages = decimal_injective a.pages b.pages pa.pages pb.pages d in
    let leaves = decimal_injective a.leaves b.leaves pa.leaves pb.leaves f in
    let fetches = decimal_injective a.fetches b.fetches pa.fetches pb.fetches g in
    λ i. record { strategy = strategy i; events = r.0 i; pages = pages i; leaves = leaves i; fetches = fetches i }
