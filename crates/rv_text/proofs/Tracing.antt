-- A trace is read as it is written, both ways.
use Rattle.std.proofs.Common.{◌≡◌, ◌⊎◌, ℕ, ◌<◌, ◌^◌, List, [], ◌∷◌, ◌++◌, Option, Some, None, Bool, true, false, not, ◌&&◌, cond, inl, inr, ⊎_elim, refl, ap, sym, ◌∙◌, arith, eqb, nat_le, bytes_eq, codes, append_assoc, flat_map, find}
use Rattle.std.proofs.lemmas.Bool.{cases_Bool, and_from, and_parts}
use Rattle.std.proofs.lemmas.Bool.Decides.{nat_tests}
use Rattle.std.specs.Fmt.{decimal}
use Rattle.std.specs.List.{list_all, AllByRecursion}
use Rattle.std.proofs.lemmas.Option.{cond_some, same_Some}
use Rattle.rv_value.proofs.Lists.{passes_more}
use Rattle.rv_judge.specs.declared.events.Strategy.{Strategy}
use Rattle.rv_judge.specs.declared.events.Strategy.TheVariants as strategies
use Rattle.rv_judge.specs.declared.events.Control.{Control}
use Rattle.rv_judge.specs.declared.events.Control.TheVariants as controls
use Rattle.rv_lang.specs.declared.reply.ShownEvent.{ShownEvent}
use Rattle.rv_lang.specs.declared.reply.ShownEvent.TheVariants as events
use Rattle.rv_lang.specs.declared.reply.Shown.{Shown}
use Rattle.rv_judge.specs.Words.{control_word, strategy_word}
use Rattle.rv_model.specs.Transcript.{count_words, event_words, is_capital, is_name_byte, words_text, trace_words, IsName, IsPlainEvent, IsPlainTrace}
use Rattle.rv_model.proofs.Values.{numeric, decimal_pass}
use Rattle.rv_text.specs.declared.traces.Tail.{Tail}
use Rattle.rv_text.specs.Values.{number_at}
use Rattle.rv_text.specs.Traces.{controls_all, control_at, control_step, counted, counts_at, events_before, event_step, is_name, list_step, shown_of, stepped, step_at, strategies_all, strategy_at, told, trace_at, trace_told, words, Awaited, Awaits, Counts, Dropped, Event, Gives, Keys, Listed, Scanned, Step}
use Rattle.rv_text.proofs.Leaves.{is_a_name, name_is, number_again, number_takes, same_bytes}
use Rattle.rv_text.proofs.Cutting.{lacks, unworded, words_again, words_whole, AreWords}

-- Words of a trace have no space and no line feed.

abbrev pub wordy : ℕ → Bool
wordy c = nat_le 33 c

numeric_wordy : (c : ℕ) → numeric c ≡ true → wordy c ≡ true
numeric_wordy c h = grind (arith, nat_tests)

byte_wordy : (c : ℕ) → is_name_byte c ≡ true → wordy c ≡ true
byte_wordy c h = grind (arith, nat_tests)

capital_wordy : (c : ℕ) → is_capital c ≡ true → wordy c ≡ true
capital_wordy c h = grind (arith, nat_tests)

wordy_unspaced : (c : ℕ) → wordy c ≡ true → not (eqb c 32) ≡ true
wordy_unspaced c h = grind (arith, nat_tests)

pub decimal_wordy : (n : ℕ) → n < 2 ^ 64 → list_all wordy (decimal n) ≡ true
decimal_wordy n small = passes_more numeric wordy numeric_wordy (decimal n) (decimal_pass n small)

pub name_wordy : (name : List ℕ) → IsName name → list_all wordy name ≡ true
name_wordy [] h = absurd h
name_wordy (c ∷ cs) h = and_from (wordy c) (list_all wordy cs) (capital_wordy c h.0) (passes_more is_name_byte wordy byte_wordy cs h.1)

pub unspaced : (word : List ℕ) → list_all wordy word ≡ true → lacks 32 word ≡ true
unspaced word h = passes_more wordy (λ c. not (eqb c 32)) wordy_unspaced word h

control_wordy : (c : Control) → list_all wordy (control_word c) ≡ true
control_wordy controls.Building = refl
control_wordy controls.ForegroundAlone = refl
control_wordy controls.BackgroundAlone = refl
control_wordy controls.FinalList = refl
control_wordy controls.FinalTable = refl
control_wordy controls.Done = refl

strategy_wordy : (s : Strategy) → list_all wordy (strategy_word s) ≡ true
strategy_wordy strategies.Table = refl
strategy_wordy strategies.BackgroundOnly = refl
strategy_wordy strategies.FastFirst = refl
strategy_wordy strategies.Sorted = refl
strategy_wordy strategies.IndexOnly = refl
strategy_wordy strategies.Union = refl

abbrev pub AreWordy : List (List ℕ) → Type 0
AreWordy = AllByRecursion (λ (w : List ℕ). list_all wordy w ≡ true)

wordy_joined : (ws vs : List (List ℕ)) → AreWordy ws → AreWordy vs → AreWordy (ws ++ vs)
wordy_joined [] vs a b = b
wordy_joined (w ∷ ws) vs a b = (a.0, wordy_joined ws vs a.1 b)

event_wordy : (e : ShownEvent) → IsPlainEvent e → AreWordy (event_words e)
event_wordy (events.At control) p = (control_wordy control, tt)
event_wordy (events.Scan name) p = (refl, (name_wordy name p, tt))
event_wordy (events.List name keys) p = (refl, (name_wordy name p.0, (decimal_wordy keys p.1, tt)))
event_wordy (events.Drop name) p = (refl, (name_wordy name p, tt))
event_wordy events.Full p = (refl, tt)
event_wordy events.Stop p = (refl, tt)

events_wordy : (es : List ShownEvent) → AllByRecursion IsPlainEvent es → AreWordy (flat_map event_words es)
events_wordy [] p = tt
events_wordy (e ∷ es) p = wordy_joined (event_words e) (flat_map event_words es) (event_wordy e p.0) (events_wordy es p.1)

pub trace_wordy : (shown : Shown) → IsPlainTrace shown → AreWordy (trace_words shown)
trace_wordy shown p =
    (strategy_wordy shown.strategy, wordy_joined (flat_map event_words shown.events) (count_words shown) (events_wordy shown.events p.events) (refl, (decimal_wordy shown.pages p.pages, (refl, (decimal_wordy shown.leaves p.leaves, (refl, (decimal_wordy shown.fetches p.fetches, tt)))))))

all_unspaced : (ws : List (List ℕ)) → AreWordy ws → AreWords ws
all_unspaced [] h = tt
all_unspaced (w ∷ ws) h = (unspaced w h.0, all_unspaced ws h.1)

-- What is written is read.

abbrev pub tail_words : Tail → List (List ℕ)
tail_words t = flat_map event_words t.events ++ codes "pages" ∷ decimal t.pages ∷ codes "leaves" ∷ decimal t.leaves ∷ codes "fetches" ∷ decimal t.fetches ∷ []

pub record IsPlainTail (t : Tail) : Type 0 where
  pub events : AllByRecursion IsPlainEvent t.events
  pub pages : t.pages < 2 ^ 64
  pub leaves : t.leaves < 2 ^ 64
  pub fetches : t.fetches < 2 ^ 64

control_told : (c : Control) (ws : List (List ℕ)) → told Event (control_word c ∷ ws) ≡ events_before (events.At c ∷ []) (told Event ws)
control_told controls.Building ws = refl
control_told controls.ForegroundAlone ws = refl
control_told controls.BackgroundAlone ws = refl
control_told controls.FinalList ws = refl
control_told controls.FinalTable ws = refl
control_told controls.Done ws = refl

event_told : (e : ShownEvent) (ws : List (List ℕ)) → IsPlainEvent e → told Event (event_words e ++ ws) ≡ events_before (e ∷ []) (told Event ws)
event_told (events.At control) ws p = control_told control ws
event_told (events.Scan name) ws p = rw (is_a_name name p) refl
event_told (events.List name keys) ws p = rw (is_a_name name p.0, number_again keys p.1) refl
event_told (events.Drop name) ws p = rw (is_a_name name p) refl
event_told events.Full ws p = refl
event_told events.Stop ws p = refl

pub tail_again : (es : List ShownEvent) (t : Tail) → AllByRecursion IsPlainEvent es → IsPlainTail t → t.events ≡ es → told Event (tail_words t) ≡ Some t
tail_again [] t p plain is = rw is (rw (number_again t.pages plain.pages, number_again t.leaves plain.leaves, number_again t.fetches plain.fetches) refl)
tail_again (e ∷ es) t p plain is =
    let rest : Tail = record { events = es; pages = t.pages; leaves = t.leaves; fetches = t.fetches } in
    let ih = tail_again es rest p.1 (record { events = p.1; pages = plain.pages; leaves = plain.leaves; fetches = plain.fetches }) refl in
    ap (λ (fs : List ShownEvent). told Event (tail_words (record t { events = fs }))) is
    ∙ ap (λ ws. told Event ws) (append_assoc (event_words e) (flat_map event_words es) (codes "pages" ∷ decimal t.pages ∷ codes "leaves" ∷ decimal t.leaves ∷ codes "fetches" ∷ decimal t.fetches ∷ []))
    ∙ event_told e (tail_words rest) p.0
    ∙ ap (λ o. events_before (e ∷ []) o) ih
    ∙ (λ i. Some (record t { events = sym is i }))

strategy_again : (s : Strategy) → strategy_at (strategy_word s) ≡ Some s
strategy_again strategies.Table = refl
strategy_again strategies.BackgroundOnly = refl
strategy_again strategies.FastFirst = refl
strategy_again strategies.Sorted = refl
strategy_again strategies.IndexOnly = refl
strategy_again strategies.Union = refl

abbrev tail_of : Shown → Tail
tail_of shown = record { events = shown.events; pages = shown.pages; leaves = shown.leaves; fetches = shown.fetches }

pub trace_again : (shown : Shown) → IsPlainTrace shown → trace_at (strategy_word shown.strategy ++ words_text (flat_map event_words shown.events ++ count_words shown)) ≡ Some shown
trace_again shown p =
    let plain = all_unspaced (trace_words shown) (trace_wordy shown p) in
    ap trace_told (words_again (strategy_word shown.strategy) (flat_map event_words shown.events ++ count_words shown) plain.0 plain.1)
    ∙ rw (strategy_again shown.strategy, tail_again shown.events (tail_of shown) p.events (record { events = p.events; pages = p.pages; leaves = p.leaves; fetches = p.fetches }) refl) refl

-- What is read was written.

pub find_passes : {X : Type 0} (p : X → Bool) (xs : List X) (x : X) → find p xs ≡ Some x → p x ≡ true
find_passes p [] x e = cc
find_passes p (y ∷ ys) x e = elim (cases_Bool (p y)) [
  | inl t ↦ let same : Some y ≡ Some x = rw t at e in rw (sym (same_Some y x same)) t
  | inr f ↦ find_passes p ys x (rw f at e)
]

strategy_takes : (word : List ℕ) (s : Strategy) → strategy_at word ≡ Some s → strategy_word s ≡ word
strategy_takes word s e = same_bytes (strategy_word s) word (find_passes (λ s. bytes_eq (strategy_word s) word) strategies_all s e)

control_takes : (word : List ℕ) (c : Control) → control_at word ≡ Some c → control_word c ≡ word
control_takes word c e = same_bytes (control_word c) word (find_passes (λ c. bytes_eq (control_word c) word) controls_all c e)

-- the words of the event that has begun
abbrev begun : Awaited → List (List ℕ)
begun Event = []
begun Scanned = codes "scan" ∷ []
begun Listed = codes "list" ∷ []
begun (Keys name) = codes "list" ∷ name ∷ []
begun Dropped = codes "drop" ∷ []

abbrev IsReady : Awaited → Type 0
IsReady (Keys name) = IsName name
IsReady a = Unit {0}

record Ready (a : Awaited) : Type 0 where
  is : IsReady a

abbrev StepIs : Awaited → List ℕ → Step → Type 0
StepIs a w (Awaits next) = Ready next × ((ws : List (List ℕ)) → begun next ++ ws ≡ begun a ++ w ∷ ws)
StepIs a w (Gives e) = IsPlainEvent e × ((ws : List (List ℕ)) → event_words e ++ ws ≡ begun a ++ w ∷ ws)
StepIs a w Counts = (ws : List (List ℕ)) → codes "pages" ∷ ws ≡ begun a ++ w ∷ ws

record Steps (a : Awaited) (w : List ℕ) (s : Step) : Type 0 where
  is : StepIs a w s

chosen : {X : Type 0} (b : Bool) (x : X) (other : Option X) (y : X) → cond b (Some x) other ≡ Some y → ((b ≡ true) × (x ≡ y)) ⊎ (other ≡ Some y)
chosen true x other y e = inl (refl, same_Some x y e)
chosen false x other y e = inr e

word_step : (word w : List ℕ) (s t : Step) → ((v : List ℕ) → word ≡ v → Steps Event v s) → (bytes_eq w word ≡ true) × (s ≡ t) → Steps Event w t
word_step word w s t steps h = rw (sym h.1) (steps w (sym (same_bytes w word h.0)))

control_steps : (w : List ℕ) (s : Step) (o : Option Control) → control_at w ≡ o → control_step o ≡ Some s → Steps Event w s
control_steps w s None at e = cc
control_steps w s (Some c) at e =
    let word = control_takes w c at in
    rw (sym (same_Some (Gives (events.At c)) s e)) (record { is = (tt, λ ws i. word i ∷ ws) })

event_steps : (w : List ℕ) (s : Step) → event_step w ≡ Some s → Steps Event w s
event_steps w s e =
    ⊎_elim (word_step (codes "scan") w (Awaits Scanned) s (λ v h. record { is = (record { is = tt }, λ ws i. h i ∷ ws) }))
    (λ e. ⊎_elim (word_step (codes "list") w (Awaits Listed) s (λ v h. record { is = (record { is = tt }, λ ws i. h i ∷ ws) }))
    (λ e. ⊎_elim (word_step (codes "drop") w (Awaits Dropped) s (λ v h. record { is = (record { is = tt }, λ ws i. h i ∷ ws) }))
    (λ e. ⊎_elim (word_step (codes "full") w (Gives events.Full) s (λ v h. record { is = (tt, λ ws i. h i ∷ ws) }))
    (λ e. ⊎_elim (word_step (codes "stop") w (Gives events.Stop) s (λ v h. record { is = (tt, λ ws i. h i ∷ ws) }))
    (λ e. ⊎_elim (word_step (codes "pages") w Counts s (λ v h. record { is = λ ws i. h i ∷ ws }))
    (λ e. control_steps w s (control_at w) refl e)
    (chosen (bytes_eq w (codes "pages")) Counts _ s e))
    (chosen (bytes_eq w (codes "stop")) (Gives events.Stop) _ s e))
    (chosen (bytes_eq w (codes "full")) (Gives events.Full) _ s e))
    (chosen (bytes_eq w (codes "drop")) (Awaits Dropped) _ s e))
    (chosen (bytes_eq w (codes "list")) (Awaits Listed) _ s e))
    (chosen (bytes_eq w (codes "scan")) (Awaits Scanned) _ s e)

list_steps : (name w : List ℕ) (s : Step) (o : Option ℕ) → IsName name → number_at w ≡ o → list_step name o ≡ Some s → Steps (Keys name) w s
list_steps name w s None plain at e = cc
list_steps name w s (Some keys) plain at e =
    let number = number_takes w keys at in
    rw (sym (same_Some (Gives (events.List name keys)) s e)) (record { is = ((plain, number.1), λ ws i. codes "list" ∷ name ∷ number.0 i ∷ ws) })

step_takes : (a : Awaited) (w : List ℕ) (s : Step) → Ready a → step_at a w ≡ Some s → Steps a w s
step_takes Event w s ready e = event_steps w s e
step_takes Scanned w s ready e =
    let found = cond_some (is_name w) (Gives (events.Scan w)) s e in
    rw (sym found.1) (record { is = (name_is w found.0, λ ws. refl) })
step_takes Listed w s ready e =
    let found = cond_some (is_name w) (Awaits (Keys w)) s e in
    rw (sym found.1) (record { is = (record { is = name_is w found.0 }, λ ws. refl) })
step_takes (Keys name) w s ready e = list_steps name w s (number_at w) ready.is refl e
step_takes Dropped w s ready e =
    let found = cond_some (is_name w) (Gives (events.Drop w)) s e in
    rw (sym found.1) (record { is = (name_is w found.0, λ ws. refl) })

record TellsTail (ws : List (List ℕ)) (t : Tail) : Type 0 where
  is : tail_words t ≡ ws
  plain : IsPlainTail t

counted_takes : (p leaves fetches : List ℕ) (t : Tail) (a b c : Option ℕ) → number_at p ≡ a → number_at leaves ≡ b → number_at fetches ≡ c → counted a b c ≡ Some t → TellsTail (codes "pages" ∷ p ∷ codes "leaves" ∷ leaves ∷ codes "fetches" ∷ fetches ∷ []) t
counted_takes p leaves fetches t None b c pa pb pc e = cc
counted_takes p leaves fetches t (Some k) None c pa pb pc e = cc
counted_takes p leaves fetches t (Some k) (Some l) None pa pb pc e = cc
counted_takes p leaves fetches t (Some k) (Some l) (Some f) pa pb pc e =
    let pages = number_takes p k pa in
    let leaf = number_takes leaves l pb in
    let fetch = number_takes fetches f pc in
    rw (sym (same_Some (record { events = []; pages = k; leaves = l; fetches = f }) t e)) (record {
      is = λ i. codes "pages" ∷ pages.0 i ∷ codes "leaves" ∷ leaf.0 i ∷ codes "fetches" ∷ fetch.0 i ∷ [];
      plain = record { events = tt; pages = pages.1; leaves = leaf.1; fetches = fetch.1 };
    })

counts_takes : (ws : List (List ℕ)) (t : Tail) → counts_at ws ≡ Some t → TellsTail (codes "pages" ∷ ws) t
counts_takes [] t e = cc
counts_takes (p ∷ []) t e = cc
counts_takes (p ∷ l ∷ []) t e = cc
counts_takes (p ∷ l ∷ leaves ∷ []) t e = cc
counts_takes (p ∷ l ∷ leaves ∷ f ∷ []) t e = cc
counts_takes (p ∷ l ∷ leaves ∷ f ∷ fetches ∷ w ∷ ws) t e = cc
counts_takes (p ∷ l ∷ leaves ∷ f ∷ fetches ∷ []) t e = by (bytes_eq l (codes "leaves") && bytes_eq f (codes "fetches")) refl e
  where
    by : (b : Bool) → (bytes_eq l (codes "leaves") && bytes_eq f (codes "fetches")) ≡ b → cond b (counted (number_at p) (number_at leaves) (number_at fetches)) None ≡ Some t → TellsTail (codes "pages" ∷ p ∷ l ∷ leaves ∷ f ∷ fetches ∷ []) t
    by false test e = cc
    by true test e =
        let parts = and_parts (bytes_eq l (codes "leaves")) (bytes_eq f (codes "fetches")) test in
        let first = same_bytes l (codes "leaves") parts.0 in
        let second = same_bytes f (codes "fetches") parts.1 in
        let found = counted_takes p leaves fetches t (number_at p) (number_at leaves) (number_at fetches) refl refl refl e in
        record { is = found.is ∙ (λ i. codes "pages" ∷ p ∷ sym first i ∷ leaves ∷ sym second i ∷ fetches ∷ []); plain = found.plain }

record Behind (e : ShownEvent) (o : Option Tail) (t : Tail) : Type 0 where
  rest : Tail
  told_is : o ≡ Some rest
  is : record { events = e ∷ rest.events; pages = rest.pages; leaves = rest.leaves; fetches = rest.fetches } ≡ t

behind_event : (e : ShownEvent) (o : Option Tail) (t : Tail) → events_before (e ∷ []) o ≡ Some t → Behind e o t
behind_event e None t h = cc
behind_event e (Some rest) t h = record { rest = rest; told_is = refl; is = same_Some (record { events = e ∷ rest.events; pages = rest.pages; leaves = rest.leaves; fetches = rest.fetches }) t h }

told_takes : (a : Awaited) (ws : List (List ℕ)) (t : Tail) → Ready a → told a ws ≡ Some t → TellsTail (begun a ++ ws) t
told_takes a [] t ready e = cc
told_takes a (w ∷ ws) t ready e = by (step_at a w) refl e (λ next rdy h. told_takes next ws t rdy h) (λ rest h. told_takes Event ws rest (record { is = tt }) h)
  where
    by : (o : Option Step) → step_at a w ≡ o → stepped o ws (λ next. told next ws) ≡ Some t → ((next : Awaited) → Ready next → told next ws ≡ Some t → TellsTail (begun next ++ ws) t) → ((rest : Tail) → told Event ws ≡ Some rest → TellsTail ws rest) → TellsTail (begun a ++ w ∷ ws) t
    by None at e same rest = cc
    by (Some (Awaits next)) at e same rest =
        let step = (step_takes a w (Awaits next) ready at).is in
        let found = same next step.0 e in
        record { is = found.is ∙ step.1 ws; plain = found.plain }
    by (Some (Gives event)) at e same rest =
        let step = (step_takes a w (Gives event) ready at).is in
        let parts = behind_event event (told Event ws) t e in
        let found = rest parts.rest parts.told_is in
        rw (sym parts.is) (record {
          is = append_assoc (event_words event) (flat_map event_words parts.rest.events) (codes "pages" ∷ decimal parts.rest.pages ∷ codes "leaves" ∷ decimal parts.rest.leaves ∷ codes "fetches" ∷ decimal parts.rest.fetches ∷ []) ∙ ap (λ us. event_words event ++ us) found.is ∙ step.1 ws;
          plain = record { events = (step.0, found.plain.events); pages = found.plain.pages; leaves = found.plain.leaves; fetches = found.plain.fetches };
        })
    by (Some Counts) at e same rest =
        let step = (step_takes a w Counts ready at).is in
        let found = counts_takes ws t e in
        record { is = found.is ∙ step ws; plain = found.plain }

pub record IsTrace (text : List ℕ) (shown : Shown) : Type 0 where
  pub is : words_text (trace_words shown) ≡ 32 ∷ text
  pub plain : IsPlainTrace shown

trace_words_take : (ws : List (List ℕ)) (shown : Shown) → trace_told ws ≡ Some shown → IsTrace (unworded ws) shown
trace_words_take [] shown e = cc
trace_words_take (w ∷ ws) shown e = by (strategy_at w) (told Event ws) refl refl e
  where
    by : (s : Option Strategy) (t : Option Tail) → strategy_at w ≡ s → told Event ws ≡ t → shown_of s t ≡ Some shown → IsTrace (w ++ words_text ws) shown
    by None t se te e = cc
    by (Some s) None se te e = cc
    by (Some s) (Some t) se te e =
        let word = strategy_takes w s se in
        let tail = told_takes Event ws t (record { is = tt }) te in
        rw (sym (same_Some (record { strategy = s; events = t.events; pages = t.pages; leaves = t.leaves; fetches = t.fetches }) shown e)) (record {
          is = λ i. words_text (word i ∷ tail.is i);
          plain = record { events = tail.plain.events; pages = tail.plain.pages; leaves = tail.plain.leaves; fetches = tail.plain.fetches };
        })

pub trace_takes : (text : List ℕ) (shown : Shown) → trace_at text ≡ Some shown → IsTrace text shown
trace_takes text shown e = rw (words_whole text) at (trace_words_take (words text) shown e)
