-- What was passed of bytes, and what is left of them.
use Rattle.std.proofs.Common.{◌≡◌, ℕ, ◌+◌, ◌-◌, ◌<◌, ◌≤◌, List, [], ◌∷◌, ◌++◌, Option, Some, None, Bool, true, false, not, ◌&&◌, cond, bytes_eq, codes, refl, ap, sym, ◌∙◌, subst, length, take, drop, get_or, eqb, nat_le, arith, append_assoc, append-nil, length-append}
use Rattle.std.proofs.lemmas.Bool.Decides.{nat_tests}
use Rattle.std.proofs.lemmas.List.{take_rest}
use Rattle.rv_value.specs.declared.value.Value.{Value}
use Rattle.rv_judge.specs.declared.events.Strategy.{Strategy}
use Rattle.rv_lang.specs.declared.reply.Shown.{Shown}
use Rattle.rv_lang.specs.declared.reply.ShownEvent.{ShownEvent}
use Rattle.rv_text.specs.declared.traces.Tail.{Tail}
use Rattle.rv_text.specs.Lines.{cut, extended}
use denote.Ref.{Bor}
use Rattle.std.specs.Option.{option_copied}
use Rattle.rv_value.proofs.Lists.{front_taken}
use Rattle.rv_text.specs.Traces.{counts_at, events_before, shown_of, stepped, step_at, strategy_at, told, trace_at, trace_told, words, words_of, Awaited, Event, Step}
use Rattle.rv_text.specs.Values.{all_values, before, more_values, pieces_of, spaced_value, unquoted, values_at, value_at, value_before, value_cut}
use Rattle.rv_text.proofs.Cutting.{extended_twice, pieces_cut, words_cut}

-- how much is left, with the end
abbrev pub left_over : Option (List ℕ) → ℕ
left_over None = 0
left_over (Some text) = length text + 1

-- Texts in quotes.

-- bytes before those that are read behind them
abbrev pub all_before : List ℕ → Option (List ℕ) → Option (List ℕ)
all_before front None = None
all_before front (Some more) = Some (front ++ more)

one_before : (front : List ℕ) (c : ℕ) (o : Option (List ℕ)) → all_before front (before c o) ≡ all_before (front ++ c ∷ []) o
one_before front c None = refl
one_before front c (Some more) = ap (λ bs. Some bs) (sym (append_assoc front (c ∷ []) more))

-- a quote that may be one of two, or the end
pub quote_begins : (front : List ℕ) (c : ℕ) (more : List ℕ) → c ≡ 39 → all_before front (unquoted false (c ∷ more)) ≡ all_before front (unquoted true more)
quote_begins front c more is = rw is refl

-- the second of two quotes, or another byte
pub byte_kept : (front : List ℕ) (quoted : Bool) (c : ℕ) (more : List ℕ) → quoted ≡ eqb c 39 → 32 ≤ c → all_before front (unquoted quoted (c ∷ more)) ≡ all_before (front ++ c ∷ []) (unquoted false more)
byte_kept front true c more is low =
    let same : c ≡ 39 = grind (arith, nat_tests) in
    rw same (one_before front 39 (unquoted false more))
byte_kept front false c more is low =
    let fits : nat_le 32 c ≡ true = grind (arith, nat_tests) in
    rw (sym is, fits) (one_before front c (unquoted false more))

-- a lone quote before another byte
pub quote_refused : (front : List ℕ) (quoted : Bool) (c : ℕ) (more : List ℕ) → quoted ≡ true → eqb c 39 ≡ false → all_before front (unquoted quoted (c ∷ more)) ≡ None
quote_refused front quoted c more is other = rw (is, other) refl

-- a byte that no text holds
pub byte_refused : (front : List ℕ) (quoted : Bool) (c : ℕ) (more : List ℕ) → c < 32 → all_before front (unquoted quoted (c ∷ more)) ≡ None
byte_refused front true c more low = let other : eqb c 39 ≡ false = grind (arith, nat_tests) in rw other refl
byte_refused front false c more low =
    let other : eqb c 39 ≡ false = grind (arith, nat_tests) in
    let fails : nat_le 32 c ≡ false = grind (arith, nat_tests) in
    rw (other, fails) refl

-- Values and commas.

pub record Passed (text : List ℕ) (at : ℕ) (inside : Bool) (rest : List ℕ) : Type 0 where
  pub front : List ℕ
  pub whole : front ++ rest ≡ text
  pub count : length front ≡ at
  pub is : value_cut false text ≡ extended front (value_cut inside rest)

pub passed_none : (text : List ℕ) → Passed text 0 false text
passed_none text = record { front = []; whole = refl; count = refl; is = refl }

pub passed_one : (text : List ℕ) (at : ℕ) (inside : Bool) (c : ℕ) (more : List ℕ) → (not inside && eqb c 44) ≡ false → Passed text at inside (c ∷ more) → Passed text (at + 1) (cond (eqb c 39) (not inside) inside) more
passed_one text at inside c more goes p = record {
  front = p.front ++ c ∷ [];
  whole = append_assoc p.front (c ∷ []) more ∙ p.whole;
  count = (let n = p.count in let k = length-append p.front (c ∷ []) in omega (arith, n, k));
  is = p.is ∙ (λ i. extended p.front (cond (goes i) (record { word = []; more = Some more }) (extended (c ∷ []) (value_cut (cond (eqb c 39) (not inside) inside) more)))) ∙ extended_twice p.front (c ∷ []) (value_cut (cond (eqb c 39) (not inside) inside) more);
}

-- a byte more that ends no value
pub passed_rest : (text : List ℕ) (at : ℕ) (inside next : Bool) (rest : List ℕ) → 1 ≤ length rest → (not inside && eqb (get_or rest 0 0) 44) ≡ false → next ≡ cond (eqb (get_or rest 0 0) 39) (not inside) inside → Passed text at inside rest → Passed text (at + 1) next (take (length rest - 1) (drop 1 rest))
passed_rest text at inside next [] some goes is p = absurd (omega (arith, some))
passed_rest text at inside next (c ∷ more) some goes is p = subst (Passed text (at + 1) next) (sym (take_rest (c ∷ more) 1)) (rw is (passed_one text at inside c more goes p))

pub passed_found : (text : List ℕ) (at c : ℕ) (more : List ℕ) → c ≡ 44 → Passed text at false (c ∷ more) → value_cut false text ≡ record { word = take at text; more = Some more }
passed_found text at c more comma p =
    p.is ∙ (λ i. extended p.front (value_cut false (comma i ∷ more)))
    ∙ (λ i. record { word = append-nil p.front i; more = Some more })
    ∙ (λ i. record { word = sym (front_taken p.front (c ∷ more) text at p.whole p.count) i; more = Some more })

pub passed_all : (text : List ℕ) (at : ℕ) (inside : Bool) → Passed text at inside [] → value_cut false text ≡ record { word = text; more = None }
passed_all text at inside p = p.is ∙ (λ i. record { word = p.whole i; more = None })

abbrev pub values_behind : List Value → Option (List Value) → Option (List Value)
values_behind front None = None
values_behind front (Some more) = Some (front ++ more)

pub value_behind : (front : List Value) (v : Value) (o : Option (List Value)) → values_behind front (value_before (Some v) o) ≡ values_behind (front ++ v ∷ []) o
value_behind front v None = refl
value_behind front v (Some more) = ap (λ vs. Some vs) (sym (append_assoc front (v ∷ []) more))

-- a piece, and the pieces behind it
pub piece_read : (front : List Value) (text word : List ℕ) (more : Option (List ℕ)) (o : Option Value) → (value_cut false text).word ≡ word → (value_cut false text).more ≡ more → spaced_value word ≡ o → values_behind front (more_values (pieces_of (Some text))) ≡ values_behind front (value_before o (more_values (pieces_of more)))
piece_read front text word more o w m e =
    ap (λ ps. values_behind front (more_values ps)) (pieces_cut false text)
    ∙ (λ i. values_behind front (value_before (spaced_value (w i)) (more_values (pieces_of (m i)))))
    ∙ (λ i. values_behind front (value_before (e i) (more_values (pieces_of more))))

-- what a piece makes of the values so far
pub values_step : (front : List Value) (left r : Option (Bor (List ℕ))) (text : Bor (List ℕ)) (word : List ℕ) (o : Option Value) (all : Option (List Value)) → left ≡ Some text → word ≡ (value_cut false text.now).word → option_copied r ≡ (value_cut false text.now).more → o ≡ spaced_value word → values_behind front (more_values (pieces_of (option_copied left))) ≡ all → values_behind front (value_before o (more_values (pieces_of (option_copied r)))) ≡ all
values_step front left r text word o all is w m e whole =
    sym (piece_read front text.now word (option_copied r) o (sym w) (sym m) (sym e))
    ∙ ap (λ l. values_behind front (more_values (pieces_of (option_copied l)))) (sym is) ∙ whole

-- Traces.

pub before_events : (a b : List ShownEvent) (o : Option Tail) → events_before a (events_before b o) ≡ events_before (a ++ b) o
before_events a b None = refl
before_events a b (Some t) = ap (λ es. Some (record t { events = es })) (sym (append_assoc a b t.events))

pub no_events : (o : Option Tail) → events_before [] o ≡ o
no_events None = refl
no_events (Some t) = refl

-- a word, and the words behind it
pub word_told : (events : List ShownEvent) (part : Awaited) (text word : List ℕ) (more : Option (List ℕ)) (o : Option Step) → (cut 32 text).word ≡ word → (cut 32 text).more ≡ more → step_at part word ≡ o → events_before events (told part (words_of (Some text))) ≡ events_before events (stepped o (words_of more) (λ next. told next (words_of more)))
word_told events part text word more o w m e =
    ap (λ ws. events_before events (told part ws)) (words_cut text)
    ∙ (λ i. events_before events (stepped (step_at part (w i)) (words_of (m i)) (λ next. told next (words_of (m i)))))
    ∙ (λ i. events_before events (stepped (e i) (words_of more) (λ next. told next (words_of more))))

-- the words of a text, by its first cut
pub words_some : (text word : List ℕ) (r : Option (Bor (List ℕ))) (behind : Bor (List ℕ)) → word ≡ (cut 32 text).word → option_copied r ≡ (cut 32 text).more → r ≡ Some behind → words text ≡ word ∷ words behind.now
words_some text word r behind w m is = words_cut text ∙ (λ i. sym w i ∷ words_of (sym m i)) ∙ ap (λ o. word ∷ words_of (option_copied o)) is

pub words_last : (text word : List ℕ) (r : Option (Bor (List ℕ))) → word ≡ (cut 32 text).word → option_copied r ≡ (cut 32 text).more → r ≡ None → words text ≡ word ∷ []
words_last text word r w m is = words_cut text ∙ (λ i. sym w i ∷ words_of (sym m i)) ∙ ap (λ o. word ∷ words_of (option_copied o)) is

pub words_two : (text word : List ℕ) (r : Option (Bor (List ℕ))) (behind : Bor (List ℕ)) → word ≡ (cut 32 text).word → option_copied r ≡ (cut 32 text).more → r ≡ Some behind → words text ≡ word ∷ (cut 32 behind.now).word ∷ words_of (cut 32 behind.now).more
words_two text word r behind w m is = words_some text word r behind w m is ∙ ap (λ ws. word ∷ ws) (words_cut behind.now)

-- counts whose words are others
pub no_leaves : (pages word next : List ℕ) (more : List (List ℕ)) → bytes_eq word (codes "leaves") ≡ false → None ≡ counts_at (pages ∷ word ∷ next ∷ more)
no_leaves pages word next [] fails = refl
no_leaves pages word next (a ∷ []) fails = refl
no_leaves pages word next (a ∷ b ∷ []) fails = rw fails refl
no_leaves pages word next (a ∷ b ∷ d ∷ more) fails = refl

pub no_fetches : (pages leaves word next : List ℕ) (more : List (List ℕ)) → bytes_eq word (codes "fetches") ≡ false → None ≡ counts_at (pages ∷ codes "leaves" ∷ leaves ∷ word ∷ next ∷ more)
no_fetches pages leaves word next [] fails = rw fails refl
no_fetches pages leaves word next (a ∷ more) fails = refl

-- what a word makes of what was told so far
pub tail_step : (events : List ShownEvent) (part : Awaited) (left r : Option (Bor (List ℕ))) (behind : Bor (List ℕ)) (word : List ℕ) (o : Option Step) (all : Option Tail) → left ≡ Some behind → word ≡ (cut 32 behind.now).word → option_copied r ≡ (cut 32 behind.now).more → o ≡ step_at part word → events_before events (told part (words_of (option_copied left))) ≡ all → events_before events (stepped o (words_of (option_copied r)) (λ next. told next (words_of (option_copied r)))) ≡ all
tail_step events part left r behind word o all is w m e whole =
    sym (word_told events part behind.now word (option_copied r) o (sym w) (sym m) (sym e))
    ∙ ap (λ l. events_before events (told part (words_of (option_copied l)))) (sym is) ∙ whole

-- a trace, by the first cut
pub trace_cut : (text word : List ℕ) (more : Option (List ℕ)) → word ≡ (cut 32 text).word → more ≡ (cut 32 text).more → trace_at text ≡ shown_of (strategy_at word) (told Event (words_of more))
trace_cut text word more w m = ap trace_told (words_cut text) ∙ (λ i. shown_of (strategy_at (sym w i)) (told Event (words_of (sym m i))))

pub trace_read : (text word : List ℕ) (more : Option (List ℕ)) (s : Option Strategy) (t : Option Tail) (shown : Option Shown) → word ≡ (cut 32 text).word → more ≡ (cut 32 text).more → s ≡ strategy_at word → t ≡ told Event (words_of more) → shown ≡ shown_of s t → shown ≡ trace_at text
trace_read text word more s t shown w m se te is = is ∙ (λ i. shown_of (se i) (te i)) ∙ sym (trace_cut text word more w m)

-- where the strategy is none
pub no_trace : (text word : List ℕ) (more : Option (List ℕ)) → word ≡ (cut 32 text).word → more ≡ (cut 32 text).more → None ≡ strategy_at word → None ≡ trace_at text
no_trace text word more w m none = trace_read text word more None (told Event (words_of more)) None w m none refl refl

-- a row, by its first cut
pub values_read : (text word : List ℕ) (more : Option (List ℕ)) (o : Option Value) (vs : Option (List Value)) → 0 < length text → word ≡ (value_cut false text).word → more ≡ (value_cut false text).more → o ≡ value_at word → vs ≡ value_before o (more_values (pieces_of more)) → vs ≡ values_at text
values_read [] word more o vs some w m e is = absurd (omega (arith, some))
values_read (c ∷ cs) word more o vs some w m e is =
    is ∙ (λ i. value_before (e i) (more_values (pieces_of (m i)))) ∙ (λ i. value_before (value_at (w i)) (more_values (pieces_of (value_cut false (c ∷ cs)).more)))
    ∙ ap all_values (sym (pieces_cut false (c ∷ cs)))
