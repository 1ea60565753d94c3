-- Texts that gain an item at their end.
use Rattle.std.proofs.Common.{◌≡◌, ℕ, List, [], ◌∷◌, ◌++◌, refl, sym, ap, ◌∙◌, append_assoc, append-nil, codes, flat_map, ◌≤◌, ◌-◌, length, take, drop, get_or, arith}
use Rattle.std.proofs.Math.Seq.{take-length}
use Rattle.rv_value.specs.declared.value.Value.{Value}
use Rattle.std.proofs.lemmas.Grind.{flat_map-append}
use Rattle.rv_lang.specs.declared.reply.ShownEvent.{ShownEvent}
use Rattle.rv_lang.specs.declared.reply.Shown.{Shown}
use Rattle.rv_judge.specs.Words.{strategy_word}
use Rattle.rv_model.specs.Transcript.{more_text, value_text, values_text, words_text, event_words, count_words, trace_words}

pub more_text-push : (vs : List Value) (v : Value) → more_text (vs ++ v ∷ []) ≡ more_text vs ++ (codes ", " ++ value_text v)
more_text-push [] v = simp append-nil
more_text-push (w ∷ ws) v = rw (more_text-push ws v) (sym (append_assoc (codes ", " ++ value_text w) (more_text ws) (codes ", " ++ value_text v)))

-- A row's text by its first value and the others.
pub values_split : (vs : List Value) (v : Value) → 1 ≤ length vs → v ≡ get_or vs 0 v → values_text vs ≡ value_text v ++ more_text (take (length vs - 1) (drop 1 vs))
values_split [] v some e = absurd (omega arith)
values_split (w ∷ ws) v some e = let same : v ≡ w = e in
    let count : length (w ∷ ws) - 1 ≡ length ws = omega arith in
    let others : take (length (w ∷ ws) - 1) (drop 1 (w ∷ ws)) ≡ ws = ap (λ (n : ℕ). take n ws) count ∙ take-length ws in
    rw (same, others) refl

spaced-append : (ws vs : List (List ℕ)) → words_text (ws ++ vs) ≡ words_text ws ++ words_text vs
spaced-append [] vs = refl
spaced-append (w ∷ ws) vs = rw (spaced-append ws vs) (sym (append_assoc (32 ∷ w) (words_text ws) (words_text vs)))

pub events-push : (es : List ShownEvent) (e : ShownEvent) → words_text (flat_map event_words (es ++ e ∷ [])) ≡ words_text (flat_map event_words es) ++ words_text (event_words e)
events-push es e =
    let words : flat_map event_words (es ++ e ∷ []) ≡ flat_map event_words es ++ event_words e = rw flat_map-append (simp append-nil) in
    ap words_text words ∙ spaced-append (flat_map event_words es) (event_words e)

-- A trace's text by its strategy, its events and its counts.
pub trace_parts : (shown : Shown) → codes "trace" ++ words_text (trace_words shown) ≡ (codes "trace" ++ 32 ∷ strategy_word shown.strategy) ++ words_text (flat_map event_words shown.events) ++ words_text (count_words shown)
trace_parts shown = rw (spaced-append (flat_map event_words shown.events) (count_words shown)) (simp append_assoc)

-- The words of a list's event.
pub list_words : (name keys : List ℕ) → words_text (codes "list" ∷ name ∷ keys ∷ []) ≡ (32 ∷ codes "list" ++ 32 ∷ name) ++ 32 ∷ keys
list_words name keys = simp (append_assoc, append-nil)
