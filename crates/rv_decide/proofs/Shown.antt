-- Shown events and the events that are shown so.
use Rattle.std.proofs.Common.{◌≡◌, ◌<◌, ℕ, ◌+◌, List, [], ◌∷◌, ◌++◌, refl, sym, ap, ◌∙◌, Option, Some, None, append_assoc, drop, length, get_or, drop-cons, add-one}
use Rattle.std.proofs.Math.Seq.{drop-length}
use Rattle.std.proofs.lemmas.List.{append-nil}
use Rattle.rv_judge.specs.declared.events.Event.{Event}
use Rattle.rv_lang.specs.declared.reply.ShownEvent.{ShownEvent}
use Rattle.rv_catalog.specs.declared.def.IndexDef.{IndexDef}
use Rattle.rv_decide.specs.Reading.{event_of, events_of, with_first}

-- events in front of others, where there are these
abbrev pub behind : List Event → Option (List Event) → Option (List Event)
behind front None = None
behind front (Some es) = Some (front ++ es)

behind_none : (rest : Option (List Event)) → behind [] rest ≡ rest
behind_none None = refl
behind_none (Some es) = refl

behind_more : (front : List Event) (e : Event) (rest : Option (List Event)) → behind front (with_first (Some e) rest) ≡ behind (front ++ e ∷ []) rest
behind_more front e None = refl
behind_more front e (Some es) = ap (λ xs. Some xs) (sym (append_assoc front (e ∷ []) es))

module _ (indexes : List IndexDef) (table : ℕ) where
  pub from_start : (before : List Event) (shown : List ShownEvent) → before ≡ [] → behind before (events_of indexes table (drop 0 shown)) ≡ events_of indexes table shown
  from_start before shown none = ap (λ xs. behind xs (events_of indexes table (drop 0 shown))) none ∙ behind_none (events_of indexes table shown)

  at_event : (shown : List ShownEvent) (i : ℕ) (e : ShownEvent) → i < length shown → e ≡ get_or shown i e → drop i shown ≡ e ∷ drop (i + 1) shown
  at_event shown i e within is =
      let step : drop i shown ≡ get_or shown i e ∷ drop (i + 1) shown = rw (add-one, drop-cons shown i e) refl in
      step ∙ ap (λ x. x ∷ drop (i + 1) shown) (sym is)

  -- what the event in a place adds
  stepped : (shown : List ShownEvent) (i : ℕ) (e : ShownEvent) (before : List Event) → i < length shown → e ≡ get_or shown i e → behind before (events_of indexes table (drop i shown)) ≡ events_of indexes table shown → behind before (with_first (event_of indexes table e) (events_of indexes table (drop (i + 1) shown))) ≡ events_of indexes table shown
  stepped shown i e before within is so_far = ap (λ xs. behind before (events_of indexes table xs)) (sym (at_event shown i e within is)) ∙ so_far

  pub one_more : (shown : List ShownEvent) (i : ℕ) (e : ShownEvent) (found : Event) (before after : List Event) → i < length shown → e ≡ get_or shown i e → event_of indexes table e ≡ Some found → after ≡ before ++ found ∷ [] → behind before (events_of indexes table (drop i shown)) ≡ events_of indexes table shown → behind after (events_of indexes table (drop (i + 1) shown)) ≡ events_of indexes table shown
  one_more shown i e found before after within is read more so_far =
      let rest = events_of indexes table (drop (i + 1) shown) in
      ap (λ xs. behind xs rest) more ∙ sym (behind_more before found rest) ∙ ap (λ o. behind before (with_first o rest)) (sym read) ∙ stepped shown i e before within is so_far

  pub none_found : (shown : List ShownEvent) (i : ℕ) (e : ShownEvent) (before : List Event) → i < length shown → e ≡ get_or shown i e → event_of indexes table e ≡ None → behind before (events_of indexes table (drop i shown)) ≡ events_of indexes table shown → events_of indexes table shown ≡ None
  none_found shown i e before within is read so_far = sym (stepped shown i e before within is so_far) ∙ ap (λ o. behind before (with_first o (events_of indexes table (drop (i + 1) shown)))) read

  pub all_found : (shown : List ShownEvent) (before : List Event) (i : ℕ) → i ≡ length shown → behind before (events_of indexes table (drop i shown)) ≡ events_of indexes table shown → events_of indexes table shown ≡ Some before
  all_found shown before i end so_far =
      let over : drop i shown ≡ [] = ap (λ n. drop n shown) end ∙ drop-length shown in
      sym so_far ∙ ap (λ xs. behind before (events_of indexes table xs)) over ∙ ap (λ xs. Some xs) (append-nil before)
