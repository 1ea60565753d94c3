-- Where a list of entries is no legal history.
use Rattle.std.proofs.Common.{◌≡◌, ℕ, zero, suc, ◌+◌, ◌-◌, ◌<◌, List, [], ◌∷◌, ◌++◌, sym, ap, ◌∙◌, subst, arith, length, take, get_or}
use Rattle.std.proofs.lemmas.List.{take_more}
use Rattle.rv_model.specs.declared.entry.Entry.{Entry}
use Rattle.rv_model.specs.declared.state.State.{State}
use Rattle.rv_model.specs.Database.{empty}
use Rattle.rv_model.specs.History.{IsLegal, IsLegalFrom, IsNext, after, after_from, phase_after, stepped}
use Rattle.rv_model.proofs.Histories.{IsLegalFrom-push, after_from-push, phase_after-push}
use Rattle.rv_replay.specs.Replaying.{BreaksAt}

-- a front of a legal history is legal
front_legal : (s : State) (phase n : ℕ) (h : List Entry) → IsLegalFrom s phase h → IsLegalFrom s phase (take n h)
front_legal s phase zero h legal = tt
front_legal s phase (suc n) [] legal = tt
front_legal s phase (suc n) (e ∷ es) legal = (legal.0, front_legal (stepped s e) e.phase n es legal.1)

-- the last entry of a legal history follows those before it
last_next : (s : State) (phase : ℕ) (h : List Entry) (e : Entry) → IsLegalFrom s phase (h ++ e ∷ []) → IsNext (after_from s h) (phase_after phase h) e
last_next s phase [] e legal = legal.0
last_next s phase (x ∷ xs) e legal = last_next (stepped s x) x.phase xs e legal.1

-- what holds of the entries so far
pub record IsFollowed (entries : List Entry) (i : ℕ) (plain : State) (phase number : ℕ) : Type 0 where
  pub legal : IsLegal (take i entries)
  pub state : plain ≡ after (take i entries)
  pub phase_is : phase ≡ phase_after 0 (take i entries)
  pub count : number ≡ i

module _ (entries : List Entry) (i : ℕ) (plain : State) (phase number : ℕ) (e : Entry) (within : i < length entries) (there : e ≡ get_or entries i e) (so_far : IsFollowed entries i plain phase number) where
  one_more : take (i + 1) entries ≡ take i entries ++ e ∷ []
  one_more = take_more entries i e within ∙ ap (λ (d : Entry). take i entries ++ d ∷ []) (sym there)

  -- an entry that may follow
  pub follows : (new : State) (next_number : ℕ) → IsNext plain phase e → new ≡ stepped plain e → next_number ≡ number + 1 → IsFollowed entries (i + 1) new e.phase next_number
  follows new next_number next step count =
      let here : IsNext (after (take i entries)) (phase_after 0 (take i entries)) e = rw (← so_far.state, ← so_far.phase_is) next in
      record {
        legal = rw one_more (IsLegalFrom-push empty 0 (take i entries) e so_far.legal here);
        state = step ∙ ap (λ (s : State). stepped s e) so_far.state ∙ sym (after_from-push empty (take i entries) e) ∙ ap after (sym one_more);
        phase_is = sym (phase_after-push 0 (take i entries) e) ∙ ap (phase_after 0) (sym one_more);
        count = count ∙ ap (λ (n : ℕ). n + 1) so_far.count;
      }

  -- an entry that may not
  pub breaks : (next_number : ℕ) → (¬ (IsNext plain phase e)) → next_number ≡ number + 1 → BreaksAt entries next_number × (¬ (IsLegal entries))
  breaks next_number wrong count =
      let n : next_number ≡ i + 1 = count ∙ ap (λ (k : ℕ). k + 1) so_far.count in
      let none : ¬ (IsLegal (take (i + 1) entries)) = λ legal.
      let whole : IsLegal (take i entries ++ e ∷ []) = subst IsLegal one_more legal in
      let next = last_next empty 0 (take i entries) e whole in
      wrong (rw (so_far.state, so_far.phase_is) next) in
      let before : i + 1 - 1 ≡ i = omega arith in
      let bad : BreaksAt entries (i + 1) = record { from = omega arith; to = omega (arith, within); before = rw before so_far.legal; breaks = none } in
      (rw n bad, λ legal. none (front_legal empty 0 (i + 1) entries legal))
