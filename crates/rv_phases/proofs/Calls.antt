-- The calls of one session in a history and among lines.
use Rattle.std.proofs.Common.{◌≡◌, ◌≢◌, ℕ, ◌+◌, ◌-◌, ◌<◌, ◌≤◌, ◌==◌, List, [], ◌∷◌, ◌++◌, refl, sym, ap, ◌∙◌, subst, arith, Bool, true, false, inl, inr, append-nil, take, length, All, Contains}
use Rattle.std.proofs.lemmas.Bool.{cases_Bool}
use Rattle.std.proofs.lemmas.Bool.Decides.{nat_tests}
use Rattle.std.proofs.lemmas.List.Elements.{All-append, All-contains}
use Rattle.std.proofs.Math.Seq.{take-length}
use Rattle.rv_lang.specs.declared.reply.Reply.{Reply}
use Rattle.rv_script.specs.declared.scripts.Line.{Line}
use Rattle.rv_model.specs.declared.entry.Entry.{Entry}
use Rattle.rv_model.specs.History.{IsLegal}
use Rattle.rv_turn.specs.State.{IsNumbered, PassState, TurnState}
use Rattle.rv_turn.specs.Story.{GoesOn, Lengthens, NoneOf}
use Rattle.rv_shared.specs.Served.{entry}
use Rattle.rv_shared.specs.Told.{IsFresh, Replied, maker}
use Rattle.rv_phases.specs.Phase.{Call, IsDone, Made, PhaseDone, asked, call, own}

own_append : (s : ℕ) (xs ys : List Entry) → own s (xs ++ ys) ≡ own s xs ++ own s ys
own_append s [] ys = refl
own_append s (x ∷ xs) ys =
    let rest = own_append s xs ys in
    elim (cases_Bool (x.session == s)) [
      | inl t ↦ rw t (ap (λ (cs : List Call). call x.phase x.text ∷ cs) rest)
      | inr f ↦ rw f rest
    ]

differs : (a n : ℕ) → a - 1 ≢ n → (a == n + 1) ≡ false
differs a n h = grind (arith, nat_tests)

unlike : (a b : ℕ) → a ≢ b → (a == b) ≡ false
unlike a b h = grind (arith, nat_tests)

same : (a b : ℕ) → a ≡ b → (a == b) ≡ true
same a b e = grind (arith, nat_tests)

own_none : (n : ℕ) (xs : List Entry) → NoneOf maker n xs → own (n + 1) xs ≡ []
own_none n [] h = refl
own_none n (x ∷ xs) h = rw (differs x.session n h.0) (own_none n xs h.1)

pub own_goes : (n : ℕ) (seen now : List Entry) → GoesOn maker n seen now → own (n + 1) now ≡ own (n + 1) seen
own_goes n seen now h = ap (own (n + 1)) h.1 ∙ (own_append (n + 1) seen h.0 ∙ (ap (λ (cs : List Call). own (n + 1) seen ++ cs) (own_none n h.0 h.2) ∙ append-nil (own (n + 1) seen)))

pub own_replied : (n phase : ℕ) (text : List ℕ) (reply : Reply) (seen now : List Entry) → Replied n phase text reply seen now → own (n + 1) now ≡ own (n + 1) seen ++ call phase text ∷ []
own_replied n phase text reply seen now r =
    let one : own (n + 1) (entry (n + 1) phase text reply ∷ []) ≡ call phase text ∷ [] = rw (same (n + 1) (n + 1) refl) refl in
    ap (own (n + 1)) r.last ∙ (own_append (n + 1) r.found (entry (n + 1) phase text reply ∷ []) ∙ (ap (λ (cs : List Call). own (n + 1) r.found ++ cs) one ∙ ap (λ (cs : List Call). cs ++ call phase text ∷ []) (own_goes n seen r.found r.goes_on)))

pub asked_append : (s phase : ℕ) (xs ys : List Line) → asked s phase (xs ++ ys) ≡ asked s phase xs ++ asked s phase ys
asked_append s phase [] ys = refl
asked_append s phase (x ∷ xs) ys =
    let rest = asked_append s phase xs ys in
    elim (cases_Bool (x.session == s)) [
      | inl t ↦ rw t (ap (λ (cs : List Call). call phase x.text ∷ cs) rest)
      | inr f ↦ rw f rest
    ]

pub asked_other : (s phase : ℕ) (l : Line) → l.session ≢ s → asked s phase (l ∷ []) ≡ []
asked_other s phase l h = rw (unlike l.session s h) refl

pub asked_one : (s phase : ℕ) (l : Line) → l.session ≡ s → asked s phase (l ∷ []) ≡ call phase l.text ∷ []
asked_one s phase l h = rw (same l.session s h) refl

pub made_whole : (s phase : ℕ) (lines : List Line) (seen now : List Entry) → own s now ≡ own s seen ++ asked s phase (take (length lines) lines) → Made s phase lines false seen now
made_whole s phase lines seen now e = record { count = length lines; within = omega arith; all = λ _. refl; calls = e }

pub made_none : (s phase : ℕ) (lines : List Line) (history : List Entry) → Made s phase lines true history history
made_none s phase lines history = record { count = 0; within = omega arith; all = λ h. absurd (cc); calls = sym (append-nil (own s history)) }

-- no call was made
pub none_done : (phase : ℕ) (lines : List Line) (history : List Entry) → IsLegal history → PhaseDone lines true phase history history
none_done phase lines history legal = record { legal = legal; after = []; extends = sym (append-nil history); each = λ s from to. made_none s phase lines history }

-- a pass without calls has done its part
pub idle_done : {C : Type 0} (phase : ℕ) (turn : TurnState Entry C) (lines : List Line) (p : PassState Entry C) → IsFresh turn p → ((phase : ℕ) → asked (p.number + 1) phase lines ≡ []) → IsDone phase turn lines false p
idle_done phase turn lines p fresh none =
    let s = p.number + 1 in record {
      pass = fresh.own;
      made = λ below. made_whole s phase lines turn.opening p.seen (ap (own s) fresh.seen ∙ (sym (append-nil (own s turn.opening)) ∙ ap (λ (cs : List Call). own s turn.opening ++ cs) (sym (ap (asked s phase) (take-length lines) ∙ none phase))));
    }

made_more : (s phase : ℕ) (lines : List Line) (a b : Bool) (seen now : List Entry) → (b ≡ false → a ≡ false) → Made s phase lines a seen now → Made s phase lines b seen now
made_more s phase lines a b seen now more m = record { count = m.count; within = m.within; all = λ e. m.all (more e); calls = m.calls }

pub done_more : {C : Type 0} (phase : ℕ) (turn : TurnState Entry C) (lines : List Line) (a b : Bool) (p : PassState Entry C) → (b ≡ false → a ≡ false) → IsDone phase turn lines a p → IsDone phase turn lines b p
done_more phase turn lines a b p more d = record { pass = d.pass; made = λ below. made_more (p.number + 1) phase lines a b turn.opening p.seen more (d.made below) }

pub all_first : {X : Type 0} (P : X → Type 0) (l xs : List X) (x : X) → All P l → l ≡ x ∷ xs → P x
all_first P l xs x h e = subst (λ (m : List _). All P m) e h 0 x (omega arith)

-- what a pass's part comes to in the history at the end
in_history : {C : Type 0} (phase : ℕ) (turn : TurnState Entry C) (lines : List Line) (short : Bool) (p : PassState Entry C) (history : List Entry) → IsDone phase turn lines short p → GoesOn maker p.number p.seen history → (n : ℕ) → n < 8 → p.number ≡ n → Made (n + 1) phase lines short turn.opening history
in_history phase turn lines short p history done goes n below is =
    let m = done.made (omega (arith, is, below)) in
    subst (λ (k : ℕ). Made (k + 1) phase lines short turn.opening history) is (record { count = m.count; within = m.within; all = m.all; calls = own_goes p.number p.seen history goes ∙ m.calls })

pub all_done : {C : Type 0} (phase : ℕ) (turn : TurnState Entry C) (lines : List Line) (short : Bool) (first second : List (PassState Entry C)) (history : List Entry)
    → All (λ p. IsDone phase turn lines short p) first → All (λ p. IsDone phase turn lines false p) second → All (λ p. GoesOn maker p.number p.seen history) first → All (λ p. GoesOn maker p.number p.seen history) second
    → (n : ℕ) → n < 8 → (p : PassState Entry C) → Contains (first ++ second) p → p.number ≡ n → Made (n + 1) phase lines short turn.opening history
all_done {C = C} phase turn lines short first second history a b c d n below p there is =
    let P : PassState Entry C → Type 0 = λ q. IsDone phase turn lines short q × GoesOn maker q.number q.seen history in
    let both : All P (first ++ second) = All-append P first second (λ k e h. (a k e h, c k e h)) (λ k e h. (done_more phase turn lines false short _ (λ _. refl) (b k e h), d k e h)) in
    let one = All-contains P (first ++ second) p both there in
    in_history phase turn lines short p history one.0 one.1 n below is

session_of : {C : Type 0} (phase : ℕ) (turn : TurnState Entry C) (lines : List Line) (short : Bool) (history : List Entry) (s n : ℕ) → n + 1 ≡ s → Made (n + 1) phase lines short turn.opening history → Made s phase lines short turn.opening history
session_of phase turn lines short history s n e m = subst (λ (k : ℕ). Made k phase lines short turn.opening history) e m

-- the phase, from what is known of all passes
pub phase_done : {C : Type 0} (phase : ℕ) (turn : TurnState Entry C) (lines : List Line) (short : Bool) (first second : List (PassState Entry C)) (new : List Entry)
    → IsLegal new → 8 ≤ turn.passes → Lengthens maker turn.passes turn.opening new
    → All (λ p. IsDone phase turn lines short p) first → All (λ p. IsDone phase turn lines false p) second → All (λ p. GoesOn maker p.number p.seen new) first → All (λ p. GoesOn maker p.number p.seen new) second
    → ((n : ℕ) → n < turn.passes → IsNumbered n (first ++ second)) → PhaseDone lines short phase turn.opening new
phase_done phase turn lines short first second new legal eight longer a b c d each = record {
  legal = legal;
  after = longer.0;
  extends = longer.1;
  each = λ s from to.
      let h = each (s - 1) (omega (arith, from, to, eight)) in
      session_of phase turn lines short new s (s - 1) (omega (arith, from)) (all_done phase turn lines short first second new a b c d (s - 1) (omega (arith, from, to)) h.0 h.1 h.2);
}
