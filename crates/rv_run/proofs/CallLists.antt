-- The calls of a history and of a script, in order, and those of each session.
use Rattle.std.proofs.Common.{◌≡◌, ℕ, ◌+◌, ◌<◌, List, [], ◌∷◌, ◌++◌, refl, sym, ap, ◌∙◌, arith, suc, inl, inr, ◌⊎◌, append_assoc, append-nil, take, drop, length}
use Rattle.std.specs.List.{slice_index_or}
use Rattle.std.proofs.lemmas.List.{take-append-drop, map-append}
use Rattle.rv_script.specs.declared.scripts.Line.{Line}
use Rattle.rv_script.specs.declared.scripts.Phase.{Phase}
use Rattle.rv_script.specs.declared.scripts.Script.{Script}
use Rattle.rv_model.specs.declared.entry.Entry.{Entry}
use Rattle.rv_core.specs.Core.{Shown}
use Rattle.rv_run.specs.Script.{Call, HasAllCalls, HasFirstCalls, IsFrontInOrder, call, calls_asked, calls_from, calls_in, calls_made, of_session}
use Rattle.rv_run.specs.Making.{MakesCalls, MakesFirst, no_phase}

-- what stands in the script's order has each session's calls
pub all_calls : (h : List Entry) (script : Script) → calls_made h ≡ calls_asked script → HasAllCalls h script
all_calls h script e = λ session. ap (of_session session) e

-- ---- the first calls of a script, in its order, are those of so many phases, and of so many lines of the next one

-- of two beginnings of one list one begins the other
record Goes (xs made : List Call) : Type 0 where
  within : List Call
  is : xs ≡ made ++ within

record Passes (xs made ys rest : List Call) : Type 0 where
  beyond : List Call
  is : made ≡ xs ++ beyond
  others : ys ≡ beyond ++ rest

parted : (xs ys made rest : List Call) → xs ++ ys ≡ made ++ rest → Goes xs made ⊎ Passes xs made ys rest
parted [] ys made rest e = inr (record { beyond = made; is = refl; others = e })
parted (x ∷ xs) ys [] rest e = inl (record { within = x ∷ xs; is = refl })
parted (x ∷ xs) ys (m ∷ made) rest e =
    let head : x ≡ m = cc in
    let tail : xs ++ ys ≡ made ++ rest = cc in
    elim (parted xs ys made rest tail) [
      | inl g ↦ inl (record { within = g.within; is = ap (λ (c : Call). c ∷ xs) head ∙ ap (λ (cs : List Call). m ∷ cs) g.is })
      | inr p ↦ inr (record { beyond = p.beyond; is = ap (λ (c : Call). c ∷ made) (sym head) ∙ ap (λ (cs : List Call). x ∷ cs) p.is; others = p.others })
    ]

none_made : (made rest : List Call) → [] ≡ made ++ rest → made ≡ []
none_made [] rest e = refl
none_made (c ∷ made) rest e = cc

-- the first calls of a phase are those of so many lines
of_lines : (phase : ℕ) (lines : List Line) (made within : List Call) → calls_in phase lines ≡ made ++ within → made ≡ calls_in phase (take (length made) lines)
of_lines phase lines [] within e = refl
of_lines phase [] (c ∷ made) within e = cc
of_lines phase (l ∷ ls) (c ∷ made) within e =
    let head : call l.session phase l.text ≡ c = cc in
    let tail : calls_in phase ls ≡ made ++ within = cc in
    ap (λ (d : Call). d ∷ made) (sym head) ∙ ap (λ (cs : List Call). call l.session phase l.text ∷ cs) (of_lines phase ls made within tail)

record Fronts (first : ℕ) (made : List Call) (phases : List Phase) : Type 0 where
  count : ℕ
  lines : ℕ
  is : made ≡ calls_from first (take count phases) ++ calls_in (first + count) (take lines (slice_index_or phases count no_phase).lines)

fronts : (first : ℕ) (phases : List Phase) (made rest : List Call) → calls_from first phases ≡ made ++ rest → Fronts first made phases
fronts first [] made rest e = record { count = 0; lines = 0; is = none_made made rest e }
fronts first (p ∷ ps) made rest e = elim (parted (calls_in first p.lines) (calls_from (first + 1) ps) made rest e) [
  | inl g ↦
      let at : first ≡ first + 0 = omega arith in
      record {
        count = 0;
        lines = length made;
        is = of_lines first p.lines made g.within g.is ∙ ap (λ (n : ℕ). calls_in n (take (length made) p.lines)) at;
      }
  | inr b ↦
      let more = fronts (first + 1) ps b.beyond rest b.others in
      let left = take more.lines (slice_index_or ps more.count no_phase).lines in
      let at : (first + 1) + more.count ≡ first + suc more.count = omega arith in
      record {
        count = suc more.count;
        lines = more.lines;
        is =
            b.is
            ∙ ap (λ (cs : List Call). calls_in first p.lines ++ cs) (more.is ∙ ap (λ (n : ℕ). calls_from (first + 1) (take more.count ps) ++ calls_in n left) at)
            ∙ sym (append_assoc (calls_in first p.lines) (calls_from (first + 1) (take more.count ps)) (calls_in (first + suc more.count) left));
      }
]

pub front_calls : (h : List Entry) (script : Script) → IsFrontInOrder h script → HasFirstCalls h script
front_calls h script f =
    let all = fronts 1 script.phases (calls_made h) f.rest f.whole in
    let left = take all.lines (slice_index_or script.phases all.count no_phase).lines in
    let at : 1 + all.count ≡ all.count + 1 = omega arith in
    record {
      phases = all.count;
      each = λ session. (all.lines, ap (of_session session) (all.is ∙ ap (λ (n : ℕ). calls_from 1 (take all.count script.phases) ++ calls_in n left) at));
    }

pub calls_in-append : (phase : ℕ) (xs ys : List Line) → calls_in phase (xs ++ ys) ≡ calls_in phase xs ++ calls_in phase ys
calls_in-append phase xs ys = map-append (λ (l : Line). call l.session phase l.text) xs ys

-- what stops within a phase has made the first calls of all
pub first_calls : (before after : List Entry) (phase : ℕ) (p : Phase) (ps : List Phase) (all : List Call) → calls_made before ++ calls_from phase (p ∷ ps) ≡ all → MakesCalls before after phase p.lines → MakesFirst after all
first_calls before after phase p ps all whole made =
    let mine = calls_in phase (take made.count p.lines) in
    let left = calls_in phase (drop made.count p.lines) in
    let more = calls_from (phase + 1) ps in
    let parts : calls_in phase p.lines ≡ mine ++ left = ap (calls_in phase) (sym (take-append-drop made.count p.lines)) ∙ calls_in-append phase (take made.count p.lines) (drop made.count p.lines) in
    let regrouped : calls_made before ++ ((mine ++ left) ++ more) ≡ (calls_made before ++ mine) ++ (left ++ more) = simp append_assoc in
    record {
      rest = left ++ more;
      whole = sym whole ∙ ap (λ cs. calls_made before ++ (cs ++ more)) parts ∙ regrouped ∙ ap (λ cs. cs ++ (left ++ more)) (sym made.gained);
    }

-- all calls are the first ones
pub whole_calls : (h : List Entry) (all : List Call) → calls_made h ≡ all → MakesFirst h all
whole_calls h all e = record { rest = []; whole = sym e ∙ sym (append-nil (calls_made h)) }

-- the same, as the code goes over the phases
pub first_calls_at : {S : Type 0} (core entered after : Shown S) (number : ℕ) (rest left phases : List Phase) (p : Phase) (lines : List Line) → rest ≡ p ∷ left → lines ≡ p.lines → entered ≡ record core { phase = number + 1 }
    → calls_made core.history ++ calls_from (number + 1) rest ≡ calls_from 1 phases → MakesCalls entered.history after.history entered.phase lines → MakesFirst after.history (calls_from 1 phases)
first_calls_at {S = S} core entered after number rest left phases p lines split same gone whole made =
    let history : entered.history ≡ core.history = ap (λ (s : Shown S). s.history) gone in
    let phase : entered.phase ≡ number + 1 = ap (λ (s : Shown S). s.phase) gone in
    let mine : MakesCalls core.history after.history (number + 1) p.lines = rw (← history, ← phase, ← same) made in
    first_calls core.history after.history (number + 1) p left (calls_from 1 phases) (ap (λ (ps : List Phase). calls_made core.history ++ calls_from (number + 1) ps) (sym split) ∙ whole) mine
