-- Chains that go on.
use Rattle.std.proofs.Common.{◌≡◌, ℕ, zero, suc, List, [], ◌∷◌, ◌++◌, Option, Some, None, Result, Ok, Err, IfOk, OnErr, refl, sym, ap, subst, inl, inr}
use Rattle.std.proofs.Math.Logic.{∥∥₁_elim}
use Rattle.rv_value.specs.declared.duplicate.NoMemory.{NoMemory}
use Rattle.rv_lang.specs.declared.reply.Reply.{Reply}
use Rattle.rv_jscan.specs.declared.jscan.Given.{Given}
use Rattle.rv_jscan.specs.declared.jscan.Taken.{Taken}
use Rattle.rv_jscan.specs.declared.jscan.Taken.TheVariants as taken
use Rattle.rv_jscan.specs.Pieces.{Pieced}
use Rattle.rv_model.specs.History.{IsLegal}
use Rattle.rv_shared.specs.declared.helping.Cutting.{Cutting}
use Rattle.rv_shared.specs.declared.helping.Cutting.TheVariants as cutting
use Rattle.rv_shared.specs.Leads.{Event, Leads, Steps}
use Rattle.rv_shared.specs.Served.{Answers, AnswersPart, Shown, entry}
use Rattle.rv_shared.specs.Told.{CallsOn, Cuts, StepsOn}

module _ {A : Type 0} (one : A → A → Type 0) where
  pub leads_none : (a : A) → Leads one a a
  leads_none a = ∣ (0, refl) ∣₁

  pub leads_from : (a b : A) → a ≡ b → Leads one a b
  leads_from a b same = ∣ (0, sym same) ∣₁

  pub leads_more : (a b c : A) → Leads one a b → one b c → Leads one a c
  leads_more a b c h e = ∥∥₁_elim h squash₁ (λ s. ∣ (suc s.0, (b, s.1, e)) ∣₁)

-- the same chain over what is seen of each core
module _ {A B : Type 0} (one : A → A → Type 0) (other : B → B → Type 0) (f : A → B) (each : (a b : A) → one a b → other (f a) (f b)) where
  steps_map : (n : ℕ) (a b : A) → Steps one n a b → Steps other n (f a) (f b)
  steps_map zero a b h = λ i. f (h i)
  steps_map (suc n) a b h = (f h.0, steps_map n a h.0 h.1, each h.0 b h.2)

  pub leads_map : (a b : A) → Leads one a b → Leads other (f a) (f b)
  leads_map a b h = ∥∥₁_elim h squash₁ (λ s. ∣ (s.0, steps_map s.0 a b s.1) ∣₁)

-- a worker's first turn is one event or two
module _ {C : Type 0} (calls : C → ℕ → List ℕ → Result Reply NoMemory → C → Type 0) (parts : C → ℕ → List ℕ → Result (Option Reply) NoMemory → C → Type 0) (takes : C → ℕ → Result Taken NoMemory → C → Type 0) (gives : C → Pieced → Result Given NoMemory → C → Type 0) (sweeps : C → C → Type 0) where
  abbrev E : C → C → Type 0
  E = Event calls parts takes gives sweeps

  pub cuts_lead : (first old : C) (after : ℕ) (answer : Result Cutting NoMemory) (new : C) → Leads E first old → Cuts takes sweeps old after answer new → Leads E first new
  cuts_lead first old after (Ok (cutting.Piece piece)) new led cut = leads_more E first old new led (inr (inr (inl (after, Ok (taken.Piece piece), cut))))
  cuts_lead first old after (Ok (cutting.Idle cursors)) new led cut = leads_more E first cut.0 new (leads_more E first old cut.0 led (inr (inr (inl (after, Ok taken.Nothing, cut.1))))) (inr (inr (inr (inr cut.2))))
  cuts_lead first old after (Err refused) new led cut = leads_more E first old new led (inr (inr (inl (after, Err refused, cut))))

-- the phase stays at a call
pub call_same : (old new : Shown) (session : ℕ) (text : List ℕ) (r : Result Reply NoMemory) → IfOk r (λ reply. Answers old new session text reply) → OnErr r (new ≡ old) → new.phase ≡ old.phase
call_same old new session text (Ok reply) ok err = ok.same_phase
call_same old new session text (Err refused) ok err = ap (λ (s : Shown). s.phase) err

pub part_same : (old new : Shown) (session : ℕ) (text : List ℕ) (r : Result (Option Reply) NoMemory) → IfOk r (λ part. AnswersPart old new session text part) → OnErr r (new ≡ old) → new.phase ≡ old.phase
part_same old new session text (Ok (Some reply)) ok err = ok.same_phase
part_same old new session text (Ok None) ok err = ap (λ (s : Shown). s.phase) ok.1
part_same old new session text (Err refused) ok err = ap (λ (s : Shown). s.phase) err

-- so what it adds has the phase at opening
pub calls_on : (session first : ℕ) (text : List ℕ) (old new : Shown) (r : Result Reply NoMemory) → old.phase ≡ first → IfOk r (λ reply. Answers old new session text reply) → OnErr r (new ≡ old) → IsLegal new.history → CallsOn session first text old.history new.history r
calls_on session first text old new (Ok reply) same ok err legal = record { adds = subst (λ (n : ℕ). new.history ≡ old.history ++ entry session n text reply ∷ []) same ok.gained; legal = legal }
calls_on session first text old new (Err refused) same ok err legal = record { adds = ap (λ (s : Shown). s.history) err; legal = legal }

pub steps_on : (session first : ℕ) (text : List ℕ) (old new : Shown) (r : Result (Option Reply) NoMemory) → old.phase ≡ first → IfOk r (λ part. AnswersPart old new session text part) → OnErr r (new ≡ old) → IsLegal new.history → StepsOn session first text old.history new.history r
steps_on session first text old new (Ok (Some reply)) same ok err legal = record { adds = subst (λ (n : ℕ). new.history ≡ old.history ++ entry session n text reply ∷ []) same ok.gained; legal = legal }
steps_on session first text old new (Ok None) same ok err legal = record { adds = (ok.0, ap (λ (s : Shown). s.history) ok.1); legal = legal }
steps_on session first text old new (Err refused) same ok err legal = record { adds = ap (λ (s : Shown). s.history) err; legal = legal }
