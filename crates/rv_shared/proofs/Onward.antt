-- A history that goes on over some turns.
use Rattle.std.proofs.Common.{◌≡◌, ℕ, ◌+◌, ◌≤◌, List, Option, Some, None, sym, subst, arith, Result, Ok, Err, IfOk, OnErr}
use Rattle.rv_lang.specs.declared.reply.Reply.{Reply}
use Rattle.rv_value.specs.declared.duplicate.NoMemory.{NoMemory}
use Rattle.rv_model.specs.declared.entry.Entry.{Entry}
use Rattle.rv_turn.specs.State.{PassState}
use Rattle.rv_turn.specs.Story.{GoesOn, TakesTurn}
use Rattle.rv_turn.proofs.Stories.{goes_on_twice}
use Rattle.rv_shared.specs.Served.{IsFetch}
use Rattle.rv_shared.specs.declared.helping.Cutting.{Cutting}
use Rattle.rv_shared.specs.declared.helping.Cutting.TheVariants as cutting
use Rattle.rv_shared.specs.Told.{GivesBack, Replied, TakesOn, TakesTurns, TellsOf, Turned, Unanswered, maker, opens}

pub goes_after : (n m : ℕ) (a b c : List Entry) → m ≡ n → GoesOn maker n a b → GoesOn maker m b c → GoesOn maker n a c
goes_after n m a b c same h r = goes_on_twice maker n a b c h (subst (λ (k : ℕ). GoesOn maker k b c) same r)

pub replied_after : (n m phase : ℕ) (text : List ℕ) (reply : Reply) (a b c : List Entry) → m ≡ n → GoesOn maker n a b → Replied m phase text reply b c → Replied n phase text reply a c
replied_after n m phase text reply a b c same h r = let r' = subst (λ (k : ℕ). Replied k phase text reply b c) same r in record {
  found = r'.found;
  goes_on = goes_on_twice maker n a b r'.found h r'.goes_on;
  last = r'.last;
  legal = r'.legal;
}

pub unanswered_after : (n m : ℕ) (a b c : List Entry) → m ≡ n → GoesOn maker n a b → Unanswered m b c → Unanswered n a c
unanswered_after n m a b c same h r = record { goes_on = goes_after n m a b c same h r.goes_on; legal = r.legal }

-- the last turns of a call, after others
pub all_turns : (n m phase : ℕ) (text : List ℕ) (a b c : List Entry) (o : Result Reply NoMemory) → m ≡ n → GoesOn maker n a b → IfOk o (λ reply. Replied m phase text reply b c) → IfOk o (λ reply. Replied n phase text reply a c)
all_turns n m phase text a b c (Ok reply) same h r = replied_after n m phase text reply a b c same h r
all_turns n m phase text a b c (Err refused) same h r = tt

pub no_turns : (n m : ℕ) (a b c : List Entry) (o : Result Reply NoMemory) → m ≡ n → GoesOn maker n a b → OnErr o (Unanswered m b c) → OnErr o (Unanswered n a c)
no_turns n m a b c (Ok reply) same h r = tt
no_turns n m a b c (Err refused) same h r = unanswered_after n m a b c same h r

pub answered_is : (n phase : ℕ) (text : List ℕ) (reply : Reply) (a b : List Entry) (o : Option Reply) → o ≡ Some reply → Turned n phase text a b o → Replied n phase text reply a b
answered_is n phase text reply a b o is t = subst (Turned n phase text a b) is t

pub working_is : (n phase : ℕ) (text : List ℕ) (a b : List Entry) (o : Option Reply) → o ≡ None → Turned n phase text a b o → IsFetch text × GoesOn maker n a b
working_is n phase text a b o is t = subst (Turned n phase text a b) is t

-- one turn, and some more of a FETCH
pub one_turn : {C : Type 0} (text : List ℕ) (a b : PassState Entry C) → (b.taken ≡ a.taken + 1) × (b.left + 1 ≡ a.left) → TakesTurns text a b
one_turn text a b h = let taken = h.0 in let left = h.1 in record { granted = omega arith; most = omega arith; one = λ _. h.0 }

pub more_turns : {C : Type 0} (text : List ℕ) (a b c : PassState Entry C) → (b.taken ≡ a.taken + 1) × (b.left + 1 ≡ a.left) → c.taken + c.left ≡ b.taken + b.left → c.taken ≤ b.taken + 63 → IsFetch text → TakesTurns text a c
more_turns text a b c h granted most fetch = let taken = h.0 in let left = h.1 in record { granted = omega arith; most = omega arith; one = λ other. absurd (other fetch) }

-- a worker's turns
pub given_back : {B C : Type 0} (n : ℕ) (mark : C) (seen now : List Entry) (answer : B) → TakesTurn maker (λ first found left o. GivesBack found left) n mark seen now answer → Unanswered n seen now
given_back n mark seen now answer t = record { goes_on = subst (λ (l : List Entry). GoesOn maker n seen l) (sym t.worked.same) t.goes_on; legal = t.worked.legal }

pub taken_from : {C : Type 0} (n : ℕ) (mark : C) (seen now : List Entry) (answer : Result Cutting NoMemory) → TakesTurn maker (λ first found left o. TakesOn found left o) n mark seen now answer → Unanswered n seen now
taken_from n mark seen now answer t = record { goes_on = subst (λ (l : List Entry). GoesOn maker n seen l) (sym t.worked.same) t.goes_on; legal = t.worked.legal }

pub idle_is : (seen : List Entry) (cursors : ℕ) (o : Cutting) → o ≡ cutting.Idle cursors → TellsOf seen o → cursors ≡ opens seen
idle_is seen cursors o is t = subst (TellsOf seen) is t
