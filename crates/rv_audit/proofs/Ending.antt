-- From entries that follow a script, and their replay, to what is said of them.
use Rattle.std.proofs.Common.{◌≡◌, ℕ, zero, suc, ◌+◌, ◌-◌, ◌≤◌, List, [], ◌∷◌, ◌++◌, refl, ap, sym, subst, ◌∙◌, length, take, arith, length-append}
use Rattle.std.proofs.lemmas.List.{take-append-le}
use Rattle.std.proofs.Math.Seq.{take-length}
use Rattle.rv_script.specs.declared.scripts.Script.{Script}
use Rattle.rv_model.specs.declared.entry.Entry.{Entry}
use Rattle.rv_model.specs.Transcript.{AllSameButPhase}
use Rattle.rv_believed.specs.History.{IsLegal}
use Rattle.rv_audit.specs.Auditing.{GoesWrongAt, LacksFirst}
use Rattle.rv_audit.specs.Following.{Follows, HasAll, IsFirstMissing, IsLegalTo, IsWhole}
use Rattle.rv_audit.specs.Places.{ArePhasesOf, FrontsFollow, IsStuck}

-- Fronts.

pub same_length : (us bs : List Entry) → AllSameButPhase us bs → length us ≡ length bs
same_length [] [] h = refl
same_length [] (b ∷ bs) h = absurd h
same_length (a ∷ us) [] h = absurd h
same_length (a ∷ us) (b ∷ bs) h = ap (λ n. suc n) (same_length us bs h.1)

pub same_take : (k : ℕ) (us bs : List Entry) → AllSameButPhase us bs → AllSameButPhase (take k us) (take k bs)
same_take zero us bs h = tt
same_take (suc k) [] [] h = tt
same_take (suc k) [] (b ∷ bs) h = absurd h
same_take (suc k) (a ∷ us) [] h = absurd h
same_take (suc k) (a ∷ us) (b ∷ bs) h = (h.0, same_take k us bs h.1)

pub same_over : (xs us bs : List Entry) → AllSameButPhase us xs → AllSameButPhase us bs → AllSameButPhase xs bs
same_over [] [] [] h k = tt
same_over [] [] (b ∷ bs) h k = absurd k
same_over [] (a ∷ us) bs h k = absurd h
same_over (x ∷ xs) [] bs h k = absurd h
same_over (x ∷ xs) (a ∷ us) [] h k = absurd k
same_over (x ∷ xs) (a ∷ us) (b ∷ bs) h k = (let p = h.0 in let q = k.0 in record { session = sym p.session ∙ q.session; text = sym p.text ∙ q.text; reply = sym p.reply ∙ q.reply }, same_over xs us bs h.1 k.1)

take_one : (us : List Entry) (b : Entry) (bs : List Entry) → take (suc (length us)) (us ++ b ∷ bs) ≡ us ++ b ∷ []
take_one [] b bs = refl
take_one (a ∷ us) b bs = ap (λ xs. a ∷ xs) (take_one us b bs)

-- an entry at which the replay breaks
pub broken : (script : Script) (entries more done : List Entry) (n : ℕ) → AllSameButPhase entries done → FrontsFollow script.phases done → ArePhasesOf script.phases done → 1 ≤ n → n ≤ length done → IsLegal (take (n - 1) done) → (IsLegal (take n done) → ⊥) → GoesWrongAt script (entries ++ more) n
broken script entries more done n same fronts only from to before breaks =
    let long = same_length entries done same in
    let here = take-append-le (n - 1) entries more (omega (arith, from, to, long)) in
    let with_it = take-append-le n entries more (omega (arith, to, long)) in
    record {
      from = from;
      to = (let all = length-append entries more in omega (arith, to, long, all));
      before = record {
        history = take (n - 1) done;
        same = subst (λ es. AllSameButPhase es (take (n - 1) done)) (sym here) (same_take (n - 1) entries done same);
        legal = before;
        follows = fronts (n - 1);
      };
      with_it = λ (l : IsLegalTo script (take n (entries ++ more))). breaks (subst IsLegal (only n l.history (same_over (take n done) (take n entries) l.history (same_take n entries done same) (subst (λ es. AllSameButPhase es l.history) with_it l.same)) l.legal l.follows) l.legal);
    }

-- an entry that does not follow
pub stuck : (script : Script) (entries done : List Entry) → FrontsFollow script.phases done → IsLegal done → IsStuck script.phases entries done → GoesWrongAt script entries (length done + 1)
stuck script entries done fronts legal s =
    let long = same_length s.passed done s.same in
    let all = ap (λ es. length es) s.is in
    let count = length-append s.passed (s.next ∷ s.more) in
    let less : length done + 1 - 1 ≡ length s.passed = omega (arith, long) in
    let more : length done + 1 ≡ suc (length s.passed) = omega (arith, long) in
    let here = ap (λ es. take (length s.passed) es) s.is ∙ take-append-le (length s.passed) s.passed (s.next ∷ s.more) (omega arith) ∙ take-length s.passed in
    record {
      from = omega arith;
      to = omega (arith, long, all, count);
      before = record {
        history = done;
        same = subst (λ es. AllSameButPhase es done) (sym (ap (λ k. take k entries) less ∙ here)) s.same;
        legal = legal;
        follows = subst (λ es. Follows script.phases es) (take-length done) (fronts (length done));
      };
      with_it = λ (l : IsLegalTo script (take (length done + 1) entries)). s.no_further l.history (subst (λ es. AllSameButPhase es l.history) (ap (λ k. take k entries) more ∙ ap (λ es. take (suc (length s.passed)) es) s.is ∙ take_one s.passed s.next s.more) l.same) l.legal l.follows;
    }

pub lacks : (script : Script) (entries done : List Entry) (session phase : ℕ) → FrontsFollow script.phases done → IsLegal done → AllSameButPhase entries done → IsFirstMissing script.phases done session phase → LacksFirst script entries session phase
lacks script entries done session phase fronts legal same first = record {
  legal = record { history = done; same = same; legal = legal; follows = subst (λ es. Follows script.phases es) (take-length done) (fronts (length done)) };
  first = first;
}

pub whole : (script : Script) (entries done : List Entry) → IsLegal done → AllSameButPhase entries done → HasAll script.phases done → IsWhole script entries
whole script entries done legal same all = record { history = done; same = same; legal = legal; all = all }
