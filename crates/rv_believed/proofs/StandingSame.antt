-- What is found, changed and left out in a working state and in the database for which it stands.
use Rattle.std.proofs.Common.{◌≡◌, ◌≢◌, ℕ, zero, suc, List, [], ◌∷◌, Option, Some, None, Ok, Err, Bool, true, false, cond, not, ◌==◌, refl, sym, ap, ◌∙◌, arith, filter, find, map, nat_eq, option_map, slice_index_or, if◌then◌else◌}
use Rattle.std.specs.Prelude.{remove, slice_set}
use Rattle.std.specs.List.{AllByRecursion}
use Rattle.std.proofs.lemmas.Bool.{eqb-true}
use Rattle.rv_value.specs.declared.record.Record.{Record}
use Rattle.rv_rows.specs.declared.changes.Change.{Change}
use Rattle.rv_lang.specs.declared.reply.Refusal.TheVariants.{NoTransaction, ReadOnly}
use Rattle.rv_lang.specs.declared.reply.Reply.{Reply}
use Rattle.rv_catalog.specs.Answers.{◌>>=◌, all_pass, ok_or, refuse_if}
use Rattle.rv_model.specs.declared.state.State.{State}
use Rattle.rv_model.specs.declared.transactions.Transaction.{Transaction as Working}
use Rattle.rv_model.specs.Step as step
use Rattle.rv_model.specs.Transactions.{transaction_at, transaction_of}
use Rattle.rv_believed.specs.Answers.{Test}
use Rattle.rv_believed.specs.Database.{Transaction}
use Rattle.rv_believed.specs.Orderly.{BeginsBefore, EachTwo}
use Rattle.rv_believed.specs.Standing.{database, first, outcome_of, rest, with_bases, transaction_with}
use Rattle.rv_believed.specs.Transactions.{Outcome}
use Rattle.rv_believed.proofs.ChangingSame.{found, position_none, position_step}

pub outcome_twice : (a b : Test) (done : Reply × State)
    → outcome_of (a >>= (λ u. b >>= (λ v. Ok done))) ≡ (a >>= (λ u. b >>= (λ v. Ok (done.0, database done.1))))
outcome_twice (Ok u) (Ok v) done = refl
outcome_twice (Ok u) (Err e) done = refl
outcome_twice (Err e) b done = refl

pub outcome_thrice : (a b c : Test) (done : Reply × State)
    → outcome_of (a >>= (λ u. b >>= (λ v. c >>= (λ w. Ok done)))) ≡ (a >>= (λ u. b >>= (λ v. c >>= (λ w. Ok (done.0, database done.1)))))
outcome_thrice (Ok u) b c done = outcome_twice b c done
outcome_thrice (Err e) b c done = refl

pub outcome_four : (a b c d : Test) (done : Reply × State)
    → outcome_of (a >>= (λ u. b >>= (λ v. c >>= (λ w. d >>= (λ x. Ok done))))) ≡ (a >>= (λ u. b >>= (λ v. c >>= (λ w. d >>= (λ x. Ok (done.0, database done.1))))))
outcome_four (Ok u) b c d done = outcome_thrice b c d done
outcome_four (Err e) b c d done = refl

-- ---- the session's transaction

abbrev pub own_of : List Working → List (List (List Record)) → ℕ → Transaction
own_of ws bs n = transaction_with (transaction_at ws n) (slice_index_or bs n [])

first_base : (bs : List (List (List Record))) → slice_index_or bs 0 [] ≡ first bs
first_base [] = refl
first_base (b ∷ bs) = refl

later_base : (bs : List (List (List Record))) (n : ℕ) → slice_index_or bs (suc n) [] ≡ slice_index_or (rest bs) n []
later_base [] n = refl
later_base (b ∷ bs) n = refl

later_of : (w : Working) (ws : List Working) (bs : List (List (List Record))) (o : Option ℕ)
    → option_map (own_of (w ∷ ws) bs) (option_map suc o) ≡ option_map (own_of ws (rest bs)) o
later_of w ws bs None = refl
later_of w ws bs (Some n) = ap (λ b. Some (transaction_with (transaction_at ws n) b)) (later_base bs n)

found_of : (w : Working) (ws : List Working) (bs : List (List (List Record))) (more : Option Transaction) (o : Option ℕ)
    → more ≡ option_map (own_of ws (rest bs)) o → (here : Bool)
    → cond here (Some (transaction_with w (first bs))) more ≡ option_map (own_of (w ∷ ws) bs) (found here o)
found_of w ws bs more o e true = ap (λ b. Some (transaction_with w b)) (sym (first_base bs))
found_of w ws bs more o e false = e ∙ sym (later_of w ws bs o)

-- the session's transaction, found by its place
pub own_found : (session : ℕ) (ws : List Working) (bs : List (List (List Record)))
    → find (λ (t : Transaction). t.session == session) (with_bases ws bs) ≡ option_map (own_of ws bs) (transaction_of ws session)
own_found session [] bs = sym (ap (λ o. option_map (own_of [] bs) o) (position_none (λ (w : Working). w.session == session)))
own_found session (w ∷ ws) bs = found_of w ws bs (find (λ (t : Transaction). t.session == session) (with_bases ws (rest bs))) (transaction_of ws session)
    (own_found session ws (rest bs)) (w.session == session)
    ∙ sym (ap (λ o. option_map (own_of (w ∷ ws) bs) o) (position_step (λ (v : Working). v.session == session) w ws))

-- what is done with the session's transaction, where there is one
own_by : (ws : List Working) (bs : List (List (List Record))) (F : Transaction → Outcome) (G : ℕ → step.Outcome) (o : Option ℕ)
    → ((n : ℕ) → o ≡ Some n → F (own_of ws bs n) ≡ outcome_of (G n))
    → (ok_or (option_map (own_of ws bs) o) NoTransaction >>= F) ≡ outcome_of (ok_or o NoTransaction >>= G)
own_by ws bs F G None e = refl
own_by ws bs F G (Some n) e = e n refl

pub own_then : (session : ℕ) (ws : List Working) (bs : List (List (List Record))) (F : Transaction → Outcome) (G : ℕ → step.Outcome)
    → ((n : ℕ) → transaction_of ws session ≡ Some n → F (own_of ws bs n) ≡ outcome_of (G n))
    → (ok_or (find (λ (t : Transaction). t.session == session) (with_bases ws bs)) NoTransaction >>= F)
    ≡ outcome_of (ok_or (transaction_of ws session) NoTransaction >>= G)
own_then session ws bs F G e = ap (λ o. ok_or o NoTransaction >>= F) (own_found session ws bs) ∙ own_by ws bs F G (transaction_of ws session) e

writes_by : (t : Transaction) (n : ℕ) (F : Transaction → Outcome) (G : ℕ → step.Outcome) → F t ≡ outcome_of (G n) → (b : Bool)
    → ((refuse_if b ReadOnly >>= (λ u. Ok t)) >>= F) ≡ outcome_of ((refuse_if b ReadOnly >>= (λ u. Ok n)) >>= G)
writes_by t n F G e true = refl
writes_by t n F G e false = e

writer_by : (ws : List Working) (bs : List (List (List Record))) (F : Transaction → Outcome) (G : ℕ → step.Outcome) (o : Option ℕ)
    → ((n : ℕ) → o ≡ Some n → F (own_of ws bs n) ≡ outcome_of (G n))
    → ((ok_or (option_map (own_of ws bs) o) NoTransaction >>= (λ t. refuse_if t.read_only ReadOnly >>= (λ u. Ok t))) >>= F)
    ≡ outcome_of ((ok_or o NoTransaction >>= (λ own. refuse_if (transaction_at ws own).read_only ReadOnly >>= (λ u. Ok own))) >>= G)
writer_by ws bs F G None e = refl
writer_by ws bs F G (Some n) e = writes_by (own_of ws bs n) n F G (e n refl) (transaction_at ws n).read_only

pub writer_then : (session : ℕ) (ws : List Working) (bs : List (List (List Record))) (F : Transaction → Outcome) (G : ℕ → step.Outcome)
    → ((n : ℕ) → transaction_of ws session ≡ Some n → F (own_of ws bs n) ≡ outcome_of (G n))
    → ((ok_or (find (λ (t : Transaction). t.session == session) (with_bases ws bs)) NoTransaction >>= (λ t. refuse_if t.read_only ReadOnly >>= (λ u. Ok t))) >>= F)
    ≡ outcome_of ((ok_or (transaction_of ws session) NoTransaction >>= (λ own. refuse_if (transaction_at ws own).read_only ReadOnly >>= (λ u. Ok own))) >>= G)
writer_then session ws bs F G e =
    ap (λ o. (ok_or o NoTransaction >>= (λ t. refuse_if t.read_only ReadOnly >>= (λ u. Ok t))) >>= F) (own_found session ws bs)
    ∙ writer_by ws bs F G (transaction_of ws session) e

-- ---- another session's transactions

abbrev Differs : ℕ → Working → Type 0
Differs session w = nat_eq w.session session ≡ false

differ_by : (session : ℕ) (w u : Working) → nat_eq w.session session ≡ true → w.session ≢ u.session → (b : Bool) → nat_eq u.session session ≡ b → b ≡ false
differ_by session w u e ne true p = absurd (ne (eqb-true w.session session e ∙ sym (eqb-true u.session session p)))
differ_by session w u e ne false p = refl

rest_differs : (session : ℕ) (w : Working) (ws : List Working) → nat_eq w.session session ≡ true → AllByRecursion (BeginsBefore w) ws
    → AllByRecursion (Differs session) ws
rest_differs session w [] e a = tt
rest_differs session w (u ∷ ws) e a = (differ_by session w u e a.0.session (nat_eq u.session session) refl, rest_differs session w ws e a.1)

-- ---- with other changes of the session's transaction

abbrev pub with_new : ℕ → List Change → Transaction → Transaction
with_new session cs t = if t.session == session then record t { changes = cs } else t

abbrev pub put_at : Option ℕ → List Change → List Working → List Working
put_at None cs ws = ws
put_at (Some n) cs ws = slice_set ws n (record (transaction_at ws n) { changes = cs })

put_later : (o : Option ℕ) (cs : List Change) (w : Working) (ws : List Working) → put_at (option_map suc o) cs (w ∷ ws) ≡ w ∷ put_at o cs ws
put_later None cs w ws = refl
put_later (Some n) cs w ws = refl

none_new : (session : ℕ) (cs : List Change) (ws : List Working) (bs : List (List (List Record))) → AllByRecursion (Differs session) ws
    → map (with_new session cs) (with_bases ws bs) ≡ with_bases ws bs
none_new session cs [] bs a = refl
none_new session cs (w ∷ ws) bs a = λ k.
    cond (a.0 k) (record (transaction_with w (first bs)) { changes = cs }) (transaction_with w (first bs)) ∷ none_new session cs ws (rest bs) a.1 k

put_one : (session : ℕ) (cs : List Change) (w : Working) (ws : List Working) (bs : List (List (List Record))) (o : Option ℕ)
    → AllByRecursion (BeginsBefore w) ws → map (with_new session cs) (with_bases ws (rest bs)) ≡ with_bases (put_at o cs ws) (rest bs)
    → (b : Bool) → nat_eq w.session session ≡ b
    → cond b (record (transaction_with w (first bs)) { changes = cs }) (transaction_with w (first bs)) ∷ map (with_new session cs) (with_bases ws (rest bs))
    ≡ with_bases (put_at (found b o) cs (w ∷ ws)) bs
put_one session cs w ws bs o a e true p = ap (λ ts. record (transaction_with w (first bs)) { changes = cs } ∷ ts)
    (none_new session cs ws (rest bs) (rest_differs session w ws p a))
put_one session cs w ws bs o a e false p = ap (λ ts. transaction_with w (first bs) ∷ ts) e ∙ ap (λ us. with_bases us bs) (sym (put_later o cs w ws))

pub own_put : (session : ℕ) (cs : List Change) (ws : List Working) (bs : List (List (List Record))) → EachTwo BeginsBefore ws
    → map (with_new session cs) (with_bases ws bs) ≡ with_bases (put_at (transaction_of ws session) cs ws) bs
own_put session cs [] bs h = sym (ap (λ o. with_bases (put_at o cs []) bs) (position_none (λ (w : Working). w.session == session)))
own_put session cs (w ∷ ws) bs h = put_one session cs w ws bs (transaction_of ws session) h.0 (own_put session cs ws (rest bs) h.1) (nat_eq w.session session) refl
    ∙ sym (ap (λ o. with_bases (put_at o cs (w ∷ ws)) bs) (position_step (λ (v : Working). v.session == session) w ws))

-- ---- without the session's transaction

abbrev pub drop_at : {X : Type 0} → Option ℕ → List X → List X
drop_at None xs = xs
drop_at (Some n) xs = remove xs n

abbrev pub is_other : ℕ → Transaction → Bool
is_other session t = not (t.session == session)

drop_later : {X : Type 0} (o : Option ℕ) (x : X) (xs : List X) → drop_at (option_map suc o) (x ∷ xs) ≡ x ∷ drop_at o xs
drop_later None x xs = refl
drop_later (Some n) x xs = refl

first_left : (o : Option ℕ) (bs : List (List (List Record))) → first (drop_at (option_map suc o) bs) ≡ first bs
first_left None bs = refl
first_left (Some n) [] = refl
first_left (Some n) (b ∷ bs) = refl

rest_left : (o : Option ℕ) (bs : List (List (List Record))) → rest (drop_at (option_map suc o) bs) ≡ drop_at o (rest bs)
rest_left None bs = refl
rest_left (Some zero) [] = refl
rest_left (Some (suc n)) [] = refl
rest_left (Some n) (b ∷ bs) = refl

drop_first : (bs : List (List (List Record))) → rest bs ≡ remove bs 0
drop_first [] = refl
drop_first (b ∷ bs) = refl

none_left_out : (session : ℕ) (ws : List Working) (bs : List (List (List Record))) → AllByRecursion (Differs session) ws
    → filter (is_other session) (with_bases ws bs) ≡ with_bases ws bs
none_left_out session [] bs a = refl
none_left_out session (w ∷ ws) bs a = λ k.
    cond (not (a.0 k)) (transaction_with w (first bs) ∷ none_left_out session ws (rest bs) a.1 k) (none_left_out session ws (rest bs) a.1 k)

drop_one : (session : ℕ) (w : Working) (ws : List Working) (bs : List (List (List Record))) (o : Option ℕ)
    → AllByRecursion (BeginsBefore w) ws → filter (is_other session) (with_bases ws (rest bs)) ≡ with_bases (drop_at o ws) (drop_at o (rest bs))
    → (b : Bool) → nat_eq w.session session ≡ b
    → cond (not b) (transaction_with w (first bs) ∷ filter (is_other session) (with_bases ws (rest bs))) (filter (is_other session) (with_bases ws (rest bs)))
    ≡ with_bases (drop_at (found b o) (w ∷ ws)) (drop_at (found b o) bs)
drop_one session w ws bs o a e true p = none_left_out session ws (rest bs) (rest_differs session w ws p a) ∙ ap (λ cs. with_bases ws cs) (drop_first bs)
drop_one session w ws bs o a e false p = ap (λ ts. transaction_with w (first bs) ∷ ts) e
    ∙ (λ k. transaction_with w (sym (first_left o bs) k) ∷ with_bases (drop_at o ws) (sym (rest_left o bs) k))
    ∙ ap (λ us. with_bases us (drop_at (option_map suc o) bs)) (sym (drop_later o w ws))

pub own_dropped : (session : ℕ) (ws : List Working) (bs : List (List (List Record))) → EachTwo BeginsBefore ws
    → filter (is_other session) (with_bases ws bs) ≡ with_bases (drop_at (transaction_of ws session) ws) (drop_at (transaction_of ws session) bs)
own_dropped session [] bs h = sym (ap (λ o. with_bases (drop_at o []) (drop_at o bs)) (position_none (λ (w : Working). w.session == session)))
own_dropped session (w ∷ ws) bs h = drop_one session w ws bs (transaction_of ws session) h.0 (own_dropped session ws (rest bs) h.1) (nat_eq w.session session) refl
    ∙ sym (ap (λ o. with_bases (drop_at o (w ∷ ws)) (drop_at o bs)) (position_step (λ (v : Working). v.session == session) w ws))

-- ---- a test of each other session's transaction

passes_by : (f : Transaction → Test) (g : Working → Test) (t : Transaction) (w : Working) (ts : List Transaction) (ws : List Working)
    → f t ≡ g w → all_pass f ts ≡ all_pass g ws → (b : Bool) → all_pass f (cond b (t ∷ ts) ts) ≡ all_pass g (cond b (w ∷ ws) ws)
passes_by f g t w ts ws e more true = λ k. e k >>= (λ u. more k)
passes_by f g t w ts ws e more false = more

pub others_pass : (session : ℕ) (f : Transaction → Test) (g : Working → Test) → ((w : Working) (b : List (List Record)) → f (transaction_with w b) ≡ g w)
    → (ws : List Working) (bs : List (List (List Record)))
    → all_pass f (filter (is_other session) (with_bases ws bs)) ≡ all_pass g (filter (λ (w : Working). not (w.session == session)) ws)
others_pass session f g e [] bs = refl
others_pass session f g e (w ∷ ws) bs = passes_by f g (transaction_with w (first bs)) w (filter (is_other session) (with_bases ws (rest bs)))
    (filter (λ (v : Working). not (v.session == session)) ws) (e w (first bs)) (others_pass session f g e ws (rest bs)) (not (w.session == session))

-- ---- the other sessions' transactions, with their numbers and changes

listed_by : (t : Transaction) (w : Working) (ts : List Transaction) (ws : List Working) → (t.number ≡ w.number) → (t.changes ≡ w.changes)
    → map {B = ℕ × List Change} (λ (u : Transaction). (u.number, u.changes)) ts ≡ map {B = ℕ × List Change} (λ (u : Working). (u.number, u.changes)) ws → (b : Bool)
    → map {B = ℕ × List Change} (λ (u : Transaction). (u.number, u.changes)) (cond b (t ∷ ts) ts) ≡ map {B = ℕ × List Change} (λ (u : Working). (u.number, u.changes)) (cond b (w ∷ ws) ws)
listed_by t w ts ws n c more true = λ k. (n k, c k) ∷ more k
listed_by t w ts ws n c more false = more

pub others_listed : (session : ℕ) (ws : List Working) (bs : List (List (List Record)))
    → map {B = ℕ × List Change} (λ (u : Transaction). (u.number, u.changes)) (filter (is_other session) (with_bases ws bs)) ≡ step.others ws session
others_listed session [] bs = refl
others_listed session (w ∷ ws) bs = listed_by (transaction_with w (first bs)) w (filter (is_other session) (with_bases ws (rest bs)))
    (filter (λ (v : Working). not (v.session == session)) ws) refl refl (others_listed session ws (rest bs)) (not (w.session == session))

-- ---- what is found for a session

passes_later : (session : ℕ) (w : Working) (ws : List Working) (n : ℕ) (o : Option ℕ) (b : Bool) → found b o ≡ Some n → nat_eq w.session session ≡ b
    → ((m : ℕ) → o ≡ Some m → nat_eq (transaction_at ws m).session session ≡ true) → nat_eq (transaction_at (w ∷ ws) n).session session ≡ true
passes_later session w ws zero o true e p more = p
passes_later session w ws (suc n) o true e p more = let no : 0 ≡ suc n = cc in absurd (omega (arith, no))
passes_later session w ws n None false e p more = cc
passes_later session w ws zero (Some m) false e p more = let no : suc m ≡ 0 = cc in absurd (omega (arith, no))
passes_later session w ws (suc n) (Some m) false e p more = let up : suc m ≡ suc n = cc in let same : m ≡ n = omega (arith, up) in more n (ap (λ (k : ℕ). Some k) same)

pub own_passes : (session : ℕ) (ws : List Working) (n : ℕ) → transaction_of ws session ≡ Some n → nat_eq (transaction_at ws n).session session ≡ true
own_passes session [] n e = let none : None ≡ Some n = sym (position_none (λ (w : Working). w.session == session)) ∙ e in cc
own_passes session (w ∷ ws) n e = passes_later session w ws n (transaction_of ws session) (nat_eq w.session session)
    (sym (position_step (λ (v : Working). v.session == session) w ws) ∙ e) refl (own_passes session ws)
