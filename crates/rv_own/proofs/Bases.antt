-- The base and the changes of a session's transaction, where it changes rows and where another one does.
use Rattle.std.proofs.Common.{◌≡◌, ℕ, zero, suc, ◌<◌, List, [], ◌∷◌, true, false, ◌==◌, inl, inr, refl, ap, sym, subst, ◌∙◌, arith, length, Option, Some, if◌then◌else◌}
use Rattle.std.proofs.lemmas.Bool.{cases_Bool}
use Rattle.std.proofs.lemmas.Bool.Decides.{nat_tests}
use Rattle.std.proofs.lemmas.List.Quantifiers.{position-Some}
use Rattle.std.proofs.lemmas.Option.{same_Some}
use Rattle.rv_rows.specs.declared.changes.Change.{Change}
use Rattle.rv_reader.specs.Shown.{Shown}
use Rattle.rv_model.specs.declared.transactions.Transaction.{Transaction}
use Rattle.rv_model.specs.Transactions.{no_transaction, transaction_at, transaction_of, with_own}
use Rattle.rv_own.specs.declared.views.OwnView.{OwnView}
use Rattle.rv_own.specs.Views.{AreOwn, AreViews, IsMadeOf, IsOwnOf, IsViewOf, MayJoin, base_in, changes_in, others}
use Rattle.rv_own.proofs.Steps.{all_joined}

base_where : (active : List Transaction) (session own : ℕ) → own < length active → ((transaction_at active own).session == session) ≡ true → ((k : ℕ) → k < own → ((transaction_at active k).session == session) ≡ false) → base_in active session ≡ Some (transaction_at active own).base
base_where [] session own h here before = absurd (omega arith)
base_where (t ∷ ts) session zero h here before = rw here refl
base_where (t ∷ ts) session (suc own) h here before =
    let first : (t.session == session) ≡ false = before 0 (omega arith) in
    rw first (base_where ts session own (omega arith) here (λ k l. before (suc k) (omega arith)))

pub base_found : (active : List Transaction) (session own : ℕ) → transaction_of active session ≡ Some own → base_in active session ≡ Some (transaction_at active own).base
base_found active session own e =
    let p = position-Some _ active own no_transaction e in
    base_where active session own p.0 p.1 p.2

changes_where : (active : List Transaction) (session own : ℕ) → own < length active → ((transaction_at active own).session == session) ≡ true → ((k : ℕ) → k < own → ((transaction_at active k).session == session) ≡ false) → changes_in active session ≡ (transaction_at active own).changes
changes_where [] session own h here before = absurd (omega arith)
changes_where (t ∷ ts) session zero h here before = rw here refl
changes_where (t ∷ ts) session (suc own) h here before =
    let first : (t.session == session) ≡ false = before 0 (omega arith) in
    rw first (changes_where ts session own (omega arith) here (λ k l. before (suc k) (omega arith)))

pub changes_found : (active : List Transaction) (session own : ℕ) → transaction_of active session ≡ Some own → changes_in active session ≡ (transaction_at active own).changes
changes_found active session own e =
    let p = position-Some _ active own no_transaction e in
    changes_where active session own p.0 p.1 p.2

-- with other changes of the transaction in a place

pub base_with : (active : List Transaction) (own : ℕ) (changes : List Change) (session : ℕ) → base_in (with_own active own changes) session ≡ base_in active session
base_with [] own changes session = refl
base_with (t ∷ ts) zero changes session = refl
base_with (t ∷ ts) (suc own) changes session = ap (λ (r : Option ℕ). if t.session == session then Some t.base else r) (base_with ts own changes session)

own_where : (active : List Transaction) (session own : ℕ) (changes : List Change) → own < length active → ((transaction_at active own).session == session) ≡ true → ((k : ℕ) → k < own → ((transaction_at active k).session == session) ≡ false) → changes_in (with_own active own changes) session ≡ changes
own_where [] session own changes h here before = absurd (omega arith)
own_where (t ∷ ts) session zero changes h here before = rw here refl
own_where (t ∷ ts) session (suc own) changes h here before =
    let first : (t.session == session) ≡ false = before 0 (omega arith) in
    rw first (own_where ts session own changes (omega arith) here (λ k l. before (suc k) (omega arith)))

pub changes_own : (active : List Transaction) (session own : ℕ) (changes : List Change) → transaction_of active session ≡ Some own → changes_in (with_own active own changes) session ≡ changes
changes_own active session own changes e =
    let p = position-Some _ active own no_transaction e in
    own_where active session own changes p.0 p.1 p.2

pub changes_beside : (active : List Transaction) (own : ℕ) (changes : List Change) (session : ℕ) → ((transaction_at active own).session == session) ≡ false → changes_in (with_own active own changes) session ≡ changes_in active session
changes_beside [] own changes session other = refl
changes_beside (t ∷ ts) zero changes session other = rw other refl
changes_beside (t ∷ ts) (suc own) changes session other = ap (λ (cs : List Change). if t.session == session then t.changes else cs) (changes_beside ts own changes session other)

-- What is kept for all sessions.

own_of : (shown : Shown) (active : List Transaction) (place : ℕ) (t : Transaction) (v : OwnView) → transaction_of active t.session ≡ Some place → transaction_at active place ≡ t → IsViewOf shown active v → IsOwnOf shown t v
own_of shown active place t v at is view = λ same. record {
  session = same;
  base = same_Some v.view.base t.base (sym view.base ∙ ap (base_in active) same ∙ base_found active t.session place at ∙ ap (λ (u : Transaction). Some u.base) is);
  changes = sym view.changes ∙ ap (changes_in active) same ∙ changes_found active t.session place at ∙ ap (λ (u : Transaction). u.changes) is;
  keeps = view.keeps;
}

-- what is kept for a transaction is what its changes make
pub are_own : (shown : Shown) (active : List Transaction) (place : ℕ) (t : Transaction) (views : List OwnView) → transaction_of active t.session ≡ Some place → transaction_at active place ≡ t → AreViews shown active views → AreOwn shown t views
are_own shown active place t [] at is all = tt
are_own shown active place t (v ∷ vs) at is all = (own_of shown active place t v at is all.0, are_own shown active place t vs at is all.1)

other_stays : (shown : Shown) (active : List Transaction) (place session : ℕ) (changes : List Change) (v : OwnView) → (transaction_at active place).session ≡ session → (v.session == session) ≡ false → IsViewOf shown active v → IsViewOf shown (with_own active place changes) v
other_stays shown active place session changes v at other view =
    let apart : ((transaction_at active place).session == v.session) ≡ false = grind (arith, nat_tests) in
    record {
      base = base_with active place changes v.session ∙ view.base;
      changes = changes_beside active place changes v.session apart ∙ view.changes;
      keeps = view.keeps;
    }

-- where a transaction changes rows, what is kept for the others stays
pub others_stay : (shown : Shown) (active : List Transaction) (place session : ℕ) (changes : List Change) (views : List OwnView) → (transaction_at active place).session ≡ session → AreViews shown active views → AreViews shown (with_own active place changes) (others session views)
others_stay shown active place session changes [] at all = tt
others_stay shown active place session changes (v ∷ vs) at all =
    let rest = others_stay shown active place session changes vs at all.1 in
    elim (cases_Bool (v.session == session)) [
      | inl own ↦ rw own rest
      | inr other ↦ rw other (other_stays shown active place session changes v at other all.0, rest)
    ]

other_again : (shown : Shown) (active : List Transaction) (place session : ℕ) (changes : List Change) (v : OwnView) → (transaction_at active place).session ≡ session → (v.session == session) ≡ false → IsViewOf shown (with_own active place changes) v → IsViewOf shown active v
other_again shown active place session changes v at other view =
    let apart : ((transaction_at active place).session == v.session) ≡ false = grind (arith, nat_tests) in
    record {
      base = sym (base_with active place changes v.session) ∙ view.base;
      changes = sym (changes_beside active place changes v.session apart) ∙ view.changes;
      keeps = view.keeps;
    }

-- and where it does not change them after all
pub others_again : (shown : Shown) (active : List Transaction) (place session : ℕ) (changes : List Change) (views : List OwnView) → (transaction_at active place).session ≡ session → AreViews shown (with_own active place changes) views → AreViews shown active (others session views)
others_again shown active place session changes [] at all = tt
others_again shown active place session changes (v ∷ vs) at all =
    let rest = others_again shown active place session changes vs at all.1 in
    elim (cases_Bool (v.session == session)) [
      | inl own ↦ rw own rest
      | inr other ↦ rw other (other_again shown active place session changes v at other all.0, rest)
    ]

-- and what is made of its changes is kept for it
own_stays : (shown : Shown) (active : List Transaction) (place : ℕ) (t : Transaction) (changes : List Change) (v : OwnView) → transaction_of active t.session ≡ Some place → transaction_at active place ≡ t → IsMadeOf shown t.session t.base changes v
    → IsViewOf shown (with_own active place changes) v
own_stays shown active place t changes v at is made = record {
  base = ap (base_in (with_own active place changes)) made.session ∙ base_with active place changes t.session ∙ base_found active t.session place at ∙ ap (λ (u : Transaction). Some u.base) is ∙ ap (λ (n : ℕ). Some n) (sym made.base);
  changes = ap (changes_in (with_own active place changes)) made.session ∙ changes_own active t.session place changes at ∙ sym made.changes;
  keeps = made.keeps;
}

-- nothing changed
own_stands : (shown : Shown) (active : List Transaction) (place : ℕ) (t : Transaction) (v : OwnView) → transaction_of active t.session ≡ Some place → transaction_at active place ≡ t → IsMadeOf shown t.session t.base t.changes v → IsViewOf shown active v
own_stands shown active place t v at is made = record {
  base = ap (base_in active) made.session ∙ base_found active t.session place at ∙ ap (λ (u : Transaction). Some u.base) is ∙ ap (λ (n : ℕ). Some n) (sym made.base);
  changes = ap (changes_in active) made.session ∙ changes_found active t.session place at ∙ ap (λ (u : Transaction). u.changes) is ∙ sym made.changes;
  keeps = made.keeps;
}

-- what is kept after changes are kept up with, of what was kept for others and one that may join
pub kept_up : (shown : Shown) (active : List Transaction) (place : ℕ) (t : Transaction) (changes : List Change) (old left new : List OwnView) → left ≡ others t.session old → MayJoin (IsMadeOf shown t.session t.base changes) left new
    → transaction_of active t.session ≡ Some place → transaction_at active place ≡ t → AreViews shown active old → AreViews shown (with_own active place changes) new
kept_up shown active place t changes old left new is joins at here all =
    let stay = others_stay shown active place t.session changes old (ap (λ (u : Transaction). u.session) here) all in
    all_joined (IsMadeOf shown t.session t.base changes) (IsViewOf shown (with_own active place changes)) left new joins
    (subst (AreViews shown (with_own active place changes)) (sym is) stay) (λ v made. own_stays shown active place t changes v at here made)

-- and after what freezing made joins
pub kept_frozen : (shown : Shown) (active : List Transaction) (place : ℕ) (t : Transaction) (old new : List OwnView) → MayJoin (IsMadeOf shown t.session t.base t.changes) old new
    → transaction_of active t.session ≡ Some place → transaction_at active place ≡ t → AreViews shown active old → AreViews shown active new
kept_frozen shown active place t old new joins at here all =
    all_joined (IsMadeOf shown t.session t.base t.changes) (IsViewOf shown active) old new joins all (λ v made. own_stands shown active place t v at here made)
