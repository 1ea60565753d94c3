-- Transactions of different sessions, where one changes rows, begins or ends; each stands in the place of its session.
use Rattle.std.proofs.Common.{◌≡◌, ℕ, zero, suc, ◌<◌, List, [], ◌∷◌, ◌++◌, Bool, true, false, not, ◌||◌, ◌==◌, Some, None, is_some, inl, inr, refl, ap, sym, ◌∙◌, arith, length, find, nat_lt, remove}
use Rattle.std.specs.Prelude.{slice_get, slice_set}
use Rattle.std.specs.List.{list_any, position_or_len}
use Rattle.std.proofs.lemmas.Bool.{cases_Bool, and_parts, not-true}
use Rattle.std.proofs.lemmas.Bool.Decides.{nat_tests}
use Rattle.std.proofs.lemmas.List.Sums.{position_or_len_is}
use Rattle.std.proofs.Math.Bool.{or-false, or_assoc}
use Rattle.rv_catalog.proofs.Known.{none_any}
use Rattle.rv_rows.specs.declared.changes.Change.{Change}
use Rattle.rv_value.proofs.Places.{read_as}
use Rattle.rv_model.specs.declared.transactions.Transaction.{Transaction}
use Rattle.rv_model.specs.Transactions.{no_transaction, transaction_at, transaction_of, with_own}
use Rattle.rv_txn.specs.Apart.{are_apart}

-- Changes of rows leave the sessions.

any_set : (p : Transaction → Bool) (xs : List Transaction) (i : ℕ) (changes : List Change) → ((t : Transaction) → p (record t { changes = changes }) ≡ p t) → list_any p (with_own xs i changes) ≡ list_any p xs
any_set p [] i changes same = refl
any_set p (x ∷ xs) zero changes same = ap (λ b. b || list_any p xs) (same x)
any_set p (x ∷ xs) (suc i) changes same = ap (λ b. p x || b) (any_set p xs i changes same)

pub apart_with : (active : List Transaction) (own : ℕ) (changes : List Change) → are_apart active ≡ true → are_apart (with_own active own changes) ≡ true
apart_with [] own changes apart = refl
apart_with (t ∷ ts) zero changes apart = apart
apart_with (t ∷ ts) (suc own) changes apart =
    let parts = and_parts (not (list_any (λ (u : Transaction). u.session == t.session) ts)) (are_apart ts) apart in
    rw (any_set (λ (u : Transaction). u.session == t.session) ts own changes (λ u. refl), parts.0) (apart_with ts own changes parts.1)

-- the same of the transaction that was read in its place
pub apart_at : (active : List Transaction) (own : ℕ) (t : Transaction) (changes : List Change) → slice_get active own ≡ Some t → are_apart active ≡ true → are_apart (slice_set active own (record t { changes = changes })) ≡ true
apart_at active own t changes e apart =
    ap (λ (u : Transaction). are_apart (slice_set active own (record u { changes = changes }))) (sym (read_as active own t no_transaction e)) ∙ apart_with active own changes apart

-- A transaction of a session that has none.

some_any : {X : Type 0} (p : X → Bool) (xs : List X) → list_any p xs ≡ is_some (find p xs)
some_any p [] = refl
some_any p (x ∷ xs) = elim (cases_Bool (p x)) [ inl t ↦ rw t refl | inr f ↦ rw f (some_any p xs) ]

any_last : (p : Transaction → Bool) (xs : List Transaction) (t : Transaction) → list_any p (xs ++ t ∷ []) ≡ (list_any p xs || p t)
any_last p [] t = or-false (p t)
any_last p (x ∷ xs) t = ap (λ b. p x || b) (any_last p xs t) ∙ sym (or_assoc (p x) (list_any p xs) (p t))

apart_last : (active : List Transaction) (t : Transaction) → are_apart active ≡ true → list_any (λ (u : Transaction). u.session == t.session) active ≡ false → are_apart (active ++ t ∷ []) ≡ true
apart_last [] t apart none = refl
apart_last (x ∷ xs) t apart none =
    let parts = and_parts (not (list_any (λ (u : Transaction). u.session == x.session) xs)) (are_apart xs) apart in
    elim (cases_Bool (x.session == t.session)) [
      | inl here ↦ (let no = rw here at none in cc)
      | inr other ↦
          let rest : list_any (λ (u : Transaction). u.session == t.session) xs ≡ false = rw other at none in
          let behind : (t.session == x.session) ≡ false = grind (arith, nat_tests) in
          let before = not-true (list_any (λ (u : Transaction). u.session == x.session) xs) parts.0 in
          rw (any_last (λ (u : Transaction). u.session == x.session) xs t, before, behind) (apart_last xs t parts.1 rest)
    ]

pub apart_more : (active : List Transaction) (t : Transaction) (session : ℕ) → t.session ≡ session → are_apart active ≡ true → transaction_of active session ≡ None → are_apart (active ++ t ∷ []) ≡ true
apart_more active t session own apart free =
    apart_last active t apart (ap (λ (s : ℕ). list_any (λ (u : Transaction). u.session == s) active) own ∙ none_any (λ (u : Transaction). u.session == session) active free)

-- Without the one in a place.

any_less : (p : Transaction → Bool) (xs : List Transaction) (i : ℕ) → list_any p xs ≡ false → list_any p (remove xs i) ≡ false
any_less p [] zero none = refl
any_less p [] (suc i) none = refl
any_less p (x ∷ xs) zero none = elim (cases_Bool (p x)) [ inl t ↦ (let no = rw t at none in cc) | inr f ↦ rw f at none ]
any_less p (x ∷ xs) (suc i) none = elim (cases_Bool (p x)) [ inl t ↦ (let no = rw t at none in cc) | inr f ↦ rw f (any_less p xs i (rw f at none)) ]

pub apart_less : (active : List Transaction) (own : ℕ) → are_apart active ≡ true → are_apart (remove active own) ≡ true
apart_less [] zero apart = refl
apart_less [] (suc own) apart = refl
apart_less (t ∷ ts) zero apart = (and_parts (not (list_any (λ (u : Transaction). u.session == t.session) ts)) (are_apart ts) apart).1
apart_less (t ∷ ts) (suc own) apart =
    let parts = and_parts (not (list_any (λ (u : Transaction). u.session == t.session) ts)) (are_apart ts) apart in
    rw (any_less (λ (u : Transaction). u.session == t.session) ts own (not-true (list_any (λ (u : Transaction). u.session == t.session) ts) parts.0)) (apart_less ts own parts.1)

-- EACH STANDS IN THE PLACE OF ITS SESSION.

any_at : (p : Transaction → Bool) (xs : List Transaction) (i : ℕ) → i < length xs → list_any p xs ≡ false → p (transaction_at xs i) ≡ false
any_at p [] i low none = absurd (omega (arith, low))
any_at p (x ∷ xs) zero low none = elim (cases_Bool (p x)) [ inl t ↦ (let no = rw t at none in cc) | inr f ↦ f ]
any_at p (x ∷ xs) (suc i) low none = elim (cases_Bool (p x)) [ inl t ↦ (let no = rw t at none in cc) | inr f ↦ any_at p xs i (omega (arith, low)) (rw f at none) ]

two_apart : (active : List Transaction) (k i : ℕ) → are_apart active ≡ true → k < i → i < length active → ((transaction_at active k).session == (transaction_at active i).session) ≡ false
two_apart [] k i apart before low = absurd (omega (arith, low))
two_apart (t ∷ ts) k zero apart before low = absurd (omega (arith, before))
two_apart (t ∷ ts) zero (suc i) apart before low =
    let parts = and_parts (not (list_any (λ (u : Transaction). u.session == t.session) ts)) (are_apart ts) apart in
    let other = any_at (λ (u : Transaction). u.session == t.session) ts i (omega (arith, low)) (not-true (list_any (λ (u : Transaction). u.session == t.session) ts) parts.0) in
    grind (arith, nat_tests)
two_apart (t ∷ ts) (suc k) (suc i) apart before low =
    two_apart ts k i (and_parts (not (list_any (λ (u : Transaction). u.session == t.session) ts)) (are_apart ts) apart).1 (omega (arith, before)) (omega (arith, low))

pub apart_place : (active : List Transaction) (place : ℕ) → are_apart active ≡ true → place < length active → transaction_of active (transaction_at active place).session ≡ Some place
apart_place active place apart low =
    let p : Transaction → Bool = λ t. t.session == (transaction_at active place).session in
    let here : ((transaction_at active place).session == (transaction_at active place).session) ≡ true = grind (arith, nat_tests) in
    let at : position_or_len p active ≡ place = position_or_len_is p active place no_transaction (omega (arith, low)) (λ k before. two_apart active k place apart before low) (λ within. here) in
    let within : nat_lt place (length active) ≡ true = grind (arith, nat_tests) in
    rw at (rw within refl)
