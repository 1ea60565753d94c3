-- Open cursors stay as they are, whatever happens to the store and to other transactions.
use Rattle.std.proofs.Common.{◌≡◌, ◌≢◌, ℕ, List, [], ◌∷◌, ◌++◌, ◌==◌, true, false, not, filter, refl, ap, sym, ◌∙◌, subst, Some, None, IfSome, inl, inr, remove}
use Rattle.std.specs.List.{AllByRecursion}
use Rattle.std.proofs.lemmas.Bool.Decides.{eqb_tells}
use Rattle.rv_rows.specs.declared.changes.Change.{Change}
use Rattle.rv_model.specs.Transactions.{transaction_at, with_own}
use Rattle.rv_catalog.specs.Schema.{Schema}
use Rattle.rv_reader.specs.Shown.{Shown, IsSnapshot}
use Rattle.rv_reader.specs.Storing.{Stays, IsSame, Committed, Swept}
use Rattle.rv_model.specs.declared.state.Offer.{Offer}
use Rattle.rv_model.specs.declared.transactions.Transaction.{Transaction}
use Rattle.rv_model.specs.declared.transactions.Transactions.{Transactions}
use Rattle.rv_model.specs.Offers.{offers_in_order}
use Rattle.rv_view.specs.Sights.{LaysSome, laid_over}
use Rattle.rv_view.specs.Alone.{alone}
use Rattle.rv_view.proofs.Staying.{alone_stays}
use Rattle.rv_join.specs.Asking.{item_at}
use Rattle.rv_join.specs.Order.{IsLeastOf}
use Rattle.rv_join.specs.Plans.{PlanFits, plan_rest}
use Rattle.rv_cursor.specs.declared.cursor.Open.{Open}
use Rattle.rv_cursor.specs.Left.{CursorFits, in_hand, seen_by}
use Rattle.rv_core.specs.Db.{IsOpen, IsTied, base_of, seen, seen_of}
use Rattle.rv_core.specs.Obeying.{SeesSame}
use Rattle.rv_own.proofs.Bases.{base_with}
use Rattle.rv_core.proofs.Bases.{base_known, base_pushed, base_without}

fits_stay : (old new : Shown) (c : Open) → alone new c.snap ≡ alone old c.snap → CursorFits old c → CursorFits new c
fits_stay old new c e f = record {
  at = f.at;
  plan = subst (λ (s : Shown). PlanFits (laid_over s c.frozen) c.plan) (sym e) f.plan;
  least = subst (λ (s : Shown). IfSome c.hand (λ (o : Offer). IsLeastOf o (plan_rest (laid_over s c.frozen) c.plan))) (sym e) f.least;
  lays = subst (λ (s : Shown). LaysSome s c.frozen) (sym e) f.lays;
}

seen_stays : (old new : Shown) (c : Open) → alone new c.snap ≡ alone old c.snap → seen_of new c ≡ seen_of old c
seen_stays old new c e = ap (λ (s : Shown). record { session = c.session; name = c.name; table = (item_at c.plan.asked 0).table; offers = offers_in_order (in_hand c.hand ++ plan_rest (laid_over s c.frozen) c.plan) }) e

-- the same tables and indexes, and each snapshot that was there and still is
pub record Kept (old new : Shown) : Type 0 where
  pub tables : new.tables ≡ old.tables
  pub indexes : new.indexes ≡ old.indexes
  pub stays : Stays old new

-- of each cursor the base of the session's transaction stays
abbrev pub SameBases : List Transaction → List Transaction → List Open → Type 0
SameBases old new = AllByRecursion (λ (c : Open). base_of new c.session ≡ base_of old c.session)

snapshot_same : (old new : Shown) (schema later : Schema) (was is : Transactions) (c : Open) → Kept old new → IsTied old schema was → IsTied new later is → base_of is.active c.session ≡ base_of was.active c.session → IsOpen old schema was.active c → alone new c.snap ≡ alone old c.snap
snapshot_same old new schema later was is c kept before after same h =
    let here : IsSnapshot old c.snap = base_known old was.touched was.active c.session c.snap h.base before.active in
    let there : IsSnapshot new c.snap = base_known new is.touched is.active c.session c.snap (same ∙ h.base) after.active in
    alone_stays old new c.snap kept.tables kept.indexes here there kept.stays

pub opens_stay : (old new : Shown) (schema : Schema) (was is : Transactions) (cs : List Open) → Kept old new → IsTied old schema was → IsTied new schema is → SameBases was.active is.active cs → AllByRecursion (IsOpen old schema was.active) cs → AllByRecursion (IsOpen new schema is.active) cs
opens_stay old new schema was is [] kept before after same h = tt
opens_stay old new schema was is (c ∷ cs) kept before after same h =
    let e = snapshot_same old new schema schema was is c kept before after same.0 h.0 in
    (record { base = same.0 ∙ h.0.base; fits = fits_stay old new c e h.0.fits; over = h.0.over }, opens_stay old new schema was is cs kept before after same.1 h.1)

pub all_seen : (old new : Shown) (schema : Schema) (was is : Transactions) (cs : List Open) → Kept old new → IsTied old schema was → IsTied new schema is → SameBases was.active is.active cs → AllByRecursion (IsOpen old schema was.active) cs → seen new cs ≡ seen old cs
all_seen old new schema was is [] kept before after same h = refl
all_seen old new schema was is (c ∷ cs) kept before after same h =
    let head = seen_stays old new c (snapshot_same old new schema schema was is c kept before after same.0 h.0) in
    let tail = all_seen old new schema was is cs kept before after same.1 h.1 in
    rw (head, tail) refl

-- the store stays
pub opens_over : (shown : Shown) (schema : Schema) (was is : List Transaction) (cs : List Open) → SameBases was is cs → AllByRecursion (IsOpen shown schema was) cs → AllByRecursion (IsOpen shown schema is) cs
opens_over shown schema was is [] same h = tt
opens_over shown schema was is (c ∷ cs) same h = (record { base = same.0 ∙ h.0.base; fits = h.0.fits; over = h.0.over }, opens_over shown schema was is cs same.1 h.1)

-- the transactions stay
pub same_bases : (active : List Transaction) (cs : List Open) → SameBases active active cs
same_bases active [] = tt
same_bases active (c ∷ cs) = (refl, same_bases active cs)

-- without a transaction no cursor is open
pub none_open : (shown : Shown) (schema : Schema) (active : List Transaction) (cs : List Open) → active ≡ [] → AllByRecursion (IsOpen shown schema active) cs → cs ≡ []
none_open shown schema active [] e h = refl
none_open shown schema active (c ∷ cs) e h =
    let none : base_of active c.session ≡ None = ap (λ (ts : List Transaction). base_of ts c.session) e in
    absurd (apart c.snap (sym h.0.base ∙ none))
  where
    apart : (n : ℕ) → Some n ≡ None → ⊥
    apart n k = cc

-- What a store's call keeps.

pub kept_same : (old new : Shown) → IsSame old new → Kept old new
kept_same old new same = record { tables = same.tables; indexes = same.indexes; stays = same.stays }

pub kept_committed : (old new : Shown) (changes : List Change) → Committed old new changes → Kept old new
kept_committed old new changes told = record { tables = told.tables; indexes = told.indexes; stays = told.stays }

pub kept_swept : (old new : Shown) (low : ℕ) → Swept old new low → Kept old new
kept_swept old new low swept = record { tables = swept.tables; indexes = swept.indexes; stays = swept.stays }

-- a cursor's transaction keeps its base where another begins
pub begun_bases : (shown : Shown) (schema : Schema) (active : List Transaction) (t : Transaction) (cs : List Open) → AllByRecursion (IsOpen shown schema active) cs → SameBases active (active ++ t ∷ []) cs
begun_bases shown schema active t [] h = tt
begun_bases shown schema active t (c ∷ cs) h = (base_pushed active t c.session c.snap h.0.base ∙ sym h.0.base, begun_bases shown schema active t cs h.1)

-- the changes of a transaction are others
pub with_bases : (active : List Transaction) (own : ℕ) (changes : List Change) (cs : List Open) → SameBases active (with_own active own changes) cs
with_bases active own changes [] = tt
with_bases active own changes (c ∷ cs) = (base_with active own changes c.session, with_bases active own changes cs)

-- the cursors of other sessions, where a session's transaction is gone
pub others_bases : (active : List Transaction) (own session : ℕ) (cs : List Open) → ((transaction_at active own).session == session) ≡ true → SameBases active (remove active own) (filter (λ (c : Open). not (c.session == session)) cs)
others_bases active own session [] here = tt
others_bases active own session (c ∷ cs) here =
    let rest = others_bases active own session cs here in
    elim (eqb_tells c.session session) [
      | inl same ↦ rw same.0 rest
      | inr other ↦ rw other.0 (base_without active own c.session (apart (transaction_at active own).session session c.session here other.1), rest)
    ]
  where
    no_way : true ≡ false → ⊥
    no_way k = cc

    apart : (a b c : ℕ) → (a == b) ≡ true → c ≢ b → (a == c) ≡ false
    apart a b c e d = elim (eqb_tells a c) [
      | inl same ↦ elim (eqb_tells a b) [
        | inl k ↦ absurd (d (sym same.1 ∙ k.1))
        | inr k ↦ absurd (no_way (sym e ∙ k.0))
      ]
      | inr k ↦ k.0
    ]

-- What the open cursors see.

pub sees_itself : (shown : Shown) (cs : List Open) → SeesSame shown shown cs
sees_itself shown cs = record { each = each cs }
  where
    each : (ds : List Open) → AllByRecursion (λ (c : Open). seen_by shown c ≡ seen_by shown c) ds
    each [] = tt
    each (d ∷ ds) = (refl, each ds)

pub sees_same : (old new : Shown) (cs : List Open) → new ≡ old → SeesSame old new cs
sees_same old new cs same = rw same (sees_itself old cs)

pub sees_on : (a b c : Shown) (cs : List Open) → SeesSame a b cs → SeesSame b c cs → SeesSame a c cs
sees_on a b c cs first then = record { each = each cs first.each then.each }
  where
    each : (ds : List Open) → AllByRecursion (λ (d : Open). seen_by b d ≡ seen_by a d) ds → AllByRecursion (λ (d : Open). seen_by c d ≡ seen_by b d) ds → AllByRecursion (λ (d : Open). seen_by c d ≡ seen_by a d) ds
    each [] f t = tt
    each (d ∷ ds) f t = (t.0 ∙ f.0, each ds f.1 t.1)

-- one call after another, the second of which leaves the cursors
pub sees_then : (a b c : Shown) (cs ds : List Open) → SeesSame a b cs → SeesSame b c ds → ds ≡ cs → SeesSame a c ds
sees_then a b c cs ds first then same = sees_on a b c ds (subst (SeesSame a b) (sym same) first) then

pub sees_none : (old new : Shown) (cs : List Open) → cs ≡ [] → SeesSame old new cs
sees_none old new cs none = rw none (record { each = tt })

pub sees_kept : (old new : Shown) (schema later : Schema) (was is : Transactions) (cs : List Open) → Kept old new → IsTied old schema was → IsTied new later is → SameBases was.active is.active cs → AllByRecursion (IsOpen old schema was.active) cs → SeesSame old new cs
sees_kept old new schema later was is cs kept before after same h = record { each = each cs same h }
  where
    each : (ds : List Open) → SameBases was.active is.active ds → AllByRecursion (IsOpen old schema was.active) ds → AllByRecursion (λ (d : Open). seen_by new d ≡ seen_by old d) ds
    each [] s o = tt
    each (d ∷ ds) s o = (ap (λ (x : Shown). laid_over x d.frozen) (snapshot_same old new schema later was is d kept before after s.0 o.0), each ds s.1 o.1)
