-- The transactions beside a statement's own, one after another.
use Rattle.std.proofs.Common.{◌≡◌, ℕ, suc, List, [], ◌∷◌, ◌++◌, true, not, ◌&&◌, ◌==◌, Some, refl, ap, sym, subst, ◌∙◌, map, take, ◌≤◌, Bool, false, Option, cond, length}
use Rattle.std.specs.Prelude.{slice_get}
use Rattle.std.specs.List.{AllByRecursion}
use Rattle.std.proofs.lemmas.List.Quantifiers.{position-Some}
use Rattle.rv_value.specs.declared.record.IndexEntry.{IndexEntry}
use Rattle.rv_rows.specs.declared.changes.Change.{Change}
use Rattle.rv_reader.specs.Shown.{Shown, IsSnapshot}
use Rattle.rv_reader.specs.Storing.{IsStored}
use Rattle.rv_overlay.specs.declared.frozen.Frozen.{Frozen}
use Rattle.rv_view.specs.Making.{AreIndexes}
use Rattle.rv_own.specs.Views.{CanKeep, CanView, Freezes}
use Rattle.rv_rivals.proofs.Places.{statement_rows}
use Rattle.rv_rivals.proofs.Telling.{has_index}
use Rattle.std.proofs.lemmas.Option.{slice_get_within}
use Rattle.std.proofs.lemmas.List.Elements.{filter-append}
use Rattle.std.specs.Cmp.{second_so}
use Rattle.rv_value.proofs.Lists.{all_at, all_got}
use Rattle.rv_value.proofs.Places.{read_as}
use Rattle.rv_rows.specs.Changes.{touches}
use Rattle.rv_model.specs.declared.transactions.Transaction.{Transaction}
use Rattle.rv_catalog.specs.declared.def.IndexDef.{IndexDef}
use Rattle.rv_model.specs.Rivals.{unique_over}
use Rattle.rv_model.specs.Transactions.{no_transaction, transaction_of}
use Rattle.rv_txn.specs.Apart.{are_apart}
use Rattle.rv_txn.proofs.Apart.{apart_place}
use Rattle.rv_rivals.specs.Lookups.{CanTest, CanTestOther, IsPlace, IsPlaced, entries_written, touching}
use Rattle.rv_rivals.proofs.Entries.{take_next}

pub placed_at : (active : List Transaction) (k : ℕ) (t : Transaction) → are_apart active ≡ true → slice_get active k ≡ Some t → IsPlaced active t
placed_at active k t apart is =
    let here = read_as active k t no_transaction is in
    record {
      place = k;
      found = subst (λ (u : Transaction). transaction_of active u.session ≡ Some k) here (apart_place active k apart (slice_get_within active k t is));
      here = here;
    }

pub touching_next : (table session : ℕ) (active : List Transaction) (k : ℕ) (t : Transaction) → slice_get active k ≡ Some t → touching table session (take k active) ++ touching table session (t ∷ []) ≡ touching table session (take (suc k) active)
touching_next table session active k t is =
    sym (filter-append (λ (u : Transaction). not (u.session == session) && touches table u.changes) (take k active) (t ∷ [])) ∙ ap (touching table session) (sym (take_next active k t is))

-- and the unique indexes

columns_joined : (xs ys : List IndexDef) → map (λ (d : IndexDef). d.columns) xs ++ map (λ (d : IndexDef). d.columns) ys ≡ map (λ (d : IndexDef). d.columns) (xs ++ ys)
columns_joined [] ys = refl
columns_joined (x ∷ xs) ys = ap (λ cs. x.columns ∷ cs) (columns_joined xs ys)

pub unique_next : (table : ℕ) (indexes : List IndexDef) (k : ℕ) (d : IndexDef) → slice_get indexes k ≡ Some d
    → map (λ (x : IndexDef). x.columns) (unique_over table (take k indexes)) ++ map (λ (x : IndexDef). x.columns) (unique_over table (d ∷ [])) ≡ map (λ (x : IndexDef). x.columns) (unique_over table (take (suc k) indexes))
unique_next table indexes k d is =
    columns_joined (unique_over table (take k indexes)) (unique_over table (d ∷ []))
    ∙ ap (map (λ (x : IndexDef). x.columns)) (sym (filter-append (λ (x : IndexDef). x.unique && (x.table == table)) (take k indexes) (d ∷ [])) ∙ ap (unique_over table) (sym (take_next indexes k d is)))

-- what is asked where a key is looked up

pub own_has : (P : Transaction → Type 0) (active : List Transaction) (own : Transaction) → IsPlaced active own → AllByRecursion P active → P own
own_has P active own placed all = subst P placed.here (all_at P active placed.place no_transaction all (position-Some (λ (t : Transaction). t.session == own.session) active placed.place no_transaction placed.found).0)

pub can_test : (shown : Shown) (indexes : List IndexDef) (table number : ℕ) (columns : List ℕ) (own : Transaction) (view : Option Frozen) (entries : List IndexEntry) (new : List Change) → IsStored shown → AreIndexes shown indexes → IsPlace indexes table number columns → IsSnapshot shown own.base → Freezes shown own view
    → entries ≡ entries_written columns table new → CanTest shown table number columns own view entries
can_test shown indexes table number columns own view entries new stored are place at freezes told =
    let long = all_got (λ (d : IndexDef). (1 ≤ length d.columns) × (length d.columns ≤ 4)) indexes number place.def are.columns place.at in
    record {
      stored = stored;
      index = has_index shown indexes table number columns are place;
      some = subst (λ (cs : List ℕ). 1 ≤ length cs) place.of long.0;
      few = subst (λ (cs : List ℕ). length cs ≤ 4) place.of long.1;
      at = at;
      freezes = freezes;
      rows = statement_rows table columns entries new told;
    }

pub all_both : {X : Type 0} (P Q R : X → Type 0) → ((x : X) → P x → Q x → R x) → (xs : List X) → AllByRecursion P xs → AllByRecursion Q xs → AllByRecursion R xs
all_both P Q R more [] p q = tt
all_both P Q R more (x ∷ xs) p q = (more x p.0 q.0, all_both P Q R more xs p.1 q.1)

unmapped : {X : Type 0} (P : Transaction → Type 0) (f : X → Transaction) (xs : List X) → AllByRecursion P (map f xs) → AllByRecursion (λ x. P (f x)) xs
unmapped P f [] all = tt
unmapped P f (x ∷ xs) all = (all.0, unmapped P f xs all.1)

touched_at : (shown : Shown) (table base : ℕ) (cs : List Change) → touches table cs ≡ true → AllByRecursion (CanKeep shown base) cs → IsSnapshot shown base
touched_at shown table base [] h all = cc
touched_at shown table base (c ∷ cs) h all = all.0.read.snapshot

snapshots : (shown : Shown) (indexes : List IndexDef) (table session : ℕ) (active : List Transaction) → AllByRecursion (λ (t : Transaction). CanView shown indexes t []) active → AllByRecursion (λ (t : Transaction). IsSnapshot shown t.base) (touching table session active)
snapshots shown indexes table session [] all = tt
snapshots shown indexes table session (t ∷ ts) all = by (not (t.session == session) && touches table t.changes) refl (snapshots shown indexes table session ts all.1)
  where
    by : (b : Bool) → (not (t.session == session) && touches table t.changes) ≡ b → AllByRecursion (λ (u : Transaction). IsSnapshot shown u.base) (touching table session ts)
        → AllByRecursion (λ (u : Transaction). IsSnapshot shown u.base) (cond b (t ∷ touching table session ts) (touching table session ts))
    by true is rest = (touched_at shown table t.base t.changes (second_so (not (t.session == session)) (touches table t.changes) is) all.0.own, rest)
    by false is rest = rest

pub others_can : {X : Type 0} (shown : Shown) (indexes : List IndexDef) (table session : ℕ) (active : List Transaction) (f : X → Transaction) (v : X → Option Frozen) (xs : List X) → AllByRecursion (λ (t : Transaction). CanView shown indexes t []) active → map f xs ≡ touching table session active
    → AllByRecursion (λ x. Freezes shown (f x) (v x)) xs → AllByRecursion (λ x. CanTestOther shown (f x) (v x)) xs
others_can shown indexes table session active f v xs all are each =
    all_both (λ x. IsSnapshot shown (f x).base) (λ x. Freezes shown (f x) (v x)) (λ x. CanTestOther shown (f x) (v x)) (λ x at freezes. record { at = at; freezes = freezes }) xs
    (unmapped (λ (t : Transaction). IsSnapshot shown t.base) f xs (subst (AllByRecursion (λ (t : Transaction). IsSnapshot shown t.base)) (sym are) (snapshots shown indexes table session active all))) each
