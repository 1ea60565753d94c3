-- What is kept of transactions' views stays, whatever happens to the store and to other transactions.
use Rattle.std.proofs.Common.{◌≡◌, ℕ, ◌<◌, List, [], ◌∷◌, ◌++◌, true, false, not, ◌==◌, inl, inr, refl, ap, sym, ◌∙◌, subst, arith, remove, Ok, Some, None, IfSome, Bool}
use Rattle.std.specs.List.{AllByRecursion}
use Rattle.std.proofs.lemmas.Bool.{cases_Bool}
use Rattle.std.proofs.lemmas.Bool.Decides.{nat_tests}
use Rattle.rv_value.proofs.Lists.{all_filter}
use Rattle.rv_rows.specs.declared.changes.Change.{Change}
use Rattle.rv_catalog.specs.Schema.{Schema}
use Rattle.rv_reader.specs.Shown.{Shown, CanRead, IsSnapshot}
use Rattle.rv_reader.specs.Storing.{IsSame, IsStored, Swept}
use Rattle.rv_overlay.specs.declared.frozen.Frozen.{Frozen}
use Rattle.rv_overlay.specs.Overlaid.{part_at}
use Rattle.rv_view.specs.Making.{Keeps, KeepsPart}
use Rattle.rv_model.specs.declared.transactions.Transaction.{Transaction}
use Rattle.rv_model.specs.declared.transactions.Transactions.{Transactions}
use Rattle.rv_model.specs.Transactions as calls
use Rattle.rv_model.specs.Transactions.{done, horizon, lowest, transaction_at, transaction_of}
use Rattle.rv_own.specs.declared.views.OwnView.{OwnView}
use Rattle.rv_own.specs.Views.{AreViews, changes_in, others as other_views}
use Rattle.rv_txn.specs.Calls.{finished, rolled_back as undone}
use Rattle.rv_core.specs.Db.{IsActive, IsTied, base_of}
use Rattle.rv_core.specs.Storing.{CommitsTo}
use Rattle.rv_core.proofs.Bases.{base_known, base_pushed, base_without, changes_pushed, changes_without}
use Rattle.rv_core.proofs.Calling.{commits_tied}
use Rattle.rv_core.proofs.Databases.{commit_own, commits_kept, own_is}
use Rattle.rv_core.proofs.Keeping.{Kept, kept_same, kept_swept}
use Rattle.rv_core.proofs.Standing.{begun_is, rolled_is}
use Rattle.rv_core.proofs.Tied.{none_lowest, tied_swept}

-- Views of transactions stay as they are, whatever happens to the store and to other transactions.

keeps_stay : (old new : Shown) (f : Frozen) (written : List Change) → Kept old new → IsStored old → IsSnapshot old f.base → IsSnapshot new f.base → Keeps old f written → Keeps new f written
keeps_stay old new f written kept stored was is keeps = record {
  rise = keeps.rise;
  low = keeps.low;
  told = keeps.told;
  parts = keeps.parts ∙ sym kept.indexes;
  each = λ index can.
      let there : index < old.indexes = omega (arith, can.there, kept.indexes) in
      let read : CanRead old (old.over index) f.base = record { there = (stored.over index there).table; snapshot = was } in
      let same : KeepsPart (old.keys index) (old.over index) f.changes (old.rows (old.over index) f.base) (part_at f.parts index) = keeps.each index (record { there = there; snapshot = was }) in
      rw (kept.stays.keys index there, kept.stays.over index there, kept.stays.rows (old.over index) f.base read is) same;
  sized = λ table can.
      let read : CanRead old table f.base = record { there = omega (arith, can.there, kept.tables); snapshot = was } in
      rw (kept.stays.rows table f.base read is, kept.stays.pages table f.base read is) (keeps.sized table read);
  others = keeps.others;
}

-- of each view the base and the changes of the session's transaction stay
abbrev pub SameOwns : List Transaction → List Transaction → List OwnView → Type 0
SameOwns old new = AllByRecursion (λ (v : OwnView). (base_of new v.session ≡ base_of old v.session) × (changes_in new v.session ≡ changes_in old v.session))

pub views_stay : (old new : Shown) (was is : Transactions) (views : List OwnView) → Kept old new → IsStored old → AllByRecursion (IsActive old was.touched) was.active → AllByRecursion (IsActive new is.touched) is.active
    → SameOwns was.active is.active views → AreViews old was.active views → AreViews new is.active views
views_stay old new was is [] kept stored before after same h = tt
views_stay old new was is (v ∷ views) kept stored before after same h =
    let here = base_known old was.touched was.active v.session v.view.base h.0.base before in
    let there = base_known new is.touched is.active v.session v.view.base (same.0.0 ∙ h.0.base) after in
    (record { base = same.0.0 ∙ h.0.base; changes = same.0.1 ∙ h.0.changes; keeps = keeps_stay old new v.view v.written kept stored here there h.0.keeps }, views_stay old new was is views kept stored before after same.1 h.1)

-- without a transaction no view is kept
pub none_viewed : (shown : Shown) (active : List Transaction) (views : List OwnView) → active ≡ [] → AreViews shown active views → views ≡ []
none_viewed shown active [] e h = refl
none_viewed shown active (v ∷ views) e h =
    let none : base_of active v.session ≡ None = ap (λ (ts : List Transaction). base_of ts v.session) e in
    absurd (apart v.view.base (sym h.0.base ∙ none))
  where
    apart : (n : ℕ) → Some n ≡ None → ⊥
    apart n k = cc

-- the store stays
views_over : (shown : Shown) (was is : List Transaction) (views : List OwnView) → SameOwns was is views → AreViews shown was views → AreViews shown is views
views_over shown was is [] same h = tt
views_over shown was is (v ∷ views) same h = (record { base = same.0.0 ∙ h.0.base; changes = same.0.1 ∙ h.0.changes; keeps = h.0.keeps }, views_over shown was is views same.1 h.1)

same_owns : (active : List Transaction) (views : List OwnView) → SameOwns active active views
same_owns active [] = tt
same_owns active (v ∷ views) = ((refl, refl), same_owns active views)

-- a transaction begins
begun_owns : (shown : Shown) (active : List Transaction) (t : Transaction) (views : List OwnView) → AreViews shown active views → SameOwns active (active ++ t ∷ []) views
begun_owns shown active t [] h = tt
begun_owns shown active t (v ∷ views) h = ((base_pushed active t v.session v.view.base h.0.base ∙ sym h.0.base, changes_pushed active t v.session v.view.base h.0.base), begun_owns shown active t views h.1)

-- a session's transaction is gone, and its view with it
gone_owns : (active : List Transaction) (own session : ℕ) (views : List OwnView) → ((transaction_at active own).session == session) ≡ true → SameOwns active (remove active own) (other_views session views)
gone_owns active own session [] here = tt
gone_owns active own session (v ∷ views) here =
    let rest = gone_owns active own session views here in
    elim (cases_Bool (v.session == session)) [
      | inl same ↦ rw same rest
      | inr other ↦
          let apart : ((transaction_at active own).session == v.session) ≡ false = grind (arith, nat_tests) in
          rw other ((base_without active own v.session apart, changes_without active own v.session apart), rest)
    ]

-- Call by call.

pub views_same : (old new : Shown) (schema left : Schema) (txns : Transactions) (views : List OwnView) → IsStored old → IsSame old new → IsTied old schema txns → IsTied new left txns → AreViews old txns.active views → AreViews new txns.active views
views_same old new schema left txns views stored same before after h = views_stay old new txns txns views (kept_same old new same) stored before.active after.active (same_owns txns.active views) h

pub views_idle : (old new : Shown) (active : List Transaction) (views : List OwnView) → lowest active ≡ None → AreViews old active views → AreViews new active views
views_idle old new active views idle h = let none = none_viewed old active views (none_lowest active idle) h in rw none tt

pub views_begun : (shown : Shown) (txns new : Transactions) (views : List OwnView) (session k : ℕ) (read_only : Bool) → calls.began txns session read_only shown.newest ≡ Ok (k, new) → AreViews shown txns.active views → AreViews shown new.active views
views_begun shown txns new views session k read_only did h =
    let b = begun_is txns session read_only shown.newest k new did in
    let t : Transaction = record { number = txns.next; session = session; read_only = read_only; base = shown.newest; changes = [] } in
    let active : new.active ≡ txns.active ++ t ∷ [] = ap (λ (x : Transactions). x.active) b.1 in
    subst (λ (a : List Transaction). AreViews shown a views) (sym active) (views_over shown txns.active (txns.active ++ t ∷ []) views (begun_owns shown txns.active t views h) h)

-- a session's view is let go
pub views_gone : (shown : Shown) (active : List Transaction) (views kept : List OwnView) (session : ℕ) → kept ≡ other_views session views → AreViews shown active views → AreViews shown active kept
views_gone shown active views kept session same h = subst (AreViews shown active) (sym same) (all_filter _ (λ (v : OwnView). not (v.session == session)) views h)

pub views_committed : (old new : Shown) (schema : Schema) (txns left : Transactions) (views kept : List OwnView) (session k base c : ℕ) (changes : List Change) → IsStored old → finished txns session ≡ Ok (k, base, changes) → CommitsTo old new base changes c → IfSome (transaction_of txns.active session) (λ own. left ≡ done txns own c)
    → kept ≡ other_views session views → IsTied old schema txns → AreViews old txns.active views → AreViews new left.active kept
views_committed old new schema txns left views kept session k base c changes stored did told is same tied h =
    let after = commits_tied old new schema txns left session k base c changes tied did told is in
    let own = commit_own txns left session k base c changes did is in
    let owns : SameOwns txns.active left.active (other_views session views) = subst (λ (a : List Transaction). SameOwns txns.active a (other_views session views)) (sym own.2) (gone_owns txns.active own.0 session views (own_is txns.active session own.0 own.1)) in
    subst (AreViews new left.active) (sym same) (views_stay old new txns left (other_views session views) (commits_kept old new base c changes told) stored tied.active after.active owns (all_filter _ (λ (v : OwnView). not (v.session == session)) views h))

pub views_undone : (shown : Shown) (txns left : Transactions) (views kept : List OwnView) (session : ℕ) → undone txns session ≡ Ok left → kept ≡ other_views session views → AreViews shown txns.active views → AreViews shown left.active kept
views_undone shown txns left views kept session did same h =
    let r = rolled_is txns left session did in
    let owns : SameOwns txns.active left.active (other_views session views) = subst (λ (a : List Transaction). SameOwns txns.active a (other_views session views)) (sym (ap (λ (t : Transactions). t.active) r.2)) (gone_owns txns.active r.0 session views (own_is txns.active session r.0 r.1)) in
    subst (AreViews shown left.active) (sym same) (views_over shown txns.active left.active (other_views session views) owns (all_filter _ (λ (v : OwnView). not (v.session == session)) views h))

pub views_swept : (old new : Shown) (schema : Schema) (txns : Transactions) (views : List OwnView) (newest low : ℕ) → IsStored old → newest ≡ old.newest → low ≡ horizon txns.active newest → Swept old new low → IsTied old schema txns → AreViews old txns.active views → AreViews new txns.active views
views_swept old new schema txns views newest low stored is at swept tied h = views_stay old new txns txns views (kept_swept old new low swept) stored tied.active (tied_swept old new schema txns newest low is at swept tied).active (same_owns txns.active views) h
