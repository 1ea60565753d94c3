-- The views of the transactions that have changes, kept up to date with these.
use Rattle.std.specs.Prelude.{◌≡◌, ℕ, ◌<◌, ◌==◌, List, [], ◌∷◌, ◌++◌, Option, Some, None, ◌⊎◌, not, filter, find, if◌then◌else◌}
use Rattle.std.specs.List.{AllByRecursion}
use Rattle.rv_rows.specs.declared.changes.Change.{Change}
use Rattle.rv_catalog.specs.declared.def.IndexDef.{IndexDef}
use Rattle.rv_reader.specs.Shown.{Shown, CanRead}
use Rattle.rv_overlay.specs.declared.frozen.Frozen.{Frozen}
use Rattle.rv_model.specs.declared.transactions.Transaction.{Transaction}
use Rattle.rv_view.specs.Making.{AreIndexes, Keeps}
use Rattle.rv_own.specs.declared.views.OwnView.{OwnView}

-- the base and the changes of the session's transaction, where it has one
abbrev pub base_in : List Transaction → ℕ → Option ℕ
base_in [] session = None
base_in (t ∷ ts) session = if t.session == session then Some t.base else base_in ts session

abbrev pub changes_in : List Transaction → ℕ → List Change
changes_in [] session = []
changes_in (t ∷ ts) session = if t.session == session then t.changes else changes_in ts session

-- what is kept for a session is what these changes make, over the store at a commit
pub record IsMadeOf (shown : Shown) (owner commit : ℕ) (these : List Change) (v : OwnView) : Type 0 where
  pub session : v.session ≡ owner
  pub base : v.view.base ≡ commit
  pub changes : v.view.changes ≡ these
  pub keeps : Keeps shown v.view v.written

-- WHAT IS KEPT FOR A SESSION IS WHAT THE CHANGES OF ITS TRANSACTION MAKE, over the store at the transaction's base
pub record IsViewOf (shown : Shown) (active : List Transaction) (v : OwnView) : Type 0 where
  pub base : base_in active v.session ≡ Some v.view.base
  pub changes : changes_in active v.session ≡ v.view.changes
  pub keeps : Keeps shown v.view v.written

abbrev pub AreViews : Shown → List Transaction → List OwnView → Type 0
AreViews shown active views = AllByRecursion (IsViewOf shown active) views

-- the view that is kept for a session, where one is
abbrev pub view_of : ℕ → List OwnView → Option OwnView
view_of session views = find (λ (v : OwnView). v.session == session) views

-- the views of other sessions' transactions
abbrev pub others : ℕ → List OwnView → List OwnView
others session views = filter (λ (v : OwnView). not (v.session == session)) views

-- one view more may stand behind those that were kept, and is then such a one
abbrev pub MayJoin : (OwnView → Type 0) → List OwnView → List OwnView → Type 0
MayJoin P old new = (new ≡ old) ⊎ ((v : OwnView) × (new ≡ old ++ v ∷ []) × P v)

-- where a view is kept for the transaction's session, it is what the transaction's changes make
abbrev pub IsOwnOf : Shown → Transaction → OwnView → Type 0
IsOwnOf shown t v = v.session ≡ t.session → IsMadeOf shown t.session t.base t.changes v

abbrev pub AreOwn : Shown → Transaction → List OwnView → Type 0
AreOwn shown t views = AllByRecursion (IsOwnOf shown t) views

-- a change of a table that is there at a commit, with a row number that fits
pub record CanKeep (shown : Shown) (base : ℕ) (c : Change) : Type 0 where
  pub read : CanRead shown c.table base
  pub low : c.row.0 < 4294967296

-- what is asked of a transaction and of changes that are about to be put: the indexes of the schema are those of the
-- store, and all changes are of tables that are there
pub record CanView (shown : Shown) (indexes : List IndexDef) (t : Transaction) (new : List Change) : Type 0 where
  pub indexed : AreIndexes shown indexes
  pub own : AllByRecursion (CanKeep shown t.base) t.changes
  pub new_ones : AllByRecursion (CanKeep shown t.base) new

-- WHAT FREEZING GIVES: nothing of a transaction without changes, else what its changes make
pub record IsFrozenOf (shown : Shown) (t : Transaction) (f : Frozen) : Type 0 where
  pub base : f.base ≡ t.base
  pub changes : f.changes ≡ t.changes
  pub written : List Change
  pub keeps : Keeps shown f written

abbrev pub Freezes : Shown → Transaction → Option Frozen → Type 0
Freezes shown t None = t.changes ≡ []
Freezes shown t (Some f) = IsFrozenOf shown t f
