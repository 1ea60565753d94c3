-- What an access holds stands in a box. A call on it leaves the box and changes the value inside.
use Rattle.std.proofs.Common.{◌≡◌, Box, ap, sym, ◌∙◌, subst}
use Rattle.std.specs.Box.{with_value}
use Rattle.std.specs.declared.alloc.Global.{Global}
use Rattle.rv_retrieval.specs.Shape.{Shape}
use Rattle.rv_reader.specs.Shown.{Shown}
use Rattle.rv_access.specs.declared.access.Access.{Access}
use Rattle.rv_access.specs.declared.access.Access.TheVariants.{Competing, Racing, Uniting}
use Rattle.rv_access.specs.declared.racing.RacedQuery.{RacedQuery}
use Rattle.rv_access.specs.declared.uniting.UnitedQuery.{UnitedQuery}
use Rattle.rv_access.specs.Accesses.{AccessFits, RacedFits, UnitedFits}

-- the access of a box with this value
abbrev pub with_retrieval : Box Shape Global → Shape → Access
with_retrieval b v = Competing (with_value b v)

abbrev pub with_race : Box RacedQuery Global → RacedQuery → Access
with_race b r = Racing (with_value b r)

abbrev pub with_union : Box UnitedQuery Global → UnitedQuery → Access
with_union b u = Uniting (with_value b u)

-- what is borrowed of a box is the value that it has
pub has_retrieval : {a : Access} {b : Box Shape Global} {v : Shape} → a ≡ Competing b → v ≡ b.value → a ≡ with_retrieval b v
has_retrieval {a} {b} {v} is e = is ∙ ap (with_retrieval b) (sym e)

pub has_race : {a : Access} {b : Box RacedQuery Global} {r : RacedQuery} → a ≡ Racing b → r ≡ b.value → a ≡ with_race b r
has_race {a} {b} {r} is e = is ∙ ap (with_race b) (sym e)

pub has_union : {a : Access} {b : Box UnitedQuery Global} {u : UnitedQuery} → a ≡ Uniting b → u ≡ b.value → a ≡ with_union b u
has_union {a} {b} {u} is e = is ∙ ap (with_union b) (sym e)

-- what was drawn from what a reader shows
pub race_fits : {a : Access} {r : RacedQuery} (b : Box RacedQuery Global) (shown : Shown) → a ≡ with_race b r → AccessFits a shown → RacedFits r shown
race_fits {a} {r} b shown is fits = subst (λ (x : Access). AccessFits x shown) is fits

pub union_fits : {a : Access} {u : UnitedQuery} (b : Box UnitedQuery Global) (shown : Shown) → a ≡ with_union b u → AccessFits a shown → UnitedFits u shown
union_fits {a} {u} b shown is fits = subst (λ (x : Access). AccessFits x shown) is fits

-- what is said of a box with this value is said of the box that was made of it
pub boxed_race : (P : Access → Type 0) (b : Box RacedQuery Global) (r : RacedQuery) → b.value ≡ r → P (with_race b r) → P (Racing b)
boxed_race P b r e p = subst (λ (x : RacedQuery). P (with_race b x)) (sym e) p

pub boxed_union : (P : Access → Type 0) (b : Box UnitedQuery Global) (u : UnitedQuery) → b.value ≡ u → P (with_union b u) → P (Uniting b)
boxed_union P b u e p = subst (λ (x : UnitedQuery). P (with_union b x)) (sym e) p
