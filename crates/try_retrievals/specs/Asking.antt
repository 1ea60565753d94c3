-- What is asked of the table.
use Rattle.std.specs.Prelude.{◌≡◌, ℕ, ◌<◌, ◌||◌, ◌⊎◌, List, [], ◌∷◌, ◌++◌, true, Option, Some, None, is_some, if◌then◌else◌, map, nat_eq, length, ◌≤◌}
use Rattle.std.specs.List.{AllByRecursion, IsDistinct}
use Rattle.rv_value.specs.declared.value.Value.TheVariants.{Int}
use Rattle.rv_restrict.specs.declared.atom.Atom.{Atom}
use Rattle.rv_restrict.specs.declared.atom.Atom.TheVariants.{Between}
use Rattle.rv_choice.specs.declared.query.Query.{Query}
use Rattle.rv_choice.specs.Asked.{begins_any}
use Rattle.try_retrievals.specs.declared.asked.Span.{Span}
use Rattle.try_retrievals.specs.declared.asked.Either.{Either}
use Rattle.try_retrievals.specs.declared.asked.Asked.{Asked}
use Rattle.rv_loading.specs.declared.schema.Loaded.{Loaded}
use Rattle.rv_loading.specs.Laid.{over_at}

-- the columns needed
abbrev pub needed : Asked → List ℕ
needed asked = if asked.whole || (is_some asked.second || is_some asked.either) then 0 ∷ 1 ∷ 2 ∷ [] else 0 ∷ 2 ∷ []

-- a column lies in a span
abbrev pub span_atoms : ℕ → Option Span → List Atom
span_atoms column None = []
span_atoms column (Some span) = Between (record { place = 0; column = column }) (Int span.low) (Int span.high) ∷ []

abbrev pub span_group : ℕ → Option Span → List (List Atom)
span_group column None = []
span_group column (Some span) =
    (Between (record { place = 0; column = column }) (Int span.low) (Int span.high) ∷ []) ∷ []

-- some column lies in its span
abbrev pub either_atoms : Either → List Atom
either_atoms e = span_atoms 0 e.first ++ span_atoms 1 e.second ++ span_atoms 2 e.third ++ span_atoms 0 e.again

abbrev pub either_group : Option Either → List (List Atom)
either_group None = []
either_group (Some e) = either_atoms e ∷ []

-- the restriction: each column lies in its span, where it has one, and one of those lies in its span of which one is
-- enough
abbrev pub spans_of : Asked → List (List Atom)
spans_of asked =
    span_group 0 asked.first ++ span_group 1 asked.second ++ span_group 2 asked.third ++ either_group asked.either

-- one of the indexes over the table, with its columns
pub record IsOurs (loaded : Loaded) (below : ℕ) (i : ℕ × List ℕ) : Type 0 where
  pub index : i.0 < below
  pub there : i.0 < loaded.layout.indexes
  pub table : (over_at loaded.schema.indexes i.0).table ≡ 0
  pub columns : i.1 ≡ (over_at loaded.schema.indexes i.0).columns

-- some of the indexes below a number, each once
pub record Chosen (loaded : Loaded) (below : ℕ) (indexes : List (ℕ × List ℕ)) : Type 0 where
  pub few : length indexes ≤ below
  pub ours : AllByRecursion (IsOurs loaded below) indexes
  pub different : IsDistinct nat_eq (map (λ (i : ℕ × List ℕ). i.0) indexes)

-- no order, or that of the third column, which some index has
abbrev pub IsOrder : List (ℕ × List ℕ) → List ℕ → Type 0
IsOrder indexes order = (order ≡ []) ⊎ ((order ≡ 2 ∷ []) × (begins_any indexes (2 ∷ []) ≡ true))

-- the query for what is asked
pub record IsQuery (loaded : Loaded) (asked : Asked) (query : Query) : Type 0 where
  pub table : query.table ≡ 0
  pub at_snap : query.snap ≡ loaded.snap
  pub only : query.only ≡ spans_of asked
  pub indexes : Chosen loaded 4 query.indexes
  pub need : query.need ≡ needed asked
  pub order : IsOrder query.indexes query.order
