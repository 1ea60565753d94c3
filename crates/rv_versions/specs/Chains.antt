-- versions of one value, in the order of their commits
use Rattle.std.specs.Prelude.{ℕ, ◌+◌, ◌<◌, ◌≤◌, ◌≡◌, List, [], ◌∷◌, Option, Some, None, nat_le, if◌then◌else◌, slice_index_or}
use Rattle.rv_versions.specs.declared.chain.Version.{Version}

-- the value at a snapshot: that of the last version not above it
abbrev pub value_from : {T : Type 0} → Option T → List (Version T) → ℕ → Option T
value_from best [] snap = best
value_from best (v ∷ vs) snap = value_from (if nat_le v.commit snap then Some v.value else best) vs snap

abbrev pub value_at : {T : Type 0} → List (Version T) → ℕ → Option T
value_at vs snap = value_from None vs snap

-- commits ascend from one number on
abbrev pub AscendFrom : {T : Type 0} → ℕ → List (Version T) → Type 0
AscendFrom low [] = Unit {0}
AscendFrom low (v ∷ vs) = (low ≤ v.commit) × AscendFrom (v.commit + 1) vs

-- every commit is below a number
abbrev pub AllBelow : {T : Type 0} → ℕ → List (Version T) → Type 0
AllBelow high [] = Unit {0}
AllBelow high (v ∷ vs) = (v.commit < high) × AllBelow high vs

-- how many versions stand at or below a snapshot
abbrev pub versions_to : {T : Type 0} → ℕ → List (Version T) → ℕ
versions_to horizon [] = 0
versions_to horizon (v ∷ vs) = (if nat_le v.commit horizon then 1 else 0) + versions_to horizon vs

-- a write at a commit changes the value from that commit on
abbrev pub IsWritten : {T : Type 0} → ℕ → T → List (Version T) → List (Version T) → Type 0
IsWritten commit value old new =
    (snap : ℕ) → value_at new snap ≡ (if nat_le commit snap then Some value else value_at old snap)

-- the value of an id at a snapshot; an id past the end has none
abbrev pub value_of : {T : Type 0} → List (List (Version T)) → ℕ → ℕ → Option T
value_of chains id snap = value_at (slice_index_or chains id []) snap

-- no version is at or above a commit
abbrev pub AllChainsBelow : {T : Type 0} → ℕ → List (List (Version T)) → Type 0
AllChainsBelow high chains = (id : ℕ) → AllBelow high (slice_index_or chains id [])

-- a write of one id
pub record IsPut (T : Type 0) (id commit : ℕ) (value : T) (old new : List (List (Version T))) : Type 0 where
  pub there : (snap : ℕ) → value_of new id snap ≡ (if nat_le commit snap then Some value else value_of old id snap)
  pub others : (other snap : ℕ) → (other ≡ id → ⊥) → value_of new other snap ≡ value_of old other snap

-- more places, without a version
abbrev pub IsFilled : {T : Type 0} → List (List (Version T)) → List (List (Version T)) → Type 0
IsFilled old new = (id : ℕ) → slice_index_or new id [] ≡ slice_index_or old id []
