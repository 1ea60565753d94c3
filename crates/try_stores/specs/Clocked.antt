-- Records under a clock.
use Rattle.std.specs.Prelude.{◌≡◌, ℕ, ◌+◌, ◌≤◌}
use Rattle.rv_records.specs.Pages.{IsBelow, Kept}

-- no version is above the last commit, and the horizon is not above it
pub record Stands (last horizon : ℕ) (kept : Kept) : Type 0 where
  pub same : kept.horizon ≡ horizon
  pub order : horizon ≤ last
  pub newest : IsBelow (last + 1) kept
