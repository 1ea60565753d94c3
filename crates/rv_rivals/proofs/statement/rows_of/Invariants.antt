use Rattle.std.proofs.Common.{◌≡◌, ℕ, take}
use Rattle.rv_rows.specs.Changes.{has_change}
use Rattle.rv_rivals.proofs.statement.rows_of.Given as goal

-- the rows so far are those of the changes so far
abbrev pub invariant-changes : goal.invariant-changes
invariant-changes l = (table : ℕ) (row : ℕ) → has_change table row l.rows ≡ has_change table row (take l.change-index l.new)
