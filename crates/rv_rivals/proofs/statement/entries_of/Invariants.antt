use Rattle.std.proofs.Common.{◌≡◌, ℕ, take}
use Rattle.std.specs.List.{AllByRecursion}
use Rattle.rv_rows.specs.declared.changes.Change.{Change}
use Rattle.rv_reader.specs.Entries.{entries_of}
use Rattle.rv_rivals.proofs.Entries.{given}
use Rattle.rv_rivals.proofs.statement.entries_of.Given as goal

-- the entries so far are those of the rows that the changes so far write
abbrev pub invariant-changes : goal.invariant-changes
invariant-changes l = (table : ℕ) → AllByRecursion (λ (c : Change). c.table ≡ table) l.new → l.entries ≡ entries_of l.columns (given (take l.change-index l.new))
