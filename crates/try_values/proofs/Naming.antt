-- A row has the columns of place 0 below its length.
use Rattle.std.proofs.Common.{◌≡◌, ℕ, List, ◌&&◌, ◌==◌, nat_lt, length, arith}
use Rattle.std.proofs.lemmas.Bool.Decides.{nat_tests}
use Rattle.rv_value.specs.declared.value.Value.{Value}
use Rattle.rv_restrict.specs.declared.atom.Atom.{Atom}
use Rattle.rv_restrict.specs.declared.atom.ColRef.{ColRef}
use Rattle.rv_restrict.specs.Truth.{names_only, row_has}
use Rattle.rv_loading.specs.Naming.{is_column}

home : (place : ℕ) → nat_lt place 1 ≡ (place == 0)
home place = grind (arith, nat_tests)

pub home_names : (row : List Value) (only : List (List Atom)) → names_only (is_column 1 (length row)) only ≡ names_only (row_has row) only
home_names row only = λ i. names_only (λ (c : ColRef). home c.place i && nat_lt c.column (length row)) only
