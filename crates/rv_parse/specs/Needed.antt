-- The lists that a statement is never without.
use Rattle.std.specs.Prelude.{◌≤◌, length}
use Rattle.rv_lang.specs.declared.statement.Statement.{Statement}
use Rattle.rv_lang.specs.declared.statement.Statement.TheVariants.{CreateTable, CreateIndex, Insert, Update, Open}

-- columns of CREATE, values of INSERT, what UPDATE sets, items of FROM
abbrev pub HasParts : Statement → Type 0
HasParts (CreateTable table columns) = 1 ≤ length columns
HasParts (CreateIndex unique index table columns) = 1 ≤ length columns
HasParts (Insert table values) = 1 ≤ length values
HasParts (Update table sets only) = 1 ≤ length sets
HasParts (Open cursor columns items only by goal) = 1 ≤ length items
HasParts statement = Unit {0}
