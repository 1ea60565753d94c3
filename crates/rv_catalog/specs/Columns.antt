-- References to the columns of the tables in reach, and conditions with the references looked up.
use Rattle.std.specs.Prelude.{ℕ, List, [], ◌∷◌, ◌++◌, ◌+◌, Bool, true, cond, Option, Some, None, Result, Ok, Err, bytes_eq}
use Rattle.rv_value.specs.declared.value.Kind.{Kind}
use Rattle.rv_restrict.specs.declared.atom.ColRef.{ColRef}
use Rattle.rv_restrict.specs.declared.atom.Op.{Op}
use Rattle.rv_restrict.specs.declared.atom.Op.TheVariants.{Eq, Ne, Lt, Le, Gt, Ge}
use Rattle.rv_restrict.specs.declared.atom.Operand.{Operand}
use Rattle.rv_restrict.specs.declared.atom.Operand.TheVariants.{Literal, Column}
use Rattle.rv_restrict.specs.declared.atom.Atom.{Atom}
use Rattle.rv_restrict.specs.declared.atom.Atom.TheVariants.{Compare, Between, Among, IsNull, Starts}
use Rattle.rv_lang.specs.declared.statement.RawCol.{RawCol}
use Rattle.rv_lang.specs.declared.statement.RawOp.{RawOp}
use Rattle.rv_lang.specs.declared.statement.RawOp.TheVariants.{Eq as RawEq, Ne as RawNe, Lt as RawLt, Le as RawLe, Gt as RawGt, Ge as RawGe}
use Rattle.rv_lang.specs.declared.statement.RawOperand.{RawOperand}
use Rattle.rv_lang.specs.declared.statement.RawOperand.TheVariants.{Literal as RawLiteral, Column as RawColumn}
use Rattle.rv_lang.specs.declared.statement.RawAtom.{RawAtom}
use Rattle.rv_lang.specs.declared.statement.RawAtom.TheVariants.{Compare as RawCompare, Between as RawBetween, Among as RawAmong, IsNull as RawIsNull, Starts as RawStarts}
use Rattle.rv_lang.specs.declared.reply.Refusal.{Refusal}
use Rattle.rv_lang.specs.declared.reply.Refusal.TheVariants.{Unknown}
use Rattle.rv_catalog.specs.declared.columns.Fit.{Fit}
use Rattle.rv_catalog.specs.declared.columns.Fit.TheVariants.{Nothing, One, Several}
use Rattle.rv_catalog.specs.declared.columns.Item.{Item}
use Rattle.rv_catalog.specs.declared.def.TableDef.{TableDef}
use Rattle.rv_catalog.specs.Answers.{◌>>=◌, collected}
use Rattle.rv_catalog.specs.Schema.{columns_of}

-- one column more that a reference fits
abbrev pub also : Fit → ColRef → Fit
also Nothing c = One c
also (One d) c = Several
also Several c = Several

-- what a name fits among columns of one table, numbered from n, beside what it fits before them
abbrev pub fit_columns : List ℕ → ℕ → ℕ → List (List ℕ × Kind) → Fit → Fit
fit_columns name place n [] fit = fit
fit_columns name place n (c ∷ cs) fit =
    fit_columns name place (n + 1) cs (cond (bytes_eq name c.0) (also fit (record { place = place; column = n })) fit)

-- without a qualifier a name may be a column of every item
abbrev pub item_fits : Option (List ℕ) → List ℕ → Bool
item_fits None name = true
item_fits (Some qualifier) name = bytes_eq qualifier name

-- what a name fits among the items in reach
abbrev pub fit_items : List TableDef → Option (List ℕ) → List ℕ → ℕ → List Item → Fit → Fit
fit_items tables qualifier name place [] fit = fit
fit_items tables qualifier name place (item ∷ more) fit =
    fit_items tables qualifier name (place + 1) more
    (cond (item_fits qualifier item.name) (fit_columns name place 0 (columns_of tables item.table) fit) fit)

-- a reference that fits no column, or more than one, is unknown
abbrev pub only_one : Fit → List ℕ → Result ColRef Refusal
only_one Nothing name = Err (Unknown name)
only_one (One c) name = Ok c
only_one Several name = Err (Unknown name)

abbrev pub reference : List TableDef → List Item → RawCol → Result ColRef Refusal
reference tables reach raw = only_one (fit_items tables raw.table raw.column 0 reach Nothing) raw.column

-- a column that is named without a qualifier, of one table
abbrev pub own_column : List TableDef → ℕ → List ℕ → Result ℕ Refusal
own_column tables table name = do
  c ← only_one (fit_columns name 0 0 (columns_of tables table) Nothing) name
  Ok c.column

-- Conditions.

abbrev pub op_of : RawOp → Op
op_of RawEq = Eq
op_of RawNe = Ne
op_of RawLt = Lt
op_of RawLe = Le
op_of RawGt = Gt
op_of RawGe = Ge

abbrev pub operand : List TableDef → List Item → RawOperand → Result Operand Refusal
operand tables reach (RawLiteral v) = Ok (Literal v)
operand tables reach (RawColumn raw) = do
  c ← reference tables reach raw
  Ok (Column c)

abbrev pub atom : List TableDef → List Item → RawAtom → Result Atom Refusal
atom tables reach (RawCompare raw op other) = do
  c ← reference tables reach raw
  right ← operand tables reach other
  Ok (Compare c (op_of op) right)
atom tables reach (RawBetween raw low high) = do
  c ← reference tables reach raw
  Ok (Between c low high)
atom tables reach (RawAmong raw list) = do
  c ← reference tables reach raw
  Ok (Among c list)
atom tables reach (RawIsNull raw negated) = do
  c ← reference tables reach raw
  Ok (IsNull c negated)
atom tables reach (RawStarts raw text) = do
  c ← reference tables reach raw
  Ok (Starts c text)

abbrev pub group : List TableDef → List Item → List RawAtom → Result (List Atom) Refusal
group tables reach raws = collected (atom tables reach) [] raws

abbrev pub groups : List TableDef → List Item → List (List RawAtom) → Result (List (List Atom)) Refusal
groups tables reach only = collected (group tables reach) [] only

-- All columns, for `*`.

abbrev pub columns_from : ℕ → ℕ → List (List ℕ × Kind) → List ColRef
columns_from place n [] = []
columns_from place n (c ∷ cs) = record { place = place; column = n } ∷ columns_from place (n + 1) cs

abbrev pub all_columns : List TableDef → ℕ → List Item → List ColRef
all_columns tables place [] = []
all_columns tables place (item ∷ more) =
    columns_from place 0 (columns_of tables item.table) ++ all_columns tables (place + 1) more
