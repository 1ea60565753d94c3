-- What the parser reads: each part at the front of a list of tokens, with the tokens after it, or nothing. The laws of
-- proofs/ say that this is what the grammar derives. At the end stand `parse_of`, the statement of tokens, and
-- `statement_of`, the statement of a text.
use Rattle.std.specs.Prelude.{◌≡◌, ℕ, ℤ, zero, suc, List, [], ◌∷◌, Option, Some, None, Result, Ok, Err, Bool, true, false, bytes_eq, codes, if◌then◌else◌, length, nat_eq}
use Rattle.rv_value.specs.declared.value.Value.{Value}
use Rattle.rv_value.specs.declared.value.Value.TheVariants as values
use Rattle.rv_lang.specs.declared.token.Token.{Token}
use Rattle.rv_lang.specs.declared.token.Token.TheVariants as tokens
use Rattle.rv_lang.specs.declared.token.Symbol.TheVariants as symbols
use Rattle.rv_lang.specs.declared.statement.Statement.{Statement}
use Rattle.rv_lang.specs.declared.statement.Statement.TheVariants as statements
use Rattle.rv_lang.specs.declared.statement.RawKind.{RawKind}
use Rattle.rv_lang.specs.declared.statement.RawKind.TheVariants as kinds
use Rattle.rv_lang.specs.declared.statement.RawGoal.{RawGoal}
use Rattle.rv_lang.specs.declared.statement.RawGoal.TheVariants as goals
use Rattle.rv_lang.specs.declared.statement.RawCol.{RawCol}
use Rattle.rv_lang.specs.declared.statement.RawOp.{RawOp}
use Rattle.rv_lang.specs.declared.statement.RawOp.TheVariants as ops
use Rattle.rv_lang.specs.declared.statement.RawOperand.{RawOperand}
use Rattle.rv_lang.specs.declared.statement.RawOperand.TheVariants as operands
use Rattle.rv_lang.specs.declared.statement.RawAtom.{RawAtom}
use Rattle.rv_lang.specs.declared.statement.RawAtom.TheVariants as atoms
use Rattle.rv_lang.specs.Words.{is_keyword}
use Rattle.rv_lang.specs.Lexing.{tokens_of}
use Rattle.rv_parse.specs.declared.list.Separator.{Separator}
use Rattle.rv_parse.specs.declared.list.Separator.TheVariants as separators
use Rattle.rv_parse.specs.declared.fault.ParseFault.{ParseFault}
use Rattle.rv_parse.specs.declared.fault.ParseFault.TheVariants as faults

infixl 10 ◌>>=◌
abbrev pub ◌>>=◌ : {A B : Type 0} → Option A → (A → Option B) → Option B
(Some x) >>= f = f x
None >>= f = None

infixl 9 ◌<|>◌
-- the first that reads
abbrev pub ◌<|>◌ : {A : Type 0} → Option A → Option A → Option A
(Some x) <|> other = Some x
None <|> other = other

-- what a function answered is what is read, unless memory ran out
abbrev pub Fails : {Y : Type 0} → ParseFault → Option Y → Type 0
Fails faults.Syntax read = read ≡ None
Fails faults.NoMemory read = Unit {0}

abbrev pub Gives : {X Y : Type 0} → (X → Y) → Result X ParseFault → Option Y → Type 0
Gives view (Ok x) read = read ≡ Some (view x)
Gives view (Err e) read = Fails e read

-- a value, and the tokens after it
abbrev pub Read : Type 0 → Type 0
Read X = Option (X × List Token)

abbrev pub word_at : List ℕ → List Token → Option (List Token)
word_at word ((tokens.Word text) ∷ rest) = if bytes_eq text word then Some rest else None
word_at word _ = None

abbrev pub name_at : List Token → Read (List ℕ)
name_at ((tokens.Word text) ∷ rest) = if is_keyword text then None else Some (text, rest)
name_at _ = None

abbrev pub integer_at : List Token → Read ℤ
integer_at ((tokens.Int n) ∷ rest) = Some (n, rest)
integer_at _ = None

abbrev pub text_at : List Token → Read (List ℕ)
text_at ((tokens.Str text) ∷ rest) = Some (text, rest)
text_at _ = None

abbrev pub literal_at : List Token → Read Value
literal_at ((tokens.Int n) ∷ rest) = Some (values.Int n, rest)
literal_at ((tokens.Str text) ∷ rest) = Some (values.Str text, rest)
literal_at ((tokens.Word text) ∷ rest) = if bytes_eq text (codes "NULL") then Some (values.Null, rest) else None
literal_at _ = None

abbrev pub dot_at : List Token → Option (List Token)
dot_at ((tokens.Symbol symbols.Dot) ∷ rest) = Some rest
dot_at _ = None

-- what follows a column's first name
abbrev pub column_rest : List ℕ → List Token → Option (List Token) → Read RawCol
column_rest first rest None = Some (record { table = None; column = first }, rest)
column_rest first rest (Some after) = do
  second ← name_at after
  Some (record { table = Some first; column = second.0 }, second.1)

abbrev pub column_at : List Token → Read RawCol
column_at tokens = do
  first ← name_at tokens
  column_rest first.0 first.1 (dot_at first.1)

abbrev pub op_at : List Token → Read RawOp
op_at ((tokens.Symbol symbols.Equal) ∷ rest) = Some (ops.Eq, rest)
op_at ((tokens.Symbol symbols.NotEqual) ∷ rest) = Some (ops.Ne, rest)
op_at ((tokens.Symbol symbols.Less) ∷ rest) = Some (ops.Lt, rest)
op_at ((tokens.Symbol symbols.AtMost) ∷ rest) = Some (ops.Le, rest)
op_at ((tokens.Symbol symbols.Greater) ∷ rest) = Some (ops.Gt, rest)
op_at ((tokens.Symbol symbols.AtLeast) ∷ rest) = Some (ops.Ge, rest)
op_at _ = None

abbrev pub operand_at : List Token → Read RawOperand
operand_at tokens =
    (literal_at tokens >>= λ value. Some (operands.Literal value.0, value.1)) <|>
    (column_at tokens >>= λ column. Some (operands.Column column.0, column.1))

-- where one thing begins the list, what follows it; else the other
abbrev pub choose : {A B : Type 0} → Option A → (A → Option B) → Option B → Option B
choose (Some x) go other = go x
choose None go other = other

abbrev pub open_at : List Token → Option (List Token)
open_at ((tokens.Symbol symbols.LeftParen) ∷ rest) = Some rest
open_at _ = None

abbrev pub close_at : List Token → Option (List Token)
close_at ((tokens.Symbol symbols.RightParen) ∷ rest) = Some rest
close_at _ = None

abbrev pub comma_at : List Token → Option (List Token)
comma_at ((tokens.Symbol symbols.Comma) ∷ rest) = Some rest
comma_at _ = None

abbrev pub star_at : List Token → Option (List Token)
star_at ((tokens.Symbol symbols.Star) ∷ rest) = Some rest
star_at _ = None

abbrev pub equal_at : List Token → Option (List Token)
equal_at ((tokens.Symbol symbols.Equal) ∷ rest) = Some rest
equal_at _ = None

abbrev pub semicolon_at : List Token → Option (List Token)
semicolon_at ((tokens.Symbol symbols.Semicolon) ∷ rest) = Some rest
semicolon_at _ = None

abbrev pub separator_at : Separator → List Token → Option (List Token)
separator_at separators.Comma tokens = comma_at tokens
separator_at separators.Or tokens = word_at (codes "OR") tokens
separator_at separators.And tokens = word_at (codes "AND") tokens

-- one or more, up to so many, with a separator between two
abbrev pub list_end : {X : Type 0} → X → List Token → Option (List Token) → (List Token → Read (List X)) → Read (List X)
list_end first rest None more = Some (first ∷ [], rest)
list_end first rest (Some after) more = more after >>= λ found. Some (first ∷ found.0, found.1)

abbrev pub list_at : {X : Type 0} → (List Token → Read X) → Separator → ℕ → List Token → Read (List X)
list_at part separator zero tokens = None
list_at part separator (suc n) tokens =
    part tokens >>= λ first. list_end first.0 first.1 (separator_at separator first.1)
    (λ after. list_at part separator n after)

-- as many as there are tokens, at most
unfoldable pub list_of : {X : Type 0} → (List Token → Read X) → Separator → List Token → Read (List X)
list_of part separator tokens = list_at part separator (length tokens) tokens

-- a list in parentheses, with commas
unfoldable pub enclosed_at : {X : Type 0} → (List Token → Read X) → List Token → Read (List X)
enclosed_at part tokens = do
  rest ← open_at tokens
  list ← list_of part separators.Comma rest
  rest ← close_at list.1
  Some (list.0, rest)

unfoldable pub between_at : RawCol → List Token → Read RawAtom
between_at column tokens = do
  low ← literal_at tokens
  rest ← word_at (codes "AND") low.1
  high ← literal_at rest
  Some (atoms.Between column low.0 high.0, high.1)

unfoldable pub among_at : RawCol → List Token → Read RawAtom
among_at column tokens = do
  list ← enclosed_at literal_at tokens
  Some (atoms.Among column list.0, list.1)

unfoldable pub is_null_at : RawCol → List Token → Read RawAtom
is_null_at column tokens = choose (word_at (codes "NOT") tokens)
    (λ rest. word_at (codes "NULL") rest >>= λ rest. Some (atoms.IsNull column true, rest))
    (word_at (codes "NULL") tokens >>= λ rest. Some (atoms.IsNull column false, rest))

unfoldable pub starts_at : RawCol → List Token → Read RawAtom
starts_at column tokens = do
  rest ← word_at (codes "WITH") tokens
  text ← text_at rest
  Some (atoms.Starts column text.0, text.1)

unfoldable pub compare_at : RawCol → List Token → Read RawAtom
compare_at column tokens = do
  op ← op_at tokens
  operand ← operand_at op.1
  Some (atoms.Compare column op.0 operand.0, operand.1)

unfoldable pub atom_rest : RawCol → List Token → Read RawAtom
atom_rest column tokens =
    choose (word_at (codes "BETWEEN") tokens) (between_at column)
    (choose (word_at (codes "IN") tokens) (among_at column)
    (choose (word_at (codes "IS") tokens) (is_null_at column)
    (choose (word_at (codes "STARTING") tokens) (starts_at column)
    (compare_at column tokens))))

unfoldable pub atom_at : List Token → Read RawAtom
atom_at tokens = do
  column ← column_at tokens
  atom_rest column.0 column.1

unfoldable pub closed_at : List Token → Read (List RawAtom)
closed_at tokens = do
  found ← list_of atom_at separators.Or tokens
  rest ← close_at found.1
  Some (found.0, rest)

unfoldable pub group_at : List Token → Read (List RawAtom)
group_at tokens = choose (open_at tokens) closed_at (atom_at tokens >>= λ atom. Some (atom.0 ∷ [], atom.1))

-- ---- conditions

unfoldable pub groups_at : List Token → Read (List (List RawAtom))
groups_at tokens = list_of group_at separators.And tokens

-- what follows one atom without parentheses, or several
unfoldable pub bare_end : List RawAtom → List Token → Read (List (List RawAtom))
bare_end atoms rest = if nat_eq (length atoms) 1
    then choose (word_at (codes "AND") rest) (λ after. groups_at after >>= λ more. Some (atoms ∷ more.0, more.1))
    (Some (atoms ∷ [], rest))
    else Some (atoms ∷ [], rest)

unfoldable pub cond_at : List Token → Read (List (List RawAtom))
cond_at tokens = choose (open_at tokens) (λ rest. groups_at tokens)
    (list_of atom_at separators.Or tokens >>= λ first. bare_end first.0 first.1)

unfoldable pub where_at : List Token → Read (List (List RawAtom))
where_at tokens = choose (word_at (codes "WHERE") tokens) cond_at (Some ([], tokens))

-- ---- statements

unfoldable pub kind_at : List Token → Read RawKind
kind_at tokens = choose (word_at (codes "BIGINT") tokens) (λ rest. Some (kinds.Big, rest)) (do
  rest ← word_at (codes "VARCHAR") tokens
  rest ← open_at rest
  n ← integer_at rest
  rest ← close_at n.1
  Some (kinds.Chars n.0, rest))

unfoldable pub column_def_at : List Token → Read (List ℕ × RawKind)
column_def_at tokens = do
  name ← name_at tokens
  kind ← kind_at name.1
  Some ((name.0, kind.0), kind.1)

unfoldable pub create_table_at : List Token → Read Statement
create_table_at tokens = do
  name ← name_at tokens
  columns ← enclosed_at column_def_at name.1
  Some (statements.CreateTable name.0 columns.0, columns.1)

unfoldable pub create_index_at : Bool → List Token → Read Statement
create_index_at unique tokens = do
  rest ← word_at (codes "INDEX") tokens
  index ← name_at rest
  rest ← word_at (codes "ON") index.1
  table ← name_at rest
  columns ← enclosed_at name_at table.1
  Some (statements.CreateIndex unique index.0 table.0 columns.0, columns.1)

unfoldable pub index_at : List Token → Read Statement
index_at tokens = choose (word_at (codes "UNIQUE") tokens) (create_index_at true) (create_index_at false tokens)

unfoldable pub create_at : List Token → Read Statement
create_at tokens = choose (word_at (codes "TABLE") tokens) create_table_at (index_at tokens)

unfoldable pub insert_at : List Token → Read Statement
insert_at tokens = do
  rest ← word_at (codes "INTO") tokens
  table ← name_at rest
  rest ← word_at (codes "VALUES") table.1
  values ← enclosed_at literal_at rest
  Some (statements.Insert table.0 values.0, values.1)

unfoldable pub set_at : List Token → Read (List ℕ × Value)
set_at tokens = do
  name ← name_at tokens
  rest ← equal_at name.1
  value ← literal_at rest
  Some ((name.0, value.0), value.1)

unfoldable pub update_at : List Token → Read Statement
update_at tokens = do
  table ← name_at tokens
  rest ← word_at (codes "SET") table.1
  sets ← list_of set_at separators.Comma rest
  only ← where_at sets.1
  Some (statements.Update table.0 sets.0 only.0, only.1)

unfoldable pub delete_at : List Token → Read Statement
delete_at tokens = do
  rest ← word_at (codes "FROM") tokens
  table ← name_at rest
  only ← where_at table.1
  Some (statements.Delete table.0 only.0, only.1)

unfoldable pub begin_at : List Token → Read Statement
begin_at tokens = choose (word_at (codes "READ") tokens)
    (λ rest. word_at (codes "ONLY") rest >>= λ rest. Some (statements.Begin true, rest))
    (Some (statements.Begin false, tokens))

unfoldable pub returned_at : List Token → Read (Option (List RawCol))
returned_at tokens = choose (star_at tokens) (λ rest. Some (None, rest))
    (list_of column_at separators.Comma tokens >>= λ columns. Some (Some columns.0, columns.1))

unfoldable pub item_at : List Token → Read (List ℕ × Option (List ℕ))
item_at tokens = do
  table ← name_at tokens
  choose (name_at table.1) (λ second. Some ((table.0, Some second.0), second.1)) (Some ((table.0, None), table.1))

unfoldable pub order_at : List Token → Read (List RawCol)
order_at tokens = choose (word_at (codes "ORDER") tokens)
    (λ rest. word_at (codes "BY") rest >>= λ rest. list_of column_at separators.Comma rest)
    (Some ([], tokens))

unfoldable pub named_goal_at : List Token → Read RawGoal
named_goal_at tokens = do
  rest ← word_at (codes "FOR") tokens
  choose (word_at (codes "FAST") rest)
      (λ rest. word_at (codes "FIRST") rest >>= λ rest. Some (goals.FastFirst, rest))
      (word_at (codes "TOTAL") rest >>= λ rest. word_at (codes "TIME") rest >>= λ rest. Some (goals.TotalTime, rest))

unfoldable pub goal_at : List Token → Read RawGoal
goal_at tokens = choose (word_at (codes "OPTIMIZE") tokens) named_goal_at (Some (goals.TotalTime, tokens))

unfoldable pub open_cursor_at : List Token → Read Statement
open_cursor_at tokens = do
  cursor ← name_at tokens
  rest ← word_at (codes "SELECT") cursor.1
  returned ← returned_at rest
  rest ← word_at (codes "FROM") returned.1
  items ← list_of item_at separators.Comma rest
  only ← where_at items.1
  order ← order_at only.1
  goal ← goal_at order.1
  Some (statements.Open cursor.0 returned.0 items.0 only.0 order.0 goal.0, goal.1)

unfoldable pub fetch_at : List Token → Read Statement
fetch_at tokens = name_at tokens >>= λ cursor. Some (statements.Fetch cursor.0, cursor.1)

unfoldable pub show_at : List Token → Read Statement
show_at tokens = name_at tokens >>= λ cursor. Some (statements.Show cursor.0, cursor.1)

unfoldable pub close_cursor_at : List Token → Read Statement
close_cursor_at tokens = name_at tokens >>= λ cursor. Some (statements.Close cursor.0, cursor.1)

unfoldable pub step_at : List Token → Read Statement
step_at tokens = do
  cursor ← name_at tokens
  n ← integer_at cursor.1
  Some (statements.Step cursor.0 n.0, n.1)

-- the statements on a cursor
unfoldable pub cursor_at : List Token → Read Statement
cursor_at tokens =
    choose (word_at (codes "OPEN") tokens) open_cursor_at
    (choose (word_at (codes "FETCH") tokens) fetch_at
    (choose (word_at (codes "SHOW") tokens) show_at
    (choose (word_at (codes "CLOSE") tokens) close_cursor_at
    (word_at (codes "STEP") tokens >>= step_at))))

unfoldable pub body_at : List Token → Read Statement
body_at tokens =
    choose (word_at (codes "CREATE") tokens) create_at
    (choose (word_at (codes "INSERT") tokens) insert_at
    (choose (word_at (codes "UPDATE") tokens) update_at
    (choose (word_at (codes "DELETE") tokens) delete_at
    (choose (word_at (codes "BEGIN") tokens) begin_at
    (choose (word_at (codes "COMMIT") tokens) (λ rest. Some (statements.Commit, rest))
    (choose (word_at (codes "ROLLBACK") tokens) (λ rest. Some (statements.Rollback, rest))
    (cursor_at tokens)))))))

-- nothing, or a semicolon alone
abbrev pub ended : List Token → Bool
ended [] = true
ended ((tokens.Symbol symbols.Semicolon) ∷ []) = true
ended _ = false

-- the statement that the grammar derives from the tokens, or nothing where it derives none
unfoldable pub parse_of : List Token → Option Statement
parse_of tokens = body_at tokens >>= λ body. if ended body.1 then Some body.0 else None

-- the statement that a text derives, or nothing: where it is no sequence of tokens too
unfoldable pub statement_of : List ℕ → Option Statement
statement_of text = tokens_of text >>= parse_of
