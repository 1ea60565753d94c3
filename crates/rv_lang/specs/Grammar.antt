-- The grammar, production by production. A production stands above its definitions.
--
-- Where a part has one spelling, a function gives it: the tokens of the part, followed by the tokens `rest`; a fact
-- `Is..` says which values are spelled so. Where the grammar leaves a choice, a relation says that `tokens` spell the
-- part and are followed by `rest`. Keywords and symbols in capitals stand for their tokens.
use Rattle.std.specs.Prelude.{◌≡◌, ℕ, List, [], ◌∷◌, Option, Some, None, Bool, true, false, length, ◌<◌, ◌⊎◌}
use Rattle.rv_value.specs.declared.value.Value.{Value}
use Rattle.rv_value.specs.declared.value.Value.TheVariants as values
use Rattle.rv_lang.specs.declared.token.Token.{Token}
use Rattle.rv_lang.specs.declared.token.Token.TheVariants.{Word, Int, Str, Symbol}
use Rattle.rv_lang.specs.declared.token.Symbol.TheVariants as symbols
use Rattle.rv_lang.specs.declared.statement.RawCol.{RawCol}
use Rattle.rv_lang.specs.declared.statement.RawKind.{RawKind}
use Rattle.rv_lang.specs.declared.statement.RawKind.TheVariants as kinds
use Rattle.rv_lang.specs.declared.statement.RawGoal.{RawGoal}
use Rattle.rv_lang.specs.declared.statement.RawGoal.TheVariants as goals
use Rattle.rv_lang.specs.declared.statement.Statement.{Statement}
use Rattle.rv_lang.specs.declared.statement.Statement.TheVariants.{CreateTable, CreateIndex, Begin, Insert, Update, Delete, Commit, Rollback, Open, Fetch, Show, Close, Step}
use Rattle.rv_lang.specs.declared.statement.RawOp.{RawOp}
use Rattle.rv_lang.specs.declared.statement.RawOp.TheVariants as ops
use Rattle.rv_lang.specs.declared.statement.RawOperand.{RawOperand}
use Rattle.rv_lang.specs.declared.statement.RawOperand.TheVariants as operands
use Rattle.rv_lang.specs.declared.statement.RawAtom.{RawAtom}
use Rattle.rv_lang.specs.declared.statement.RawAtom.TheVariants.{Compare, Between, Among, IsNull, Starts}
use Rattle.rv_lang.specs.Words.{IsName, AND, BEGIN, BETWEEN, BIGINT, BY, CLOSE, COMMIT, CREATE, DELETE, FAST, FETCH, FIRST, FOR, FROM, IN, INDEX, INSERT, INTO, IS, NOT, NULL, ON, ONLY, OPEN, OPTIMIZE, OR, ORDER, READ, ROLLBACK, SELECT, SET, SHOW, STARTING, STEP, TABLE, TIME, TOTAL, UNIQUE, UPDATE, VALUES, VARCHAR, WHERE, WITH}

abbrev pub LPAREN : Token
LPAREN = Symbol symbols.LeftParen

abbrev pub RPAREN : Token
RPAREN = Symbol symbols.RightParen

abbrev pub COMMA : Token
COMMA = Symbol symbols.Comma

abbrev pub SEMICOLON : Token
SEMICOLON = Symbol symbols.Semicolon

abbrev pub DOT : Token
DOT = Symbol symbols.Dot

abbrev pub STAR : Token
STAR = Symbol symbols.Star

abbrev pub EQUAL : Token
EQUAL = Symbol symbols.Equal

-- ---- lists: {x} with a token between two

-- each further one, with the token before it
abbrev pub others : {X : Type 0} → Token → (X → List Token → List Token) → List X → List Token → List Token
others between part [] rest = rest
others between part (x ∷ xs) rest = between ∷ part x (others between part xs rest)

-- the first one, and each further one
abbrev pub listed : {X : Type 0} → Token → (X → List Token → List Token) → List X → List Token → List Token
listed between part [] rest = rest
listed between part (x ∷ xs) rest = part x (others between part xs rest)

-- each is so
abbrev pub AreAll : {X : Type 0} → (X → Type 0) → List X → Type 0
AreAll Is [] = Unit {0}
AreAll Is (x ∷ xs) = Is x × AreAll Is xs

-- at least one, and each is so
abbrev pub AreSome : {X : Type 0} → (X → Type 0) → List X → Type 0
AreSome Is [] = ⊥
AreSome Is (x ∷ xs) = Is x × AreAll Is xs

-- ---- columns and conditions

-- literal = integer | text | NULL
abbrev pub literal : Value → List Token → List Token
literal (values.Int n) rest = Int n ∷ rest
literal (values.Str text) rest = Str text ∷ rest
literal values.Null rest = NULL ∷ rest

-- colref = name | name . name
abbrev pub qualified : Option (List ℕ) → List Token → List Token
qualified None rest = rest
qualified (Some table) rest = Word table ∷ DOT ∷ rest

abbrev pub column : RawCol → List Token → List Token
column c rest = qualified c.table (Word c.column ∷ rest)

abbrev pub IsQualifier : Option (List ℕ) → Type 0
IsQualifier None = Unit {0}
IsQualifier (Some table) = IsName table

abbrev pub IsColumn : RawCol → Type 0
IsColumn c = IsQualifier c.table × IsName c.column

-- compare = = | <> | < | <= | > | >=
abbrev pub compare : RawOp → Token
compare ops.Eq = Symbol symbols.Equal
compare ops.Ne = Symbol symbols.NotEqual
compare ops.Lt = Symbol symbols.Less
compare ops.Le = Symbol symbols.AtMost
compare ops.Gt = Symbol symbols.Greater
compare ops.Ge = Symbol symbols.AtLeast

-- operand = literal | colref
abbrev pub operand : RawOperand → List Token → List Token
operand (operands.Literal value) rest = literal value rest
operand (operands.Column c) rest = column c rest

abbrev pub IsOperand : RawOperand → Type 0
IsOperand (operands.Literal value) = Unit {0}
IsOperand (operands.Column c) = IsColumn c

-- atom = colref compare operand
--      | colref BETWEEN literal AND literal
--      | colref IN ( literal {, literal} )
--      | colref IS [NOT] NULL
--      | colref STARTING WITH text
abbrev pub atom : RawAtom → List Token → List Token
atom (Compare c op right) rest = column c (compare op ∷ operand right rest)
atom (Between c low high) rest = column c (BETWEEN ∷ literal low (AND ∷ literal high rest))
atom (Among c list) rest = column c (IN ∷ LPAREN ∷ listed COMMA literal list (RPAREN ∷ rest))
atom (IsNull c true) rest = column c (IS ∷ NOT ∷ NULL ∷ rest)
atom (IsNull c false) rest = column c (IS ∷ NULL ∷ rest)
atom (Starts c text) rest = column c (STARTING ∷ WITH ∷ Str text ∷ rest)

abbrev pub AnyLiteral : Value → Type 0
AnyLiteral value = Unit {0}

abbrev pub IsAtom : RawAtom → Type 0
IsAtom (Compare c op right) = IsColumn c × IsOperand right
IsAtom (Between c low high) = IsColumn c
IsAtom (Among c list) = IsColumn c × AreSome AnyLiteral list
IsAtom (IsNull c not) = IsColumn c
IsAtom (Starts c text) = IsColumn c

-- group = atom | ( atom {OR atom} )
abbrev pub closed : List RawAtom → List Token → List Token
closed atoms rest = LPAREN ∷ listed OR atom atoms (RPAREN ∷ rest)

abbrev pub IsBare : List RawAtom → List Token → List Token → Type 0
IsBare [] tokens rest = ⊥
IsBare (a ∷ []) tokens rest = IsAtom a × (tokens ≡ atom a rest)
IsBare (a ∷ b ∷ atoms) tokens rest = ⊥

abbrev pub IsGroup : List RawAtom → List Token → List Token → Type 0
IsGroup atoms tokens rest = IsBare atoms tokens rest ⊎ (AreSome IsAtom atoms × (tokens ≡ closed atoms rest))

-- one group after the other, with AND between two: group {AND group}
abbrev pub AreGroups : List (List RawAtom) → List Token → List Token → Type 0
AreGroups [] tokens rest = ⊥
AreGroups (g ∷ []) tokens rest = IsGroup g tokens rest
AreGroups (g ∷ h ∷ gs) tokens rest =
    (after : List Token) × IsGroup g tokens (AND ∷ after) × AreGroups (h ∷ gs) after rest

-- one group of two or more atoms, without parentheses: atom OR atom {OR atom}
abbrev pub IsLone : List (List RawAtom) → List Token → List Token → Type 0
IsLone [] tokens rest = ⊥
IsLone (g ∷ []) tokens rest = (1 < length g) × AreSome IsAtom g × (tokens ≡ listed OR atom g rest)
IsLone (g ∷ h ∷ gs) tokens rest = ⊥

-- cond = atom OR atom {OR atom} | group {AND group}
abbrev pub IsCond : List (List RawAtom) → List Token → List Token → Type 0
IsCond groups tokens rest = IsLone groups tokens rest ⊎ AreGroups groups tokens rest

-- [WHERE cond]
abbrev pub IsWhere : List (List RawAtom) → List Token → List Token → Type 0
IsWhere [] tokens rest = tokens ≡ rest
IsWhere (g ∷ gs) tokens rest = (after : List Token) × (tokens ≡ WHERE ∷ after) × IsCond (g ∷ gs) after rest

-- ---- statements

-- a name
abbrev pub name : List ℕ → List Token → List Token
name text rest = Word text ∷ rest

-- column = name BIGINT | name VARCHAR ( integer )
abbrev pub kind : RawKind → List Token → List Token
kind kinds.Big rest = BIGINT ∷ rest
kind (kinds.Chars n) rest = VARCHAR ∷ LPAREN ∷ Int n ∷ RPAREN ∷ rest

abbrev pub column_def : List ℕ × RawKind → List Token → List Token
column_def d rest = Word d.0 ∷ kind d.1 rest

abbrev pub IsColumnDef : List ℕ × RawKind → Type 0
IsColumnDef d = IsName d.0

-- name = literal
abbrev pub set : List ℕ × Value → List Token → List Token
set s rest = Word s.0 ∷ EQUAL ∷ literal s.1 rest

abbrev pub IsSet : List ℕ × Value → Type 0
IsSet s = IsName s.0

-- [UNIQUE]
abbrev pub unique_word : Bool → List Token → List Token
unique_word false rest = rest
unique_word true rest = UNIQUE ∷ rest

-- returned = * | colref {, colref}
abbrev pub returned : Option (List RawCol) → List Token → List Token
returned None rest = STAR ∷ rest
returned (Some columns) rest = listed COMMA column columns rest

abbrev pub AreReturned : Option (List RawCol) → Type 0
AreReturned None = Unit {0}
AreReturned (Some columns) = AreSome IsColumn columns

-- item = name [name]
abbrev pub second_name : Option (List ℕ) → List Token → List Token
second_name None rest = rest
second_name (Some name) rest = Word name ∷ rest

abbrev pub item : List ℕ × Option (List ℕ) → List Token → List Token
item i rest = Word i.0 ∷ second_name i.1 rest

abbrev pub IsItem : List ℕ × Option (List ℕ) → Type 0
IsItem i = IsName i.0 × IsQualifier i.1

-- [ORDER BY colref {, colref}]
abbrev pub order : List RawCol → List Token → List Token
order [] rest = rest
order (c ∷ cs) rest = ORDER ∷ BY ∷ listed COMMA column (c ∷ cs) rest

-- [OPTIMIZE FOR FAST FIRST | OPTIMIZE FOR TOTAL TIME]
abbrev pub IsGoal : RawGoal → List Token → List Token → Type 0
IsGoal goals.FastFirst tokens rest = tokens ≡ OPTIMIZE ∷ FOR ∷ FAST ∷ FIRST ∷ rest
IsGoal goals.TotalTime tokens rest = (tokens ≡ rest) ⊎ (tokens ≡ OPTIMIZE ∷ FOR ∷ TOTAL ∷ TIME ∷ rest)

-- what follows the items of a select: [WHERE cond] [ORDER BY colref {, colref}] [OPTIMIZE FOR FAST FIRST | OPTIMIZE
-- FOR TOTAL TIME]
pub record IsSelectEnd (only : List (List RawAtom)) (by : List RawCol) (goal : RawGoal)
    (tokens rest : List Token) : Type 0 where
  pub after_where : List Token
  pub after_order : List Token
  pub where_is : IsWhere only tokens after_where
  pub order_names : AreAll IsColumn by
  pub order_is : after_where ≡ order by after_order
  pub goal_is : IsGoal goal after_order rest

-- body = CREATE TABLE name ( column {, column} )
--      | CREATE [UNIQUE] INDEX name ON name ( name {, name} )
--      | BEGIN [READ ONLY]
--      | INSERT INTO name VALUES ( literal {, literal} )
--      | UPDATE name SET name = literal {, name = literal} [WHERE cond]
--      | DELETE FROM name [WHERE cond]
--      | COMMIT | ROLLBACK
--      | OPEN name select,    select = SELECT returned FROM item {, item} [WHERE cond] [ORDER BY ..] [OPTIMIZE ..]
--      | FETCH name | SHOW name | CLOSE name
--      | STEP name integer
abbrev pub IsBody : Statement → List Token → List Token → Type 0
IsBody (CreateTable table columns) tokens rest = IsName table × AreSome IsColumnDef columns
    × (tokens ≡ CREATE ∷ TABLE ∷ Word table ∷ LPAREN ∷ listed COMMA column_def columns (RPAREN ∷ rest))
IsBody (CreateIndex unique index table columns) tokens rest = IsName index × IsName table × AreSome IsName columns
    × (tokens ≡ CREATE ∷ unique_word unique (INDEX ∷ Word index ∷ ON ∷ Word table ∷ LPAREN
    ∷ listed COMMA name columns (RPAREN ∷ rest)))
IsBody (Begin false) tokens rest = tokens ≡ BEGIN ∷ rest
IsBody (Begin true) tokens rest = tokens ≡ BEGIN ∷ READ ∷ ONLY ∷ rest
IsBody (Insert table values) tokens rest = IsName table × AreSome AnyLiteral values
    × (tokens ≡ INSERT ∷ INTO ∷ Word table ∷ VALUES ∷ LPAREN ∷ listed COMMA literal values (RPAREN ∷ rest))
IsBody (Update table sets only) tokens rest = (after : List Token) × IsName table × AreSome IsSet sets
    × (tokens ≡ UPDATE ∷ Word table ∷ SET ∷ listed COMMA set sets after) × IsWhere only after rest
IsBody (Delete table only) tokens rest = (after : List Token) × IsName table
    × (tokens ≡ DELETE ∷ FROM ∷ Word table ∷ after) × IsWhere only after rest
IsBody Commit tokens rest = tokens ≡ COMMIT ∷ rest
IsBody Rollback tokens rest = tokens ≡ ROLLBACK ∷ rest
IsBody (Open cursor columns items only by goal) tokens rest =
    (after : List Token) × IsName cursor × AreReturned columns × AreSome IsItem items
    × (tokens ≡ OPEN ∷ Word cursor ∷ SELECT ∷ returned columns (FROM ∷ listed COMMA item items after))
    × IsSelectEnd only by goal after rest
IsBody (Fetch cursor) tokens rest = IsName cursor × (tokens ≡ FETCH ∷ Word cursor ∷ rest)
IsBody (Show cursor) tokens rest = IsName cursor × (tokens ≡ SHOW ∷ Word cursor ∷ rest)
IsBody (Close cursor) tokens rest = IsName cursor × (tokens ≡ CLOSE ∷ Word cursor ∷ rest)
IsBody (Step cursor n) tokens rest = IsName cursor × (tokens ≡ STEP ∷ Word cursor ∷ Int n ∷ rest)

-- statement = body [;]
abbrev pub Derives : List Token → Statement → Type 0
Derives tokens s = IsBody s tokens [] ⊎ IsBody s tokens (SEMICOLON ∷ [])
