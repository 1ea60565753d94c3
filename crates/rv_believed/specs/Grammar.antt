-- Believed: the grammar, production by production; a production stands above its definitions.
--
-- Where a part has one spelling, a function gives its tokens, followed by the tokens `rest`, and a
-- fact `Is..` says which values are spelled so. Where the grammar leaves a choice, a relation says
-- that `tokens` spell the part and are followed by `rest`.
use Rattle.std.specs.Prelude.{◌≡◌, ◌≢◌, ℕ, List, [], ◌∷◌, Option, Some, None, Bool, true, false, bytes_eq, codes, length, map, ◌<◌, ◌⊎◌}
use Prim.Native.String.{String}
use Rattle.std.specs.List.{list_any, AllByRecursion}
use Rattle.rv_value.specs.declared.value.Value.{Value}
use Rattle.rv_value.specs.declared.value.Value.TheVariants as values
use Rattle.rv_lang.specs.declared.token.Token.{Token}
use Rattle.rv_lang.specs.declared.token.Token.TheVariants.{Word, Int as Number, Str as Text, Symbol}
use Rattle.rv_lang.specs.declared.token.Symbol.TheVariants.{LeftParen, RightParen, Comma, Dot, Star, Semicolon, Equal, NotEqual, Less, AtMost, Greater, AtLeast}
use Rattle.rv_lang.specs.declared.statement.RawCol.{RawCol}
use Rattle.rv_lang.specs.declared.statement.RawKind.{RawKind}
use Rattle.rv_lang.specs.declared.statement.RawKind.TheVariants.{Big, Chars}
use Rattle.rv_lang.specs.declared.statement.RawGoal.{RawGoal}
use Rattle.rv_lang.specs.declared.statement.RawGoal.TheVariants.{FastFirst, TotalTime}
use Rattle.rv_lang.specs.declared.statement.RawOp.{RawOp}
use Rattle.rv_lang.specs.declared.statement.RawOp.TheVariants.{Eq, Ne, Lt, Le, Gt, Ge}
use Rattle.rv_lang.specs.declared.statement.RawOperand.{RawOperand}
use Rattle.rv_lang.specs.declared.statement.RawOperand.TheVariants.{Literal, Column}
use Rattle.rv_lang.specs.declared.statement.RawAtom.{RawAtom}
use Rattle.rv_lang.specs.declared.statement.RawAtom.TheVariants.{Compare, Between, Among, IsNull, Starts}
use Rattle.rv_lang.specs.declared.statement.Statement.{Statement}
use Rattle.rv_lang.specs.declared.statement.Statement.TheVariants.{CreateTable, CreateIndex, Begin, Insert, Update, Delete, Commit, Rollback, Open, Fetch, Show, Close, Step}
use Rattle.rv_lang.specs.Tokens.{Cuts}

-- ---- words

-- the words that are no names
abbrev pub keywords : List (List ℕ)
keywords = map codes ("AND" ∷ "BEGIN" ∷ "BETWEEN" ∷ "BIGINT" ∷ "BY" ∷ "CLOSE" ∷ "COMMIT" ∷ "CREATE"
    ∷ "DELETE" ∷ "FAST" ∷ "FETCH" ∷ "FIRST" ∷ "FOR" ∷ "FROM" ∷ "IN" ∷ "INDEX" ∷ "INSERT" ∷ "INTO"
    ∷ "IS" ∷ "NOT" ∷ "NULL" ∷ "ON" ∷ "ONLY" ∷ "OPEN" ∷ "OPTIMIZE" ∷ "OR" ∷ "ORDER" ∷ "READ"
    ∷ "ROLLBACK" ∷ "SELECT" ∷ "SET" ∷ "SHOW" ∷ "STARTING" ∷ "STEP" ∷ "TABLE" ∷ "TIME" ∷ "TOTAL"
    ∷ "UNIQUE" ∷ "UPDATE" ∷ "VALUES" ∷ "VARCHAR" ∷ "WHERE" ∷ "WITH" ∷ [])

-- no keyword
abbrev pub IsName : List ℕ → Type 0
IsName name = list_any (λ (word : List ℕ). bytes_eq word name) keywords ≡ false

-- a keyword as a token
abbrev pub key : String → Token
key word = Word (codes word)

-- the token `(`
abbrev pub LPAREN : Token
LPAREN = Symbol LeftParen

-- the token `)`
abbrev pub RPAREN : Token
RPAREN = Symbol RightParen

-- ---- lists: {x} with a token between two

-- how a part is spelled: its tokens, followed by others
abbrev pub Spelling : Type 0 → Type 0
Spelling X = X → List Token → List Token

-- each further one, with the token before it
abbrev pub more_tokens : {X : Type 0} → Token → Spelling X → Spelling (List X)
more_tokens between part [] rest = rest
more_tokens between part (x ∷ xs) rest = between ∷ part x (more_tokens between part xs rest)

-- the first one, and each further one
abbrev pub list_tokens : {X : Type 0} → Token → Spelling X → Spelling (List X)
list_tokens between part [] rest = rest
list_tokens between part (x ∷ xs) rest = part x (more_tokens between part xs rest)

-- at least one, and each is so
abbrev pub AreSome : {X : Type 0} → (X → Type 0) → List X → Type 0
AreSome Is xs = (xs ≢ []) × AllByRecursion Is xs

-- ---- columns and conditions

-- literal = integer | text | NULL
abbrev pub literal : Spelling Value
literal (values.Int n) rest = Number n ∷ rest
literal (values.Str text) rest = Text text ∷ rest
literal values.Null rest = key "NULL" ∷ rest

-- colref = name | name . name
abbrev pub qualifier : Spelling (Option (List ℕ))
qualifier None rest = rest
qualifier (Some table) rest = Word table ∷ Symbol Dot ∷ rest

-- a reference to a column, as it is spelled
abbrev pub column : Spelling RawCol
column c rest = qualifier c.table (Word c.column ∷ rest)

-- a name, where there is one
abbrev pub MayBeName : Option (List ℕ) → Type 0
MayBeName None = Unit {0}
MayBeName (Some name) = IsName name

-- a qualifier, where there is one, and a column are names
abbrev pub IsColumn : RawCol → Type 0
IsColumn c = MayBeName c.table × IsName c.column

-- compare = = | <> | < | <= | > | >=
abbrev pub compare : RawOp → Token
compare Eq = Symbol Equal
compare Ne = Symbol NotEqual
compare Lt = Symbol Less
compare Le = Symbol AtMost
compare Gt = Symbol Greater
compare Ge = Symbol AtLeast

-- operand = literal | colref
abbrev pub operand : Spelling RawOperand
operand (Literal value) rest = literal value rest
operand (Column c) rest = column c rest

-- a column on the right is one by its names
abbrev pub IsOperand : RawOperand → Type 0
IsOperand (Literal value) = Unit {0}
IsOperand (Column c) = IsColumn c

-- atom = colref compare operand
--      | colref BETWEEN literal AND literal
--      | colref IN ( literal {, literal} )
--      | colref IS [NOT] NULL
--      | colref STARTING WITH text
abbrev pub atom : Spelling RawAtom
atom (Compare c op right) rest = column c (compare op ∷ operand right rest)
atom (Between c low high) rest =
    column c (key "BETWEEN" ∷ literal low (key "AND" ∷ literal high rest))
atom (Among c list) rest =
    column c (key "IN" ∷ LPAREN ∷ list_tokens (Symbol Comma) literal list (RPAREN ∷ rest))
atom (IsNull c true) rest = column c (key "IS" ∷ key "NOT" ∷ key "NULL" ∷ rest)
atom (IsNull c false) rest = column c (key "IS" ∷ key "NULL" ∷ rest)
atom (Starts c text) rest = column c (key "STARTING" ∷ key "WITH" ∷ Text text ∷ rest)

-- the columns of an atom are names, and IN has a literal
abbrev pub IsAtom : RawAtom → Type 0
IsAtom (Compare c op right) = IsColumn c × IsOperand right
IsAtom (Between c low high) = IsColumn c
IsAtom (Among c list) = IsColumn c × (list ≢ [])
IsAtom (IsNull c negated) = IsColumn c
IsAtom (Starts c text) = IsColumn c

-- group = atom | ( atom {OR atom} )
pub data IsGroup : List RawAtom → List Token → List Token → Type 0 where
  bare : (a : RawAtom) (rest : List Token) → IsAtom a → IsGroup (a ∷ []) (atom a rest) rest
  in_parens : (atoms : List RawAtom) (rest : List Token) → AreSome IsAtom atoms
      → IsGroup atoms (LPAREN ∷ list_tokens (key "OR") atom atoms (RPAREN ∷ rest)) rest

-- group {AND group}
pub data AreGroups : List (List RawAtom) → List Token → List Token → Type 0 where
  one : (g : List RawAtom) (tokens rest : List Token)
      → IsGroup g tokens rest → AreGroups (g ∷ []) tokens rest
  more : (g : List RawAtom) (gs : List (List RawAtom)) (tokens after rest : List Token)
      → IsGroup g tokens (key "AND" ∷ after) → AreGroups gs after rest
      → AreGroups (g ∷ gs) tokens rest

-- cond = atom OR atom {OR atom} | group {AND group}
pub data IsCond : List (List RawAtom) → List Token → List Token → Type 0 where
  lone : (atoms : List RawAtom) (rest : List Token) → 1 < length atoms → AreSome IsAtom atoms
      → IsCond (atoms ∷ []) (list_tokens (key "OR") atom atoms rest) rest
  groups : (gs : List (List RawAtom)) (tokens rest : List Token)
      → AreGroups gs tokens rest → IsCond gs tokens rest

-- [WHERE cond]
pub data IsWhere : List (List RawAtom) → List Token → List Token → Type 0 where
  no_where : (rest : List Token) → IsWhere [] rest rest
  where_cond : (gs : List (List RawAtom)) (tokens rest : List Token)
      → IsCond gs tokens rest → IsWhere gs (key "WHERE" ∷ tokens) rest

-- ---- statements

-- name
abbrev pub name : Spelling (List ℕ)
name text rest = Word text ∷ rest

-- column = name BIGINT | name VARCHAR ( integer )
abbrev pub kind : Spelling RawKind
kind Big rest = key "BIGINT" ∷ rest
kind (Chars n) rest = key "VARCHAR" ∷ LPAREN ∷ Number n ∷ RPAREN ∷ rest

-- a column's name and kind, as they are spelled
abbrev pub column_def : Spelling (List ℕ × RawKind)
column_def d rest = Word d.0 ∷ kind d.1 rest

-- name = literal
abbrev pub set : Spelling (List ℕ × Value)
set s rest = Word s.0 ∷ Symbol Equal ∷ literal s.1 rest

-- [UNIQUE]
abbrev pub unique_word : Spelling Bool
unique_word false rest = rest
unique_word true rest = key "UNIQUE" ∷ rest

-- the first part is a name
abbrev pub IsNamed : {X : Type 0} → List ℕ × X → Type 0
IsNamed x = IsName x.0

-- returned = * | colref {, colref}
abbrev pub select_list : Spelling (Option (List RawCol))
select_list None rest = Symbol Star ∷ rest
select_list (Some columns) rest = list_tokens (Symbol Comma) column columns rest

-- `*`, or at least one column
abbrev pub IsSelectList : Option (List RawCol) → Type 0
IsSelectList None = Unit {0}
IsSelectList (Some columns) = AreSome IsColumn columns

-- item = name [name]
abbrev pub second_name : Spelling (Option (List ℕ))
second_name None rest = rest
second_name (Some name) rest = Word name ∷ rest

-- a table and its second name, as they are spelled
abbrev pub from_item : Spelling (List ℕ × Option (List ℕ))
from_item i rest = Word i.0 ∷ second_name i.1 rest

-- a table, and its second name where there is one, are names
abbrev pub IsItem : List ℕ × Option (List ℕ) → Type 0
IsItem i = IsName i.0 × MayBeName i.1

-- [ORDER BY colref {, colref}]
abbrev pub order_by : Spelling (List RawCol)
order_by [] rest = rest
order_by (c ∷ cs) rest = key "ORDER" ∷ key "BY" ∷ list_tokens (Symbol Comma) column (c ∷ cs) rest

-- [OPTIMIZE FOR FAST FIRST | OPTIMIZE FOR TOTAL TIME]
pub data IsGoal : RawGoal → List Token → List Token → Type 0 where
  no_goal : (rest : List Token) → IsGoal TotalTime rest rest
  total_time : (rest : List Token)
      → IsGoal TotalTime (key "OPTIMIZE" ∷ key "FOR" ∷ key "TOTAL" ∷ key "TIME" ∷ rest) rest
  fast_first : (rest : List Token)
      → IsGoal FastFirst (key "OPTIMIZE" ∷ key "FOR" ∷ key "FAST" ∷ key "FIRST" ∷ rest) rest

-- body = CREATE TABLE name ( column {, column} )
--      | CREATE [UNIQUE] INDEX name ON name ( name {, name} )
--      | BEGIN [READ ONLY]
--      | INSERT INTO name VALUES ( literal {, literal} )
--      | UPDATE name SET name = literal {, name = literal} [WHERE cond]
--      | DELETE FROM name [WHERE cond]
--      | COMMIT | ROLLBACK
--      | OPEN name SELECT returned FROM item {, item} [WHERE cond] [ORDER BY ..] [OPTIMIZE ..]
--      | FETCH name | SHOW name | CLOSE name
--      | STEP name integer
abbrev pub IsBody : Statement → List Token → List Token → Type 0
IsBody (CreateTable table columns) tokens rest = IsName table × AreSome IsNamed columns
    × (tokens ≡ key "CREATE" ∷ key "TABLE" ∷ Word table ∷ LPAREN
    ∷ list_tokens (Symbol Comma) column_def columns (RPAREN ∷ rest))
IsBody (CreateIndex unique index table columns) tokens rest =
    IsName index × IsName table × AreSome IsName columns
    × (tokens ≡ key "CREATE" ∷ unique_word unique (key "INDEX" ∷ Word index ∷ key "ON"
    ∷ Word table ∷ LPAREN ∷ list_tokens (Symbol Comma) name columns (RPAREN ∷ rest)))
IsBody (Begin false) tokens rest = tokens ≡ key "BEGIN" ∷ rest
IsBody (Begin true) tokens rest = tokens ≡ key "BEGIN" ∷ key "READ" ∷ key "ONLY" ∷ rest
IsBody (Insert table values) tokens rest = IsName table × (values ≢ [])
    × (tokens ≡ key "INSERT" ∷ key "INTO" ∷ Word table ∷ key "VALUES" ∷ LPAREN
    ∷ list_tokens (Symbol Comma) literal values (RPAREN ∷ rest))
IsBody (Update table sets only) tokens rest = (after : List Token) × IsName table
    × AreSome IsNamed sets × (tokens ≡ key "UPDATE" ∷ Word table ∷ key "SET"
    ∷ list_tokens (Symbol Comma) set sets after) × IsWhere only after rest
IsBody (Delete table only) tokens rest = (after : List Token) × IsName table
    × (tokens ≡ key "DELETE" ∷ key "FROM" ∷ Word table ∷ after) × IsWhere only after rest
IsBody Commit tokens rest = tokens ≡ key "COMMIT" ∷ rest
IsBody Rollback tokens rest = tokens ≡ key "ROLLBACK" ∷ rest
IsBody (Open cursor columns items only by goal) tokens rest =
    (condition : List Token) × (sorting : List Token) × (last : List Token)
    × IsName cursor × IsSelectList columns × AreSome IsItem items × AllByRecursion IsColumn by
    × (tokens ≡ key "OPEN" ∷ Word cursor ∷ key "SELECT"
    ∷ select_list columns (key "FROM" ∷ list_tokens (Symbol Comma) from_item items condition))
    × IsWhere only condition sorting × (sorting ≡ order_by by last) × IsGoal goal last rest
IsBody (Fetch cursor) tokens rest = IsName cursor × (tokens ≡ key "FETCH" ∷ Word cursor ∷ rest)
IsBody (Show cursor) tokens rest = IsName cursor × (tokens ≡ key "SHOW" ∷ Word cursor ∷ rest)
IsBody (Close cursor) tokens rest = IsName cursor × (tokens ≡ key "CLOSE" ∷ Word cursor ∷ rest)
IsBody (Step cursor n) tokens rest =
    IsName cursor × (tokens ≡ key "STEP" ∷ Word cursor ∷ Number n ∷ rest)

-- statement = body [;]
abbrev pub Derives : List Token → Statement → Type 0
Derives tokens s = IsBody s tokens [] ⊎ IsBody s tokens (Symbol Semicolon ∷ [])

-- WHAT A TEXT SAYS: its tokens derive the statement.
abbrev pub Says : List ℕ → Statement → Type 0
Says text s = (tokens : List Token) × Cuts text tokens [] × Derives tokens s
