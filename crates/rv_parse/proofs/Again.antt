-- What is spelled is read.
use Rattle.std.proofs.Common.{◌≡◌, ℕ, ℤ, zero, suc, ◌≤◌, ◌<◌, ◌+◌, length, List, [], ◌∷◌, Option, Some, None, Bool, true, false, refl, ap, ◌∙◌, arith, bytes_eq, nat_eq, ⊎_elim}
use Rattle.std.proofs.lemmas.Bool.Decides.{nat_tests}
use Rattle.std.specs.Prelude.{codes}
use Rattle.std.proofs.lemmas.Slice.Eq.{bytes_eq-Decides}
use Rattle.rv_value.specs.declared.value.Value.{Value}
use Rattle.rv_value.specs.declared.value.Value.TheVariants as values
use Rattle.rv_lang.specs.declared.token.Token.{Token}
use Rattle.rv_lang.specs.declared.token.Token.TheVariants.{Word, Int, Str}
use Rattle.rv_lang.specs.declared.statement.RawCol.{RawCol}
use Rattle.rv_lang.specs.declared.statement.RawKind.{RawKind}
use Rattle.rv_lang.specs.declared.statement.RawKind.TheVariants as kinds
use Rattle.rv_lang.specs.declared.statement.RawGoal.{RawGoal}
use Rattle.rv_lang.specs.declared.statement.RawGoal.TheVariants as goals
use Rattle.rv_lang.specs.declared.statement.Statement.{Statement}
use Rattle.rv_lang.specs.declared.statement.Statement.TheVariants.{CreateTable, CreateIndex, Begin, Insert, Update, Delete, Commit, Rollback, Open, Fetch, Show, Close, Step}
use Rattle.rv_lang.specs.declared.statement.RawOp.{RawOp}
use Rattle.rv_lang.specs.declared.statement.RawOp.TheVariants as ops
use Rattle.rv_lang.specs.declared.statement.RawOperand.{RawOperand}
use Rattle.rv_lang.specs.declared.statement.RawOperand.TheVariants as operands
use Rattle.rv_lang.specs.declared.statement.RawAtom.{RawAtom}
use Rattle.rv_lang.specs.declared.statement.RawAtom.TheVariants.{Compare, Between, Among, IsNull, Starts}
use Rattle.rv_lang.specs.Words.{is_keyword, IsName, AND, BETWEEN, FOR, FROM, IN, INDEX, INTO, IS, NOT, NULL, ON, ONLY, OPTIMIZE, OR, ORDER, READ, SELECT, SET, STARTING, TABLE, TIME, TOTAL, UNIQUE, VALUES, WHERE, WITH}
use Rattle.rv_lang.specs.Grammar.{literal, column, compare, operand, atom, closed, others, listed, AnyLiteral, AreAll, AreSome, IsColumn, IsOperand, IsAtom, COMMA, LPAREN, RPAREN, SEMICOLON, IsBare, IsGroup, AreGroups, IsLone, IsWhere, column_def, IsColumnDef, returned, AreReturned, item, IsItem, order, IsGoal, IsSelectEnd, IsBody, Derives, name, set, IsSet, unique_word}
use Rattle.rv_parse.specs.declared.list.Separator.{Separator}
use Rattle.rv_parse.specs.declared.list.Separator.TheVariants as separators
use Rattle.rv_parse.specs.Reading.{Read, word_at, name_at, literal_at, dot_at, op_at, column_at, operand_at, separator_at, list_at, list_of, enclosed_at, between_at, among_at, is_null_at, starts_at, compare_at, atom_rest, atom_at, closed_at, group_at, open_at, comma_at, groups_at, bare_end, cond_at, where_at, star_at, kind_at, column_def_at, create_table_at, insert_at, delete_at, begin_at, returned_at, item_at, order_at, named_goal_at, goal_at, open_cursor_at, create_at, create_index_at, index_at, set_at, update_at, fetch_at, show_at, close_cursor_at, step_at, cursor_at, body_at, parse_of}
use Rattle.rv_parse.proofs.Takes.{mark}

-- what a column may stand before
abbrev pub NoDot : List Token → Type 0
NoDot rest = dot_at rest ≡ None

pub name_again : (name : List ℕ) (rest : List Token) → IsName name → name_at (Word name ∷ rest) ≡ Some (name, rest)
name_again name rest named = rw named refl

pub literal_again : (v : Value) (rest : List Token) → literal_at (literal v rest) ≡ Some (v, rest)
literal_again (values.Int n) rest = refl
literal_again (values.Str t) rest = refl
literal_again values.Null rest = refl

column_again_of : (table : Option (List ℕ)) (name : List ℕ) (rest : List Token) → IsColumn (record { table = table; column = name }) → NoDot rest → column_at (column (record { table = table; column = name }) rest) ≡ Some (record { table = table; column = name }, rest)
column_again_of None name rest is no_dot = rw (is.1, no_dot) refl
column_again_of (Some table) name rest is no_dot = rw (is.0, is.1) refl

pub column_again : (c : RawCol) (rest : List Token) → IsColumn c → NoDot rest → column_at (column c rest) ≡ Some (c, rest)
column_again c rest is no_dot = column_again_of c.table c.column rest is no_dot

pub op_again : (op : RawOp) (rest : List Token) → op_at (compare op ∷ rest) ≡ Some (op, rest)
op_again ops.Eq rest = refl
op_again ops.Ne rest = refl
op_again ops.Lt rest = refl
op_again ops.Le rest = refl
op_again ops.Gt rest = refl
op_again ops.Ge rest = refl

-- ---- operands

not_keyword : (name word : List ℕ) → is_keyword name ≡ false → is_keyword word ≡ true → bytes_eq name word ≡ false
not_keyword name word h k = not_keyword_of name word h k (bytes_eq name word) (bytes_eq-Decides name word).0
  where
    not_keyword_of : (name word : List ℕ) → is_keyword name ≡ false → is_keyword word ≡ true → (b : Bool) → (b ≡ true → name ≡ word) → b ≡ false
    not_keyword_of name word h k true same = let e : name ≡ word = same refl in let f : is_keyword name ≡ is_keyword word = ap is_keyword e in cc
    not_keyword_of name word h k false same = refl

null_is : is_keyword (codes "NULL") ≡ true
unfolding is_keyword
null_is = refl

no_literal : (table : Option (List ℕ)) (name : List ℕ) (rest : List Token) → IsColumn (record { table = table; column = name }) → literal_at (column (record { table = table; column = name }) rest) ≡ None
no_literal None name rest is = rw (not_keyword name (codes "NULL") is.1 null_is) refl
no_literal (Some table) name rest is = rw (not_keyword table (codes "NULL") is.0 null_is) refl

pub operand_again : (o : RawOperand) (rest : List Token) → IsOperand o → NoDot rest → operand_at (operand o rest) ≡ Some (o, rest)
operand_again (operands.Literal v) rest is no_dot = rw (literal_again v rest) refl
operand_again (operands.Column c) rest is no_dot = rw (no_literal c.table c.column rest is, column_again c rest is no_dot) refl

-- ---- lists

module _ {X : Type 0} (part : List Token → Read X) (spell : X → List Token → List Token) (Is : X → Type 0) (Ends : List Token → Type 0) (s : Separator)
    (again : (x : X) (rest : List Token) → Is x → Ends rest → part (spell x rest) ≡ Some (x, rest))
    (between_ends : (rest : List Token) → Ends (mark s ∷ rest))
    (between_read : (rest : List Token) → separator_at s (mark s ∷ rest) ≡ Some rest)
    (longer : (x : X) (rest : List Token) → length rest < length (spell x rest)) where
  pub list_again : (n : ℕ) (xs : List X) (rest : List Token) → AreSome Is xs → Ends rest → separator_at s rest ≡ None → length xs ≤ n → list_at part s n (listed (mark s) spell xs rest) ≡ Some (xs, rest)
  list_again n [] rest is ends last le = absurd is
  list_again zero (x ∷ xs) rest is ends last le = absurd (omega arith)
  list_again (suc n) (x ∷ []) rest is ends last le = rw (again x rest is.0 ends, last) refl
  list_again (suc n) (x ∷ y ∷ xs) rest is ends last le =
      rw (again x (mark s ∷ listed (mark s) spell (y ∷ xs) rest) is.0 (between_ends _), between_read (listed (mark s) spell (y ∷ xs) rest), list_again n (y ∷ xs) rest is.1 ends last (omega arith)) refl

  others_long : (xs : List X) (rest : List Token) → length xs + length rest ≤ length (others (mark s) spell xs rest)
  others_long [] rest = omega arith
  others_long (x ∷ xs) rest = omega (arith, others_long xs rest, longer x (others (mark s) spell xs rest))

  listed_long : (xs : List X) (rest : List Token) → length xs ≤ length (listed (mark s) spell xs rest)
  listed_long [] rest = omega arith
  listed_long (x ∷ xs) rest = omega (arith, others_long xs rest, longer x (others (mark s) spell xs rest))

  pub listed_rest : (xs : List X) (rest : List Token) → length rest ≤ length (listed (mark s) spell xs rest)
  listed_rest [] rest = omega arith
  listed_rest (x ∷ xs) rest = omega (arith, others_long xs rest, longer x (others (mark s) spell xs rest))

  pub list_of_again : (xs : List X) (rest : List Token) → AreSome Is xs → Ends rest → separator_at s rest ≡ None → list_of part s (listed (mark s) spell xs rest) ≡ Some (xs, rest)
  unfolding list_of
  list_of_again xs rest is ends last = list_again (length (listed (mark s) spell xs rest)) xs rest is ends last (listed_long xs rest)

Anything : List Token → Type 0
Anything rest = Unit {0}

literal_longer : (v : Value) (rest : List Token) → length rest < length (literal v rest)
literal_longer (values.Int n) rest = omega arith
literal_longer (values.Str n) rest = omega arith
literal_longer values.Null rest = omega arith

pub literals_again : (xs : List Value) (rest : List Token) → AreSome AnyLiteral xs → separator_at separators.Comma rest ≡ None → list_of literal_at separators.Comma (listed COMMA literal xs rest) ≡ Some (xs, rest)
literals_again xs rest is last = list_of_again literal_at literal AnyLiteral (λ rest. Unit {0}) separators.Comma (λ x rest is e. literal_again x rest) (λ rest. tt) (λ rest. refl) literal_longer xs rest is tt last

literals_rest : (xs : List Value) (rest : List Token) → length rest ≤ length (listed COMMA literal xs rest)
literals_rest xs rest = listed_rest literal_at literal AnyLiteral (λ rest. Unit {0}) separators.Comma (λ x rest is e. literal_again x rest) (λ rest. tt) (λ rest. refl) literal_longer xs rest

column_longer_of : (table : Option (List ℕ)) (name : List ℕ) (rest : List Token) → length rest < length (column (record { table = table; column = name }) rest)
column_longer_of None name rest = omega arith
column_longer_of (Some table) name rest = omega arith

column_longer : (c : RawCol) (rest : List Token) → length rest < length (column c rest)
column_longer c rest = column_longer_of c.table c.column rest

operand_longer : (o : RawOperand) (rest : List Token) → length rest < length (operand o rest)
operand_longer (operands.Literal v) rest = literal_longer v rest
operand_longer (operands.Column c) rest = column_longer c rest

-- ---- atoms

op_no_word : (word : List ℕ) (op : RawOp) (rest : List Token) → word_at word (compare op ∷ rest) ≡ None
op_no_word word ops.Eq rest = refl
op_no_word word ops.Ne rest = refl
op_no_word word ops.Lt rest = refl
op_no_word word ops.Le rest = refl
op_no_word word ops.Gt rest = refl
op_no_word word ops.Ge rest = refl

op_no_dot : (op : RawOp) (rest : List Token) → NoDot (compare op ∷ rest)
op_no_dot ops.Eq rest = refl
op_no_dot ops.Ne rest = refl
op_no_dot ops.Lt rest = refl
op_no_dot ops.Le rest = refl
op_no_dot ops.Gt rest = refl
op_no_dot ops.Ge rest = refl

pub atom_again : (a : RawAtom) (rest : List Token) → IsAtom a → NoDot rest → atom_at (atom a rest) ≡ Some (a, rest)
unfolding atom_at atom_rest enclosed_at between_at among_at is_null_at starts_at compare_at
atom_again (Compare c op right) rest is no_dot = rw (column_again c (compare op ∷ operand right rest) is.0 (op_no_dot op _), op_no_word (codes "BETWEEN") op (operand right rest), op_no_word (codes "IN") op (operand right rest), op_no_word (codes "IS") op (operand right rest), op_no_word (codes "STARTING") op (operand right rest), op_again op (operand right rest), operand_again right rest is.1 no_dot) refl
atom_again (Between c low high) rest is no_dot = rw (column_again c (BETWEEN ∷ literal low (AND ∷ literal high rest)) is refl, literal_again low (AND ∷ literal high rest), literal_again high rest) refl
atom_again (Among c list) rest is no_dot = rw (column_again c (IN ∷ LPAREN ∷ listed COMMA literal list (RPAREN ∷ rest)) is.0 refl, literals_again list (RPAREN ∷ rest) is.1 refl) refl
atom_again (IsNull c true) rest is no_dot = rw (column_again c (IS ∷ NOT ∷ NULL ∷ rest) is refl) refl
atom_again (IsNull c false) rest is no_dot = rw (column_again c (IS ∷ NULL ∷ rest) is refl) refl
atom_again (Starts c text) rest is no_dot = rw (column_again c (STARTING ∷ WITH ∷ Str text ∷ rest) is refl) refl

atom_longer : (a : RawAtom) (rest : List Token) → length rest < length (atom a rest)
atom_longer (Compare c op right) rest = omega (arith, column_longer c (compare op ∷ operand right rest), operand_longer right rest)
atom_longer (Between c low high) rest = omega (arith, column_longer c (BETWEEN ∷ literal low (AND ∷ literal high rest)), literal_longer low (AND ∷ literal high rest), literal_longer high rest)
atom_longer (Among c list) rest = omega (arith, column_longer c (IN ∷ LPAREN ∷ listed COMMA literal list (RPAREN ∷ rest)), literals_rest list (RPAREN ∷ rest))
atom_longer (IsNull c true) rest = omega (arith, column_longer c (IS ∷ NOT ∷ NULL ∷ rest))
atom_longer (IsNull c false) rest = omega (arith, column_longer c (IS ∷ NULL ∷ rest))
atom_longer (Starts c text) rest = omega (arith, column_longer c (STARTING ∷ WITH ∷ Str text ∷ rest))

-- ---- groups and conditions

no_open_of : (table : Option (List ℕ)) (name : List ℕ) (rest : List Token) → open_at (column (record { table = table; column = name }) rest) ≡ None
no_open_of None name rest = refl
no_open_of (Some table) name rest = refl

atom_no_open : (a : RawAtom) (rest : List Token) → open_at (atom a rest) ≡ None
atom_no_open (Compare c op right) rest = no_open_of c.table c.column _
atom_no_open (Between c low high) rest = no_open_of c.table c.column _
atom_no_open (Among c list) rest = no_open_of c.table c.column _
atom_no_open (IsNull c true) rest = no_open_of c.table c.column _
atom_no_open (IsNull c false) rest = no_open_of c.table c.column _
atom_no_open (Starts c text) rest = no_open_of c.table c.column _

pub atoms_again : (xs : List RawAtom) (rest : List Token) → AreSome IsAtom xs → NoDot rest → word_at (codes "OR") rest ≡ None → list_of atom_at separators.Or (listed OR atom xs rest) ≡ Some (xs, rest)
atoms_again xs rest is no_dot last = list_of_again atom_at atom IsAtom NoDot separators.Or atom_again (λ rest. refl) (λ rest. refl) atom_longer xs rest is no_dot last

atoms_rest : (xs : List RawAtom) (rest : List Token) → length rest ≤ length (listed OR atom xs rest)
atoms_rest xs rest = listed_rest atom_at atom IsAtom NoDot separators.Or atom_again (λ rest. refl) (λ rest. refl) atom_longer xs rest

closed_again : (g : List RawAtom) (tokens rest : List Token) → AreSome IsAtom g → tokens ≡ closed g rest → group_at tokens ≡ Some (g, rest)
unfolding group_at closed_at
closed_again g tokens rest is e = rw (e, atoms_again g (RPAREN ∷ rest) is refl refl) refl

bare_again : (g : List RawAtom) (tokens rest : List Token) → IsBare g tokens rest → NoDot rest → group_at tokens ≡ Some (g, rest)
unfolding group_at
bare_again [] tokens rest h no_dot = absurd h
bare_again (a ∷ []) tokens rest h no_dot = rw (h.1, atom_no_open a rest, atom_again a rest h.0 no_dot) refl
bare_again (a ∷ b ∷ g) tokens rest h no_dot = absurd h

pub group_again : (g : List RawAtom) (tokens rest : List Token) → IsGroup g tokens rest → NoDot rest → group_at tokens ≡ Some (g, rest)
group_again g tokens rest h no_dot = ⊎_elim (λ bare. bare_again g tokens rest bare no_dot) (λ c. closed_again g tokens rest c.0 c.1) h

bare_longer : (g : List RawAtom) (tokens rest : List Token) → IsBare g tokens rest → length rest < length tokens
bare_longer [] tokens rest h = absurd h
bare_longer (a ∷ []) tokens rest h = rw h.1 (atom_longer a rest)
bare_longer (a ∷ b ∷ g) tokens rest h = absurd h

closed_longer : (g : List RawAtom) (tokens rest : List Token) → tokens ≡ closed g rest → length rest < length tokens
closed_longer g tokens rest e = rw e (omega (arith, atoms_rest g (RPAREN ∷ rest)))

group_longer : (g : List RawAtom) (tokens rest : List Token) → IsGroup g tokens rest → length rest < length tokens
group_longer g tokens rest h = ⊎_elim (λ bare. bare_longer g tokens rest bare) (λ c. closed_longer g tokens rest c.1) h

groups_long : (gs : List (List RawAtom)) (tokens rest : List Token) → AreGroups gs tokens rest → length gs + length rest ≤ length tokens
groups_long [] tokens rest h = absurd h
groups_long (g ∷ []) tokens rest h = omega (arith, group_longer g tokens rest h)
groups_long (g ∷ k ∷ gs) tokens rest h = omega (arith, group_longer g tokens (AND ∷ h.0) h.1, groups_long (k ∷ gs) h.0 rest h.2)

groups_again_n : (n : ℕ) (gs : List (List RawAtom)) (tokens rest : List Token) → AreGroups gs tokens rest → NoDot rest → word_at (codes "AND") rest ≡ None → length gs ≤ n → list_at group_at separators.And n tokens ≡ Some (gs, rest)
groups_again_n n [] tokens rest h no_dot last le = absurd h
groups_again_n zero (g ∷ gs) tokens rest h no_dot last le = absurd (omega arith)
groups_again_n (suc n) (g ∷ []) tokens rest h no_dot last le = rw (group_again g tokens rest h no_dot, last) refl
groups_again_n (suc n) (g ∷ k ∷ gs) tokens rest h no_dot last le = rw (group_again g tokens (AND ∷ h.0) h.1 refl, groups_again_n n (k ∷ gs) h.0 rest h.2 no_dot last (omega arith)) refl

pub groups_again : (gs : List (List RawAtom)) (tokens rest : List Token) → AreGroups gs tokens rest → NoDot rest → word_at (codes "AND") rest ≡ None → groups_at tokens ≡ Some (gs, rest)
unfolding groups_at list_of
groups_again gs tokens rest h no_dot last = groups_again_n (length tokens) gs tokens rest h no_dot last (omega (arith, groups_long gs tokens rest h))

-- what a list of conditions may stand before
pub record Quiet (rest : List Token) : Type 0 where
  pub name : name_at rest ≡ None
  pub dot : dot_at rest ≡ None
  pub comma : comma_at rest ≡ None
  pub or : word_at (codes "OR") rest ≡ None
  pub and : word_at (codes "AND") rest ≡ None

bare_first : (g : List RawAtom) (tokens rest : List Token) → IsBare g tokens rest → NoDot rest → word_at (codes "OR") rest ≡ None → cond_at tokens ≡ bare_end g rest
unfolding cond_at
bare_first [] tokens rest h no_dot no_or = absurd h
bare_first (a ∷ []) tokens rest h no_dot no_or = rw (h.1, atom_no_open a rest, atoms_again (a ∷ []) rest (h.0, tt) no_dot no_or) refl
bare_first (a ∷ b ∷ g) tokens rest h no_dot no_or = absurd h

bare_one : (g : List RawAtom) (tokens rest : List Token) → IsBare g tokens rest → nat_eq (length g) 1 ≡ true
bare_one [] tokens rest h = absurd h
bare_one (a ∷ []) tokens rest h = refl
bare_one (a ∷ b ∷ g) tokens rest h = absurd h

closed_first : (g : List RawAtom) (tokens rest : List Token) → tokens ≡ closed g rest → cond_at tokens ≡ groups_at tokens
unfolding cond_at
closed_first g tokens rest e = rw e refl

cond_groups : (gs : List (List RawAtom)) (tokens rest : List Token) → AreGroups gs tokens rest → Quiet rest → cond_at tokens ≡ Some (gs, rest)
unfolding bare_end
cond_groups [] tokens rest h q = absurd h
cond_groups (g ∷ []) tokens rest h q = ⊎_elim (λ bare. bare_first g tokens rest bare q.dot q.or ∙ rw (bare_one g tokens rest bare, q.and) refl) (λ c. closed_first g tokens rest c.1 ∙ groups_again (g ∷ []) tokens rest h q.dot q.and) h
cond_groups (g ∷ k ∷ gs) tokens rest h q = ⊎_elim
    (λ bare. bare_first g tokens (AND ∷ h.0) bare refl refl ∙ rw (bare_one g tokens (AND ∷ h.0) bare, groups_again (k ∷ gs) h.0 rest h.2 q.dot q.and) refl)
    (λ c. closed_first g tokens (AND ∷ h.0) c.1 ∙ groups_again (g ∷ k ∷ gs) tokens rest h q.dot q.and) h.1

listed_no_open : (g : List RawAtom) (rest : List Token) → AreSome IsAtom g → open_at (listed OR atom g rest) ≡ None
listed_no_open [] rest is = absurd is
listed_no_open (a ∷ g) rest is = atom_no_open a _

cond_lone : (gs : List (List RawAtom)) (tokens rest : List Token) → IsLone gs tokens rest → Quiet rest → cond_at tokens ≡ Some (gs, rest)
unfolding cond_at bare_end
cond_lone [] tokens rest h q = absurd h
cond_lone (g ∷ []) tokens rest h q =
    let many : nat_eq (length g) 1 ≡ false = grind (arith, nat_tests, h.0) in
    rw (h.2, listed_no_open g rest h.1, atoms_again g rest h.1 q.dot q.or, many) refl
cond_lone (g ∷ k ∷ gs) tokens rest h q = absurd h

pub where_again : (gs : List (List RawAtom)) (tokens rest : List Token) → IsWhere gs tokens rest → Quiet rest → word_at (codes "WHERE") rest ≡ None → where_at tokens ≡ Some (gs, rest)
unfolding where_at
where_again [] tokens rest h q no_where = rw (h, no_where) refl
where_again (g ∷ gs) tokens rest h q no_where =
    let c : cond_at h.0 ≡ Some (g ∷ gs, rest) = ⊎_elim (λ l. cond_lone (g ∷ gs) h.0 rest l q) (λ l. cond_groups (g ∷ gs) h.0 rest l q) h.2 in
    rw (h.1, c) refl

-- ---- statements

pub column_def_again : (d : List ℕ × RawKind) (rest : List Token) → IsColumnDef d → column_def_at (column_def d rest) ≡ Some (d, rest)
unfolding column_def_at kind_at
column_def_again (name, kinds.Big) rest is = rw is refl
column_def_again (name, kinds.Chars n) rest is = rw is refl

column_def_longer : (d : List ℕ × RawKind) (rest : List Token) → length rest < length (column_def d rest)
column_def_longer (name, kinds.Big) rest = omega arith
column_def_longer (name, kinds.Chars n) rest = omega arith

create_table_again : (name : List ℕ) (columns : List (List ℕ × RawKind)) (rest : List Token) → IsName name → AreSome IsColumnDef columns → create_table_at (Word name ∷ LPAREN ∷ listed COMMA column_def columns (RPAREN ∷ rest)) ≡ Some (CreateTable name columns, rest)
unfolding create_table_at enclosed_at
create_table_again name columns rest named are = rw (named, list_of_again column_def_at column_def IsColumnDef (λ rest. Unit {0}) separators.Comma (λ x rest is e. column_def_again x rest is) (λ rest. tt) (λ rest. refl) column_def_longer columns (RPAREN ∷ rest) are tt refl) refl

name_longer : (n : List ℕ) (rest : List Token) → length rest < length (name n rest)
name_longer n rest = omega arith

create_index_again : (unique : Bool) (index table : List ℕ) (columns : List (List ℕ)) (rest : List Token) → IsName index → IsName table → AreSome IsName columns → create_index_at unique (INDEX ∷ Word index ∷ ON ∷ Word table ∷ LPAREN ∷ listed COMMA name columns (RPAREN ∷ rest)) ≡ Some (CreateIndex unique index table columns, rest)
unfolding create_index_at enclosed_at
create_index_again unique index table columns rest named on are = rw (named, on, list_of_again name_at name IsName (λ rest. Unit {0}) separators.Comma (λ x rest is e. name_again x rest is) (λ rest. tt) (λ rest. refl) name_longer columns (RPAREN ∷ rest) are tt refl) refl

create_table_first : (tokens : List Token) → create_at (TABLE ∷ tokens) ≡ create_table_at tokens
unfolding create_at
create_table_first tokens = refl

create_index_first : (unique : Bool) (tokens : List Token) → create_at (unique_word unique (INDEX ∷ tokens)) ≡ create_index_at unique (INDEX ∷ tokens)
unfolding create_at index_at
create_index_first false tokens = refl
create_index_first true tokens = refl

set_again : (s : List ℕ × Value) (rest : List Token) → IsSet s → set_at (set s rest) ≡ Some (s, rest)
unfolding set_at
set_again (column, v) rest is = rw (is, literal_again v rest) refl

set_longer : (s : List ℕ × Value) (rest : List Token) → length rest < length (set s rest)
set_longer (column, v) rest = omega (arith, literal_longer v rest)

insert_again : (table : List ℕ) (values : List Value) (rest : List Token) → IsName table → AreSome AnyLiteral values → insert_at (INTO ∷ Word table ∷ VALUES ∷ LPAREN ∷ listed COMMA literal values (RPAREN ∷ rest)) ≡ Some (Insert table values, rest)
unfolding insert_at enclosed_at
insert_again table values rest named are = rw (named, literals_again values (RPAREN ∷ rest) are refl) refl

item_again : (i : List ℕ × Option (List ℕ)) (rest : List Token) → IsItem i → name_at rest ≡ None → item_at (item i rest) ≡ Some (i, rest)
unfolding item_at
item_again (table, None) rest is end = rw (is.0, end) refl
item_again (table, Some second) rest is end = rw (is.0, is.1) refl

item_longer : (i : List ℕ × Option (List ℕ)) (rest : List Token) → length rest < length (item i rest)
item_longer (table, None) rest = omega arith
item_longer (table, Some second) rest = omega arith

items_again : (xs : List (List ℕ × Option (List ℕ))) (rest : List Token) → AreSome IsItem xs → Quiet rest → list_of item_at separators.Comma (listed COMMA item xs rest) ≡ Some (xs, rest)
items_again xs rest are q = list_of_again item_at item IsItem (λ rest. name_at rest ≡ None) separators.Comma item_again (λ rest. refl) (λ rest. refl) item_longer xs rest are q.name q.comma

columns_again : (xs : List RawCol) (rest : List Token) → AreSome IsColumn xs → NoDot rest → comma_at rest ≡ None → list_of column_at separators.Comma (listed COMMA column xs rest) ≡ Some (xs, rest)
columns_again xs rest are no_dot no_comma = list_of_again column_at column IsColumn NoDot separators.Comma column_again (λ rest. refl) (λ rest. refl) column_longer xs rest are no_dot no_comma

no_star_of : (table : Option (List ℕ)) (name : List ℕ) (rest : List Token) → star_at (column (record { table = table; column = name }) rest) ≡ None
no_star_of None name rest = refl
no_star_of (Some table) name rest = refl

columns_no_star : (xs : List RawCol) (rest : List Token) → AreSome IsColumn xs → star_at (listed COMMA column xs rest) ≡ None
columns_no_star [] rest are = absurd are
columns_no_star (c ∷ cs) rest are = no_star_of c.table c.column _

returned_again : (r : Option (List RawCol)) (rest : List Token) → AreReturned r → NoDot rest → comma_at rest ≡ None → returned_at (returned r rest) ≡ Some (r, rest)
unfolding returned_at
returned_again None rest are no_dot no_comma = refl
returned_again (Some cs) rest are no_dot no_comma = rw (columns_no_star cs rest are, columns_again cs rest are no_dot no_comma) refl

order_again : (cs : List RawCol) (rest : List Token) → AreAll IsColumn cs → NoDot rest → comma_at rest ≡ None → word_at (codes "ORDER") rest ≡ None → order_at (order cs rest) ≡ Some (cs, rest)
unfolding order_at
order_again [] rest are no_dot no_comma no_order = rw no_order refl
order_again (c ∷ cs) rest are no_dot no_comma no_order = rw (columns_again (c ∷ cs) rest are no_dot no_comma) refl

goal_default : (rest : List Token) → word_at (codes "OPTIMIZE") rest ≡ None → goal_at rest ≡ Some (goals.TotalTime, rest)
unfolding goal_at
goal_default rest end = rw end refl

goal_total : (rest : List Token) → goal_at (OPTIMIZE ∷ FOR ∷ TOTAL ∷ TIME ∷ rest) ≡ Some (goals.TotalTime, rest)
unfolding goal_at named_goal_at
goal_total rest = refl

goal_again : (g : RawGoal) (tokens rest : List Token) → IsGoal g tokens rest → word_at (codes "OPTIMIZE") rest ≡ None → goal_at tokens ≡ Some (g, rest)
unfolding goal_at named_goal_at
goal_again goals.FastFirst tokens rest h end = rw h refl
goal_again goals.TotalTime tokens rest h end = ⊎_elim (λ e. ap goal_at e ∙ goal_default rest end) (λ e. ap goal_at e ∙ goal_total rest) h

where_quiet_word : (rest : List Token) → Quiet (WHERE ∷ rest)
unfolding is_keyword
where_quiet_word rest = record { name = refl; dot = refl; comma = refl; or = refl; and = refl }

order_quiet_word : (rest : List Token) → Quiet (ORDER ∷ rest)
unfolding is_keyword
order_quiet_word rest = record { name = refl; dot = refl; comma = refl; or = refl; and = refl }

optimize_quiet_word : (rest : List Token) → Quiet (OPTIMIZE ∷ rest)
unfolding is_keyword
optimize_quiet_word rest = record { name = refl; dot = refl; comma = refl; or = refl; and = refl }

-- the tokens after a statement
pub record IsEnd (rest : List Token) : Type 0 where
  pub quiet : Quiet rest
  pub no_word : (word : List ℕ) → word_at word rest ≡ None

goal_quiet : (g : RawGoal) (tokens rest : List Token) → IsGoal g tokens rest → IsEnd rest → Quiet tokens × (word_at (codes "WHERE") tokens ≡ None) × (word_at (codes "ORDER") tokens ≡ None)
goal_quiet goals.FastFirst tokens rest h end = rw h (optimize_quiet_word _, refl, refl)
goal_quiet goals.TotalTime tokens rest h end = ⊎_elim (λ e. rw e (end.quiet, end.no_word (codes "WHERE"), end.no_word (codes "ORDER"))) (λ e. rw e (optimize_quiet_word _, refl, refl)) h

order_quiet : (cs : List RawCol) (rest : List Token) → Quiet rest → word_at (codes "WHERE") rest ≡ None → Quiet (order cs rest) × (word_at (codes "WHERE") (order cs rest) ≡ None)
order_quiet [] rest q no_where = (q, no_where)
order_quiet (c ∷ cs) rest q no_where = (order_quiet_word _, refl)

where_quiet : (gs : List (List RawAtom)) (tokens rest : List Token) → IsWhere gs tokens rest → Quiet rest → Quiet tokens
where_quiet [] tokens rest h q = rw h q
where_quiet (g ∷ gs) tokens rest h q = rw h.1 (where_quiet_word _)

begin_plain : (rest : List Token) → word_at (codes "READ") rest ≡ None → begin_at rest ≡ Some (Begin false, rest)
unfolding begin_at
begin_plain rest e = rw e refl

begin_read_only : (rest : List Token) → begin_at (READ ∷ ONLY ∷ rest) ≡ Some (Begin true, rest)
unfolding begin_at
begin_read_only rest = refl

delete_again : (table : List ℕ) (only : List (List RawAtom)) (after rest : List Token) → IsName table → IsWhere only after rest → IsEnd rest → delete_at (FROM ∷ Word table ∷ after) ≡ Some (Delete table only, rest)
unfolding delete_at
delete_again table only after rest named w end = rw (named, where_again only after rest w end.quiet (end.no_word (codes "WHERE"))) refl

update_again : (table : List ℕ) (sets : List (List ℕ × Value)) (only : List (List RawAtom)) (after rest : List Token) → IsName table → AreSome IsSet sets → IsWhere only after rest → IsEnd rest → update_at (Word table ∷ SET ∷ listed COMMA set sets after) ≡ Some (Update table sets only, rest)
unfolding update_at
update_again table sets only after rest named are w end =
    let quiet = where_quiet only after rest w end.quiet in
    rw (named, list_of_again set_at set IsSet (λ rest. Unit {0}) separators.Comma (λ x rest is e. set_again x rest is) (λ rest. tt) (λ rest. refl) set_longer sets after are tt quiet.comma, where_again only after rest w end.quiet (end.no_word (codes "WHERE"))) refl

fetch_again : (cursor : List ℕ) (rest : List Token) → IsName cursor → fetch_at (Word cursor ∷ rest) ≡ Some (Fetch cursor, rest)
unfolding fetch_at
fetch_again cursor rest named = rw named refl

show_again : (cursor : List ℕ) (rest : List Token) → IsName cursor → show_at (Word cursor ∷ rest) ≡ Some (Show cursor, rest)
unfolding show_at
show_again cursor rest named = rw named refl

close_again : (cursor : List ℕ) (rest : List Token) → IsName cursor → close_cursor_at (Word cursor ∷ rest) ≡ Some (Close cursor, rest)
unfolding close_cursor_at
close_again cursor rest named = rw named refl

step_again : (cursor : List ℕ) (n : ℤ) (rest : List Token) → IsName cursor → step_at (Word cursor ∷ Int n ∷ rest) ≡ Some (Step cursor n, rest)
unfolding step_at
step_again cursor n rest named = rw named refl

open_cursor_again : (cursor : List ℕ) (columns : Option (List RawCol)) (items : List (List ℕ × Option (List ℕ))) (only : List (List RawAtom)) (by : List RawCol) (goal : RawGoal) (after rest : List Token) → IsName cursor → AreReturned columns → AreSome IsItem items → IsSelectEnd only by goal after rest → IsEnd rest
    → open_cursor_at (Word cursor ∷ SELECT ∷ returned columns (FROM ∷ listed COMMA item items after)) ≡ Some (Open cursor columns items only by goal, rest)
unfolding open_cursor_at
open_cursor_again cursor columns items only by goal after rest named are_columns are_items tail end =
    let g = goal_quiet goal tail.after_order rest tail.goal_is end in
    let o = order_quiet by tail.after_order g.0 g.1 in
    let quiet : Quiet tail.after_where = rw tail.order_is o.0 in
    let no_where : word_at (codes "WHERE") tail.after_where ≡ None = rw tail.order_is o.1 in
    let by_read : order_at tail.after_where ≡ Some (by, tail.after_order) = rw tail.order_is (order_again by tail.after_order tail.order_names g.0.dot g.0.comma g.2) in
    rw (named, returned_again columns (FROM ∷ listed COMMA item items after) are_columns refl refl, items_again items after are_items (where_quiet only after tail.after_where tail.where_is quiet), where_again only after tail.after_where tail.where_is quiet no_where, by_read, goal_again goal tail.after_order rest tail.goal_is (end.no_word (codes "OPTIMIZE"))) refl

pub body_again : (s : Statement) (tokens rest : List Token) → IsBody s tokens rest → IsEnd rest → body_at tokens ≡ Some (s, rest)
unfolding body_at cursor_at
body_again (CreateTable table columns) tokens rest h end = rw (h.2, create_table_first (Word table ∷ LPAREN ∷ listed COMMA column_def columns (RPAREN ∷ rest)), create_table_again table columns rest h.0 h.1) refl
body_again (CreateIndex unique index table columns) tokens rest h end = rw (h.3, create_index_first unique (Word index ∷ ON ∷ Word table ∷ LPAREN ∷ listed COMMA name columns (RPAREN ∷ rest)), create_index_again unique index table columns rest h.0 h.1 h.2) refl
body_again (Begin false) tokens rest h end = rw (h, begin_plain rest (end.no_word (codes "READ"))) refl
body_again (Begin true) tokens rest h end = rw (h, begin_read_only rest) refl
body_again (Insert table values) tokens rest h end = rw (h.2, insert_again table values rest h.0 h.1) refl
body_again (Update table sets only) tokens rest h end = rw (h.3, update_again table sets only h.0 rest h.1 h.2 h.4 end) refl
body_again (Delete table only) tokens rest h end = rw (h.2, delete_again table only h.0 rest h.1 h.3 end) refl
body_again Commit tokens rest h end = rw h refl
body_again Rollback tokens rest h end = rw h refl
body_again (Open cursor columns items only by goal) tokens rest h end = rw (h.4, open_cursor_again cursor columns items only by goal h.0 rest h.1 h.2 h.3 h.5 end) refl
body_again (Fetch cursor) tokens rest h end = rw (h.1, fetch_again cursor rest h.0) refl
body_again (Show cursor) tokens rest h end = rw (h.1, show_again cursor rest h.0) refl
body_again (Close cursor) tokens rest h end = rw (h.1, close_again cursor rest h.0) refl
body_again (Step cursor n) tokens rest h end = rw (h.1, step_again cursor n rest h.0) refl

nil_end : IsEnd []
nil_end = record { quiet = record { name = refl; dot = refl; comma = refl; or = refl; and = refl }; no_word = λ word. refl }

semicolon_end : IsEnd (SEMICOLON ∷ [])
semicolon_end = record { quiet = record { name = refl; dot = refl; comma = refl; or = refl; and = refl }; no_word = λ word. refl }

pub statement_again : (tokens : List Token) (s : Statement) → Derives tokens s → parse_of tokens ≡ Some s
unfolding parse_of
statement_again tokens s h = ⊎_elim (λ b. rw (body_again s tokens [] b nil_end) refl) (λ b. rw (body_again s tokens (SEMICOLON ∷ []) b semicolon_end) refl) h
