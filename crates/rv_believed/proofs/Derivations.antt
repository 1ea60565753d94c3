-- Bridge: the believed grammar derives what the working one derives.
use Rattle.std.proofs.Common.{◌≡◌, ◌≢◌, ℕ, List, [], ◌∷◌, Option, Some, None, Bool, true, false, refl, ap, sym, ◌∙◌, subst, inl, inr}
use Rattle.std.specs.List.{AllByRecursion}
use Rattle.rv_value.specs.declared.value.Value.{Value}
use Rattle.rv_value.specs.declared.value.Value.TheVariants as values
use Rattle.rv_lang.specs.declared.token.Token.{Token}
use Rattle.rv_lang.specs.declared.token.Token.TheVariants.{Word, Str as Text, Symbol}
use Rattle.rv_lang.specs.declared.token.Symbol.TheVariants.{Comma, Semicolon, Equal}
use Rattle.rv_lang.specs.declared.statement.RawCol.{RawCol}
use Rattle.rv_lang.specs.declared.statement.RawKind.{RawKind}
use Rattle.rv_lang.specs.declared.statement.RawKind.TheVariants.{Big, Chars}
use Rattle.rv_lang.specs.declared.statement.RawGoal.{RawGoal}
use Rattle.rv_lang.specs.declared.statement.RawGoal.TheVariants.{FastFirst, TotalTime}
use Rattle.rv_lang.specs.declared.statement.RawOp.{RawOp}
use Rattle.rv_lang.specs.declared.statement.RawOp.TheVariants.{Eq, Ne, Lt, Le, Gt, Ge}
use Rattle.rv_lang.specs.declared.statement.RawOperand.{RawOperand}
use Rattle.rv_lang.specs.declared.statement.RawOperand.TheVariants.{Literal, Column}
use Rattle.rv_lang.specs.declared.statement.RawAtom.{RawAtom}
use Rattle.rv_lang.specs.declared.statement.RawAtom.TheVariants.{Compare, Between, Among, IsNull, Starts}
use Rattle.rv_lang.specs.declared.statement.Statement.{Statement}
use Rattle.rv_lang.specs.declared.statement.Statement.TheVariants.{CreateTable, CreateIndex, Begin, Insert, Update, Delete, Commit, Rollback, Open, Fetch, Show, Close, Step}
use Rattle.rv_lang.specs.Words as words
use Rattle.rv_lang.specs.Grammar as today
use Rattle.rv_believed.specs.Grammar.{IsName, key, LPAREN, RPAREN, more_tokens, list_tokens, AreSome, literal, qualifier, column, MayBeName, IsColumn, compare, operand, IsOperand, atom, IsAtom, IsGroup, bare, in_parens, AreGroups, one, more, IsCond, lone, groups, IsWhere, no_where, where_cond, name, kind, column_def, set, unique_word, IsNamed, select_list, IsSelectList, second_name, from_item, IsItem, order_by, IsGoal, no_goal, total_time, fast_first, IsBody, Derives}

-- ---- names, and lists of parts

name_to : (n : List ℕ) → IsName n → words.IsName n
unfolding words.is_keyword
name_to n h = h

name_from : (n : List ℕ) → words.IsName n → IsName n
unfolding words.is_keyword
name_from n h = h

more_same : {X : Type 0} (between : Token) (p q : X → List Token → List Token) → ((x : X) (rest : List Token) → p x rest ≡ q x rest)
    → (xs : List X) (rest : List Token) → more_tokens between p xs rest ≡ today.others between q xs rest
more_same between p q same [] rest = refl
more_same between p q same (x ∷ xs) rest = λ i. between ∷ same x (more_same between p q same xs rest i) i

list_same : {X : Type 0} (between : Token) (p q : X → List Token → List Token) → ((x : X) (rest : List Token) → p x rest ≡ q x rest)
    → (xs : List X) (rest : List Token) → list_tokens between p xs rest ≡ today.listed between q xs rest
list_same between p q same [] rest = refl
list_same between p q same (x ∷ xs) rest = λ i. same x (more_same between p q same xs rest i) i

all_to : {X : Type 0} (P Q : X → Type 0) → ((x : X) → P x → Q x) → (xs : List X) → AllByRecursion P xs → today.AreAll Q xs
all_to P Q f [] h = tt
all_to P Q f (x ∷ xs) h = (f x h.0, all_to P Q f xs h.1)

all_from : {X : Type 0} (P Q : X → Type 0) → ((x : X) → Q x → P x) → (xs : List X) → today.AreAll Q xs → AllByRecursion P xs
all_from P Q f [] h = tt
all_from P Q f (x ∷ xs) h = (f x h.0, all_from P Q f xs h.1)

abbrev HasSome : {X : Type 0} → List X → Type 0
HasSome [] = ⊥
HasSome (x ∷ xs) = Unit {0}

not_empty : {X : Type 0} (x : X) (xs : List X) → (x ∷ xs) ≢ []
not_empty x xs p = subst HasSome p tt

some_to : {X : Type 0} (P Q : X → Type 0) → ((x : X) → P x → Q x) → (xs : List X) → AreSome P xs → today.AreSome Q xs
some_to P Q f [] h = absurd (h.0 refl)
some_to P Q f (x ∷ xs) h = (f x h.1.0, all_to P Q f xs h.1.1)

some_from : {X : Type 0} (P Q : X → Type 0) → ((x : X) → Q x → P x) → (xs : List X) → today.AreSome Q xs → AreSome P xs
some_from P Q f [] h = absurd h
some_from P Q f (x ∷ xs) h = (not_empty x xs, (f x h.0, all_from P Q f xs h.1))

all_literals : (xs : List Value) → today.AreAll today.AnyLiteral xs
all_literals [] = tt
all_literals (x ∷ xs) = (tt, all_literals xs)

literals_to : (xs : List Value) → xs ≢ [] → today.AreSome today.AnyLiteral xs
literals_to [] h = absurd (h refl)
literals_to (x ∷ xs) h = (tt, all_literals xs)

literals_from : (xs : List Value) → today.AreSome today.AnyLiteral xs → xs ≢ []
literals_from [] h = absurd h
literals_from (x ∷ xs) h = not_empty x xs

-- ---- columns and conditions

literal_same : (v : Value) (rest : List Token) → literal v rest ≡ today.literal v rest
literal_same (values.Int n) rest = refl
literal_same (values.Str text) rest = refl
literal_same values.Null rest = refl

qualifier_same : (o : Option (List ℕ)) (rest : List Token) → qualifier o rest ≡ today.qualified o rest
qualifier_same None rest = refl
qualifier_same (Some table) rest = refl

column_same : (c : RawCol) (rest : List Token) → column c rest ≡ today.column c rest
column_same c rest = qualifier_same c.table (Word c.column ∷ rest)

may_be_to : (o : Option (List ℕ)) → MayBeName o → today.IsQualifier o
may_be_to None h = tt
may_be_to (Some n) h = name_to n h

may_be_from : (o : Option (List ℕ)) → today.IsQualifier o → MayBeName o
may_be_from None h = tt
may_be_from (Some n) h = name_from n h

column_to : (c : RawCol) → IsColumn c → today.IsColumn c
column_to c h = (may_be_to c.table h.0, name_to c.column h.1)

column_from : (c : RawCol) → today.IsColumn c → IsColumn c
column_from c h = (may_be_from c.table h.0, name_from c.column h.1)

compare_same : (op : RawOp) → compare op ≡ today.compare op
compare_same Eq = refl
compare_same Ne = refl
compare_same Lt = refl
compare_same Le = refl
compare_same Gt = refl
compare_same Ge = refl

operand_same : (o : RawOperand) (rest : List Token) → operand o rest ≡ today.operand o rest
operand_same (Literal v) rest = literal_same v rest
operand_same (Column c) rest = column_same c rest

operand_to : (o : RawOperand) → IsOperand o → today.IsOperand o
operand_to (Literal v) h = tt
operand_to (Column c) h = column_to c h

operand_from : (o : RawOperand) → today.IsOperand o → IsOperand o
operand_from (Literal v) h = tt
operand_from (Column c) h = column_from c h

atom_same : (a : RawAtom) (rest : List Token) → atom a rest ≡ today.atom a rest
atom_same (Compare c op right) rest = λ i. column_same c (compare_same op i ∷ operand_same right rest i) i
atom_same (Between c low high) rest = λ i. column_same c (words.BETWEEN ∷ literal_same low (words.AND ∷ literal_same high rest i) i) i
atom_same (Among c list) rest = λ i. column_same c (words.IN ∷ today.LPAREN ∷ list_same today.COMMA literal today.literal literal_same list (today.RPAREN ∷ rest) i) i
atom_same (IsNull c true) rest = column_same c (words.IS ∷ words.NOT ∷ words.NULL ∷ rest)
atom_same (IsNull c false) rest = column_same c (words.IS ∷ words.NULL ∷ rest)
atom_same (Starts c text) rest = column_same c (words.STARTING ∷ words.WITH ∷ Text text ∷ rest)

atom_to : (a : RawAtom) → IsAtom a → today.IsAtom a
atom_to (Compare c op right) h = (column_to c h.0, operand_to right h.1)
atom_to (Between c low high) h = column_to c h
atom_to (Among c list) h = (column_to c h.0, literals_to list h.1)
atom_to (IsNull c negated) h = column_to c h
atom_to (Starts c text) h = column_to c h

atom_from : (a : RawAtom) → today.IsAtom a → IsAtom a
atom_from (Compare c op right) h = (column_from c h.0, operand_from right h.1)
atom_from (Between c low high) h = column_from c h
atom_from (Among c list) h = (column_from c h.0, literals_from list h.1)
atom_from (IsNull c negated) h = column_from c h
atom_from (Starts c text) h = column_from c h

atoms_same : (atoms : List RawAtom) (rest : List Token) → list_tokens (key "OR") atom atoms rest ≡ today.listed words.OR today.atom atoms rest
atoms_same atoms rest = list_same words.OR atom today.atom atom_same atoms rest

group_to : (g : List RawAtom) (tokens rest : List Token) → IsGroup g tokens rest → today.IsGroup g tokens rest
group_to g tokens rest (bare a after h) = inl (atom_to a h, atom_same a after)
group_to g tokens rest (in_parens atoms after h) = inr (some_to IsAtom today.IsAtom atom_to atoms h, λ i. LPAREN ∷ atoms_same atoms (RPAREN ∷ after) i)

bare_from : (g : List RawAtom) (tokens rest : List Token) → today.IsBare g tokens rest → IsGroup g tokens rest
bare_from [] tokens rest h = absurd h
bare_from (a ∷ []) tokens rest h = subst (λ (ts : List Token). IsGroup (a ∷ []) ts rest) (atom_same a rest ∙ sym h.1) (bare a rest (atom_from a h.0))
bare_from (a ∷ b ∷ atoms) tokens rest h = absurd h

group_from : (g : List RawAtom) (tokens rest : List Token) → today.IsGroup g tokens rest → IsGroup g tokens rest
group_from g tokens rest (inl h) = bare_from g tokens rest h
group_from g tokens rest (inr h) = subst (λ (ts : List Token). IsGroup g ts rest)
    ((λ i. LPAREN ∷ atoms_same g (RPAREN ∷ rest) i) ∙ sym h.1) (in_parens g rest (some_from IsAtom today.IsAtom atom_from g h.0))

-- a group in front of others
more_groups : (g : List RawAtom) (gs : List (List RawAtom)) (tokens after rest : List Token)
    → today.IsGroup g tokens (words.AND ∷ after) → today.AreGroups gs after rest → today.AreGroups (g ∷ gs) tokens rest
more_groups g [] tokens after rest h k = absurd k
more_groups g (x ∷ gs) tokens after rest h k = (after, h, k)

groups_to : (gs : List (List RawAtom)) (tokens rest : List Token) → AreGroups gs tokens rest → today.AreGroups gs tokens rest
groups_to gs tokens rest (one g ts r h) = group_to g ts r h
groups_to gs tokens rest (more g others ts after r h k) = more_groups g others ts after r (group_to g ts (words.AND ∷ after) h) (groups_to others after r k)

groups_from : (gs : List (List RawAtom)) (tokens rest : List Token) → today.AreGroups gs tokens rest → AreGroups gs tokens rest
groups_from [] tokens rest h = absurd h
groups_from (g ∷ []) tokens rest h = one g tokens rest (group_from g tokens rest h)
groups_from (g ∷ x ∷ gs) tokens rest h = more g (x ∷ gs) tokens h.0 rest (group_from g tokens (words.AND ∷ h.0) h.1) (groups_from (x ∷ gs) h.0 rest h.2)

cond_to : (gs : List (List RawAtom)) (tokens rest : List Token) → IsCond gs tokens rest → today.IsCond gs tokens rest
cond_to gs tokens rest (lone atoms r two h) = inl (two, some_to IsAtom today.IsAtom atom_to atoms h, atoms_same atoms r)
cond_to gs tokens rest (groups x ts r h) = inr (groups_to x ts r h)

lone_from : (gs : List (List RawAtom)) (tokens rest : List Token) → today.IsLone gs tokens rest → IsCond gs tokens rest
lone_from [] tokens rest h = absurd h
lone_from (g ∷ []) tokens rest h = subst (λ (ts : List Token). IsCond (g ∷ []) ts rest) (atoms_same g rest ∙ sym h.2)
    (lone g rest h.0 (some_from IsAtom today.IsAtom atom_from g h.1))
lone_from (g ∷ x ∷ gs) tokens rest h = absurd h

cond_from : (gs : List (List RawAtom)) (tokens rest : List Token) → today.IsCond gs tokens rest → IsCond gs tokens rest
cond_from gs tokens rest (inl h) = lone_from gs tokens rest h
cond_from gs tokens rest (inr h) = groups gs tokens rest (groups_from gs tokens rest h)

-- WHERE in front of a condition
with_where : (gs : List (List RawAtom)) (after rest : List Token) → today.IsCond gs after rest → today.IsWhere gs (words.WHERE ∷ after) rest
with_where [] after rest (inl h) = absurd h
with_where [] after rest (inr h) = absurd h
with_where (g ∷ gs) after rest h = (after, refl, h)

where_to : (gs : List (List RawAtom)) (tokens rest : List Token) → IsWhere gs tokens rest → today.IsWhere gs tokens rest
where_to gs tokens rest (no_where r) = refl
where_to gs tokens rest (where_cond x ts r h) = with_where x ts r (cond_to x ts r h)

where_from : (gs : List (List RawAtom)) (tokens rest : List Token) → today.IsWhere gs tokens rest → IsWhere gs tokens rest
where_from [] tokens rest h = subst (λ (ts : List Token). IsWhere [] ts rest) (sym h) (no_where rest)
where_from (g ∷ gs) tokens rest h = subst (λ (ts : List Token). IsWhere (g ∷ gs) ts rest) (sym h.1)
    (where_cond (g ∷ gs) h.0 rest (cond_from (g ∷ gs) h.0 rest h.2))

-- ---- statements

name_same : (n : List ℕ) (rest : List Token) → name n rest ≡ today.name n rest
name_same n rest = refl

kind_same : (k : RawKind) (rest : List Token) → kind k rest ≡ today.kind k rest
kind_same Big rest = refl
kind_same (Chars n) rest = refl

column_def_same : (d : List ℕ × RawKind) (rest : List Token) → column_def d rest ≡ today.column_def d rest
column_def_same d rest = λ i. Word d.0 ∷ kind_same d.1 rest i

set_same : (s : List ℕ × Value) (rest : List Token) → set s rest ≡ today.set s rest
set_same s rest = λ i. Word s.0 ∷ Symbol Equal ∷ literal_same s.1 rest i

select_same : (o : Option (List RawCol)) (rest : List Token) → select_list o rest ≡ today.returned o rest
select_same None rest = refl
select_same (Some columns) rest = list_same today.COMMA column today.column column_same columns rest

select_to : (o : Option (List RawCol)) → IsSelectList o → today.AreReturned o
select_to None h = tt
select_to (Some columns) h = some_to IsColumn today.IsColumn column_to columns h

select_from : (o : Option (List RawCol)) → today.AreReturned o → IsSelectList o
select_from None h = tt
select_from (Some columns) h = some_from IsColumn today.IsColumn column_from columns h

second_same : (o : Option (List ℕ)) (rest : List Token) → second_name o rest ≡ today.second_name o rest
second_same None rest = refl
second_same (Some n) rest = refl

item_same : (i : List ℕ × Option (List ℕ)) (rest : List Token) → from_item i rest ≡ today.item i rest
item_same i rest = λ k. Word i.0 ∷ second_same i.1 rest k

item_to : (i : List ℕ × Option (List ℕ)) → IsItem i → today.IsItem i
item_to i h = (name_to i.0 h.0, may_be_to i.1 h.1)

item_from : (i : List ℕ × Option (List ℕ)) → today.IsItem i → IsItem i
item_from i h = (name_from i.0 h.0, may_be_from i.1 h.1)

order_same : (by : List RawCol) (rest : List Token) → order_by by rest ≡ today.order by rest
order_same [] rest = refl
order_same (c ∷ cs) rest = λ i. words.ORDER ∷ words.BY ∷ list_same today.COMMA column today.column column_same (c ∷ cs) rest i

goal_to : (g : RawGoal) (tokens rest : List Token) → IsGoal g tokens rest → today.IsGoal g tokens rest
goal_to g tokens rest (no_goal r) = inl refl
goal_to g tokens rest (total_time r) = inr refl
goal_to g tokens rest (fast_first r) = refl

goal_from : (g : RawGoal) (tokens rest : List Token) → today.IsGoal g tokens rest → IsGoal g tokens rest
goal_from FastFirst tokens rest h = subst (λ (ts : List Token). IsGoal FastFirst ts rest) (sym h) (fast_first rest)
goal_from TotalTime tokens rest (inl h) = subst (λ (ts : List Token). IsGoal TotalTime ts rest) (sym h) (no_goal rest)
goal_from TotalTime tokens rest (inr h) = subst (λ (ts : List Token). IsGoal TotalTime ts rest) (sym h) (total_time rest)

named_to : {X : Type 0} (x : List ℕ × X) → IsNamed x → words.IsName x.0
named_to x h = name_to x.0 h

named_from : {X : Type 0} (x : List ℕ × X) → words.IsName x.0 → IsNamed x
named_from x h = name_from x.0 h

-- the tokens of a list in parentheses, behind others
create_table_same : (table : List ℕ) (columns : List (List ℕ × RawKind)) (rest : List Token)
    → (key "CREATE" ∷ key "TABLE" ∷ Word table ∷ LPAREN ∷ list_tokens (Symbol Comma) column_def columns (RPAREN ∷ rest))
    ≡ (words.CREATE ∷ words.TABLE ∷ Word table ∷ today.LPAREN ∷ today.listed today.COMMA today.column_def columns (today.RPAREN ∷ rest))
create_table_same table columns rest = λ i. key "CREATE" ∷ key "TABLE" ∷ Word table ∷ LPAREN
    ∷ list_same (Symbol Comma) column_def today.column_def column_def_same columns (RPAREN ∷ rest) i

unique_same : (unique : Bool) (rest : List Token) → unique_word unique rest ≡ today.unique_word unique rest
unique_same false rest = refl
unique_same true rest = refl

index_same : (index table : List ℕ) (columns : List (List ℕ)) (rest : List Token)
    → (key "INDEX" ∷ Word index ∷ key "ON" ∷ Word table ∷ LPAREN ∷ list_tokens (Symbol Comma) name columns (RPAREN ∷ rest))
    ≡ (words.INDEX ∷ Word index ∷ words.ON ∷ Word table ∷ today.LPAREN ∷ today.listed today.COMMA today.name columns (today.RPAREN ∷ rest))
index_same index table columns rest = λ i. key "INDEX" ∷ Word index ∷ key "ON" ∷ Word table ∷ LPAREN
    ∷ list_same (Symbol Comma) name today.name name_same columns (RPAREN ∷ rest) i

create_index_same : (unique : Bool) (index table : List ℕ) (columns : List (List ℕ)) (rest : List Token)
    → (key "CREATE" ∷ unique_word unique (key "INDEX" ∷ Word index ∷ key "ON" ∷ Word table ∷ LPAREN ∷ list_tokens (Symbol Comma) name columns (RPAREN ∷ rest)))
    ≡ (words.CREATE ∷ today.unique_word unique (words.INDEX ∷ Word index ∷ words.ON ∷ Word table ∷ today.LPAREN ∷ today.listed today.COMMA today.name columns (today.RPAREN ∷ rest)))
create_index_same unique index table columns rest =
    ap (λ (ts : List Token). key "CREATE" ∷ unique_word unique ts) (index_same index table columns rest)
    ∙ ap (λ (ts : List Token). key "CREATE" ∷ ts) (unique_same unique (words.INDEX ∷ Word index ∷ words.ON ∷ Word table ∷ today.LPAREN ∷ today.listed today.COMMA today.name columns (today.RPAREN ∷ rest)))

insert_same : (table : List ℕ) (vs : List Value) (rest : List Token)
    → (key "INSERT" ∷ key "INTO" ∷ Word table ∷ key "VALUES" ∷ LPAREN ∷ list_tokens (Symbol Comma) literal vs (RPAREN ∷ rest))
    ≡ (words.INSERT ∷ words.INTO ∷ Word table ∷ words.VALUES ∷ today.LPAREN ∷ today.listed today.COMMA today.literal vs (today.RPAREN ∷ rest))
insert_same table vs rest = λ i. key "INSERT" ∷ key "INTO" ∷ Word table ∷ key "VALUES" ∷ LPAREN
    ∷ list_same (Symbol Comma) literal today.literal literal_same vs (RPAREN ∷ rest) i

update_same : (table : List ℕ) (sets : List (List ℕ × Value)) (after : List Token)
    → (key "UPDATE" ∷ Word table ∷ key "SET" ∷ list_tokens (Symbol Comma) set sets after)
    ≡ (words.UPDATE ∷ Word table ∷ words.SET ∷ today.listed today.COMMA today.set sets after)
update_same table sets after = λ i. key "UPDATE" ∷ Word table ∷ key "SET" ∷ list_same (Symbol Comma) set today.set set_same sets after i

open_same : (cursor : List ℕ) (columns : Option (List RawCol)) (items : List (List ℕ × Option (List ℕ))) (after : List Token)
    → (key "OPEN" ∷ Word cursor ∷ key "SELECT" ∷ select_list columns (key "FROM" ∷ list_tokens (Symbol Comma) from_item items after))
    ≡ (words.OPEN ∷ Word cursor ∷ words.SELECT ∷ today.returned columns (words.FROM ∷ today.listed today.COMMA today.item items after))
open_same cursor columns items after = λ i. key "OPEN" ∷ Word cursor ∷ key "SELECT"
    ∷ select_same columns (key "FROM" ∷ list_same (Symbol Comma) from_item today.item item_same items after i) i

body_to : (s : Statement) (tokens rest : List Token) → IsBody s tokens rest → today.IsBody s tokens rest
body_to (CreateTable table columns) tokens rest h =
    (name_to table h.0, some_to IsNamed today.IsColumnDef (λ (x : List ℕ × RawKind). named_to x) columns h.1, h.2 ∙ create_table_same table columns rest)
body_to (CreateIndex unique index table columns) tokens rest h =
    (name_to index h.0, name_to table h.1, some_to IsName words.IsName name_to columns h.2, h.3 ∙ create_index_same unique index table columns rest)
body_to (Begin false) tokens rest h = h
body_to (Begin true) tokens rest h = h
body_to (Insert table vs) tokens rest h = (name_to table h.0, literals_to vs h.1, h.2 ∙ insert_same table vs rest)
body_to (Update table sets only) tokens rest h =
    (h.0, name_to table h.1, some_to IsNamed today.IsSet (λ (x : List ℕ × Value). named_to x) sets h.2, h.3 ∙ update_same table sets h.0, where_to only h.0 rest h.4)
body_to (Delete table only) tokens rest h = (h.0, name_to table h.1, h.2, where_to only h.0 rest h.3)
body_to Commit tokens rest h = h
body_to Rollback tokens rest h = h
body_to (Open cursor columns items only by goal) tokens rest h = (
  h.0,
  name_to cursor h.3,
  select_to columns h.4,
  some_to IsItem today.IsItem item_to items h.5,
  h.7 ∙ open_same cursor columns items h.0,
  record {
    after_where = h.1;
    after_order = h.2;
    where_is = where_to only h.0 h.1 h.8;
    order_names = all_to IsColumn today.IsColumn column_to by h.6;
    order_is = h.9 ∙ order_same by h.2;
    goal_is = goal_to goal h.2 rest h.10;
  },
)
body_to (Fetch cursor) tokens rest h = (name_to cursor h.0, h.1)
body_to (Show cursor) tokens rest h = (name_to cursor h.0, h.1)
body_to (Close cursor) tokens rest h = (name_to cursor h.0, h.1)
body_to (Step cursor n) tokens rest h = (name_to cursor h.0, h.1)

body_from : (s : Statement) (tokens rest : List Token) → today.IsBody s tokens rest → IsBody s tokens rest
body_from (CreateTable table columns) tokens rest h =
    (name_from table h.0, some_from IsNamed today.IsColumnDef (λ (x : List ℕ × RawKind). named_from x) columns h.1, h.2 ∙ sym (create_table_same table columns rest))
body_from (CreateIndex unique index table columns) tokens rest h =
    (name_from index h.0, name_from table h.1, some_from IsName words.IsName name_from columns h.2, h.3 ∙ sym (create_index_same unique index table columns rest))
body_from (Begin false) tokens rest h = h
body_from (Begin true) tokens rest h = h
body_from (Insert table vs) tokens rest h = (name_from table h.0, literals_from vs h.1, h.2 ∙ sym (insert_same table vs rest))
body_from (Update table sets only) tokens rest h =
    (h.0, name_from table h.1, some_from IsNamed today.IsSet (λ (x : List ℕ × Value). named_from x) sets h.2, h.3 ∙ sym (update_same table sets h.0), where_from only h.0 rest h.4)
body_from (Delete table only) tokens rest h = (h.0, name_from table h.1, h.2, where_from only h.0 rest h.3)
body_from Commit tokens rest h = h
body_from Rollback tokens rest h = h
body_from (Open cursor columns items only by goal) tokens rest h = (
  h.0,
  h.5.after_where,
  h.5.after_order,
  name_from cursor h.1,
  select_from columns h.2,
  some_from IsItem today.IsItem item_from items h.3,
  all_from IsColumn today.IsColumn column_from by h.5.order_names,
  h.4 ∙ sym (open_same cursor columns items h.0),
  where_from only h.0 h.5.after_where h.5.where_is,
  h.5.order_is ∙ sym (order_same by h.5.after_order),
  goal_from goal h.5.after_order rest h.5.goal_is,
)
body_from (Fetch cursor) tokens rest h = (name_from cursor h.0, h.1)
body_from (Show cursor) tokens rest h = (name_from cursor h.0, h.1)
body_from (Close cursor) tokens rest h = (name_from cursor h.0, h.1)
body_from (Step cursor n) tokens rest h = (name_from cursor h.0, h.1)

pub derives_to : (tokens : List Token) (s : Statement) → Derives tokens s → today.Derives tokens s
derives_to tokens s (inl h) = inl (body_to s tokens [] h)
derives_to tokens s (inr h) = inr (body_to s tokens (Symbol Semicolon ∷ []) h)

pub derives_from : (tokens : List Token) (s : Statement) → today.Derives tokens s → Derives tokens s
derives_from tokens s (inl h) = inl (body_from s tokens [] h)
derives_from tokens s (inr h) = inr (body_from s tokens (Symbol Semicolon ∷ []) h)
