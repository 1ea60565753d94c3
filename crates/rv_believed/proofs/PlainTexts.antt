-- What a text says has plain names and plain values: they are its tokens.
use Rattle.std.proofs.Common.{◌≡◌, ◌≢◌, ℕ, List, [], ◌∷◌, Option, Some, None, Bool, true, false, nat_le, refl, sym, subst, map, inl, inr, arith}
use Rattle.std.proofs.lemmas.Bool.Decides.{nat_tests}
use Rattle.std.specs.Char.{is_ascii_alphabetic, to_ascii_uppercase}
use Rattle.std.specs.List.{list_all, AllByRecursion}
use Rattle.std.proofs.lemmas.Bool.{and_parts, and_from}
use Rattle.rv_value.proofs.Lists.{passes_more}
use Rattle.rv_value.specs.declared.value.Value.{Value}
use Rattle.rv_value.specs.declared.value.Value.TheVariants as values
use Rattle.rv_lang.specs.declared.token.Token.{Token}
use Rattle.rv_lang.specs.declared.token.Token.TheVariants.{Word, Int as Number, Str as Text, Symbol}
use Rattle.rv_lang.specs.declared.token.Symbol.TheVariants.{Comma, Semicolon}
use Rattle.rv_lang.specs.declared.statement.RawCol.{RawCol}
use Rattle.rv_lang.specs.declared.statement.RawKind.{RawKind}
use Rattle.rv_lang.specs.declared.statement.RawKind.TheVariants.{Big, Chars}
use Rattle.rv_lang.specs.declared.statement.RawOperand.{RawOperand}
use Rattle.rv_lang.specs.declared.statement.RawOperand.TheVariants.{Literal, Column}
use Rattle.rv_lang.specs.declared.statement.RawAtom.{RawAtom}
use Rattle.rv_lang.specs.declared.statement.RawAtom.TheVariants.{Compare, Between, Among, IsNull, Starts}
use Rattle.rv_lang.specs.declared.statement.Statement.{Statement}
use Rattle.rv_lang.specs.declared.statement.Statement.TheVariants.{CreateTable, CreateIndex, Begin, Insert, Update, Delete, Commit, Rollback, Open, Fetch, Show, Close, Step}
use Rattle.rv_lang.specs.Tokens.{Cuts, IsToken, IsWord, is_text_byte, is_word_byte}
use Rattle.rv_model.specs.Transcript.{IsName as IsPlainName, is_capital, is_name_byte}
use Rattle.rv_believed.specs.Grammar.{Says, Derives, key, LPAREN, RPAREN, more_tokens, list_tokens, literal, qualifier, column, compare, operand, atom, IsGroup, bare, in_parens, AreGroups, one, more, IsCond, lone, groups, IsWhere, no_where, where_cond, name, kind, column_def, set, unique_word, select_list, second_name, from_item, order_by, IsBody}
use Rattle.rv_believed.specs.Plain.{IsPlainValue}

-- ---- tokens

abbrev IsPlainToken : Token → Type 0
IsPlainToken (Word name) = IsPlainName name
IsPlainToken (Number n) = Unit {0}
IsPlainToken (Text text) = list_all (nat_le 32) text ≡ true
IsPlainToken (Symbol mark) = Unit {0}

abbrev ArePlain : List Token → Type 0
ArePlain = AllByRecursion IsPlainToken

letter_up : (b : ℕ) → is_ascii_alphabetic b ≡ true → is_capital (to_ascii_uppercase b) ≡ true
letter_up b h = grind (arith, nat_tests)

byte_up : (b : ℕ) → is_word_byte b ≡ true → is_name_byte (to_ascii_uppercase b) ≡ true
byte_up b h = grind (arith, nat_tests)

bytes_up : (bs : List ℕ) → list_all is_word_byte bs ≡ true → list_all is_name_byte (map to_ascii_uppercase bs) ≡ true
bytes_up [] h = refl
bytes_up (b ∷ bs) h = let parts = and_parts (is_word_byte b) (list_all is_word_byte bs) h in
    and_from (is_name_byte (to_ascii_uppercase b)) (list_all is_name_byte (map to_ascii_uppercase bs)) (byte_up b parts.0) (bytes_up bs parts.1)

word_up : (bs : List ℕ) → IsWord bs → IsPlainName (map to_ascii_uppercase bs)
word_up [] h = absurd h
word_up (b ∷ bs) h = (letter_up b h.0, bytes_up bs h.1)

text_byte : (b : ℕ) → is_text_byte b ≡ true → nat_le 32 b ≡ true
text_byte b h = (and_parts (nat_le 32 b) _ h).0

token_plain : (t : Token) (front after : List ℕ) → IsToken front t after → IsPlainToken t
token_plain (Word n) front after h = subst IsPlainName (sym h.1) (word_up front h.0)
token_plain (Number n) front after h = tt
token_plain (Text text) front after h = passes_more is_text_byte (nat_le 32) text_byte text h.0
token_plain (Symbol mark) front after h = tt

tokens_plain : (bytes : List ℕ) (ts : List Token) → Cuts bytes ts [] → ArePlain ts
tokens_plain bytes [] h = tt
tokens_plain bytes (t ∷ ts) h = (token_plain t h.1.front h.0 h.1.is, tokens_plain h.0 ts h.2)

-- ---- parts of a statement

abbrev pub IsPlainColumn : RawCol → Type 0
IsPlainColumn c = IsPlainName c.column

abbrev pub IsPlainOperand : RawOperand → Type 0
IsPlainOperand (Literal v) = Unit {0}
IsPlainOperand (Column c) = IsPlainColumn c

abbrev pub IsPlainAtom : RawAtom → Type 0
IsPlainAtom (Compare c op right) = IsPlainColumn c × IsPlainOperand right
IsPlainAtom (Between c low high) = IsPlainColumn c
IsPlainAtom (Among c list) = IsPlainColumn c
IsPlainAtom (IsNull c negated) = IsPlainColumn c
IsPlainAtom (Starts c text) = IsPlainColumn c

abbrev pub ArePlainAtoms : List (List RawAtom) → Type 0
ArePlainAtoms = AllByRecursion (AllByRecursion IsPlainAtom)

abbrev pub MayBePlain : Option (List ℕ) → Type 0
MayBePlain None = Unit {0}
MayBePlain (Some n) = IsPlainName n

abbrev pub IsPlainItem : List ℕ × Option (List ℕ) → Type 0
IsPlainItem i = IsPlainName i.0 × MayBePlain i.1

abbrev pub ArePlainReturned : Option (List RawCol) → Type 0
ArePlainReturned None = Unit {0}
ArePlainReturned (Some columns) = AllByRecursion IsPlainColumn columns

abbrev pub IsPlainDef : List ℕ × RawKind → Type 0
IsPlainDef d = IsPlainName d.0

abbrev pub IsPlainSet : List ℕ × Value → Type 0
IsPlainSet s = IsPlainName s.0 × IsPlainValue s.1

-- the names that may be shown of a statement, and the values that it writes
abbrev pub IsPlainStatement : Statement → Type 0
IsPlainStatement (CreateTable table columns) = IsPlainName table × AllByRecursion IsPlainDef columns × (columns ≢ [])
IsPlainStatement (CreateIndex unique index table columns) = IsPlainName index × IsPlainName table × AllByRecursion IsPlainName columns
IsPlainStatement (Begin read_only) = Unit {0}
IsPlainStatement (Insert table vs) = IsPlainName table × AllByRecursion IsPlainValue vs
IsPlainStatement (Update table sets only) = IsPlainName table × AllByRecursion IsPlainSet sets × ArePlainAtoms only
IsPlainStatement (Delete table only) = IsPlainName table × ArePlainAtoms only
IsPlainStatement Commit = Unit {0}
IsPlainStatement Rollback = Unit {0}
IsPlainStatement (Open cursor returned items only by goal) = IsPlainName cursor × ArePlainReturned returned
    × AllByRecursion IsPlainItem items × ArePlainAtoms only × AllByRecursion IsPlainColumn by
IsPlainStatement (Fetch cursor) = IsPlainName cursor
IsPlainStatement (Show cursor) = IsPlainName cursor
IsPlainStatement (Close cursor) = IsPlainName cursor
IsPlainStatement (Step cursor n) = IsPlainName cursor

-- a part is plain where its tokens are, and so are the tokens behind it
abbrev TellsPart : {X : Type 0} → (X → List Token → List Token) → (X → Type 0) → Type 0
TellsPart {X = X} part P = (x : X) (rest : List Token) → ArePlain (part x rest) → P x × ArePlain rest

more_plain : {X : Type 0} (part : X → List Token → List Token) (P : X → Type 0) → TellsPart part P → (between : Token)
    (xs : List X) (rest : List Token) → ArePlain (more_tokens between part xs rest) → AllByRecursion P xs × ArePlain rest
more_plain part P tells between [] rest h = (tt, h)
more_plain part P tells between (x ∷ xs) rest h =
    let first = tells x (more_tokens between part xs rest) h.1 in
    let others = more_plain part P tells between xs rest first.1 in ((first.0, others.0), others.1)

list_plain : {X : Type 0} (part : X → List Token → List Token) (P : X → Type 0) → TellsPart part P → (between : Token)
    (xs : List X) (rest : List Token) → ArePlain (list_tokens between part xs rest) → AllByRecursion P xs × ArePlain rest
list_plain part P tells between [] rest h = (tt, h)
list_plain part P tells between (x ∷ xs) rest h =
    let first = tells x (more_tokens between part xs rest) h in
    let others = more_plain part P tells between xs rest first.1 in ((first.0, others.0), others.1)

literal_plain : TellsPart literal IsPlainValue
literal_plain (values.Int n) rest h = (tt, h.1)
literal_plain (values.Str text) rest h = (h.0, h.1)
literal_plain values.Null rest h = (tt, h.1)

qualifier_plain : (o : Option (List ℕ)) (rest : List Token) → ArePlain (qualifier o rest) → ArePlain rest
qualifier_plain None rest h = h
qualifier_plain (Some table) rest h = h.1.1

column_plain : TellsPart column IsPlainColumn
column_plain c rest h = let behind = qualifier_plain c.table (Word c.column ∷ rest) h in (behind.0, behind.1)

operand_plain : TellsPart operand IsPlainOperand
operand_plain (Literal v) rest h = (tt, (literal_plain v rest h).1)
operand_plain (Column c) rest h = column_plain c rest h

atom_plain : TellsPart atom IsPlainAtom
atom_plain (Compare c op right) rest h =
    let left = column_plain c (compare op ∷ operand right rest) h in
    let other = operand_plain right rest left.1.1 in ((left.0, other.0), other.1)
atom_plain (Between c low high) rest h =
    let left = column_plain c (key "BETWEEN" ∷ literal low (key "AND" ∷ literal high rest)) h in
    let first = literal_plain low (key "AND" ∷ literal high rest) left.1.1 in
    (left.0, (literal_plain high rest first.1.1).1)
atom_plain (Among c list) rest h =
    let left = column_plain c (key "IN" ∷ LPAREN ∷ list_tokens (Symbol Comma) literal list (RPAREN ∷ rest)) h in
    (left.0, (list_plain literal IsPlainValue literal_plain (Symbol Comma) list (RPAREN ∷ rest) left.1.1.1).1.1)
atom_plain (IsNull c true) rest h = let left = column_plain c (key "IS" ∷ key "NOT" ∷ key "NULL" ∷ rest) h in (left.0, left.1.1.1.1)
atom_plain (IsNull c false) rest h = let left = column_plain c (key "IS" ∷ key "NULL" ∷ rest) h in (left.0, left.1.1.1)
atom_plain (Starts c text) rest h = let left = column_plain c (key "STARTING" ∷ key "WITH" ∷ Text text ∷ rest) h in (left.0, left.1.1.1.1)

group_plain : (g : List RawAtom) (tokens rest : List Token) → IsGroup g tokens rest → ArePlain tokens → AllByRecursion IsPlainAtom g × ArePlain rest
group_plain g tokens rest (bare a r is) h = let it = atom_plain a r h in ((it.0, tt), it.1)
group_plain g tokens rest (in_parens atoms r are) h =
    let them = list_plain atom IsPlainAtom atom_plain (key "OR") atoms (RPAREN ∷ r) h.1 in (them.0, them.1.1)

groups_plain : (gs : List (List RawAtom)) (tokens rest : List Token) → AreGroups gs tokens rest → ArePlain tokens → ArePlainAtoms gs × ArePlain rest
groups_plain gs tokens rest (one g ts r is) h = let it = group_plain g ts r is h in ((it.0, tt), it.1)
groups_plain gs tokens rest (more g others ts after r is are) h =
    let it = group_plain g ts (key "AND" ∷ after) is h in
    let them = groups_plain others after r are it.1.1 in ((it.0, them.0), them.1)

cond_plain : (gs : List (List RawAtom)) (tokens rest : List Token) → IsCond gs tokens rest → ArePlain tokens → ArePlainAtoms gs × ArePlain rest
cond_plain gs tokens rest (lone atoms r two are) h =
    let them = list_plain atom IsPlainAtom atom_plain (key "OR") atoms r h in ((them.0, tt), them.1)
cond_plain gs tokens rest (groups x ts r are) h = groups_plain x ts r are h

where_plain : (gs : List (List RawAtom)) (tokens rest : List Token) → IsWhere gs tokens rest → ArePlain tokens → ArePlainAtoms gs × ArePlain rest
where_plain gs tokens rest (no_where r) h = (tt, h)
where_plain gs tokens rest (where_cond x ts r is) h = cond_plain x ts r is h.1

name_plain : TellsPart name IsPlainName
name_plain n rest h = (h.0, h.1)

kind_plain : (k : RawKind) (rest : List Token) → ArePlain (kind k rest) → ArePlain rest
kind_plain Big rest h = h.1
kind_plain (Chars n) rest h = h.1.1.1.1

column_def_plain : TellsPart column_def IsPlainDef
column_def_plain d rest h = (h.0, kind_plain d.1 rest h.1)

set_plain : TellsPart set IsPlainSet
set_plain s rest h = let it = literal_plain s.1 rest h.1.1 in ((h.0, it.0), it.1)

select_plain : TellsPart select_list ArePlainReturned
select_plain None rest h = (tt, h.1)
select_plain (Some columns) rest h = list_plain column IsPlainColumn column_plain (Symbol Comma) columns rest h

second_plain : TellsPart second_name MayBePlain
second_plain None rest h = (tt, h)
second_plain (Some n) rest h = (h.0, h.1)

item_plain : TellsPart from_item IsPlainItem
item_plain i rest h = let it = second_plain i.1 rest h.1 in ((h.0, it.0), it.1)

order_plain : TellsPart order_by (AllByRecursion IsPlainColumn)
order_plain [] rest h = (tt, h)
order_plain (c ∷ cs) rest h = list_plain column IsPlainColumn column_plain (Symbol Comma) (c ∷ cs) rest h.1.1

unique_plain : (unique : Bool) (rest : List Token) → ArePlain (unique_word unique rest) → ArePlain rest
unique_plain false rest h = h
unique_plain true rest h = h.1

body_plain : (s : Statement) (tokens rest : List Token) → IsBody s tokens rest → ArePlain tokens → IsPlainStatement s
body_plain (CreateTable table columns) tokens rest is h =
    let p = subst ArePlain is.2 h in
    (p.1.1.0, (list_plain column_def IsPlainDef column_def_plain (Symbol Comma) columns (RPAREN ∷ rest) p.1.1.1.1).0, is.1.0)
body_plain (CreateIndex unique index table columns) tokens rest is h =
    let p = subst ArePlain is.3 h in
    let q = unique_plain unique (key "INDEX" ∷ Word index ∷ key "ON" ∷ Word table ∷ LPAREN ∷ list_tokens (Symbol Comma) name columns (RPAREN ∷ rest)) p.1 in
    (q.1.0, q.1.1.1.0, (list_plain name IsPlainName name_plain (Symbol Comma) columns (RPAREN ∷ rest) q.1.1.1.1.1).0)
body_plain (Begin false) tokens rest is h = tt
body_plain (Begin true) tokens rest is h = tt
body_plain (Insert table vs) tokens rest is h =
    let p = subst ArePlain is.2 h in
    (p.1.1.0, (list_plain literal IsPlainValue literal_plain (Symbol Comma) vs (RPAREN ∷ rest) p.1.1.1.1.1).0)
body_plain (Update table sets only) tokens rest is h =
    let p = subst ArePlain is.3 h in
    let them = list_plain set IsPlainSet set_plain (Symbol Comma) sets is.0 p.1.1.1 in
    (p.1.0, them.0, (where_plain only is.0 rest is.4 them.1).0)
body_plain (Delete table only) tokens rest is h =
    let p = subst ArePlain is.2 h in (p.1.1.0, (where_plain only is.0 rest is.3 p.1.1.1).0)
body_plain Commit tokens rest is h = tt
body_plain Rollback tokens rest is h = tt
body_plain (Open cursor columns items only by goal) tokens rest is h =
    let p = subst ArePlain is.7 h in
    let shown = select_plain columns (key "FROM" ∷ list_tokens (Symbol Comma) from_item items is.0) p.1.1.1 in
    let from = list_plain from_item IsPlainItem item_plain (Symbol Comma) items is.0 shown.1.1 in
    let condition = where_plain only is.0 is.1 is.8 from.1 in
    (p.1.0, shown.0, from.0, condition.0, (order_plain by is.2 (subst ArePlain is.9 condition.1)).0)
body_plain (Fetch cursor) tokens rest is h = (subst ArePlain is.1 h).1.0
body_plain (Show cursor) tokens rest is h = (subst ArePlain is.1 h).1.0
body_plain (Close cursor) tokens rest is h = (subst ArePlain is.1 h).1.0
body_plain (Step cursor n) tokens rest is h = (subst ArePlain is.1 h).1.0

derived_plain : (tokens : List Token) (s : Statement) → Derives tokens s → ArePlain tokens → IsPlainStatement s
derived_plain tokens s (inl is) h = body_plain s tokens [] is h
derived_plain tokens s (inr is) h = body_plain s tokens (Symbol Semicolon ∷ []) is h

pub says_plain : (text : List ℕ) (s : Statement) → Says text s → IsPlainStatement s
says_plain text s said = derived_plain said.0 s said.2 (tokens_plain text said.0 said.1)
