-- What a statement asks is plain, and so is its refusal, where the tables that it is looked up in are plain.
use Rattle.std.proofs.Common.{◌≢◌, ℕ, ◌+◌, List, [], ◌∷◌, Option, Some, None, Result, Ok, Err, Bool, true, false, refl, sym, subst, map, filter, bytes_eq, is_some, nat_lt, length, not}
use Rattle.std.specs.Prelude.{IfSome}
use Rattle.std.specs.List.{AllByRecursion, slice_index_or, list_any, list_all}
use Rattle.std.specs.Option.{option_to_list, unwrap_or}
use Rattle.rv_value.proofs.Lists.{all_append, all_filter, all_or}
use Rattle.rv_value.specs.declared.value.Kind.{Kind}
use Rattle.rv_value.specs.declared.value.Value.{Value}
use Rattle.rv_restrict.specs.declared.atom.Operand.TheVariants.{Column}
use Rattle.rv_lang.specs.declared.statement.RawCol.{RawCol}
use Rattle.rv_lang.specs.declared.statement.RawKind.{RawKind}
use Rattle.rv_lang.specs.declared.statement.RawKind.TheVariants as raw_kinds
use Rattle.rv_lang.specs.declared.statement.RawOperand.{RawOperand}
use Rattle.rv_lang.specs.declared.statement.RawOperand.TheVariants as raw_operands
use Rattle.rv_lang.specs.declared.statement.RawAtom.{RawAtom}
use Rattle.rv_lang.specs.declared.statement.RawAtom.TheVariants as raw
use Rattle.rv_lang.specs.declared.statement.Statement.{Statement}
use Rattle.rv_lang.specs.declared.statement.Statement.TheVariants as statements
use Rattle.rv_lang.specs.declared.reply.Refusal.{Refusal}
use Rattle.rv_lang.specs.declared.reply.Refusal.TheVariants.{Unknown, Exists, Limit, Kind as WrongKind}
use Rattle.rv_lang.specs.declared.reply.Which.TheVariants as which
use Rattle.rv_catalog.specs.declared.columns.Item.{Item}
use Rattle.rv_catalog.specs.declared.def.IndexDef.{IndexDef}
use Rattle.rv_catalog.specs.declared.def.Resolved.{Resolved}
use Rattle.rv_catalog.specs.declared.def.Resolved.TheVariants as asked
use Rattle.rv_catalog.specs.declared.def.TableDef.{TableDef}
use Rattle.rv_catalog.specs.Answers.{◌>>=◌, all_pass, ok_or, refuse_if}
use Rattle.rv_catalog.specs.Limits as working
use Rattle.rv_catalog.specs.Schema.{columns_of, index_named, no_table, table_named}
use Rattle.rv_model.specs.Transcript.{IsName as IsPlainName}
use Rattle.rv_believed.specs.Answers.{Test, answers}
use Rattle.rv_believed.specs.Limits.{left, right, literals, within_limits}
use Rattle.rv_believed.specs.Names.{InReach, reach_from, reach_of, reach_alone, fits, only_one, reference, references, plain_column, column_number, operand_of, atom_over, right_of, atom_of, condition_of, is_of_kind, same_kind, can_hold, row_kinds, set_kind, atom_kinds, kinds, all_differ, table_number, column_def, item_of, columns_returned, set_of, asked_in, resolution}
use Rattle.rv_believed.specs.Plain.{IsPlainValue, IsPlainRefusal}
use Rattle.rv_believed.proofs.LimitsSame.{limits_same}
use Rattle.rv_believed.proofs.PlainLists.{all_map, position_all}
use Rattle.rv_believed.proofs.PlainTexts.{IsPlainColumn, IsPlainOperand, IsPlainAtom, ArePlainAtoms, MayBePlain, IsPlainItem, ArePlainReturned, IsPlainDef, IsPlainSet, IsPlainStatement}

-- ---- answers

-- an answer of which a fact holds, or a plain refusal
abbrev pub Comes : {A : Type 0} → (A → Type 0) → Result A Refusal → Type 0
Comes P (Ok a) = P a
Comes P (Err r) = IsPlainRefusal r

abbrev pub Any : {A : Type 0} → A → Type 0
Any a = Unit {0}

pub then_comes : {A B : Type 0} (P : A → Type 0) (Q : B → Type 0) (r : Result A Refusal) (f : A → Result B Refusal)
    → Comes P r → ((a : A) → P a → Comes Q (f a)) → Comes Q (r >>= f)
then_comes P Q (Ok a) f p next = next a p
then_comes P Q (Err e) f p next = p

pub refuse_comes : (b : Bool) (r : Refusal) → IsPlainRefusal r → Comes Any (refuse_if b r)
refuse_comes true r p = p
refuse_comes false r p = tt

pub ok_or_comes : {A : Type 0} (P : A → Type 0) (o : Option A) (r : Refusal) → IfSome o P → IsPlainRefusal r → Comes P (ok_or o r)
ok_or_comes P None r h p = p
ok_or_comes P (Some a) r h p = h

answers_come : {A B : Type 0} (P : A → Type 0) (Q : B → Type 0) (f : A → Result B Refusal) → ((a : A) → P a → Comes Q (f a))
    → (xs : List A) → AllByRecursion P xs → Comes (AllByRecursion Q) (answers f xs)
answers_come P Q f holds [] h = tt
answers_come P Q f holds (x ∷ xs) h = then_comes Q (AllByRecursion Q) (f x) (λ y. answers f xs >>= (λ ys. Ok (y ∷ ys))) (holds x h.0)
    (λ y p. then_comes (AllByRecursion Q) (AllByRecursion Q) (answers f xs) (λ ys. Ok (y ∷ ys)) (answers_come P Q f holds xs h.1) (λ ys q. (p, q)))

pass_comes : {A : Type 0} (P : A → Type 0) (t : A → Test) → ((a : A) → P a → Comes Any (t a)) → (xs : List A) → AllByRecursion P xs → Comes Any (all_pass t xs)
pass_comes P t holds [] h = tt
pass_comes P t holds (x ∷ xs) h = then_comes Any Any (t x) (λ u. all_pass t xs) (holds x h.0) (λ u p. pass_comes P t holds xs h.1)

-- ---- limits

-- eleven limits in a row
limits_come : (a b c d e f g h i j k : Bool) → Comes Any (refuse_if a (Limit which.Name 31) >>= (λ u. refuse_if b (Limit which.Text 255)
    >>= (λ u. refuse_if c (Limit which.Columns 16) >>= (λ u. refuse_if d (Limit which.Key 4) >>= (λ u. refuse_if e (Limit which.List 32)
    >>= (λ u. refuse_if f (Limit which.Atoms 32) >>= (λ u. refuse_if g (Limit which.Groups 32) >>= (λ u. refuse_if h (Limit which.Joined 4)
    >>= (λ u. refuse_if i (Limit which.Returned 64) >>= (λ u. refuse_if j (Limit which.Order 4) >>= (λ u. refuse_if k (Limit which.Steps 10000))))))))))))
limits_come true b c d e f g h i j k = tt
limits_come false true c d e f g h i j k = tt
limits_come false false true d e f g h i j k = tt
limits_come false false false true e f g h i j k = tt
limits_come false false false false true f g h i j k = tt
limits_come false false false false false true g h i j k = tt
limits_come false false false false false false true h i j k = tt
limits_come false false false false false false false true i j k = tt
limits_come false false false false false false false false true j k = tt
limits_come false false false false false false false false false true k = tt
limits_come false false false false false false false false false false true = tt
limits_come false false false false false false false false false false false = tt

within_comes : (s : Statement) → Comes Any (within_limits s)
within_comes s = subst (λ (t : Test). Comes Any t) (sym (limits_same s))
    (limits_come (working.has_long_name s) (working.has_wide_text s) (nat_lt 16 (working.columns_count s)) (nat_lt 4 (working.key_count s))
    (working.has_long_list (working.groups_in s)) (working.has_long_group (working.groups_in s)) (nat_lt 32 (length (working.groups_in s)))
    (nat_lt 4 (working.joined_count s)) (nat_lt 64 (working.returned_count s)) (nat_lt 4 (working.order_count s)) (working.has_no_steps s))

-- ---- tables, and columns in reach

abbrev pub IsPlainColumnDef : List ℕ × Kind → Type 0
IsPlainColumnDef c = IsPlainName c.0

pub record IsPlainTable (t : TableDef) : Type 0 where
  pub name : IsPlainName t.name
  pub columns : AllByRecursion IsPlainColumnDef t.columns
  pub some : t.columns ≢ []

abbrev pub ArePlainTables : List TableDef → Type 0
ArePlainTables = AllByRecursion IsPlainTable

abbrev HasPlainColumns : TableDef → Type 0
HasPlainColumns t = AllByRecursion IsPlainColumnDef t.columns

tables_columns : (tables : List TableDef) → ArePlainTables tables → AllByRecursion HasPlainColumns tables
tables_columns [] h = tt
tables_columns (t ∷ ts) h = (h.0.columns, tables_columns ts h.1)

columns_plain : (tables : List TableDef) (n : ℕ) → ArePlainTables tables → AllByRecursion IsPlainColumnDef (columns_of tables n)
columns_plain tables n h = all_or HasPlainColumns tables n no_table (tables_columns tables h) tt

abbrev IsPlainReach : InReach → Type 0
IsPlainReach c = IsPlainName c.name

from_plain : (item : List ℕ) (place n : ℕ) (cs : List (List ℕ × Kind)) → AllByRecursion IsPlainColumnDef cs → AllByRecursion IsPlainReach (reach_from item place n cs)
from_plain item place n [] h = tt
from_plain item place n (c ∷ cs) h = (h.0, from_plain item place (n + 1) cs h.1)

alone_plain : (tables : List TableDef) (name : List ℕ) (n : ℕ) → ArePlainTables tables → AllByRecursion IsPlainReach (reach_alone tables name n)
alone_plain tables name n h = from_plain name 0 0 (columns_of tables n) (columns_plain tables n h)

reach_plain : (tables : List TableDef) (place : ℕ) (items : List Item) → ArePlainTables tables → AllByRecursion IsPlainReach (reach_of tables place items)
reach_plain tables place [] h = tt
reach_plain tables place (i ∷ more) h = all_append IsPlainReach (reach_from i.name place 0 (columns_of tables i.table)) (reach_of tables (place + 1) more)
    (from_plain i.name place 0 (columns_of tables i.table) (columns_plain tables i.table h)) (reach_plain tables (place + 1) more h)

only_comes : (name : List ℕ) (cs : List InReach) → IsPlainName name → AllByRecursion IsPlainReach cs → Comes IsPlainReach (only_one name cs)
only_comes name [] p h = p
only_comes name (c ∷ []) p h = h.0
only_comes name (c ∷ d ∷ cs) p h = p

reference_comes : (reach : List InReach) → AllByRecursion IsPlainReach reach → (r : RawCol) → IsPlainColumn r → Comes IsPlainReach (reference reach r)
reference_comes reach h r p = only_comes r.column (filter (fits r) reach) p (all_filter IsPlainReach (fits r) reach h)

number_comes : (reach : List InReach) → AllByRecursion IsPlainReach reach → (name : List ℕ) → IsPlainName name → Comes Any (column_number reach name)
number_comes reach h name p = then_comes IsPlainReach Any (reference reach (plain_column name)) (λ c. Ok c.at.column) (reference_comes reach h (plain_column name) p) (λ c q. tt)

references_come : (reach : List InReach) → AllByRecursion IsPlainReach reach → (raws : List RawCol) → AllByRecursion IsPlainColumn raws → Comes Any (references reach raws)
references_come reach h raws p = then_comes (AllByRecursion IsPlainReach) Any (answers (reference reach) raws) (λ found. Ok (map (λ (c : InReach). c.at) found))
    (answers_come IsPlainColumn IsPlainReach (reference reach) (reference_comes reach h) raws p) (λ found q. tt)

-- ---- conditions and kinds

operand_comes : (reach : List InReach) → AllByRecursion IsPlainReach reach → (o : RawOperand) → IsPlainOperand o → Comes Any (operand_of reach o)
operand_comes reach h (raw_operands.Literal v) p = tt
operand_comes reach h (raw_operands.Column d) p = then_comes IsPlainReach Any (reference reach d) (λ c. Ok (Column c.at)) (reference_comes reach h d p) (λ c q. tt)

left_plain : (a : RawAtom) → IsPlainAtom a → IsPlainColumn (left a)
left_plain (raw.Compare c op o) p = p.0
left_plain (raw.Between c low high) p = p
left_plain (raw.Among c list) p = p
left_plain (raw.IsNull c negated) p = p
left_plain (raw.Starts c text) p = p

right_plain : (a : RawAtom) → IsPlainAtom a → AllByRecursion IsPlainColumn (option_to_list (right a))
right_plain (raw.Compare c op (raw_operands.Literal v)) p = tt
right_plain (raw.Compare c op (raw_operands.Column d)) p = (p.1, tt)
right_plain (raw.Between c low high) p = tt
right_plain (raw.Among c list) p = tt
right_plain (raw.IsNull c negated) p = tt
right_plain (raw.Starts c text) p = tt

right_of_plain : (a : RawAtom) → IsPlainAtom a → IsPlainOperand (right_of a)
right_of_plain (raw.Compare c op o) p = p.1
right_of_plain (raw.Between c low high) p = tt
right_of_plain (raw.Among c list) p = tt
right_of_plain (raw.IsNull c negated) p = tt
right_of_plain (raw.Starts c text) p = tt

atom_comes : (reach : List InReach) → AllByRecursion IsPlainReach reach → (a : RawAtom) → IsPlainAtom a → Comes Any (atom_of reach a)
atom_comes reach h a p = then_comes IsPlainReach Any (reference reach (left a)) (λ c. operand_of reach (right_of a) >>= (λ other. Ok (atom_over c a other)))
    (reference_comes reach h (left a) (left_plain a p))
    (λ c q. then_comes Any Any (operand_of reach (right_of a)) (λ other. Ok (atom_over c a other)) (operand_comes reach h (right_of a) (right_of_plain a p)) (λ o r. tt))

all_any : {X : Type 0} (P : X → Type 0) (Q : X → Type 0) → ((x : X) → P x → Q x) → (r : Result X Refusal) → Comes P r → Comes Q r
all_any P Q f (Ok x) p = f x p
all_any P Q f (Err e) p = p

group_comes : (reach : List InReach) → AllByRecursion IsPlainReach reach → (g : List RawAtom) → AllByRecursion IsPlainAtom g → Comes Any (answers (atom_of reach) g)
group_comes reach h g p = all_any (AllByRecursion Any) Any (λ x q. tt) (answers (atom_of reach) g) (answers_come IsPlainAtom Any (atom_of reach) (atom_comes reach h) g p)

condition_comes : (reach : List InReach) → AllByRecursion IsPlainReach reach → (only : List (List RawAtom)) → ArePlainAtoms only → Comes Any (condition_of reach only)
condition_comes reach h only p = all_any (AllByRecursion Any) Any (λ x q. tt) (condition_of reach only)
    (answers_come (AllByRecursion IsPlainAtom) Any (answers (atom_of reach)) (group_comes reach h) only p)

hold_comes : (c : InReach) (v : Value) → IsPlainReach c → Comes Any (can_hold c v)
hold_comes c v p = refuse_comes _ (WrongKind c.name) p

atom_kinds_come : (reach : List InReach) → AllByRecursion IsPlainReach reach → (a : RawAtom) → IsPlainAtom a → Comes Any (atom_kinds reach a)
atom_kinds_come reach h a p = then_comes IsPlainReach Any (reference reach (left a)) (λ c.
    refuse_if (not (list_all (is_of_kind c.kind) (literals a))) (WrongKind c.name) >>= (λ literal.
    answers (reference reach) (option_to_list (right a)) >>= (λ other.
    refuse_if (not (list_all (λ (d : InReach). same_kind c.kind d.kind) other)) (WrongKind c.name))))
    (reference_comes reach h (left a) (left_plain a p))
    (λ c q. then_comes Any Any (refuse_if (not (list_all (is_of_kind c.kind) (literals a))) (WrongKind c.name)) (λ literal.
    answers (reference reach) (option_to_list (right a)) >>= (λ other.
    refuse_if (not (list_all (λ (d : InReach). same_kind c.kind d.kind) other)) (WrongKind c.name)))
    (refuse_comes _ (WrongKind c.name) q)
    (λ u w. then_comes (AllByRecursion IsPlainReach) Any (answers (reference reach) (option_to_list (right a)))
    (λ other. refuse_if (not (list_all (λ (d : InReach). same_kind c.kind d.kind) other)) (WrongKind c.name))
    (answers_come IsPlainColumn IsPlainReach (reference reach) (reference_comes reach h) (option_to_list (right a)) (right_plain a p))
    (λ other z. refuse_comes _ (WrongKind c.name) q)))

kinds_come : (reach : List InReach) → AllByRecursion IsPlainReach reach → (only : List (List RawAtom)) → ArePlainAtoms only → Comes Any (kinds reach only)
kinds_come reach h only p = pass_comes (AllByRecursion IsPlainAtom) (all_pass (atom_kinds reach))
    (λ g q. pass_comes IsPlainAtom (atom_kinds reach) (atom_kinds_come reach h) g q) only p

row_comes : (last : List ℕ) (cs : List InReach) (vs : List Value) → IsPlainName last → AllByRecursion IsPlainReach cs → Comes Any (row_kinds last cs vs)
row_comes last [] [] p h = tt
row_comes last [] (v ∷ vs) p h = p
row_comes last (c ∷ cs) [] p h = h.0
row_comes last (c ∷ cs) (v ∷ vs) p h = then_comes Any Any (can_hold c v) (λ held. row_kinds c.name cs vs) (hold_comes c v h.0) (λ u q. row_comes c.name cs vs h.0 h.1)

row_of_some : (item : List ℕ) (cs : List (List ℕ × Kind)) (vs : List Value) → cs ≢ [] → AllByRecursion IsPlainColumnDef cs
    → Comes Any (row_kinds [] (reach_from item 0 0 cs) vs)
row_of_some item [] vs some h = absurd (some refl)
row_of_some item (c ∷ cs) [] some h = h.0
row_of_some item (c ∷ cs) (v ∷ vs) some h =
    let first : InReach = record { item = item; name = c.0; kind = c.1; at = record { place = 0; column = 0 } } in
    then_comes Any Any (can_hold first v) (λ held. row_kinds c.0 (reach_from item 0 1 cs) vs) (hold_comes first v h.0)
    (λ u q. row_comes c.0 (reach_from item 0 1 cs) vs h.0 (from_plain item 0 1 cs h.1))

-- ---- names that stand twice

differ_comes : (before names : List (List ℕ)) → AllByRecursion IsPlainName names → Comes Any (all_differ before names)
differ_comes before [] h = tt
differ_comes before (n ∷ names) h = then_comes Any Any (refuse_if (list_any (bytes_eq n) before) (Exists n)) (λ fresh. all_differ (n ∷ before) names)
    (refuse_comes (list_any (bytes_eq n) before) (Exists n) h.0) (λ u p. differ_comes (n ∷ before) names h.1)

-- ---- statements

abbrev IsThere : List TableDef → ℕ → Type 0
IsThere tables n = IsPlainTable (slice_index_or tables n no_table)

table_comes : (tables : List TableDef) (name : List ℕ) → ArePlainTables tables → IsPlainName name → Comes (IsThere tables) (table_number tables name)
table_comes tables name h p = ok_or_comes (IsThere tables) (table_named tables name) (Unknown name)
    (position_all IsPlainTable (λ (t : TableDef). bytes_eq name t.name) tables no_table h) p

-- of what is asked: the names that may be shown of it, and the values that it writes
abbrev pub IsPlainAsked : List TableDef → Resolved → Type 0
IsPlainAsked tables (asked.CreateTable def) = IsPlainTable def
IsPlainAsked tables (asked.CreateIndex def) = IsPlainName def.name
IsPlainAsked tables (asked.Begin read_only) = Unit {0}
IsPlainAsked tables (asked.Insert table vs) = AllByRecursion IsPlainValue vs
IsPlainAsked tables (asked.Update table sets only) = AllByRecursion (λ (s : ℕ × Value). IsPlainValue s.1) sets
IsPlainAsked tables (asked.Delete table only) = Unit {0}
IsPlainAsked tables asked.Commit = Unit {0}
IsPlainAsked tables asked.Rollback = Unit {0}
IsPlainAsked tables (asked.Open cursor select) = IsPlainName cursor
IsPlainAsked tables (asked.Fetch cursor) = IsPlainName cursor
IsPlainAsked tables (asked.Step cursor n) = IsPlainName cursor
IsPlainAsked tables (asked.Show cursor) = IsPlainName cursor
IsPlainAsked tables (asked.Close cursor) = IsPlainName cursor

def_plain : (d : List ℕ × RawKind) → IsPlainDef d → IsPlainColumnDef (column_def d)
def_plain (name, raw_kinds.Big) p = p
def_plain (name, raw_kinds.Chars n) p = p

some_mapped : {X Y : Type 0} (f : X → Y) (xs : List X) → xs ≢ [] → map f xs ≢ []
some_mapped f [] some e = some refl
some_mapped f (x ∷ xs) some e = cc e

set_comes : (reach : List InReach) → AllByRecursion IsPlainReach reach → (s : List ℕ × Value) → IsPlainSet s → Comes (λ (t : ℕ × Value). IsPlainValue t.1) (set_of reach s)
set_comes reach h s p = then_comes Any (λ (t : ℕ × Value). IsPlainValue t.1) (column_number reach s.0) (λ column. Ok (column, s.1)) (number_comes reach h s.0 p.0) (λ n q. p.1)

set_kind_comes : (reach : List InReach) → AllByRecursion IsPlainReach reach → (s : List ℕ × Value) → IsPlainSet s → Comes Any (set_kind reach s)
set_kind_comes reach h s p = then_comes IsPlainReach Any (reference reach (plain_column s.0)) (λ c. can_hold c s.1)
    (reference_comes reach h (plain_column s.0) p.0) (λ c q. hold_comes c s.1 q)

-- an item in reach
abbrev IsPlainInReach : List TableDef → Item → Type 0
IsPlainInReach tables i = IsPlainName i.name

second_plain : (o : Option (List ℕ)) (n : List ℕ) → MayBePlain o → IsPlainName n → IsPlainName (unwrap_or o n)
second_plain None n p q = q
second_plain (Some m) n p q = p

item_comes : (tables : List TableDef) → ArePlainTables tables → (i : List ℕ × Option (List ℕ)) → IsPlainItem i → Comes (IsPlainInReach tables) (item_of tables i)
item_comes tables h i p = then_comes (IsThere tables) (IsPlainInReach tables) (table_number tables i.0) (λ table. Ok (record { name = unwrap_or i.1 i.0; table = table }))
    (table_comes tables i.0 h p.0) (λ n q. second_plain i.1 i.0 p.1 p.0)

returned_comes : (reach : List InReach) → AllByRecursion IsPlainReach reach → (o : Option (List RawCol)) → ArePlainReturned o → Comes Any (columns_returned reach o)
returned_comes reach h None p = tt
returned_comes reach h (Some raws) p = references_come reach h raws p

asked_comes : (tables : List TableDef) (indexes : List IndexDef) → ArePlainTables tables → (s : Statement) → IsPlainStatement s
    → Comes (IsPlainAsked tables) (asked_in tables indexes s)
asked_comes tables indexes h (statements.CreateTable name columns) p =
    then_comes Any (IsPlainAsked tables) (refuse_if (is_some (table_named tables name)) (Exists name)) _ (refuse_comes _ (Exists name) p.0)
    (λ u q. then_comes Any (IsPlainAsked tables) (all_differ [] (map (λ (c : List ℕ × RawKind). c.0) columns)) _
    (differ_comes [] (map (λ (c : List ℕ × RawKind). c.0) columns) (all_map IsPlainDef IsPlainName (λ (c : List ℕ × RawKind). c.0) (λ c r. r) columns p.1))
    (λ v r. record { name = p.0; columns = all_map IsPlainDef IsPlainColumnDef column_def def_plain columns p.1; some = some_mapped column_def columns p.2 }))
asked_comes tables indexes h (statements.CreateIndex unique name table columns) p =
    then_comes (IsThere tables) (IsPlainAsked tables) (table_number tables table) _ (table_comes tables table h p.1)
    (λ number q. then_comes (AllByRecursion Any) (IsPlainAsked tables) (answers (column_number (reach_alone tables table number)) columns) _
    (answers_come IsPlainName Any (column_number (reach_alone tables table number)) (number_comes (reach_alone tables table number) (alone_plain tables table number h)) columns p.2)
    (λ found r. then_comes Any (IsPlainAsked tables) (refuse_if (is_some (index_named indexes name)) (Exists name)) _ (refuse_comes _ (Exists name) p.0)
    (λ u w. then_comes Any (IsPlainAsked tables) (all_differ [] columns) _ (differ_comes [] columns p.2) (λ v z. p.0))))
asked_comes tables indexes h (statements.Begin read_only) p = tt
asked_comes tables indexes h (statements.Insert table vs) p =
    then_comes (IsThere tables) (IsPlainAsked tables) (table_number tables table) _ (table_comes tables table h p.0)
    (λ number q. then_comes Any (IsPlainAsked tables) (row_kinds [] (reach_alone tables table number) vs) _
    (row_of_some table (columns_of tables number) vs q.some q.columns) (λ u r. p.1))
asked_comes tables indexes h (statements.Update table sets only) p =
    then_comes (IsThere tables) (IsPlainAsked tables) (table_number tables table) _ (table_comes tables table h p.0)
    (λ number q. let reach : List InReach = reach_alone tables table number in let are = alone_plain tables table number h in
    then_comes (AllByRecursion (λ (t : ℕ × Value). IsPlainValue t.1)) (IsPlainAsked tables) (answers (set_of reach) sets) _
    (answers_come IsPlainSet (λ (t : ℕ × Value). IsPlainValue t.1) (set_of reach) (set_comes reach are) sets p.1)
    (λ found r. then_comes Any (IsPlainAsked tables) (condition_of reach only) _ (condition_comes reach are only p.2)
    (λ w z. then_comes Any (IsPlainAsked tables) (all_differ [] (map (λ (s : List ℕ × Value). s.0) sets)) _
    (differ_comes [] (map (λ (s : List ℕ × Value). s.0) sets) (all_map IsPlainSet IsPlainName (λ (s : List ℕ × Value). s.0) (λ s o. o.0) sets p.1))
    (λ u o. then_comes Any (IsPlainAsked tables) (all_pass (set_kind reach) sets) _ (pass_comes IsPlainSet (set_kind reach) (set_kind_comes reach are) sets p.1)
    (λ v n. then_comes Any (IsPlainAsked tables) (kinds reach only) _ (kinds_come reach are only p.2) (λ x m. r))))))
asked_comes tables indexes h (statements.Delete table only) p =
    then_comes (IsThere tables) (IsPlainAsked tables) (table_number tables table) _ (table_comes tables table h p.0)
    (λ number q. let reach : List InReach = reach_alone tables table number in let are = alone_plain tables table number h in
    then_comes Any (IsPlainAsked tables) (condition_of reach only) _ (condition_comes reach are only p.1)
    (λ w z. then_comes Any (IsPlainAsked tables) (kinds reach only) _ (kinds_come reach are only p.1) (λ x m. tt)))
asked_comes tables indexes h statements.Commit p = tt
asked_comes tables indexes h statements.Rollback p = tt
asked_comes tables indexes h (statements.Open cursor returned items only order goal) p =
    then_comes (AllByRecursion (IsPlainInReach tables)) (IsPlainAsked tables) (answers (item_of tables) items) _
    (answers_come IsPlainItem (IsPlainInReach tables) (item_of tables) (item_comes tables h) items p.2)
    (λ from q. let reach : List InReach = reach_of tables 0 from in let are = reach_plain tables 0 from h in
    then_comes Any (IsPlainAsked tables) (columns_returned reach returned) _ (returned_comes reach are returned p.1)
    (λ shown r. then_comes Any (IsPlainAsked tables) (condition_of reach only) _ (condition_comes reach are only p.3)
    (λ w z. then_comes Any (IsPlainAsked tables) (references reach order) _ (references_come reach are order p.4)
    (λ sorted o. then_comes Any (IsPlainAsked tables) (all_differ [] (map (λ (i : Item). i.name) from)) _
    (differ_comes [] (map (λ (i : Item). i.name) from) (all_map (IsPlainInReach tables) IsPlainName (λ (i : Item). i.name) (λ i n. n) from q))
    (λ u n. then_comes Any (IsPlainAsked tables) (kinds reach only) _ (kinds_come reach are only p.3)
    (λ v m. p.0))))))
asked_comes tables indexes h (statements.Fetch cursor) p = p
asked_comes tables indexes h (statements.Show cursor) p = p
asked_comes tables indexes h (statements.Close cursor) p = p
asked_comes tables indexes h (statements.Step cursor n) p = p

pub resolution_comes : (tables : List TableDef) (indexes : List IndexDef) → ArePlainTables tables → (s : Statement) → IsPlainStatement s
    → Comes (IsPlainAsked tables) (resolution tables indexes s)
resolution_comes tables indexes h s p = then_comes Any (IsPlainAsked tables) (within_limits s) (λ u. asked_in tables indexes s) (within_comes s) (λ u q. asked_comes tables indexes h s p)
