-- Bridge: references and conditions are looked up as in the working definition, which gathers what fits in a loop.
use Rattle.std.proofs.Common.{◌≡◌, refl, sym, ap, ◌∙◌}
use Rattle.std.specs.Prelude.{ℕ, List, [], ◌∷◌, ◌++◌, ◌+◌, Bool, true, false, cond, ◌&&◌, Option, Some, None, Result, Ok, Err, bytes_eq, filter, map, if◌then◌else◌}
use Rattle.std.specs.Option.{option_map_or}
use Rattle.std.proofs.lemmas.List.Elements.{filter-append}
use Rattle.std.proofs.lemmas.List.{map-append}
use Rattle.rv_value.proofs.Tests.{no_other}
use Rattle.rv_value.specs.declared.value.Kind.{Kind}
use Rattle.rv_restrict.specs.declared.atom.ColRef.{ColRef}
use Rattle.rv_restrict.specs.declared.atom.Operand.TheVariants.{Column}
use Rattle.rv_restrict.specs.declared.atom.Atom.TheVariants.{Compare, Between, Among, IsNull, Starts}
use Rattle.rv_lang.specs.declared.statement.RawCol.{RawCol}
use Rattle.rv_lang.specs.declared.statement.RawOp.{RawOp}
use Rattle.rv_lang.specs.declared.statement.RawOp.TheVariants as raw_ops
use Rattle.rv_lang.specs.declared.statement.RawOperand.{RawOperand}
use Rattle.rv_lang.specs.declared.statement.RawOperand.TheVariants as raw_operands
use Rattle.rv_lang.specs.declared.statement.RawAtom.{RawAtom}
use Rattle.rv_lang.specs.declared.statement.RawAtom.TheVariants as raw
use Rattle.rv_lang.specs.declared.reply.Refusal.{Refusal}
use Rattle.rv_catalog.specs.declared.columns.Fit.{Fit}
use Rattle.rv_catalog.specs.declared.columns.Fit.TheVariants.{Nothing, Several}
use Rattle.rv_catalog.specs.declared.columns.Item.{Item}
use Rattle.rv_catalog.specs.declared.def.TableDef.{TableDef}
use Rattle.rv_catalog.specs.Answers.{◌>>=◌}
use Rattle.rv_catalog.specs.Columns as today
use Rattle.rv_catalog.specs.Schema.{columns_of}
use Rattle.rv_believed.specs.Answers.{answers}
use Rattle.rv_believed.specs.Names.{InReach, reach_from, reach_of, fits, only_one, reference, op_of, operand_of, atom_of, condition_of, plain_column, column_number}
use Rattle.rv_believed.proofs.Chains.{collected_same, same_after}

abbrev IsFalse : Bool → Type 0
IsFalse false = Unit {0}
IsFalse true = ⊥

-- what is gathered of columns in a row
abbrev also_all : Fit → List InReach → Fit
also_all fit [] = fit
also_all fit (c ∷ cs) = also_all (today.also fit c.at) cs

also_append : (fit : Fit) (xs ys : List InReach) → also_all fit (xs ++ ys) ≡ also_all (also_all fit xs) ys
also_append fit [] ys = refl
also_append fit (x ∷ xs) ys = also_append (today.also fit x.at) xs ys

kept : {X : Type 0} (x : X) (xs ys zs : List X) (b : Bool) → zs ≡ xs ++ ys
    → (if b then x ∷ zs else zs) ≡ (if b then x ∷ xs else xs) ++ ys
kept x xs ys zs true p = ap (λ l. x ∷ l) p
kept x xs ys zs false p = p

one_more : (b : Bool) (fit : Fit) (x : InReach) (ys : List InReach)
    → also_all fit (if b then x ∷ ys else ys) ≡ also_all (cond b (today.also fit x.at) fit) ys
one_more true fit x ys = refl
one_more false fit x ys = refl

-- an item fits, or none of its columns does
by_item : (ok t n : Bool) → t ≡ ok → (F : Fit → Fit) (a fit : Fit)
    → cond ok (F (cond (t && n) a fit)) (cond (t && n) a fit) ≡ cond ok (F (cond n a fit)) fit
by_item true true n p F a fit = refl
by_item true false n p F a fit = no_other p
by_item false true n p F a fit = no_other (sym p)
by_item false false n p F a fit = refl

columns_same : (r : RawCol) (item : List ℕ) (ok : Bool)
    → option_map_or (λ qualifier. bytes_eq qualifier item) r.table true ≡ ok
    → (place : ℕ) (cs : List (List ℕ × Kind)) (n : ℕ) (fit : Fit)
    → also_all fit (filter (fits r) (reach_from item place n cs))
    ≡ cond ok (today.fit_columns r.column place n cs fit) fit
columns_same r item true p place [] n fit = refl
columns_same r item false p place [] n fit = refl
columns_same r item ok p place (c ∷ cs) n fit =
    let x : InReach = record { item = item; name = c.0; kind = c.1; at = record { place = place; column = n } } in
    one_more (fits r x) fit x (filter (fits r) (reach_from item place (n + 1) cs))
    ∙ columns_same r item ok p place cs (n + 1) (cond (fits r x) (today.also fit x.at) fit)
    ∙ by_item ok (option_map_or (λ qualifier. bytes_eq qualifier item) r.table true) (bytes_eq r.column c.0) p
    (today.fit_columns r.column place (n + 1) cs) (today.also fit x.at) fit

item_test : (q : Option (List ℕ)) (name : List ℕ)
    → option_map_or (λ qualifier. bytes_eq qualifier name) q true ≡ today.item_fits q name
item_test None name = refl
item_test (Some qualifier) name = refl

items_same : (tables : List TableDef) (r : RawCol) (items : List Item) (place : ℕ) (fit : Fit)
    → also_all fit (filter (fits r) (reach_of tables place items))
    ≡ today.fit_items tables r.table r.column place items fit
items_same tables r [] place fit = refl
items_same tables r (i ∷ more) place fit =
    ap (also_all fit) (filter-append (fits r) (reach_from i.name place 0 (columns_of tables i.table)) (reach_of tables (place + 1) more))
    ∙ also_append fit (filter (fits r) (reach_from i.name place 0 (columns_of tables i.table)))
    (filter (fits r) (reach_of tables (place + 1) more))
    ∙ ap (λ f. also_all f (filter (fits r) (reach_of tables (place + 1) more)))
    (columns_same r i.name (today.item_fits r.table i.name) (item_test r.table i.name) place (columns_of tables i.table) 0 fit)
    ∙ items_same tables r more (place + 1)
    (cond (today.item_fits r.table i.name) (today.fit_columns r.column place 0 (columns_of tables i.table) fit) fit)

-- ---- references

abbrev pub at_of : Result InReach Refusal → Result ColRef Refusal
at_of r = r >>= (λ c. Ok c.at)

several : (cs : List InReach) → also_all Several cs ≡ Several
several [] = refl
several (c ∷ cs) = several cs

only_same : (name : List ℕ) (cs : List InReach) → today.only_one (also_all Nothing cs) name ≡ at_of (only_one name cs)
only_same name [] = refl
only_same name (c ∷ []) = refl
only_same name (c ∷ d ∷ cs) = ap (λ f. today.only_one f name) (several cs)

pub reference_same : (tables : List TableDef) (items : List Item) (r : RawCol)
    → today.reference tables items r ≡ at_of (reference (reach_of tables 0 items) r)
reference_same tables items r = ap (λ f. today.only_one f r.column) (sym (items_same tables r items 0 Nothing))
    ∙ only_same r.column (filter (fits r) (reach_of tables 0 items))

from_same : (item : List ℕ) (place : ℕ) (cs : List (List ℕ × Kind)) (n : ℕ)
    → today.columns_from place n cs ≡ map (λ (c : InReach). c.at) (reach_from item place n cs)
from_same item place [] n = refl
from_same item place (c ∷ cs) n = ap (λ l. record { place = place; column = n } ∷ l) (from_same item place cs (n + 1))

pub all_columns_same : (tables : List TableDef) (items : List Item) (place : ℕ)
    → today.all_columns tables place items ≡ map (λ (c : InReach). c.at) (reach_of tables place items)
all_columns_same tables [] place = refl
all_columns_same tables (i ∷ more) place =
    (λ k. from_same i.name place (columns_of tables i.table) 0 k ++ all_columns_same tables more (place + 1) k)
    ∙ sym (map-append (λ (c : InReach). c.at) (reach_from i.name place 0 (columns_of tables i.table))
    (reach_of tables (place + 1) more))

-- ---- conditions

pub after_at : {B : Type 0} (r : Result InReach Refusal) (f : ColRef → Result B Refusal)
    → (at_of r >>= f) ≡ (r >>= (λ c. f c.at))
after_at (Ok c) f = refl
after_at (Err e) f = refl

with_reference : {B : Type 0} (tables : List TableDef) (items : List Item) (r : RawCol) (f : ColRef → Result B Refusal)
    → (today.reference tables items r >>= f) ≡ (reference (reach_of tables 0 items) r >>= (λ c. f c.at))
with_reference tables items r f = ap (λ t. t >>= f) (reference_same tables items r)
    ∙ after_at (reference (reach_of tables 0 items) r) f

op_same : (op : RawOp) → today.op_of op ≡ op_of op
op_same raw_ops.Eq = refl
op_same raw_ops.Ne = refl
op_same raw_ops.Lt = refl
op_same raw_ops.Le = refl
op_same raw_ops.Gt = refl
op_same raw_ops.Ge = refl

operand_same : (tables : List TableDef) (items : List Item) (o : RawOperand)
    → today.operand tables items o ≡ operand_of (reach_of tables 0 items) o
operand_same tables items (raw_operands.Literal v) = refl
operand_same tables items (raw_operands.Column d) = with_reference tables items d (λ c. Ok (Column c))

pub atom_same : (tables : List TableDef) (items : List Item) (a : RawAtom)
    → today.atom tables items a ≡ atom_of (reach_of tables 0 items) a
atom_same tables items (raw.Compare c op other) =
    with_reference tables items c (λ d. today.operand tables items other >>= (λ right. Ok (Compare d (today.op_of op) right)))
    ∙ same_after (reference (reach_of tables 0 items) c)
    (λ d. today.operand tables items other >>= (λ right. Ok (Compare d.at (today.op_of op) right)))
    (λ d. operand_of (reach_of tables 0 items) other >>= (λ right. Ok (Compare d.at (op_of op) right)))
    (λ d. λ k. operand_same tables items other k >>= (λ right. Ok (Compare d.at (op_same op k) right)))
atom_same tables items (raw.Between c low high) = with_reference tables items c (λ d. Ok (Between d low high))
atom_same tables items (raw.Among c list) = with_reference tables items c (λ d. Ok (Among d list))
atom_same tables items (raw.IsNull c negated) = with_reference tables items c (λ d. Ok (IsNull d negated))
atom_same tables items (raw.Starts c text) = with_reference tables items c (λ d. Ok (Starts d text))

group_same : (tables : List TableDef) (items : List Item) (g : List RawAtom)
    → today.group tables items g ≡ answers (atom_of (reach_of tables 0 items)) g
group_same tables items g = collected_same (today.atom tables items) (atom_of (reach_of tables 0 items)) (atom_same tables items) g

pub condition_same : (tables : List TableDef) (items : List Item) (only : List (List RawAtom))
    → today.groups tables items only ≡ condition_of (reach_of tables 0 items) only
condition_same tables items only = collected_same (today.group tables items) (answers (atom_of (reach_of tables 0 items)))
    (group_same tables items) only

-- ---- columns of one table

pub own_same : (tables : List TableDef) (item : List ℕ) (table : ℕ) (name : List ℕ)
    → today.own_column tables table name ≡ column_number (reach_from item 0 0 (columns_of tables table)) name
own_same tables item table name = ap (λ f. today.only_one f name >>= (λ c. Ok c.column))
    (sym (columns_same (plain_column name) item true refl 0 (columns_of tables table) 0 Nothing))
    ∙ ap (λ r. r >>= (λ c. Ok c.column)) (only_same name (filter (fits (plain_column name)) (reach_from item 0 0 (columns_of tables table))))
    ∙ after_at (reference (reach_from item 0 0 (columns_of tables table)) (plain_column name)) (λ c. Ok c.column)
