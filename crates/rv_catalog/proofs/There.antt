-- Each column that a reference gives is there.
use Rattle.std.proofs.Common.{◌≡◌, ℕ, ◌+◌, ◌<◌, ◌≤◌, ◌==◌, List, [], ◌∷◌, ◌++◌, Bool, true, false, cond, nat_lt, bytes_eq, length, map, Option, Ok, refl, arith, append_assoc, length-append}
use Rattle.std.specs.List.{list_all, slice_index_or}
use Rattle.std.proofs.lemmas.Bool.Decides.{nat_tests}
use Rattle.std.proofs.Math.Seq.{get_or-append_seam}
use Rattle.std.proofs.lemmas.Bool.{and_from, lt-ltb}
use Rattle.std.specs.Cmp.{first_so, second_so}
use Rattle.rv_value.specs.declared.value.Kind.{Kind}
use Rattle.rv_restrict.specs.declared.atom.ColRef.{ColRef}
use Rattle.rv_restrict.specs.declared.atom.Operand.{Operand}
use Rattle.rv_restrict.specs.declared.atom.Operand.TheVariants.{Literal, Column}
use Rattle.rv_restrict.specs.declared.atom.Atom.{Atom}
use Rattle.rv_restrict.specs.declared.atom.Atom.TheVariants.{Compare, Between, Among, IsNull, Starts}
use Rattle.rv_restrict.specs.Bind.{passes_home}
use Rattle.rv_restrict.specs.Truth.{atom_names_only, group_names_only, names_only, operand_names_only}
use Rattle.rv_restrict.proofs.Names.{names_weaker}
use Rattle.rv_lang.specs.declared.statement.RawCol.{RawCol}
use Rattle.rv_lang.specs.declared.statement.RawOperand.{RawOperand}
use Rattle.rv_lang.specs.declared.statement.RawOperand.TheVariants.{Literal as RawLiteral, Column as RawColumn}
use Rattle.rv_lang.specs.declared.statement.RawAtom.{RawAtom}
use Rattle.rv_lang.specs.declared.statement.RawAtom.TheVariants.{Compare as RawCompare, Between as RawBetween, Among as RawAmong, IsNull as RawIsNull, Starts as RawStarts}
use Rattle.rv_catalog.specs.declared.columns.Fit.{Fit}
use Rattle.rv_catalog.specs.declared.columns.Fit.TheVariants.{Nothing, One, Several}
use Rattle.rv_catalog.specs.declared.columns.Item.{Item}
use Rattle.rv_catalog.specs.declared.def.TableDef.{TableDef}
use Rattle.rv_catalog.specs.Answers.{◌>>=◌}
use Rattle.rv_catalog.specs.Columns.{all_columns, also, atom, columns_from, fit_columns, fit_items, group, groups, item_fits, only_one, op_of, operand, own_column, reference}
use Rattle.rv_catalog.specs.Fits.{is_column, is_over_table, is_there}
use Rattle.rv_catalog.specs.Kinds.{no_column}
use Rattle.rv_catalog.specs.Resolve.{item_table}
use Rattle.rv_catalog.specs.Schema.{columns_of, width}
use Rattle.rv_catalog.proofs.Steps.{bind_ok, collected_all, ok_is}

-- What holds of each column that fits.
abbrev pub FitHas : (ColRef → Type 0) → Fit → Type 0
FitHas P Nothing = Unit {0}
FitHas P (One c) = P c
FitHas P Several = Unit {0}

also_has : (P : ColRef → Type 0) (fit : Fit) (c : ColRef) → FitHas P fit → P c → FitHas P (also fit c)
also_has P Nothing c f h = h
also_has P (One d) c f h = tt
also_has P Several c f h = tt

one_has : (P : ColRef → Type 0) (fit : Fit) (name : List ℕ) (c : ColRef) → FitHas P fit → only_one fit name ≡ Ok c → P c
one_has P Nothing name c f h = absurd (cc)
one_has P (One d) name c f h = rw (← ok_is d c h) f
one_has P Several name c f h = absurd (cc)

pub columns_have : (P : ColRef → Type 0) (name : List ℕ) (place : ℕ) (front rest : List (List ℕ × Kind)) (n : ℕ) (fit : Fit) → n ≡ length front → ((k : ℕ) → k < length (front ++ rest) → bytes_eq name (slice_index_or (front ++ rest) k no_column).0 ≡ true → P (record { place = place; column = k })) → FitHas P fit → FitHas P (fit_columns name place n rest fit)
columns_have P name place front [] n fit e each f = f
columns_have P name place front (c ∷ cs) n fit e each f = let here : slice_index_or (front ++ c ∷ cs) n no_column ≡ c = rw e (get_or-append_seam front c cs no_column) in let within : n < length (front ++ c ∷ cs) = omega (arith, e, length-append front (c ∷ cs)) in let fit' : FitHas P (cond (bytes_eq name c.0) (also fit (record { place = place; column = n })) fit) = elim (bytes_eq name c.0) as (λ b. bytes_eq name c.0 ≡ b → FitHas P (cond b (also fit (record { place = place; column = n })) fit)) [
  | true ↦ λ t. also_has P fit (record { place = place; column = n }) f (each n within (rw here t))
  | false ↦ λ t. f
] refl in columns_have P name place (front ++ c ∷ []) cs (n + 1) (cond (bytes_eq name c.0) (also fit (record { place = place; column = n })) fit) (omega (arith, e, length-append front (c ∷ []))) (rw (append_assoc front (c ∷ []) cs) each) fit'

-- In the tables of FROM.
here_there : (tables : List TableDef) (front rest : List ℕ) (table : ℕ) (k : ℕ) → k < width tables table → is_there tables (front ++ table ∷ rest) (record { place = length front; column = k }) ≡ true
here_there tables front rest table k h = let low : length front < length (front ++ table ∷ rest) = omega (arith, length-append front (table ∷ rest)) in and_from (nat_lt (length front) (length (front ++ table ∷ rest))) (is_column (width tables (slice_index_or (front ++ table ∷ rest) (length front) 0)) k) (lt-ltb (length front) (length (front ++ table ∷ rest)) low) (rw (get_or-append_seam front table rest 0) (lt-ltb k (width tables table) h))

items_have : (tables : List TableDef) (qualifier : Option (List ℕ)) (name : List ℕ) (front : List ℕ) (rest : List Item) (place : ℕ) (fit : Fit) → place ≡ length front → FitHas (λ c. is_there tables (front ++ map item_table rest) c ≡ true) fit → FitHas (λ c. is_there tables (front ++ map item_table rest) c ≡ true) (fit_items tables qualifier name place rest fit)
items_have tables qualifier name front [] place fit e f = f
items_have tables qualifier name front (item ∷ more) place fit e f = let P : ColRef → Type 0 = λ (c : ColRef). is_there tables (front ++ item.table ∷ map item_table more) c ≡ true in let own : FitHas P (fit_columns name place 0 (columns_of tables item.table) fit) = columns_have P name place [] (columns_of tables item.table) 0 fit refl (λ k h b. rw e (here_there tables front (map item_table more) item.table k h)) f in let fit' : FitHas P (cond (item_fits qualifier item.name) (fit_columns name place 0 (columns_of tables item.table) fit) fit) = elim (item_fits qualifier item.name) as (λ b. FitHas P (cond b (fit_columns name place 0 (columns_of tables item.table) fit) fit)) [ true ↦ own | false ↦ f ] in rw (← append_assoc front (item.table ∷ []) (map item_table more)) (items_have tables qualifier name (front ++ item.table ∷ []) more (place + 1) (cond (item_fits qualifier item.name) (fit_columns name place 0 (columns_of tables item.table) fit) fit) (omega (arith, e, length-append front (item.table ∷ []))) (rw (append_assoc front (item.table ∷ []) (map item_table more)) fit'))

pub reference_there : (tables : List TableDef) (reach : List Item) (raw : RawCol) (c : ColRef) → reference tables reach raw ≡ Ok c → is_there tables (map item_table reach) c ≡ true
reference_there tables reach raw c h = one_has (λ d. is_there tables (map item_table reach) d ≡ true) (fit_items tables raw.table raw.column 0 reach Nothing) raw.column c (items_have tables raw.table raw.column [] reach 0 Nothing refl tt) h

-- In one table.
pub own_there : (tables : List TableDef) (table : ℕ) (name : List ℕ) (k : ℕ) → own_column tables table name ≡ Ok k → (k < width tables table) × (bytes_eq name (slice_index_or (columns_of tables table) k no_column).0 ≡ true)
own_there tables table name k h = let s = bind_ok (only_one (fit_columns name 0 0 (columns_of tables table) Nothing) name) (λ (c : ColRef). Ok c.column) k h in let P : ColRef → Type 0 = λ (c : ColRef). (c.column < width tables table) × (bytes_eq name (slice_index_or (columns_of tables table) c.column no_column).0 ≡ true) in let own : P s.0 = one_has P (fit_columns name 0 0 (columns_of tables table) Nothing) name s.0 (columns_have P name 0 [] (columns_of tables table) 0 Nothing refl (λ k h b. (h, b)) tt) s.1 in rw (← ok_is (s.0).column k s.2) own

-- All columns.
from_all : (p : ColRef → Bool) (place n m : ℕ) (cs : List (List ℕ × Kind)) → n + length cs ≤ m → ((k : ℕ) → k < m → p (record { place = place; column = k }) ≡ true) → list_all p (columns_from place n cs) ≡ true
from_all p place n m [] h each = refl
from_all p place n m (c ∷ cs) h each = and_from (p (record { place = place; column = n })) (list_all p (columns_from place (n + 1) cs)) (each n (omega arith)) (from_all p place (n + 1) m cs (omega arith) each)

all_both : {X : Type 0} (p : X → Bool) (xs ys : List X) → list_all p xs ≡ true → list_all p ys ≡ true → list_all p (xs ++ ys) ≡ true
all_both p [] ys a b = b
all_both p (x ∷ xs) ys a b = and_from (p x) (list_all p (xs ++ ys)) (first_so (p x) (list_all p xs) a) (all_both p xs ys (second_so (p x) (list_all p xs) a) b)

all_there : (tables : List TableDef) (front : List ℕ) (rest : List Item) (place : ℕ) → place ≡ length front → list_all (is_there tables (front ++ map item_table rest)) (all_columns tables place rest) ≡ true
all_there tables front [] place e = refl
all_there tables front (item ∷ more) place e = let next : list_all (is_there tables (front ++ item.table ∷ map item_table more)) (all_columns tables (place + 1) more) ≡ true = rw (← append_assoc front (item.table ∷ []) (map item_table more)) (all_there tables (front ++ item.table ∷ []) more (place + 1) (omega (arith, e, length-append front (item.table ∷ [])))) in all_both (is_there tables (front ++ item.table ∷ map item_table more)) (columns_from place 0 (columns_of tables item.table)) (all_columns tables (place + 1) more) (from_all (is_there tables (front ++ item.table ∷ map item_table more)) place 0 (width tables item.table) (columns_of tables item.table) (omega arith) (λ k h. rw e (here_there tables front (map item_table more) item.table k h))) next

pub every_there : (tables : List TableDef) (reach : List Item) → list_all (is_there tables (map item_table reach)) (all_columns tables 0 reach) ≡ true
every_there tables reach = all_there tables [] reach 0 refl

-- In conditions.
operand_there : (tables : List TableDef) (reach : List Item) (raw : RawOperand) (o : Operand) → operand tables reach raw ≡ Ok o → operand_names_only (is_there tables (map item_table reach)) o ≡ true
operand_there tables reach (RawLiteral v) o h = rw (← ok_is (Literal v) o h) refl
operand_there tables reach (RawColumn raw) o h = let s = bind_ok (reference tables reach raw) (λ (c : ColRef). Ok (Column c)) o h in rw (← ok_is (Column s.0) o s.2) (reference_there tables reach raw s.0 s.1)

pub atom_there : (tables : List TableDef) (reach : List Item) (raw : RawAtom) (a : Atom) → atom tables reach raw ≡ Ok a → atom_names_only (is_there tables (map item_table reach)) a ≡ true
atom_there tables reach (RawCompare raw op other) a h = let s = bind_ok (reference tables reach raw) (λ (c : ColRef). operand tables reach other >>= (λ (o : Operand). Ok (Compare c (op_of op) o))) a h in let t = bind_ok (operand tables reach other) (λ (o : Operand). Ok (Compare s.0 (op_of op) o)) a s.2 in rw (← ok_is (Compare s.0 (op_of op) t.0) a t.2) (and_from (is_there tables (map item_table reach) s.0) (operand_names_only (is_there tables (map item_table reach)) t.0) (reference_there tables reach raw s.0 s.1) (operand_there tables reach other t.0 t.1))
atom_there tables reach (RawBetween raw low high) a h = let s = bind_ok (reference tables reach raw) (λ (c : ColRef). Ok (Between c low high)) a h in rw (← ok_is (Between s.0 low high) a s.2) (reference_there tables reach raw s.0 s.1)
atom_there tables reach (RawAmong raw list) a h = let s = bind_ok (reference tables reach raw) (λ (c : ColRef). Ok (Among c list)) a h in rw (← ok_is (Among s.0 list) a s.2) (reference_there tables reach raw s.0 s.1)
atom_there tables reach (RawIsNull raw negated) a h = let s = bind_ok (reference tables reach raw) (λ (c : ColRef). Ok (IsNull c negated)) a h in rw (← ok_is (IsNull s.0 negated) a s.2) (reference_there tables reach raw s.0 s.1)
atom_there tables reach (RawStarts raw text) a h = let s = bind_ok (reference tables reach raw) (λ (c : ColRef). Ok (Starts c text)) a h in rw (← ok_is (Starts s.0 text) a s.2) (reference_there tables reach raw s.0 s.1)

group_there : (tables : List TableDef) (reach : List Item) (raws : List RawAtom) (g : List Atom) → group tables reach raws ≡ Ok g → group_names_only (is_there tables (map item_table reach)) g ≡ true
group_there tables reach raws g h = collected_all (atom tables reach) (atom_names_only (is_there tables (map item_table reach))) (atom_there tables reach) [] raws g refl h

pub groups_there : (tables : List TableDef) (reach : List Item) (raws : List (List RawAtom)) (only : List (List Atom)) → groups tables reach raws ≡ Ok only → names_only (is_there tables (map item_table reach)) only ≡ true
groups_there tables reach raws only h = collected_all (group tables reach) (group_names_only (is_there tables (map item_table reach))) (group_there tables reach) [] raws only refl h

-- A condition over one table in reach.
home_there : (tables : List TableDef) (table : ℕ) (c : ColRef) → is_there tables (table ∷ []) c ≡ true → passes_home (is_column (width tables table)) c ≡ true
home_there tables table c h = let a = first_so (nat_lt c.place 1) (is_column (width tables (slice_index_or (table ∷ []) c.place 0)) c.column) h in let b = second_so (nat_lt c.place 1) (is_column (width tables (slice_index_or (table ∷ []) c.place 0)) c.column) h in let e : c.place ≡ 0 = grind (arith, nat_tests, a) in let k : is_column (width tables table) c.column ≡ true = rw e at b in and_from (c.place == 0) (is_column (width tables table) c.column) (grind (arith, nat_tests, e)) k

pub over_there : (tables : List TableDef) (table : ℕ) (only : List (List Atom)) → names_only (is_there tables (table ∷ [])) only ≡ true → is_over_table tables table only ≡ true
over_there tables table only h = names_weaker (is_there tables (table ∷ [])) (passes_home (is_column (width tables table))) (home_there tables table) only h
