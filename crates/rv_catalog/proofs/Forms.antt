-- What each form of statement gives is there, and has as many parts as the statement.
use Rattle.std.proofs.Common.{◌≡◌, ℕ, ◌<◌, ◌≤◌, List, [], ◌∷◌, Bool, true, bytes_eq, length, map, Option, Some, None, Result, Ok, Err, IfOk, is_some, refl, arith}
use Rattle.std.specs.List.{list_all, slice_index_or}
use Rattle.std.proofs.lemmas.List.{length-map}
use Rattle.std.proofs.lemmas.List.Quantifiers.{position-Some}
use Rattle.std.proofs.lemmas.Bool.{and_from, lt-ltb}
use Rattle.std.specs.Cmp.{first_so, second_so}
use Rattle.rv_value.specs.declared.value.Kind.{Kind}
use Rattle.rv_value.specs.declared.value.Value.{Value}
use Rattle.rv_value.proofs.Tests.{not_some}
use Rattle.rv_restrict.specs.declared.atom.ColRef.{ColRef}
use Rattle.rv_lang.specs.declared.statement.RawAtom.{RawAtom}
use Rattle.rv_lang.specs.declared.statement.RawCol.{RawCol}
use Rattle.rv_lang.specs.declared.statement.RawGoal.{RawGoal}
use Rattle.rv_lang.specs.declared.statement.RawKind.{RawKind}
use Rattle.rv_lang.specs.declared.statement.Statement.{Statement}
use Rattle.rv_lang.specs.declared.statement.Statement.TheVariants.{CreateTable, CreateIndex, Begin, Insert, Update, Delete, Commit, Rollback, Open, Fetch, Show, Close, Step}
use Rattle.rv_lang.specs.declared.reply.Refusal.TheVariants.{Unknown, Exists}
use Rattle.rv_lang.specs.declared.reply.Refusal.TheVariants.{Kind as WrongKind}
use Rattle.rv_catalog.specs.declared.columns.Item.{Item}
use Rattle.rv_catalog.specs.declared.def.BindFault.{BindFault}
use Rattle.rv_catalog.specs.declared.def.IndexDef.{IndexDef}
use Rattle.rv_catalog.specs.declared.def.Resolved.{Resolved}
use Rattle.rv_catalog.specs.declared.def.Resolved.TheVariants.{CreateTable as NewTable, CreateIndex as NewIndex, Begin as Begins, Insert as Inserts, Update as Updates, Delete as Deletes, Commit as Commits, Rollback as Rolls, Open as Opens, Fetch as Fetches, Show as Shows, Close as Closes, Step as Steps}
use Rattle.rv_catalog.specs.declared.def.Select.{Select}
use Rattle.rv_catalog.specs.declared.def.TableDef.{TableDef}
use Rattle.rv_catalog.specs.Answers.{◌>>=◌, Gives, all_pass, collected, refuse_if, refuse_some}
use Rattle.rv_catalog.specs.Columns.{groups, own_column, reference}
use Rattle.rv_catalog.specs.Fits.{FitsSchema, IsQueryOf, is_column, is_there, parts_in, parts_of}
use Rattle.rv_catalog.specs.Kinds.{cannot_hold, kinds, no_column, row_kinds, set_kind}
use Rattle.rv_catalog.specs.Limits.{columns_count, joined_count, key_count}
use Rattle.rv_catalog.specs.Resolve.{alone, column_def, column_name, deleted, first_repeat, form, goal_of, inserted, item, item_name, item_table, itself, new_index, new_table, opened, references, returns, second_or, selected, set_column, set_name, steps_of, table_number, updated}
use Rattle.rv_catalog.specs.Schema.{Schema, columns_of, index_named, no_table, table_named, width}
use Rattle.rv_catalog.proofs.Different.{numbers_differ}
use Rattle.rv_catalog.proofs.Steps.{bind_ok, collected_all, collected_len, none_refused, not_refused, ok_is, was_some}
use Rattle.rv_catalog.proofs.There.{every_there, groups_there, over_there, own_there, reference_there}

-- A resolved form that is there and whole.
pub record IsGood (schema : Schema) (parts : ℕ) (r : Resolved) : Type 0 where
  pub fits : FitsSchema schema r
  pub whole : parts_in r ≡ parts

number_there : (tables : List TableDef) (name : List ℕ) (n : ℕ) → table_number tables name ≡ Ok n → n < length tables
number_there tables name n h = (position-Some (λ (t : TableDef). bytes_eq name t.name) tables n no_table (was_some (table_named tables name) (Unknown name) n h)).0

good_table : (schema : Schema) (name : List ℕ) (columns : List (List ℕ × RawKind)) (r : Resolved) → length columns ≤ 16 → new_table schema name columns ≡ Ok r → IsGood schema (length columns) r
good_table schema name columns r few h = let def : TableDef = record { name = name; columns = map column_def columns } in let s = bind_ok (refuse_if (is_some (table_named schema.tables name)) (Exists name)) (λ fresh. refuse_some (first_repeat column_name [] columns) Exists >>= (λ once. Ok (NewTable def))) r h in let t = bind_ok (refuse_some (first_repeat column_name [] columns) Exists) (λ once. Ok (NewTable def)) r s.2 in let len : length (map column_def columns) ≡ length columns = length-map columns column_def in rw (← ok_is (NewTable def) r t.2) (record { fits = record { fresh = not_some (table_named schema.tables name) (not_refused (is_some (table_named schema.tables name)) (Exists name) s.0 s.1); narrow = omega (arith, len, few) }; whole = len })

good_index : (schema : Schema) (unique : Bool) (name table : List ℕ) (columns : List (List ℕ)) (r : Resolved) → length columns ≤ 4 → new_index schema unique name table columns ≡ Ok r → IsGood schema (length columns) r
good_index schema unique name table columns r few h = let a = bind_ok (table_number schema.tables table) (λ number. collected (own_column schema.tables number) [] columns >>= (λ found. refuse_if (is_some (index_named schema.indexes name)) (Exists name) >>= (λ fresh. refuse_some (first_repeat itself [] columns) Exists >>= (λ once. Ok (NewIndex (record { name = name; table = number; columns = found; unique = unique })))))) r h in let b = bind_ok (collected (own_column schema.tables a.0) [] columns) (λ found. refuse_if (is_some (index_named schema.indexes name)) (Exists name) >>= (λ fresh. refuse_some (first_repeat itself [] columns) Exists >>= (λ once. Ok (NewIndex (record { name = name; table = a.0; columns = found; unique = unique }))))) r a.2 in let def : IndexDef = record { name = name; table = a.0; columns = b.0; unique = unique } in let c = bind_ok (refuse_if (is_some (index_named schema.indexes name)) (Exists name)) (λ fresh. refuse_some (first_repeat itself [] columns) Exists >>= (λ once. Ok (NewIndex def))) r b.2 in let d = bind_ok (refuse_some (first_repeat itself [] columns) Exists) (λ once. Ok (NewIndex def)) r c.2 in let len : length b.0 ≡ length columns = let l = collected_len (own_column schema.tables a.0) [] columns b.0 b.1 in omega (arith, l) in rw (← ok_is (NewIndex def) r d.2) (record {
  fits = record {
    fresh = not_some (index_named schema.indexes name) (not_refused (is_some (index_named schema.indexes name)) (Exists name) c.0 c.1);
    there = number_there schema.tables table a.0 a.1;
    few = omega (arith, len, few);
    columns = collected_all (own_column schema.tables a.0) (is_column (width schema.tables a.0)) (λ x y e. lt-ltb y (width schema.tables a.0) (own_there schema.tables a.0 x y e).0) [] columns b.0 refl b.1;
    different = numbers_differ (own_column schema.tables a.0) (λ k. (slice_index_or (columns_of schema.tables a.0) k no_column).0) (λ x y e. (own_there schema.tables a.0 x y e).1) [] [] columns b.0 refl refl (none_refused (first_repeat itself [] columns) Exists d.0 d.1) b.1;
  };
  whole = len;
})

row_len : (last : List ℕ) (columns : List (List ℕ × Kind)) (values : List Value) (u : Unit {0}) → row_kinds last columns values ≡ Ok u → length values ≡ length columns
row_len last [] [] u h = refl
row_len last [] (v ∷ vs) u h = absurd (cc)
row_len last (c ∷ cs) [] u h = absurd (cc)
row_len last (c ∷ cs) (v ∷ vs) u h = let s = bind_ok (refuse_if (cannot_hold c.1 v) (WrongKind c.0)) (λ held. row_kinds c.0 cs vs) u h in let k = row_len c.0 cs vs u s.2 in omega (arith, k)

good_row : (schema : Schema) (table : List ℕ) (values : List Value) (r : Resolved) → inserted schema table values ≡ Ok r → IsGood schema 0 r
good_row schema table values r h = let a = bind_ok (table_number schema.tables table) (λ number. row_kinds [] (columns_of schema.tables number) values >>= (λ right. Ok (Inserts number values))) r h in let b = bind_ok (row_kinds [] (columns_of schema.tables a.0) values) (λ right. Ok (Inserts a.0 values)) r a.2 in rw (← ok_is (Inserts a.0 values) r b.2) (record { fits = record { there = number_there schema.tables table a.0 a.1; whole = row_len [] (columns_of schema.tables a.0) values b.0 b.1 }; whole = refl })

set_there : (tables : List TableDef) (table : ℕ) (x : List ℕ × Value) (y : ℕ × Value) → set_column tables table x ≡ Ok y → is_column (width tables table) y.0 ≡ true
set_there tables table x y h = let s = bind_ok (own_column tables table x.0) (λ (column : ℕ). Ok (column, x.1)) y h in rw (← ok_is (s.0, x.1) y s.2) (lt-ltb s.0 (width tables table) (own_there tables table x.0 s.0 s.1).0)

good_change : (schema : Schema) (table : List ℕ) (sets : List (List ℕ × Value)) (only : List (List RawAtom)) (r : Resolved) → updated schema table sets only ≡ Ok r → IsGood schema 0 r
good_change schema table sets only r h = let a = bind_ok (table_number schema.tables table) (λ number. collected (set_column schema.tables number) [] sets >>= (λ found. groups schema.tables (alone table number) only >>= (λ where_true. refuse_some (first_repeat set_name [] sets) Exists >>= (λ once. all_pass (set_kind schema.tables number) found >>= (λ held. kinds schema.tables (alone table number) where_true >>= (λ right. Ok (Updates number found where_true))))))) r h in let b = bind_ok (collected (set_column schema.tables a.0) [] sets) (λ found. groups schema.tables (alone table a.0) only >>= (λ where_true. refuse_some (first_repeat set_name [] sets) Exists >>= (λ once. all_pass (set_kind schema.tables a.0) found >>= (λ held. kinds schema.tables (alone table a.0) where_true >>= (λ right. Ok (Updates a.0 found where_true)))))) r a.2 in let c = bind_ok (groups schema.tables (alone table a.0) only) (λ where_true. refuse_some (first_repeat set_name [] sets) Exists >>= (λ once. all_pass (set_kind schema.tables a.0) b.0 >>= (λ held. kinds schema.tables (alone table a.0) where_true >>= (λ right. Ok (Updates a.0 b.0 where_true))))) r b.2 in let d = bind_ok (refuse_some (first_repeat set_name [] sets) Exists) (λ once. all_pass (set_kind schema.tables a.0) b.0 >>= (λ held. kinds schema.tables (alone table a.0) c.0 >>= (λ right. Ok (Updates a.0 b.0 c.0)))) r c.2 in let e = bind_ok (all_pass (set_kind schema.tables a.0) b.0) (λ held. kinds schema.tables (alone table a.0) c.0 >>= (λ right. Ok (Updates a.0 b.0 c.0))) r d.2 in let f = bind_ok (kinds schema.tables (alone table a.0) c.0) (λ right. Ok (Updates a.0 b.0 c.0)) r e.2 in rw (← ok_is (Updates a.0 b.0 c.0) r f.2) (record {
  fits = record {
    there = number_there schema.tables table a.0 a.1;
    columns = collected_all (set_column schema.tables a.0) (λ (s : ℕ × Value). is_column (width schema.tables a.0) s.0) (set_there schema.tables a.0) [] sets b.0 refl b.1;
    over = over_there schema.tables a.0 c.0 (groups_there schema.tables (alone table a.0) only c.0 c.1);
  };
  whole = refl {a = 0};
})

good_part : (schema : Schema) (table : List ℕ) (only : List (List RawAtom)) (r : Resolved) → deleted schema table only ≡ Ok r → IsGood schema 0 r
good_part schema table only r h = let a = bind_ok (table_number schema.tables table) (λ number. groups schema.tables (alone table number) only >>= (λ where_true. kinds schema.tables (alone table number) where_true >>= (λ right. Ok (Deletes number where_true)))) r h in let b = bind_ok (groups schema.tables (alone table a.0) only) (λ where_true. kinds schema.tables (alone table a.0) where_true >>= (λ right. Ok (Deletes a.0 where_true))) r a.2 in let c = bind_ok (kinds schema.tables (alone table a.0) b.0) (λ right. Ok (Deletes a.0 b.0)) r b.2 in rw (← ok_is (Deletes a.0 b.0) r c.2) (record { fits = record { there = number_there schema.tables table a.0 a.1; over = over_there schema.tables a.0 b.0 (groups_there schema.tables (alone table a.0) only b.0 b.1) }; whole = refl })

item_there : (tables : List TableDef) (x : List ℕ × Option (List ℕ)) (y : Item) → item tables x ≡ Ok y → is_column (length tables) y.table ≡ true
item_there tables x y h = let s = bind_ok (table_number tables x.0) (λ (number : ℕ). Ok (record { name = second_or x.1 x.0; table = number })) y h in rw (← ok_is (record { name = second_or x.1 x.0; table = s.0 }) y s.2) (lt-ltb s.0 (length tables) (number_there tables x.0 s.0 s.1))

all_map : {X Y : Type 0} (p : Y → Bool) (f : X → Y) (xs : List X) → list_all (λ x. p (f x)) xs ≡ true → list_all p (map f xs) ≡ true
all_map p f [] h = refl
all_map p f (x ∷ xs) h = let l = first_so (p (f x)) (list_all (λ x. p (f x)) xs) h in let r = second_so (p (f x)) (list_all (λ x. p (f x)) xs) h in and_from (p (f x)) (list_all p (map f xs)) l (all_map p f xs r)

references_there : (tables : List TableDef) (reach : List Item) (raws : List RawCol) (found : List ColRef) → references tables reach raws ≡ Ok found → list_all (is_there tables (map item_table reach)) found ≡ true
references_there tables reach raws found h = collected_all (reference tables reach) (is_there tables (map item_table reach)) (reference_there tables reach) [] raws found refl h

returns_there : (tables : List TableDef) (reach : List Item) (raws : Option (List RawCol)) (found : List ColRef) → returns tables reach raws ≡ Ok found → list_all (is_there tables (map item_table reach)) found ≡ true
returns_there tables reach None found h = rw (← ok_is _ found h) (every_there tables reach)
returns_there tables reach (Some raws) found h = references_there tables reach raws found h

good_query : (schema : Schema) (returned : Option (List RawCol)) (items : List (List ℕ × Option (List ℕ))) (only : List (List RawAtom)) (order : List RawCol) (goal : RawGoal) (select : Select) → length items ≤ 4 → selected schema returned items only order goal ≡ Ok select → IsQueryOf schema select × (length select.tables ≡ length items)
good_query schema returned items only order goal select few h = let a = bind_ok (collected (item schema.tables) [] items) (λ reach. returns schema.tables reach returned >>= (λ shown. groups schema.tables reach only >>= (λ where_true. references schema.tables reach order >>= (λ sorted. refuse_some (first_repeat item_name [] reach) Exists >>= (λ once. kinds schema.tables reach where_true >>= (λ right. Ok (record { tables = map item_table reach; only = where_true; returns = shown; order = sorted; goal = goal_of goal }))))))) select h in let b = bind_ok (returns schema.tables a.0 returned) (λ shown. groups schema.tables a.0 only >>= (λ where_true. references schema.tables a.0 order >>= (λ sorted. refuse_some (first_repeat item_name [] a.0) Exists >>= (λ once. kinds schema.tables a.0 where_true >>= (λ right. Ok (record { tables = map item_table a.0; only = where_true; returns = shown; order = sorted; goal = goal_of goal })))))) select a.2 in let c = bind_ok (groups schema.tables a.0 only) (λ where_true. references schema.tables a.0 order >>= (λ sorted. refuse_some (first_repeat item_name [] a.0) Exists >>= (λ once. kinds schema.tables a.0 where_true >>= (λ right. Ok (record { tables = map item_table a.0; only = where_true; returns = b.0; order = sorted; goal = goal_of goal }))))) select b.2 in let d = bind_ok (references schema.tables a.0 order) (λ sorted. refuse_some (first_repeat item_name [] a.0) Exists >>= (λ once. kinds schema.tables a.0 c.0 >>= (λ right. Ok (record { tables = map item_table a.0; only = c.0; returns = b.0; order = sorted; goal = goal_of goal })))) select c.2 in let e = bind_ok (refuse_some (first_repeat item_name [] a.0) Exists) (λ once. kinds schema.tables a.0 c.0 >>= (λ right. Ok (record { tables = map item_table a.0; only = c.0; returns = b.0; order = d.0; goal = goal_of goal }))) select d.2 in let f = bind_ok (kinds schema.tables a.0 c.0) (λ right. Ok (record { tables = map item_table a.0; only = c.0; returns = b.0; order = d.0; goal = goal_of goal })) select e.2 in let found : Select = record { tables = map item_table a.0; only = c.0; returns = b.0; order = d.0; goal = goal_of goal } in let len : length (map item_table a.0) ≡ length items = let l = collected_len (item schema.tables) [] items a.0 a.1 in let m = length-map a.0 item_table in omega (arith, l, m) in rw (← ok_is found select f.2) (
  record {
    joined = omega (arith, len, few);
    there = all_map (is_column (length schema.tables)) item_table a.0 (collected_all (item schema.tables) (λ (i : Item). is_column (length schema.tables) i.table) (item_there schema.tables) [] items a.0 refl a.1);
    only = groups_there schema.tables a.0 only c.0 c.1;
    returns = returns_there schema.tables a.0 returned b.0 b.1;
    order = references_there schema.tables a.0 order d.0 d.1;
  },
  len,
)

good_open : (schema : Schema) (cursor : List ℕ) (returned : Option (List RawCol)) (items : List (List ℕ × Option (List ℕ))) (only : List (List RawAtom)) (order : List RawCol) (goal : RawGoal) (r : Resolved) → length items ≤ 4 → opened schema cursor returned items only order goal ≡ Ok r → IsGood schema (length items) r
good_open schema cursor returned items only order goal r few h = let s = bind_ok (selected schema returned items only order goal) (λ select. Ok (Opens cursor select)) r h in let q = good_query schema returned items only order goal s.0 few s.1 in rw (← ok_is (Opens cursor s.0) r s.2) (record { fits = q.0; whole = q.1 })

good_form : (schema : Schema) (s : Statement) (r : Resolved) → columns_count s ≤ 16 → key_count s ≤ 4 → joined_count s ≤ 4 → form schema s ≡ Ok r → IsGood schema (parts_of s) r
good_form schema (CreateTable name columns) r n k j h = good_table schema name columns r n h
good_form schema (CreateIndex unique name table columns) r n k j h = good_index schema unique name table columns r k h
good_form schema (Begin read_only) r n k j h = rw (← ok_is (Begins read_only) r h) (record { fits = tt; whole = refl })
good_form schema (Insert table values) r n k j h = good_row schema table values r h
good_form schema (Update table sets only) r n k j h = good_change schema table sets only r h
good_form schema (Delete table only) r n k j h = good_part schema table only r h
good_form schema Commit r n k j h = rw (← ok_is Commits r h) (record { fits = tt; whole = refl })
good_form schema Rollback r n k j h = rw (← ok_is Rolls r h) (record { fits = tt; whole = refl })
good_form schema (Open cursor returned items only order goal) r n k j h = good_open schema cursor returned items only order goal r j h
good_form schema (Fetch cursor) r n k j h = rw (← ok_is (Fetches cursor) r h) (record { fits = tt; whole = refl })
good_form schema (Show cursor) r n k j h = rw (← ok_is (Shows cursor) r h) (record { fits = tt; whole = refl })
good_form schema (Close cursor) r n k j h = rw (← ok_is (Closes cursor) r h) (record { fits = tt; whole = refl })
good_form schema (Step cursor n) r m k j h = rw (← ok_is (Steps cursor (steps_of n)) r h) (record { fits = tt; whole = refl })

-- The same of a result that may be a refusal or want of memory.
pub fits_if : (schema : Schema) (s : Statement) (result : Result Resolved BindFault) → columns_count s ≤ 16 → key_count s ≤ 4 → joined_count s ≤ 4 → Gives result (form schema s) → IfOk result (FitsSchema schema)
fits_if schema s (Ok r) n k j h = (good_form schema s r n k j h).fits
fits_if schema s (Err e) n k j h = tt

pub whole_if : (schema : Schema) (s : Statement) (result : Result Resolved BindFault) → columns_count s ≤ 16 → key_count s ≤ 4 → joined_count s ≤ 4 → Gives result (form schema s) → IfOk result (λ r. parts_in r ≡ parts_of s)
whole_if schema s (Ok r) n k j h = (good_form schema s r n k j h).whole
whole_if schema s (Err e) n k j h = tt
