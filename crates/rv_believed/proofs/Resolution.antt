-- Bridge: a statement asks what it asks by the working definition, or has the same first refusal.
use Rattle.std.proofs.Common.{◌≡◌, refl, sym, ap, subst, ◌∙◌, append_assoc}
use Rattle.std.proofs.Math.Seq.{get_or-append_seam}
use Rattle.std.specs.Prelude.{ℕ, ℤ, pos, negsuc, List, [], ◌∷◌, ◌++◌, ◌+◌, Bool, true, false, not, cond, ◌||◌, nat_lt, Option, Some, None, Result, Ok, Err, bytes_eq, is_some, length, map, filter}
use Rattle.std.specs.List.{list_any, slice_index_or, AllByRecursion}
use Rattle.std.specs.Option.{unwrap_or}
use Rattle.std.proofs.lemmas.List.{append-nil}
use Rattle.std.proofs.lemmas.List.Folds.{list_any-append}
use Rattle.rv_value.proofs.Tests.{right_false}
use Rattle.rv_value.proofs.Lists.{all_filter}
use Rattle.rv_value.specs.declared.value.Kind.{Kind}
use Rattle.rv_value.specs.declared.value.Kind.TheVariants.{Big, Chars}
use Rattle.rv_value.specs.declared.value.Value.{Value}
use Rattle.rv_value.specs.declared.value.Value.TheVariants.{Null, Int, Str}
use Rattle.rv_restrict.specs.declared.atom.Atom.{Atom}
use Rattle.rv_restrict.specs.declared.atom.ColRef.{ColRef}
use Rattle.rv_lang.specs.declared.statement.RawCol.{RawCol}
use Rattle.rv_lang.specs.declared.statement.RawKind.{RawKind}
use Rattle.rv_lang.specs.declared.statement.RawKind.TheVariants as raw_kinds
use Rattle.rv_lang.specs.declared.statement.RawGoal.{RawGoal}
use Rattle.rv_lang.specs.declared.statement.RawGoal.TheVariants as raw_goals
use Rattle.rv_lang.specs.declared.statement.RawAtom.{RawAtom}
use Rattle.rv_lang.specs.declared.statement.Statement.{Statement}
use Rattle.rv_lang.specs.declared.statement.Statement.TheVariants as statements
use Rattle.rv_lang.specs.declared.reply.Refusal.{Refusal}
use Rattle.rv_lang.specs.declared.reply.Refusal.TheVariants.{Exists, Limit, Kind as WrongKind}
use Rattle.rv_lang.specs.declared.reply.Which.TheVariants as which
use Rattle.rv_catalog.specs.declared.columns.Item.{Item}
use Rattle.rv_catalog.specs.declared.def.Resolved.TheVariants as asked
use Rattle.rv_catalog.specs.declared.def.Select.{Select}
use Rattle.rv_catalog.specs.declared.def.TableDef.{TableDef}
use Rattle.rv_catalog.specs.Answers.{◌>>=◌, all_pass, collected, refuse_if, refuse_some}
use Rattle.rv_catalog.specs.Columns as columns
use Rattle.rv_catalog.specs.Kinds as wrong
use Rattle.rv_catalog.specs.Kinds.{column_of, no_column}
use Rattle.rv_catalog.specs.Resolve as today
use Rattle.rv_catalog.specs.Schema.{Schema, columns_of, index_named, table_named}
use Rattle.rv_believed.specs.Answers.{Test, answers}
use Rattle.rv_believed.specs.Limits.{at_most, kind_fits, is_outside, names_fit, within_limits}
use Rattle.rv_believed.specs.Names.{InReach, reach_from, reach_of, reach_alone, fits, reference, references, plain_column, column_number, condition_of, is_of_kind, is_too_long, can_hold, row_kinds, set_kind, kinds, all_differ, table_number, number_of, column_def, goal_of, item_of, columns_returned, set_of, asked_in, resolution}
use Rattle.rv_believed.proofs.Chains.{in_a_row, same_after, collected_same}
use Rattle.rv_believed.proofs.LimitsSame.{limits_same}
use Rattle.rv_believed.proofs.NamesSame.{reference_same, all_columns_same, condition_same, own_same, at_of}
use Rattle.rv_believed.proofs.KindsSame.{one_longer, only_at, list_agrees, kinds_agree}

-- ---- names that stand twice

or_swap : (a b : Bool) → (b || (a || false)) ≡ (a || b)
or_swap true true = refl
or_swap true false = refl
or_swap false true = refl
or_swap false false = refl

differ_step : (b : Bool) (n : List ℕ) (t : Test) (o : Option (List ℕ)) → t ≡ refuse_some o Exists
    → (refuse_if b (Exists n) >>= (λ u. t)) ≡ refuse_some (cond b (Some n) o) Exists
differ_step true n t o same = refl
differ_step false n t o same = same

differ_from : {X : Type 0} (name_of : X → List ℕ) (seen : List X) (before : List (List ℕ))
    → ((n : List ℕ) → list_any (bytes_eq n) before ≡ today.stands_among name_of seen n)
    → (xs : List X) → all_differ before (map name_of xs) ≡ refuse_some (today.first_repeat name_of seen xs) Exists
differ_from name_of seen before same [] = refl
differ_from name_of seen before same (x ∷ xs) =
    let n : List ℕ = name_of x in
    ap (λ b. refuse_if b (Exists n) >>= (λ u. all_differ (n ∷ before) (map name_of xs))) (same n)
    ∙ differ_step (today.stands_among name_of seen n) n (all_differ (n ∷ before) (map name_of xs))
    (today.first_repeat name_of (seen ++ x ∷ []) xs)
    (differ_from name_of (seen ++ x ∷ []) (n ∷ before)
    (λ m. sym (list_any-append (λ y. bytes_eq m (name_of y)) seen (x ∷ [])
    ∙ or_swap (bytes_eq m n) (list_any (λ y. bytes_eq m (name_of y)) seen)
    ∙ ap (λ b. bytes_eq m n || b) (sym (same m)))) xs)

differ_same : {X : Type 0} (name_of : X → List ℕ) (xs : List X)
    → all_differ [] (map name_of xs) ≡ refuse_some (today.first_repeat name_of [] xs) Exists
differ_same name_of xs = differ_from name_of [] [] (λ n. refl) xs

map_itself : (xs : List (List ℕ)) → map today.itself xs ≡ xs
map_itself [] = refl
map_itself (x ∷ xs) = ap (λ l. x ∷ l) (map_itself xs)

-- ---- one table

alone_reach : (tables : List TableDef) (name : List ℕ) (number : ℕ)
    → reach_of tables 0 (today.alone name number) ≡ reach_alone tables name number
alone_reach tables name number = append-nil (reach_alone tables name number)

alone_condition : (tables : List TableDef) (name : List ℕ) (number : ℕ) (only : List (List RawAtom))
    → columns.groups tables (today.alone name number) only ≡ condition_of (reach_alone tables name number) only
alone_condition tables name number only = condition_same tables (today.alone name number) only
    ∙ ap (λ reach. condition_of reach only) (alone_reach tables name number)

alone_kinds : {B : Type 0} (tables : List TableDef) (name : List ℕ) (number : ℕ) (only : List (List RawAtom))
    (L : List (List Atom) → Test → Result B Refusal)
    → (condition_of (reach_alone tables name number) only >>= (λ w. L w (wrong.kinds tables (today.alone name number) w)))
    ≡ (condition_of (reach_alone tables name number) only >>= (λ w. L w (kinds (reach_alone tables name number) only)))
alone_kinds {B = B} tables name number only L = subst (λ (reach : List InReach).
    (condition_of reach only >>= (λ w. L w (wrong.kinds tables (today.alone name number) w)))
    ≡ (condition_of reach only >>= (λ w. L w (kinds reach only))))
    (alone_reach tables name number) (kinds_agree tables (today.alone name number) only L)

-- ---- kinds of the values of a row

hold_same : (k : Kind) (v : Value) → wrong.cannot_hold k v ≡ (not (is_of_kind k v) || is_too_long k v)
hold_same Big Null = refl
hold_same Big (Int n) = refl
hold_same Big (Str t) = refl
hold_same (Chars n) Null = refl
hold_same (Chars n) (Int m) = refl
hold_same (Chars n) (Str t) = refl

row_same : (item last : List ℕ) (place n : ℕ) (cs : List (List ℕ × Kind)) (vs : List Value)
    → wrong.row_kinds last cs vs ≡ row_kinds last (reach_from item place n cs) vs
row_same item last place n [] [] = refl
row_same item last place n [] (v ∷ vs) = refl
row_same item last place n (c ∷ cs) [] = refl
row_same item last place n (c ∷ cs) (v ∷ vs) =
    λ i. refuse_if (hold_same c.1 v i) (WrongKind c.0) >>= (λ u. row_same item c.0 place (n + 1) cs vs i)

-- a column of one table is at its number
abbrev IsOwn : List TableDef → ℕ → InReach → Type 0
IsOwn tables table c = column_of tables table c.at.column ≡ (c.name, c.kind)

own_at : (tables : List TableDef) (table : ℕ) (item : List ℕ) (rest front : List (List ℕ × Kind)) (n : ℕ)
    → columns_of tables table ≡ front ++ rest → length front ≡ n
    → AllByRecursion (IsOwn tables table) (reach_from item 0 n rest)
own_at tables table item [] front n q r = tt
own_at tables table item (c ∷ cs) front n q r = (
  (λ k. slice_index_or (q k) n no_column)
      ∙ (λ k. slice_index_or (front ++ c ∷ cs) (sym r k) no_column) ∙ get_or-append_seam front c cs no_column,
  own_at tables table item cs (front ++ c ∷ []) (n + 1) (q ∙ sym (append_assoc front (c ∷ []) cs)) (one_longer front c n r),
)

own_number : {B : Type 0} (reach : List InReach) (name : List ℕ) (f : ℕ → Result B Refusal)
    → (column_number reach name >>= f) ≡ (reference reach (plain_column name) >>= (λ c. f c.at.column))
own_number reach name f = in_a_row (reference reach (plain_column name)) (λ c. Ok c.at.column) f

set_agrees : {B : Type 0} (tables : List TableDef) (item : List ℕ) (table : ℕ) (s : List ℕ × Value)
    (L : ℕ × Value → Test → Result B Refusal)
    → (set_of (reach_alone tables item table) s >>= (λ y. L y (wrong.set_kind tables table y)))
    ≡ (set_of (reach_alone tables item table) s >>= (λ y. L y (set_kind (reach_alone tables item table) s)))
set_agrees tables item table s L =
    let reach : List InReach = reach_alone tables item table in
    in_a_row (column_number reach s.0) (λ n. Ok (n, s.1)) (λ y. L y (wrong.set_kind tables table y))
    ∙ own_number reach s.0 (λ n. L (n, s.1) (wrong.set_kind tables table (n, s.1)))
    ∙ only_at (IsOwn tables table) s.0 (filter (fits (plain_column s.0)) reach)
    (all_filter (IsOwn tables table) (fits (plain_column s.0)) reach (own_at tables table item (columns_of tables table) [] 0 refl refl))
    (λ c. L (c.at.column, s.1) (wrong.set_kind tables table (c.at.column, s.1)))
    (λ c. L (c.at.column, s.1) (set_kind reach s))
    (λ c p e. ap (L (c.at.column, s.1))
    ((λ k. refuse_if (wrong.cannot_hold (p k).1 s.1) (WrongKind (p k).0))
    ∙ ap (λ b. refuse_if b (WrongKind c.name)) (hold_same c.kind s.1)
    ∙ sym (ap (λ r. r >>= (λ d. can_hold d s.1)) e)))
    ∙ sym (own_number reach s.0 (λ n. L (n, s.1) (set_kind reach s)))
    ∙ sym (in_a_row (column_number reach s.0) (λ n. Ok (n, s.1)) (λ y. L y (set_kind reach s)))

-- ---- statements, but for the limits

set_same : (tables : List TableDef) (item : List ℕ) (table : ℕ) (s : List ℕ × Value)
    → today.set_column tables table s ≡ set_of (reach_alone tables item table) s
set_same tables item table s = ap (λ r. r >>= (λ column. Ok (column, s.1))) (own_same tables item table s.0)

index_same : (schema : Schema) (unique : Bool) (name table : List ℕ) (names : List (List ℕ))
    → today.new_index schema unique name table names ≡ asked_in schema.tables schema.indexes (statements.CreateIndex unique name table names)
index_same schema unique name table names = same_after (table_number schema.tables table)
    (λ number. collected (columns.own_column schema.tables number) [] names >>= (λ found.
    refuse_if (is_some (index_named schema.indexes name)) (Exists name) >>= (λ fresh.
    refuse_some (today.first_repeat today.itself [] names) Exists >>= (λ once.
    Ok (asked.CreateIndex (record { name = name; table = number; columns = found; unique = unique }))))))
    (λ number. answers (column_number (reach_alone schema.tables table number)) names >>= (λ found.
    refuse_if (is_some (index_named schema.indexes name)) (Exists name) >>= (λ fresh.
    all_differ [] names >>= (λ once.
    Ok (asked.CreateIndex (record { name = name; table = number; columns = found; unique = unique }))))))
    (λ number. λ k. collected_same (columns.own_column schema.tables number) (column_number (reach_alone schema.tables table number))
    (own_same schema.tables table number) names k >>= (λ found.
    refuse_if (is_some (index_named schema.indexes name)) (Exists name) >>= (λ fresh.
    (sym (differ_same today.itself names) ∙ ap (all_differ []) (map_itself names)) k >>= (λ once.
    Ok (asked.CreateIndex (record { name = name; table = number; columns = found; unique = unique }))))))

insert_same : (schema : Schema) (table : List ℕ) (vs : List Value)
    → today.inserted schema table vs ≡ asked_in schema.tables schema.indexes (statements.Insert table vs)
insert_same schema table vs = same_after (table_number schema.tables table)
    (λ number. wrong.row_kinds [] (columns_of schema.tables number) vs >>= (λ right. Ok (asked.Insert number vs)))
    (λ number. row_kinds [] (reach_alone schema.tables table number) vs >>= (λ right. Ok (asked.Insert number vs)))
    (λ number. ap (λ t. t >>= (λ right. Ok (asked.Insert number vs))) (row_same table [] 0 0 (columns_of schema.tables number) vs))

delete_same : (schema : Schema) (table : List ℕ) (only : List (List RawAtom))
    → today.deleted schema table only ≡ asked_in schema.tables schema.indexes (statements.Delete table only)
delete_same schema table only = same_after (table_number schema.tables table)
    (λ number. columns.groups schema.tables (today.alone table number) only >>= (λ w.
    wrong.kinds schema.tables (today.alone table number) w >>= (λ right. Ok (asked.Delete number w))))
    (λ number. condition_of (reach_alone schema.tables table number) only >>= (λ w.
    kinds (reach_alone schema.tables table number) only >>= (λ right. Ok (asked.Delete number w))))
    (λ number. ap (λ r. r >>= (λ w. wrong.kinds schema.tables (today.alone table number) w >>= (λ right. Ok (asked.Delete number w))))
    (alone_condition schema.tables table number only)
    ∙ alone_kinds schema.tables table number only (λ w t. t >>= (λ right. Ok (asked.Delete number w))))

abbrev set_name : List ℕ × Value → List ℕ
set_name s = s.0

update_same : (schema : Schema) (table : List ℕ) (sets : List (List ℕ × Value)) (only : List (List RawAtom))
    → today.updated schema table sets only ≡ asked_in schema.tables schema.indexes (statements.Update table sets only)
update_same schema table sets only = same_after (table_number schema.tables table)
    (λ number. collected (today.set_column schema.tables number) [] sets >>= (λ found.
    columns.groups schema.tables (today.alone table number) only >>= (λ w.
    refuse_some (today.first_repeat today.set_name [] sets) Exists >>= (λ once.
    all_pass (wrong.set_kind schema.tables number) found >>= (λ held.
    wrong.kinds schema.tables (today.alone table number) w >>= (λ right. Ok (asked.Update number found w)))))))
    (λ number. answers (set_of (reach_alone schema.tables table number)) sets >>= (λ found.
    condition_of (reach_alone schema.tables table number) only >>= (λ w.
    all_differ [] (map set_name sets) >>= (λ once.
    all_pass (set_kind (reach_alone schema.tables table number)) sets >>= (λ held.
    kinds (reach_alone schema.tables table number) only >>= (λ right. Ok (asked.Update number found w)))))))
    (λ number.
    let reach : List InReach = reach_alone schema.tables table number in
    (λ k. collected_same (today.set_column schema.tables number) (set_of reach) (set_same schema.tables table number) sets k >>= (λ found.
    alone_condition schema.tables table number only k >>= (λ w.
    sym (differ_same today.set_name sets) k >>= (λ once.
    all_pass (wrong.set_kind schema.tables number) found >>= (λ held.
    wrong.kinds schema.tables (today.alone table number) w >>= (λ right. Ok (asked.Update number found w)))))))
    ∙ list_agrees (set_of reach) (wrong.set_kind schema.tables number) (set_kind reach)
    (λ s. set_agrees schema.tables table number s) sets
    (λ found t. condition_of reach only >>= (λ w. all_differ [] (map set_name sets) >>= (λ once. t >>= (λ held.
    wrong.kinds schema.tables (today.alone table number) w >>= (λ right. Ok (asked.Update number found w))))))
    ∙ same_after (answers (set_of reach) sets)
    (λ found. condition_of reach only >>= (λ w. all_differ [] (map set_name sets) >>= (λ once.
    all_pass (set_kind reach) sets >>= (λ held.
    wrong.kinds schema.tables (today.alone table number) w >>= (λ right. Ok (asked.Update number found w))))))
    (λ found. condition_of reach only >>= (λ w. all_differ [] (map set_name sets) >>= (λ once.
    all_pass (set_kind reach) sets >>= (λ held. kinds reach only >>= (λ right. Ok (asked.Update number found w))))))
    (λ found. alone_kinds schema.tables table number only (λ w t. all_differ [] (map set_name sets) >>= (λ once.
    all_pass (set_kind reach) sets >>= (λ held. t >>= (λ right. Ok (asked.Update number found w)))))))

-- ---- OPEN

second_same : (o : Option (List ℕ)) (table : List ℕ) → today.second_or o table ≡ unwrap_or o table
second_same None table = refl
second_same (Some name) table = refl

item_same : (tables : List TableDef) (i : List ℕ × Option (List ℕ)) → today.item tables i ≡ item_of tables i
item_same tables i = λ k. table_number tables i.0 >>= (λ table. Ok (record { name = second_same i.1 i.0 k; table = table }))

at_one : (r : Result InReach Refusal) (s : Result (List ColRef) Refusal) (t : Result (List InReach) Refusal)
    → s ≡ (t >>= (λ found. Ok (map (λ (c : InReach). c.at) found)))
    → (at_of r >>= (λ y. s >>= (λ ys. Ok (y ∷ ys))))
    ≡ ((r >>= (λ y. t >>= (λ ys. Ok (y ∷ ys)))) >>= (λ found. Ok (map (λ (c : InReach). c.at) found)))
at_one (Err e) s t same = refl
at_one (Ok c) s (Err e) same = ap (λ r. r >>= (λ ys. Ok (c.at ∷ ys))) same
at_one (Ok c) s (Ok cs) same = ap (λ r. r >>= (λ ys. Ok (c.at ∷ ys))) same

at_answers : {X : Type 0} (f : X → Result InReach Refusal) (xs : List X)
    → answers (λ x. at_of (f x)) xs ≡ (answers f xs >>= (λ found. Ok (map (λ (c : InReach). c.at) found)))
at_answers f [] = refl
at_answers f (x ∷ xs) = at_one (f x) (answers (λ y. at_of (f y)) xs) (answers f xs) (at_answers f xs)

references_same : (tables : List TableDef) (items : List Item) (raws : List RawCol)
    → today.references tables items raws ≡ references (reach_of tables 0 items) raws
references_same tables items raws = collected_same (columns.reference tables items) (λ r. at_of (reference (reach_of tables 0 items) r))
    (reference_same tables items) raws
    ∙ at_answers (reference (reach_of tables 0 items)) raws

returns_same : (tables : List TableDef) (items : List Item) (returned : Option (List RawCol))
    → today.returns tables items returned ≡ columns_returned (reach_of tables 0 items) returned
returns_same tables items None = ap Ok (all_columns_same tables items 0)
returns_same tables items (Some raws) = references_same tables items raws

goal_same : (g : RawGoal) → today.goal_of g ≡ goal_of g
goal_same raw_goals.FastFirst = refl
goal_same raw_goals.TotalTime = refl

-- what is selected over items that are found
abbrev select_of : List Item → RawGoal → List ColRef → List (List Atom) → List ColRef → Select
select_of from goal shown w sorted = record { tables = map (λ (i : Item). i.table) from; only = w; returns = shown; order = sorted; goal = goal_of goal }

from_same : (schema : Schema) (cursor : List ℕ) (returned : Option (List RawCol)) (only : List (List RawAtom)) (order : List RawCol) (goal : RawGoal) (from : List Item)
    → (today.returns schema.tables from returned >>= (λ shown. columns.groups schema.tables from only >>= (λ w.
    today.references schema.tables from order >>= (λ sorted.
    refuse_some (today.first_repeat today.item_name [] from) Exists >>= (λ once.
    wrong.kinds schema.tables from w >>= (λ right.
    Ok (record { tables = map today.item_table from; only = w; returns = shown; order = sorted; goal = today.goal_of goal })))))))
    ≡ (columns_returned (reach_of schema.tables 0 from) returned >>= (λ shown. condition_of (reach_of schema.tables 0 from) only >>= (λ w.
    references (reach_of schema.tables 0 from) order >>= (λ sorted.
    all_differ [] (map (λ (i : Item). i.name) from) >>= (λ once.
    kinds (reach_of schema.tables 0 from) only >>= (λ right. Ok (select_of from goal shown w sorted)))))))
from_same schema cursor returned only order goal from =
    let reach : List InReach = reach_of schema.tables 0 from in
    (λ k. returns_same schema.tables from returned k >>= (λ shown. condition_same schema.tables from only k >>= (λ w.
    references_same schema.tables from order k >>= (λ sorted. sym (differ_same today.item_name from) k >>= (λ once.
    wrong.kinds schema.tables from w >>= (λ right.
    Ok (record { tables = map today.item_table from; only = w; returns = shown; order = sorted; goal = goal_same goal k })))))))
    ∙ same_after (columns_returned reach returned)
    (λ shown. condition_of reach only >>= (λ w. references reach order >>= (λ sorted.
    all_differ [] (map (λ (i : Item). i.name) from) >>= (λ once. wrong.kinds schema.tables from w >>= (λ right. Ok (select_of from goal shown w sorted))))))
    (λ shown. condition_of reach only >>= (λ w. references reach order >>= (λ sorted.
    all_differ [] (map (λ (i : Item). i.name) from) >>= (λ once. kinds reach only >>= (λ right. Ok (select_of from goal shown w sorted))))))
    (λ shown. kinds_agree schema.tables from only (λ w t. references reach order >>= (λ sorted.
    all_differ [] (map (λ (i : Item). i.name) from) >>= (λ once. t >>= (λ right. Ok (select_of from goal shown w sorted))))))

made_five : {C D E F G H K : Type 0} (c : Result C Refusal) (d : Result D Refusal) (e : Result E Refusal)
    (f : Result F Refusal) (g : Result G Refusal) (h : C → D → E → H) (k : H → K)
    → ((c >>= (λ shown. d >>= (λ w. e >>= (λ sorted. f >>= (λ once. g >>= (λ right. Ok (h shown w sorted))))))) >>= (λ select. Ok (k select)))
    ≡ (c >>= (λ shown. d >>= (λ w. e >>= (λ sorted. f >>= (λ once. g >>= (λ right. Ok (k (h shown w sorted))))))))
made_five (Err r) d e f g h k = refl
made_five (Ok a) (Err r) e f g h k = refl
made_five (Ok a) (Ok b) (Err r) f g h k = refl
made_five (Ok a) (Ok b) (Ok c) (Err r) g h k = refl
made_five (Ok a) (Ok b) (Ok c) (Ok d) (Err r) h k = refl
made_five (Ok a) (Ok b) (Ok c) (Ok d) (Ok e) h k = refl

-- a chain of six, and what is made of its answer
made : {A C D E F G H K : Type 0} (a : Result A Refusal) (c : A → Result C Refusal) (d : A → Result D Refusal) (e : A → Result E Refusal)
    (f : A → Result F Refusal) (g : A → Result G Refusal) (h : A → C → D → E → H) (k : H → K)
    → ((a >>= (λ x. c x >>= (λ shown. d x >>= (λ w. e x >>= (λ sorted. f x >>= (λ once. g x >>= (λ right. Ok (h x shown w sorted))))))))
    >>= (λ select. Ok (k select)))
    ≡ (a >>= (λ x. c x >>= (λ shown. d x >>= (λ w. e x >>= (λ sorted. f x >>= (λ once. g x >>= (λ right. Ok (k (h x shown w sorted)))))))))
made (Err r) c d e f g h k = refl
made (Ok x) c d e f g h k = made_five (c x) (d x) (e x) (f x) (g x) (h x) k

open_same : (schema : Schema) (cursor : List ℕ) (returned : Option (List RawCol)) (items : List (List ℕ × Option (List ℕ)))
    (only : List (List RawAtom)) (order : List RawCol) (goal : RawGoal)
    → today.opened schema cursor returned items only order goal
    ≡ asked_in schema.tables schema.indexes (statements.Open cursor returned items only order goal)
open_same schema cursor returned items only order goal =
    (λ j. (collected_same (today.item schema.tables) (item_of schema.tables) (item_same schema.tables) items j
    >>= (λ from. from_same schema cursor returned only order goal from j)) >>= (λ select. Ok (asked.Open cursor select)))
    ∙ made (answers (item_of schema.tables) items) (λ from. columns_returned (reach_of schema.tables 0 from) returned)
    (λ from. condition_of (reach_of schema.tables 0 from) only) (λ from. references (reach_of schema.tables 0 from) order)
    (λ from. all_differ [] (map (λ (i : Item). i.name) from)) (λ from. kinds (reach_of schema.tables 0 from) only)
    (λ from. select_of from goal) (λ select. asked.Open cursor select)

-- ---- CREATE TABLE, whose widths the limits bound

then_is : {A : Type 0} (t : Test) (f : Result A Refusal) (a : A) → (t >>= (λ u. f)) ≡ Ok a → (t ≡ Ok tt) × (f ≡ Ok a)
then_is (Ok u) f a e = (refl, e)
then_is (Err r) f a e = absurd (cc e)

not_refused : (b : Bool) (r : Refusal) → refuse_if b r ≡ Ok tt → b ≡ false
not_refused true r e = absurd (cc e)
not_refused false r e = refl

column_fits : (c : List ℕ × RawKind) → kind_fits c ≡ Ok tt → today.column_def c ≡ column_def c
column_fits (name, raw_kinds.Big) e = refl
column_fits (name, raw_kinds.Chars (pos n)) e =
    ap (λ b. (name, Chars (cond b 255 n))) (right_false (nat_lt n 1) (nat_lt 255 n) (not_refused (is_outside 1 255 (pos n)) (Limit which.Text 255) e))
column_fits (name, raw_kinds.Chars (negsuc n)) e = refl

columns_fit : (cs : List (List ℕ × RawKind)) → all_pass kind_fits cs ≡ Ok tt → map today.column_def cs ≡ map column_def cs
columns_fit [] e = refl
columns_fit (c ∷ cs) e = let parts = then_is (kind_fits c) (all_pass kind_fits cs) tt e in
    λ i. column_fits c parts.0 i ∷ columns_fit cs parts.1 i

abbrev def_name : List ℕ × RawKind → List ℕ
def_name c = c.0

table_same : (schema : Schema) (name : List ℕ) (cs : List (List ℕ × RawKind)) → all_pass kind_fits cs ≡ Ok tt
    → today.new_table schema name cs ≡ asked_in schema.tables schema.indexes (statements.CreateTable name cs)
table_same schema name cs e = λ k. refuse_if (is_some (table_named schema.tables name)) (Exists name) >>= (λ fresh.
    sym (differ_same today.column_name cs) k >>= (λ once. Ok (asked.CreateTable (record { name = name; columns = columns_fit cs e k }))))

after_test : {A : Type 0} (t : Test) (f g : Result A Refusal) → (t ≡ Ok tt → f ≡ g) → (t >>= (λ u. f)) ≡ (t >>= (λ u. g))
after_test (Ok u) f g same = same refl
after_test (Err r) f g same = refl

steps_same : (n : ℤ) → today.steps_of n ≡ number_of n
steps_same (pos n) = refl
steps_same (negsuc n) = refl

form_same : (schema : Schema) (s : Statement) → within_limits s ≡ Ok tt → today.form schema s ≡ asked_in schema.tables schema.indexes s
form_same schema (statements.CreateTable name cs) e =
    let rest = (then_is (names_fit (name ∷ map (λ (c : List ℕ × RawKind). c.0) cs)) (all_pass kind_fits cs >>= (λ u. at_most 16 which.Columns cs)) tt e).1 in
    table_same schema name cs (then_is (all_pass kind_fits cs) (at_most 16 which.Columns cs) tt rest).0
form_same schema (statements.CreateIndex unique name table names) e = index_same schema unique name table names
form_same schema (statements.Begin read_only) e = refl
form_same schema (statements.Insert table vs) e = insert_same schema table vs
form_same schema (statements.Update table sets only) e = update_same schema table sets only
form_same schema (statements.Delete table only) e = delete_same schema table only
form_same schema statements.Commit e = refl
form_same schema statements.Rollback e = refl
form_same schema (statements.Open cursor returned items only order goal) e = open_same schema cursor returned items only order goal
form_same schema (statements.Fetch cursor) e = refl
form_same schema (statements.Show cursor) e = refl
form_same schema (statements.Close cursor) e = refl
form_same schema (statements.Step cursor n) e = ap (λ m. Ok (asked.Step cursor m)) (steps_same n)

-- THE BRIDGE
pub resolution_same : (schema : Schema) (s : Statement) → resolution schema.tables schema.indexes s ≡ today.resolved schema s
resolution_same schema s = sym (after_test (within_limits s) (today.form schema s) (asked_in schema.tables schema.indexes s) (form_same schema s))
    ∙ ap (λ t. t >>= (λ u. today.form schema s)) (limits_same s)
