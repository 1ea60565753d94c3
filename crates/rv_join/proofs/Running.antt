-- What a plan is opened over is what it can run on; and its loops give the offers of the select.
use Rattle.std.proofs.Common.{◌≡◌, ◌⊎◌, ℕ, ◌+◌, ◌<◌, ◌≤◌, List, [], ◌∷◌, ◌++◌, length, map, max, Bool, true, false, cond, not, ◌&&◌, ◌||◌, ◌==◌, nat_eq, nat_le, nat_lt, refl, ap, sym, ◌∙◌, arith, subst, slice_index_or, suc, inl, inr, if◌then◌else◌}
use Rattle.std.specs.List.{AllByRecursion, IsDistinct, list_all, list_any}
use Rattle.std.proofs.lemmas.Bool.Decides.{nat_tests}
use Rattle.std.proofs.lemmas.List.{get_or_append_left}
use Rattle.std.specs.Cmp.{first_so, second_so}
use Rattle.std.proofs.lemmas.Bool.{and_from, or_left, or_right}
use Rattle.rv_rows.specs.Rows.{Ascend}
use Rattle.rv_restrict.specs.declared.atom.ColRef.{ColRef}
use Rattle.rv_restrict.specs.declared.atom.Atom.{Atom}
use Rattle.rv_restrict.specs.Bind.{atom_place, group_place}
use Rattle.rv_restrict.specs.Parts.{stands_among}
use Rattle.rv_catalog.specs.declared.def.Select.{Select}
use Rattle.rv_catalog.specs.declared.def.IndexDef.{IndexDef}
use Rattle.rv_reader.specs.Shown.{CanRead, Shown}
use Rattle.rv_choice.specs.Asked.{begins_any}
use Rattle.rv_join.specs.declared.places.Asked.{Asked}
use Rattle.rv_join.specs.declared.places.Item.{Item}
use Rattle.rv_restrict.specs.declared.atom.Operand.TheVariants.{Literal, Column}
use Rattle.rv_restrict.specs.declared.atom.Atom.TheVariants.{Compare, Between, Among, IsNull, Starts, Const}
use Rattle.rv_join.specs.declared.gather.Stage.TheVariants.{AsFound, Gathering}
use Rattle.rv_join.specs.Asking.{CanPlan, CanRun, CanRunItem, IsAsked, IsIndexAt, IsItem, asked_uses, atom_names, by_index, col_at, columns_of, group_names, have_column, index_at, indexes_from, is_first, item_at, no_item, only_names, order_at, rows_at, same_column, select_uses, table_at}
use Rattle.rv_join.specs.Levels.{table_rows, tables_of, under}
use Rattle.rv_model.specs.Offering.{offers_over}
use Rattle.rv_join.specs.Order.{IsByFirst}
use Rattle.rv_join.specs.Plans.{stage_of}
use Rattle.rv_join.proofs.Binding.{last_row}
use Rattle.rv_join.proofs.Naming.{same_itself}
use Rattle.rv_join.proofs.Product.{are_placed, loops_are}

-- an index of a later number is another
apart : (table n k : ℕ) (ds : List IndexDef) → k < n → AllByRecursion (λ (y : ℕ). nat_eq k y ≡ false) (map (λ (i : ℕ × List ℕ). i.0) (indexes_from table n ds))
apart table n k [] le = tt
apart table n k (d ∷ ds) le =
    let tail = apart table (n + 1) k ds (omega (arith, le)) in
    elim (nat_eq d.table table) as (λ b. AllByRecursion (λ (y : ℕ). nat_eq k y ≡ false) (map (λ (i : ℕ × List ℕ). i.0) (cond b ((n, d.columns) ∷ indexes_from table (n + 1) ds) (indexes_from table (n + 1) ds)))) [
      | true ↦ (differs n le, tail)
      | false ↦ tail
    ]
  where
    differs : (n : ℕ) → k < n → nat_eq k n ≡ false
    differs n h = grind (arith, nat_tests, h)

numbers_differ : (table n : ℕ) (ds : List IndexDef) → IsDistinct nat_eq (map (λ (i : ℕ × List ℕ). i.0) (indexes_from table n ds))
unfolding IsDistinct
numbers_differ table n [] = tt
numbers_differ table n (d ∷ ds) =
    let tail = numbers_differ table (n + 1) ds in
    let others = apart table (n + 1) n ds (omega arith) in
    elim (nat_eq d.table table) as (λ b. IsDistinct nat_eq (map (λ (i : ℕ × List ℕ). i.0) (cond b ((n, d.columns) ∷ indexes_from table (n + 1) ds) (indexes_from table (n + 1) ds)))) [
      | true ↦ (others, tail)
      | false ↦ tail
    ]

each_index : (shown : Shown) (snap table n : ℕ) (ds : List IndexDef) → ((i : ℕ) → i < length ds → IsIndexAt shown (index_at ds i).table snap (n + i) (index_at ds i).columns) → AllByRecursion (λ (i : ℕ × List ℕ). IsIndexAt shown table snap i.0 i.1) (indexes_from table n ds)
each_index shown snap table n [] each = tt
each_index shown snap table n (d ∷ ds) each =
    let tail = each_index shown snap table (n + 1) ds (λ i le. let next : n + suc i ≡ n + 1 + i = omega arith in subst (λ k. IsIndexAt shown (index_at ds i).table snap k (index_at ds i).columns) next (each (suc i) (omega (arith, le)))) in
    let none : n + 0 ≡ n = omega arith in
    let here : IsIndexAt shown d.table snap n d.columns = subst (λ k. IsIndexAt shown d.table snap k d.columns) none (each 0 (omega arith)) in
    elim (nat_eq d.table table) as (λ b. nat_eq d.table table ≡ b → AllByRecursion (λ (i : ℕ × List ℕ). IsIndexAt shown table snap i.0 i.1) (cond b ((n, d.columns) ∷ indexes_from table (n + 1) ds) (indexes_from table (n + 1) ds))) [
      | true ↦ λ e. (subst (λ t. IsIndexAt shown t snap n d.columns) (same d.table e) here, tail)
      | false ↦ λ e. tail
    ] refl
  where
    same : (t : ℕ) → nat_eq t table ≡ true → t ≡ table
    same t e = grind (arith, nat_tests, e)

-- the order columns asked of the first item are needed of it
stands_order : (cs : List ColRef) (c : ℕ) → list_all is_first cs ≡ true → stands_among (columns_of cs) c ≡ true → list_any (same_column (col_at 0 c)) cs ≡ true
stands_order [] c all s = s
stands_order (d ∷ cs) c all s = elim (d.column == c) as (λ b. (d.column == c) ≡ b → (b || stands_among (columns_of cs) c) ≡ true → list_any (same_column (col_at 0 c)) (d ∷ cs) ≡ true) [
  | true ↦ λ e g. or_left (same_column (col_at 0 c) d) (list_any (same_column (col_at 0 c)) cs) (here d.place d.column (first_so (nat_eq d.place 0) (list_all is_first cs) all) e)
  | false ↦ λ e g. or_right (same_column (col_at 0 c) d) (list_any (same_column (col_at 0 c)) cs) (stands_order cs c (second_so (nat_eq d.place 0) (list_all is_first cs) all) g)
] refl s
  where
    here : (p n : ℕ) → nat_eq p 0 ≡ true → (n == c) ≡ true → (nat_eq 0 p && nat_eq c n) ≡ true
    here p n e f = grind (arith, nat_tests, e, f)

within : (s : Select) (indexes : List IndexDef) (p c : ℕ) → stands_among (order_at s indexes p) c ≡ true → select_uses s (col_at p c) ≡ true
within s indexes p c h = elim (nat_eq p 0 && by_index s indexes) as (λ b. (nat_eq p 0 && by_index s indexes) ≡ b → stands_among (cond b (columns_of s.order) []) c ≡ true → select_uses s (col_at p c) ≡ true) [
  | true ↦ λ e g. subst (λ q. select_uses s (col_at q c) ≡ true) (zero_is p (first_so (nat_eq p 0) (by_index s indexes) e)) (or_right (list_any (same_column (col_at 0 c)) s.returns) _ (or_left (list_any (same_column (col_at 0 c)) s.order) _ (stands_order s.order c (first_so (list_all is_first s.order) _ (second_so (nat_eq p 0) (by_index s indexes) e)) g)))
  | false ↦ λ e g. absurd (cc)
] refl h
  where
    zero_is : (p : ℕ) → nat_eq p 0 ≡ true → 0 ≡ p
    zero_is p e = grind (arith, nat_tests, e)

-- no order, or an index begins with it
order_led : (s : Select) (indexes : List IndexDef) (p : ℕ) → (order_at s indexes p ≡ []) ⊎ (begins_any (indexes_from (table_at s p) 0 indexes) (order_at s indexes p) ≡ true)
order_led s indexes p = elim (nat_eq p 0 && by_index s indexes) as (λ b. (nat_eq p 0 && by_index s indexes) ≡ b → (cond b (columns_of s.order) [] ≡ []) ⊎ (begins_any (indexes_from (table_at s p) 0 indexes) (cond b (columns_of s.order) []) ≡ true)) [
  | true ↦ λ e. inr (subst (λ q. begins_any (indexes_from (table_at s q) 0 indexes) (columns_of s.order) ≡ true) (zero_is p (first_so (nat_eq p 0) (by_index s indexes) e)) (second_so (list_all is_first s.order) _ (second_so (nat_eq p 0) (by_index s indexes) e)))
  | false ↦ λ e. inl refl
] refl
  where
    zero_is : (p : ℕ) → nat_eq p 0 ≡ true → 0 ≡ p
    zero_is p e = grind (arith, nat_tests, e)

same_uses : (s : Select) (indexes : List IndexDef) (snap cursor : ℕ) (a : Asked) (c : ColRef) → IsAsked s indexes snap cursor a → asked_uses a c ≡ select_uses s c
same_uses s indexes snap cursor a c asked = rw (asked.only, asked.returns, asked.order) refl

runs_item : (s : Select) (indexes : List IndexDef) (shown : Shown) (snap cursor : ℕ) (a : Asked) (p : ℕ) → CanPlan s indexes shown snap → IsAsked s indexes snap cursor a → p < length s.tables → CanRunItem a shown p
runs_item s indexes shown snap cursor a p can asked inside =
    let item = asked.items p inside in
    let rows = rows_are item.table in
    record {
      ascend = subst Ascend (sym rows) (can.ascend p inside);
      read = subst (λ t. CanRead shown t a.snap) (sym item.table) (subst (CanRead shown (table_at s p)) (sym asked.snap) (can.read p inside));
      columns = λ c n. ap (have_column c) rows ∙ can.columns (col_at p c) (sym (item.need c) ∙ n);
      few = rw item.over (can.few p inside);
      different = rw item.over (numbers_differ (table_at s p) 0 indexes);
      indexes = subst (AllByRecursion (λ (i : ℕ × List ℕ). IsIndexAt shown (item_at a p).table a.snap i.0 i.1)) (sym item.over) (subst (λ t. AllByRecursion (λ (i : ℕ × List ℕ). IsIndexAt shown t a.snap i.0 i.1) (indexes_from (table_at s p) 0 indexes)) (sym item.table) (subst (λ n. AllByRecursion (λ (i : ℕ × List ℕ). IsIndexAt shown (table_at s p) n i.0 i.1) (indexes_from (table_at s p) 0 indexes)) (sym asked.snap) (each_index shown snap (table_at s p) 0 indexes (λ i le. let none : 0 + i ≡ i = omega arith in subst (λ k. IsIndexAt shown (index_at indexes i).table snap k (index_at indexes i).columns) (sym none) (can.each i le)))));
      need = λ c u. item.need c ∙ sym (same_uses s indexes snap cursor a (col_at p c) asked) ∙ u;
      ordered = rw (item.order, item.over) (order_led s indexes p);
      within = λ c n. item.need c ∙ within s indexes p c (rw item.order at n);
    }
  where
    rows_are : (item_at a p).table ≡ table_at s p → rows_at a shown p ≡ shown.rows (table_at s p) snap
    rows_are e = ap (λ t. shown.rows t a.snap) e ∙ ap (λ n. shown.rows (table_at s p) n) asked.snap

pub can_run : (s : Select) (indexes : List IndexDef) (shown : Shown) (snap cursor : ℕ) (a : Asked) → CanPlan s indexes shown snap → IsAsked s indexes snap cursor a → CanRun a shown
can_run s indexes shown snap cursor a can asked = record {
  some = rw asked.count can.some;
  joined = rw asked.count can.joined;
  places = λ c u. rw asked.count (can.places c (sym (same_uses s indexes snap cursor a c asked) ∙ u));
  each = λ p le. runs_item s indexes shown snap cursor a p can asked (rw asked.count at le);
}

-- one more item
pub items_more : (s : Select) (indexes : List IndexDef) (items : List Item) (n : ℕ) (i : Item) → length items ≡ n → ((p : ℕ) → p < n → IsItem s indexes p (slice_index_or items p no_item)) → IsItem s indexes n i → (p : ℕ) → p < n + 1 → IsItem s indexes p (slice_index_or (items ++ i ∷ []) p no_item)
items_more s indexes items n i long each here p le = elim (nat_lt p n) as (λ b. nat_lt p n ≡ b → IsItem s indexes p (slice_index_or (items ++ i ∷ []) p no_item)) [
  | true ↦ λ e. let h = below e in subst (IsItem s indexes p) (sym (get_or_append_left items (i ∷ []) no_item p (omega (arith, h, long)))) (each p h)
  | false ↦ λ e. let at = there e in subst (λ q. IsItem s indexes q (slice_index_or (items ++ i ∷ []) q no_item)) (long ∙ sym at) (subst (IsItem s indexes (length items)) (sym (last_row items i no_item)) (subst (λ q. IsItem s indexes q i) (sym long) here))
] refl
  where
    below : nat_lt p n ≡ true → p < n
    below e = grind (arith, nat_tests, e)

    there : nat_lt p n ≡ false → p ≡ n
    there e = grind (arith, nat_tests, e, le)

-- the tables of the items are those of the select
tables_same : (tables : List ℕ) (items : List Item) → length items ≡ length tables → ((p : ℕ) → p < length tables → (slice_index_or items p no_item).table ≡ slice_index_or tables p 0) → map (λ (i : Item). i.table) items ≡ tables
tables_same [] [] long each = refl
tables_same [] (i ∷ items) long each = absurd (omega (arith, long))
tables_same (t ∷ tables) [] long each = absurd (omega (arith, long))
tables_same (t ∷ tables) (i ∷ items) long each = rw (each 0 (omega arith), tables_same tables items (omega (arith, long)) (λ p le. each (suc p) (omega (arith, le)))) refl

-- each group's place is below the number of items
placed : (n : ℕ) (only : List (List Atom)) → ((c : ColRef) → only_names c only ≡ true → c.place < n) → 1 ≤ n → are_placed n only ≡ true
placed n [] h some = refl
placed n (g ∷ only) h some = and_from (not (nat_le n (group_place g))) (are_placed n only) (test (group_place g) (group_placed g (λ c m. h c (or_left (group_names c g) (only_names c only) m)))) (placed n only (λ c m. h c (or_right (group_names c g) (only_names c only) m)) some)
  where
    test : (p : ℕ) → p < n → not (nat_le n p) ≡ true
    test p le = grind (arith, nat_tests, le)

    higher : (p q : ℕ) → p < n → q < n → max p q < n
    higher p q h i = grind (arith, h, i)

    atom_placed : (a : Atom) → ((c : ColRef) → atom_names c a ≡ true → c.place < n) → atom_place a < n
    atom_placed (Compare c op (Literal v)) h = higher c.place 0 (h c (or_left (same_column c c) false (same_itself c))) (omega (arith, some))
    atom_placed (Compare c op (Column d)) h = higher c.place d.place (h c (or_left (same_column c c) (same_column c d) (same_itself c))) (h d (or_right (same_column d c) (same_column d d) (same_itself d)))
    atom_placed (Between c low high) h = h c (same_itself c)
    atom_placed (Among c list) h = h c (same_itself c)
    atom_placed (IsNull c negated) h = h c (same_itself c)
    atom_placed (Starts c text) h = h c (same_itself c)
    atom_placed (Const t) h = omega (arith, some)

    group_placed : (g : List Atom) → ((c : ColRef) → group_names c g ≡ true → c.place < n) → group_place g < n
    group_placed [] h = omega (arith, some)
    group_placed (a ∷ g) h = higher (atom_place a) (group_place g) (atom_placed a (λ c m. h c (or_left (atom_names c a) (group_names c g) m))) (group_placed g (λ c m. h c (or_right (atom_names c a) (group_names c g) m)))

-- THE OPENING: what is under no rows are the offers of the select
pub offers_are : (s : Select) (indexes : List IndexDef) (shown : Shown) (snap cursor : ℕ) (a : Asked) → CanPlan s indexes shown snap → IsAsked s indexes snap cursor a → under a shown (tables_of a) [] ≡ offers_over s (table_rows shown snap)
offers_are s indexes shown snap cursor a can asked = let tables = tables_same s.tables a.items asked.count (λ p le. (asked.items p le).table) in rw tables (loops_are a shown s.tables (rw asked.only (placed (length s.tables) s.only (λ c n. can.places c (or_right (list_any (same_column c) s.returns) _ (or_right (list_any (same_column c) s.order) _ n))) can.some)) ∙ rw (asked.only, asked.returns, asked.order, asked.snap) refl)

columns_back : (cs : List ColRef) → list_all is_first cs ≡ true → cs ≡ map (col_at 0) (columns_of cs)
columns_back [] all = refl
columns_back (c ∷ cs) all = rw (← columns_back cs (second_so (is_first c) (list_all is_first cs) all)) (ap (λ (d : ColRef). d ∷ cs) (back c (first_so (is_first c) (list_all is_first cs) all)))
  where
    zero_is : (p : ℕ) → nat_eq p 0 ≡ true → p ≡ 0
    zero_is p e = grind (arith, nat_tests, e)

    back : (c : ColRef) → is_first c ≡ true → c ≡ col_at 0 c.column
    back c e = ap (λ (p : ℕ). col_at p c.column) (zero_is c.place e)

none_ordered : (cs : List ColRef) → (length cs == 0) ≡ true → cs ≡ []
none_ordered [] h = refl
none_ordered (c ∷ cs) h = absurd (grind (arith, nat_tests, h))

no_stage : {X : Type 0} → Gathering ≡ AsFound → X
no_stage h = absurd (cc)

-- where offers are given as they are found, the order is that of the first item's rows
pub by_first : (s : Select) (indexes : List IndexDef) (snap cursor : ℕ) (a : Asked) → 1 ≤ length s.tables → IsAsked s indexes snap cursor a → stage_of s indexes ≡ AsFound → IsByFirst a
by_first s indexes snap cursor a some asked stage = record { columns = asked.order ∙ ordered (by_index s indexes) refl stage ∙ ap (map (col_at 0)) (sym (asked.items 0 (omega (arith, some))).order) }
  where
    ordered : (b : Bool) → by_index s indexes ≡ b → (if (length s.order == 0) || b then AsFound else Gathering) ≡ AsFound → s.order ≡ map (col_at 0) (order_at s indexes 0)
    ordered true e h = rw e (columns_back s.order (first_so (list_all is_first s.order) _ e))
    ordered false e h = elim (length s.order == 0) as (λ b. (length s.order == 0) ≡ b → (if b || false then AsFound else Gathering) ≡ AsFound → s.order ≡ map (col_at 0) (order_at s indexes 0)) [
      | true ↦ λ f g. rw (e, none_ordered s.order f) refl
      | false ↦ λ f g. no_stage g
    ] refl h
