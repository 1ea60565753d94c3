-- What a retrieval of an item is asked can be asked of the reader, and its restriction can be bound.
use Rattle.std.proofs.Common.{◌≡◌, ℕ, ◌+◌, ◌*◌, ◌<◌, ◌≤◌, List, [], ◌∷◌, ◌++◌, length, Bool, true, false, not, ◌||◌, ◌==◌, nat_lt, refl, ap, sym, ◌∙◌, arith, subst, slice_index_or, Result, Ok, Err, IfOk, mul-le-mul_right}
use Rattle.std.specs.List.{AllByRecursion, list_all, list_any}
use Rattle.std.proofs.lemmas.Bool.Decides.{nat_tests}
use Rattle.std.proofs.lemmas.Grind.{common_steps}
use Rattle.std.proofs.lemmas.List.{get_or_append_left}
use Rattle.std.proofs.lemmas.Bool.{and_from, or_right, lt-ltb}
use Rattle.std.specs.Cmp.{first_so, second_so}
use Rattle.std.proofs.lemmas.List.Elements.{filter_agree}
use Rattle.rv_value.specs.declared.value.Value.{Value}
use Rattle.rv_value.specs.declared.record.Record.{Record}
use Rattle.rv_restrict.specs.declared.atom.Atom.{Atom}
use Rattle.rv_restrict.specs.declared.atom.ColRef.{ColRef}
use Rattle.rv_restrict.specs.Bind.{can_bind, outer_fits, passes_at, rows_has, taken}
use Rattle.rv_restrict.specs.Branches.{widths}
use Rattle.rv_restrict.specs.Parts.{stands_among}
use Rattle.rv_restrict.specs.Truth.{names_only, row_has}
use Rattle.rv_restrict.proofs.Widths.{bound_widths}
use Rattle.rv_reader.specs.Shown.{Shown}
use Rattle.rv_scan.specs.Told.{width}
use Rattle.rv_choice.specs.declared.query.Query.{Query}
use Rattle.rv_choice.specs.Asked.{CanAsk, IsIndexOf}
use Rattle.rv_judge.specs.declared.counting.Counts.{Counts}
use Rattle.rv_judge.specs.Account.{life_bound}
use Rattle.rv_scan.proofs.Telling.{below_width}
use Rattle.rv_retrieval.specs.Effort.{cuts_and_entries, life_of as retrieval_life}
use Rattle.rv_final.specs.Rest.{qualifying}
use Rattle.rv_access.specs.declared.access.Access.{Access}
use Rattle.rv_access.specs.Accesses.{effort}
use Rattle.rv_access.proofs.Lives.{lives_most}
use Rattle.rv_access.specs.Opened.{Begins, life_of, lives}
use Rattle.rv_join.specs.declared.places.Asked.{Asked}
use Rattle.rv_join.specs.Asking.{AreWide, Asks, CanRun, IsIndexAt, OpensItem, asked_uses, col_at, have_column, item_at, item_life, lives_of, only_names, rows_at, same_column}
use Rattle.rv_join.specs.Levels.{widened}
use Rattle.rv_join.proofs.Naming.{only_named, taken_named}

used_named : (a : Asked) (c : ColRef) → only_names c a.only ≡ true → asked_uses a c ≡ true
used_named a c n = or_right (list_any (same_column c) a.returns) _ (or_right (list_any (same_column c) a.order) _ n)

-- a test that each column used of a place passes
passes_used : (a : Asked) (place : ℕ) (p : ℕ → Bool) → ((c : ℕ) → asked_uses a (col_at place c) ≡ true → p c ≡ true) → names_only (passes_at place p) (taken place a.only) ≡ true
passes_used a place p h = taken_named (passes_at place p) place a.only (only_named (passes_at place p) a.only (λ c n. by_place c (used_named a c n)))
  where
    at_place : (q : ℕ) → (q == place) ≡ true → q ≡ place
    at_place q e = grind (arith, nat_tests)

    by_place : (c : ColRef) → asked_uses a c ≡ true → (not (c.place == place) || p c.column) ≡ true
    by_place c u = elim (c.place == place) as (λ b. (c.place == place) ≡ b → (not b || p c.column) ≡ true) [
      | true ↦ λ e. h c.column (subst (λ q. asked_uses a (col_at q c.column) ≡ true) (at_place c.place e) u)
      | false ↦ λ e. refl
    ] refl

-- the outer rows have every column that the groups taken name of their places
pub can_be_bound : (a : Asked) (outer : List (List Value)) → AreWide a outer → can_bind (length outer) outer a.only ≡ true
can_be_bound a outer wide = taken_named (outer_fits (length outer) outer) (length outer) a.only (only_named (outer_fits (length outer) outer) a.only (λ c n. by_place c (used_named a c n)))
  where
    below : (q : ℕ) → nat_lt q (length outer) ≡ true → q < length outer
    below q e = grind (arith, nat_tests, e)

    by_place : (c : ColRef) → asked_uses a c ≡ true → (not (nat_lt c.place (length outer)) || rows_has outer c) ≡ true
    by_place c u = elim (nat_lt c.place (length outer)) as (λ b. nat_lt c.place (length outer) ≡ b → (not b || rows_has outer c) ≡ true) [
      | true ↦ λ e. wide c (below c.place e) u
      | false ↦ λ e. refl
    ] refl

have_columns : (a : Asked) (outer : List (List Value)) (query : Query) (need : List ℕ) (rows : List Record) → Asks a outer query → ((c : ℕ) → asked_uses a (col_at (length outer) c) ≡ true → stands_among need c ≡ true) → ((c : ℕ) → stands_among need c ≡ true → have_column c rows ≡ true) → list_all (λ (r : Record). names_only (row_has r.values) query.only) rows ≡ true
have_columns a outer query need [] asks covers have = refl
have_columns a outer query need (r ∷ rows) asks covers have = and_from (names_only (row_has r.values) query.only) (list_all (λ (r : Record). names_only (row_has r.values) query.only) rows)
    (asks.names (λ n. nat_lt n (length r.values)) (passes_used a (length outer) (λ n. nat_lt n (length r.values)) (λ c u. first_so (nat_lt c (length r.values)) (have_column c rows) (have c (covers c u)))))
    (have_columns a outer query need rows asks covers (λ c s. second_so (nat_lt c (length r.values)) (have_column c rows) (have c s)))

pub indexes_of : (query : Query) (shown : Shown) (is : List (ℕ × List ℕ)) → AllByRecursion (λ (i : ℕ × List ℕ). IsIndexAt shown query.table query.snap i.0 i.1) is → AllByRecursion (λ (i : ℕ × List ℕ). IsIndexOf query shown i.0 i.1) is
indexes_of query shown [] all = all
indexes_of query shown (i ∷ is) all = let here = all.0 in (record { can = here.can; some = here.some; few = here.few; different = here.different; entries = here.entries; cuts = here.cuts }, indexes_of query shown is all.1)

-- the query can be asked
pub can_ask : (a : Asked) (shown : Shown) (outer : List (List Value)) (query : Query) → CanRun a shown → length outer < length a.items → Asks a outer query → CanAsk query shown
can_ask a shown outer query can inside asks =
    let here = can.each (length outer) inside in
    let item = asks.item in
    record {
      ascend = rw (item.table, item.snap) here.ascend;
      read = rw (item.table, item.snap) here.read;
      columns = rw (item.table, item.snap) (have_columns a outer query (item_at a (length outer)).need (rows_at a shown (length outer)) asks here.need here.columns);
      few = rw item.over here.few;
      different = rw item.over here.different;
      indexes = subst (AllByRecursion (λ (i : ℕ × List ℕ). IsIndexOf query shown i.0 i.1)) (sym item.over) (indexes_of query shown (item_at a (length outer)).indexes (rw (item.table, item.snap) here.indexes));
      named = asks.names (stands_among query.need) (passes_used a (length outer) (stands_among query.need) (λ c u. rw item.need (here.need c u)));
      ordered = rw (item.order, item.over) here.ordered;
      needs = rw (item.order, item.need) here.within;
    }

-- the life of an access to an item, in the words of what is asked
opens_life : (a : Asked) (shown : Shown) (outer : List (List Value)) (query : Query) (v : Access) (effort : ℕ) → Asks a outer query → effort ≤ life_of v query shown → effort ≤ item_life (lives_of a.only) shown a.snap (item_at a (length outer))
opens_life a shown outer query v effort asks most =
    let few = subst (λ (x : List (List Atom)). widths x ≤ widths a.only) (sym asks.only) (bound_widths (length outer) outer a.only) in
    let product = mul-le-mul_right (retrieval_life query shown) (more (lives v query.only) (widths query.only) (widths a.only) (lives_most v query.only) few) in
    let same : retrieval_life query shown ≡ life_bound (shown.pages (item_at a (length outer)).table a.snap) (cuts_and_entries (item_at a (length outer)).indexes shown a.snap) = ap (λ t. life_bound (shown.pages t query.snap) (cuts_and_entries query.indexes shown query.snap)) asks.item.table ∙ ap (λ n. life_bound (shown.pages (item_at a (length outer)).table n) (cuts_and_entries query.indexes shown n)) asks.item.snap ∙ ap (λ l. life_bound (shown.pages (item_at a (length outer)).table a.snap) (cuts_and_entries l shown a.snap)) asks.item.over in
    subst (λ (n : ℕ). effort ≤ lives_of a.only * n) same (within effort (life_of v query shown) (lives_of a.only * retrieval_life query shown) most product)
  where
    more : (k n m : ℕ) → k ≤ n + 1 → n ≤ m → k ≤ m + 1
    more k n m h i = omega (arith, h, i)

    within : (a b c : ℕ) → a ≤ b → b ≤ c → a ≤ c
    within a b c h i = omega (arith, h, i)

-- what was opened for it has the rows of which the groups of the place are True
pub opens_if : {E : Type 0} (r : Result Access E) (a : Asked) (shown : Shown) (outer : List (List Value)) (query : Query) (c d : Counts) → Asks a outer query → IfOk r (Begins query shown c d) → IfOk r (OpensItem a shown outer)
opens_if (Err e) a shown outer query c d asks begins = tt
opens_if (Ok v) a shown outer query c d asks begins = record {
  fits = begins.fits;
  awaiting = begins.awaiting;
  tells = begins.tells;
  life = opens_life a shown outer query v (effort v shown) asks begins.most;
  asks = subst (Asks a outer) (sym begins.asked) asks;
  rest_is = begins.owes ∙ ap (qualifying query.only) (ap (λ t. shown.rows t query.snap) asks.item.table ∙ ap (λ n. shown.rows (item_at a (length outer)).table n) asks.item.snap) ∙ filter_agree _ _ (λ (x : Record). asks.binds x.values) (rows_at a shown (length outer));
}

-- A row that was widened to the columns needed has them.

widened_long : (n : ℕ) (row : List Value) → n ≤ length (widened n row)
widened_long n row = grind (arith, common_steps)

pub last_row : {A : Type 0} (xs : List A) (x d : A) → slice_index_or (xs ++ x ∷ []) (length xs) d ≡ x
last_row [] x d = refl
last_row (y ∷ xs) x d = last_row xs x d

pub wide_more : (a : Asked) (shown : Shown) (outer : List (List Value)) (row : List Value) → CanRun a shown → length outer < length a.items → AreWide a outer → AreWide a (outer ++ widened (width (item_at a (length outer)).need) row ∷ [])
wide_more a shown outer row can inside wide c le u = elim (nat_lt c.place (length outer)) as (λ b. nat_lt c.place (length outer) ≡ b → rows_has (outer ++ last ∷ []) c ≡ true) [
  | true ↦ λ e. front (below c.place e)
  | false ↦ λ e. behind (there c.place e (rw long at le))
] refl
  where
    last : List Value
    last = widened (width (item_at a (length outer)).need) row

    long : length (outer ++ last ∷ []) ≡ length outer + 1
    long = grind (arith, common_steps)

    below : (q : ℕ) → nat_lt q (length outer) ≡ true → q < length outer
    below q e = grind (arith, nat_tests, e)

    there : (q : ℕ) → nat_lt q (length outer) ≡ false → q < length outer + 1 → q ≡ length outer
    there q e h = grind (arith, nat_tests, e, h)

    front : c.place < length outer → rows_has (outer ++ last ∷ []) c ≡ true
    front h = and_from (nat_lt c.place (length (outer ++ last ∷ []))) (nat_lt c.column (length (slice_index_or (outer ++ last ∷ []) c.place []))) (lt-ltb _ _ le) (let same = get_or_append_left outer (last ∷ []) [] c.place h in rw same (second_so (nat_lt c.place (length outer)) (nat_lt c.column (length (slice_index_or outer c.place []))) (wide c h u)))

    behind : c.place ≡ length outer → rows_has (outer ++ last ∷ []) c ≡ true
    behind e = and_from (nat_lt c.place (length (outer ++ last ∷ []))) (nat_lt c.column (length (slice_index_or (outer ++ last ∷ []) c.place []))) (lt-ltb _ _ le) (rw (e, last_row outer last []) (lt-ltb c.column (length last) (reached (widened_long (width (item_at a (length outer)).need) row) (below_width (item_at a (length outer)).need c.column ((can.each (length outer) inside).need c.column (subst (λ q. asked_uses a (col_at q c.column) ≡ true) e u))))))
      where
        reached : {q n m : ℕ} → n ≤ m → q < n → q < m
        reached h i = omega (arith, h, i)
