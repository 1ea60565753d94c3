-- A search over what the session's transaction sees: it can be asked, and finds the rows that UPDATE and DELETE change.
use Rattle.std.proofs.Common.{◌≡◌, ◌⊎◌, ℕ, zero, suc, ◌+◌, ◌<◌, ◌≤◌, List, [], ◌∷◌, Bool, true, false, ◌&&◌, Option, Some, None, Result, Ok, Err, IfOk, IfSome, refl, ap, sym, ◌∙◌, subst, inl, inr, arith, length, nat_lt, nat_eq, if◌then◌else◌, cond}
use Rattle.std.specs.List.{AllByRecursion, list_all}
use Rattle.std.proofs.lemmas.Bool.{cases_Bool, and_from, ltb-true}
use Rattle.std.proofs.lemmas.Bool.Decides.{nat_tests}
use Rattle.std.specs.Cmp.{first_so, second_so}
use Rattle.rv_value.specs.declared.record.Record.{Record}
use Rattle.rv_rows.specs.declared.changes.Change.{Change}
use Rattle.rv_rows.specs.Changes.{rows_with_changes}
use Rattle.rv_restrict.specs.declared.atom.Atom.{Atom}
use Rattle.rv_restrict.specs.Bind.{passes_home}
use Rattle.rv_restrict.specs.Parts.{stands_among}
use Rattle.rv_restrict.specs.Truth.{is_home, names_only, row_has}
use Rattle.rv_restrict.proofs.Names.{names_weaker}
use Rattle.rv_catalog.specs.declared.def.Goal.TheVariants.{TotalTime}
use Rattle.rv_catalog.specs.declared.def.IndexDef.{IndexDef}
use Rattle.rv_catalog.specs.declared.def.Select.{Select}
use Rattle.rv_catalog.specs.Fits.{IsQueryOf, is_column, is_over_table}
use Rattle.rv_catalog.specs.Schema.{Schema}
use Rattle.rv_reader.specs.Shown.{Shown, CanRead}
use Rattle.rv_reader.specs.Storing.{IsStored}
use Rattle.rv_model.specs.declared.transactions.Transaction.{Transaction}
use Rattle.rv_model.specs.declared.transactions.Transactions.{Transactions}
use Rattle.rv_model.specs.Transactions.{met, transaction_at, transaction_of}
use Rattle.rv_overlay.specs.declared.frozen.Frozen.{Frozen}
use Rattle.rv_own.specs.Views.{Freezes}
use Rattle.rv_txn.specs.Calls.{writing}
use Rattle.rv_txn.specs.Changing.{CanChange}
use Rattle.rv_txn.proofs.Halving.{writing_is}
use Rattle.rv_choice.specs.declared.query.Goal2.TheVariants.{TotalTime as Late}
use Rattle.rv_choice.specs.Asked.{CanAsk}
use Rattle.rv_final.specs.Rest.{qualifying}
use Rattle.rv_search.specs.Named.{columns_named}
use Rattle.rv_retrieval.specs.Short.{has_short}
use Rattle.rv_search.specs.Searching.{Ran, RanFetched, any_narrows, search_of}
use Rattle.rv_judge.specs.declared.counting.Counts.{Counts}
use Rattle.rv_judge.specs.Counting.{no_counts}
use Rattle.rv_lang.specs.declared.reply.Refusal.{Refusal}
use Rattle.rv_lang.specs.declared.reply.Reply.{Reply}
use Rattle.rv_lang.specs.declared.reply.Reply.TheVariants.{Refused, Touched}
use Rattle.rv_judge.specs.declared.judging.Facts.{Facts}
use Rattle.rv_judge.specs.Verdicts.{Ruling}
use Rattle.rv_search.proofs.Columns.{named_home, none_needed}
use Rattle.rv_join.specs.declared.places.Asked.{Asked}
use Rattle.rv_join.specs.Asking.{CanPlan, CanRun, CanRunItem, IsAsked, IsItem, by_index, have_column, indexes_from, item_at}
use Rattle.rv_join.proofs.Running.{can_run}
use Rattle.rv_join.proofs.Binding.{indexes_of}
use Rattle.rv_join.proofs.Naming.{have_wide}
use Rattle.rv_cursor.specs.Left.{seen_at}
use Rattle.rv_core.specs.Db.{IsTied, IsViewed}
use Rattle.rv_core.specs.Obeying.{CanSearch, FindsRows, HasSearched, IsLong, MayAsk}
use Rattle.rv_core.proofs.Plans.{plans}
use Rattle.rv_core.proofs.Putting.{frozen_viewed}
use Rattle.rv_core.proofs.Standing.{can_change}
use Rattle.rv_core.proofs.Viewing.{have_viewed, own_have, seen_view}

-- THE SESSION'S TRANSACTION, which may write.

pub can_met : (shown : Shown) (schema : Schema) (txns : Transactions) (session table : ℕ) (only : List (List Atom)) (own : Transaction) → IsTied shown schema txns → table < length schema.tables → is_over_table schema.tables table only ≡ true → writing txns.active session ≡ Ok own → CanChange shown own table only
can_met shown schema txns session table only own tied there over writes =
    let w = writing_is txns session own writes in
    let here : CanChange shown (transaction_at txns.active w.0) table only = subst (λ (o : Option ℕ). IfSome o (λ n. CanChange shown (transaction_at txns.active n) table only)) w.1 (can_change shown schema txns session table only tied there over) in
    subst (λ (t : Transaction). CanChange shown t table only) w.2 here

pub search_viewed : (shown : Shown) (schema : Schema) (txns : Transactions) (session : ℕ) (own : Transaction) (frozen : Option Frozen) → IsTied shown schema txns → writing txns.active session ≡ Ok own
    → IfSome (transaction_of txns.active session) (λ n. Freezes shown (transaction_at txns.active n) frozen) → IfSome frozen (IsViewed shown txns.touched own.base)
search_viewed shown schema txns session own frozen tied writes freezes =
    let w = writing_is txns session own writes in
    frozen_viewed shown schema txns session own.base w.0 frozen tied w.1 (ap (λ (t : Transaction). t.base) w.2) freezes

pub search_freezes : (shown : Shown) (txns : Transactions) (session : ℕ) (own : Transaction) (frozen : Option Frozen) → writing txns.active session ≡ Ok own
    → IfSome (transaction_of txns.active session) (λ n. Freezes shown (transaction_at txns.active n) frozen) → Freezes shown own frozen
search_freezes shown txns session own frozen writes freezes =
    let w = writing_is txns session own writes in
    subst (λ (t : Transaction). Freezes shown t frozen) w.2 (subst (λ (o : Option ℕ). IfSome o (λ n. Freezes shown (transaction_at txns.active n) frozen)) w.1 freezes)

-- what a search finds over what was frozen is what the transaction meets
pub view_met : (shown : Shown) (t : Transaction) (frozen : Option Frozen) (table : ℕ) (only : List (List Atom)) → CanRead shown table t.base → Freezes shown t frozen → qualifying only ((seen_at shown t.base frozen).rows table t.base) ≡ met t table only (shown.rows table)
view_met shown t None table only can none =
    ap (qualifying only) (seen_view shown t.base table None can tt)
    ∙ ap (λ (cs : List Change). qualifying only (rows_with_changes table cs (shown.rows table t.base))) (sym none)
view_met shown t (Some f) table only can is =
    ap (qualifying only) (seen_view shown t.base table (Some f) can is.base)
    ∙ ap (λ (cs : List Change). qualifying only (rows_with_changes table cs (shown.rows table t.base))) is.changes

-- THE SEARCH CAN BE ASKED. What is known of a plan over the whole table is known of its indexes.

abbrev whole : ℕ → Select
whole table = record { tables = table ∷ []; only = []; returns = []; order = []; goal = TotalTime }

abbrev whole_asked : ℕ → ℕ → List IndexDef → Asked
whole_asked table snap indexes = record { items = record { table = table; indexes = indexes_from table 0 indexes; need = []; order = [] } ∷ []; only = []; returns = []; order = []; goal = Late; snap = snap; cursor = 0; race = false }

either_way : (b : Bool) (xs : List ℕ) → xs ≡ (if b then xs else xs)
either_way true xs = refl
either_way false xs = refl

whole_item : (table snap : ℕ) (indexes : List IndexDef) (p : ℕ) → p < 1 → IsItem (whole table) indexes p (item_at (whole_asked table snap indexes) p)
whole_item table snap indexes zero h = record { table = refl; over = refl; need = λ c. refl; order = either_way (nat_eq 0 0 && by_index (whole table) indexes) [] }
whole_item table snap indexes (suc p) h = absurd (omega (arith, h))

whole_is : (table snap : ℕ) (indexes : List IndexDef) → IsAsked (whole table) indexes snap 0 (whole_asked table snap indexes)
whole_is table snap indexes = record {
  count = refl;
  items = λ p h. whole_item table snap indexes p h;
  only = refl;
  returns = refl;
  order = refl;
  goal = refl;
  snap = refl;
  cursor = refl;
}

whole_query : (schema : Schema) (table : ℕ) → table < length schema.tables → IsQueryOf schema (whole table)
whole_query schema table there =
    let low : nat_lt table (length schema.tables) ≡ true = grind (arith, nat_tests, there) in
    record { joined = omega arith; there = and_from (nat_lt table (length schema.tables)) true low refl; only = refl; returns = refl; order = refl }

-- each row has the columns that a restriction over the table names
have_all : (columns : ℕ) (only : List (List Atom)) (rows : List Record) → names_only (passes_home (is_column columns)) only ≡ true → ((c : ℕ) → is_column columns c ≡ true → have_column c rows ≡ true) → list_all (λ (r : Record). names_only (row_has r.values) only) rows ≡ true
have_all columns only [] named have = refl
have_all columns only (r ∷ rows) named have =
    and_from (names_only (row_has r.values) only) (list_all (λ (x : Record). names_only (row_has x.values) only) rows)
    (names_weaker (passes_home (is_column columns)) (row_has r.values) (λ c h.
    and_from (is_home c) (nat_lt c.column (length r.values)) (first_so (is_home c) (is_column columns c.column) h)
    (first_so (nat_lt c.column (length r.values)) (have_column c.column rows) (have c.column (second_so (is_home c) (is_column columns c.column) h)))) only named)
    (have_all columns only rows named (λ c low. second_so (nat_lt c (length r.values)) (have_column c rows) (have c low)))

seen_have : (shown : Shown) (touched : List (List ℕ)) (table snap c : ℕ) (frozen : Option Frozen) → IsStored shown → CanRead shown table snap → c < shown.columns table → IfSome frozen (IsViewed shown touched snap) → have_column c ((seen_at shown snap frozen).rows table snap) ≡ true
seen_have shown touched table snap c None stored read low viewed =
    subst (λ (rows : List Record). have_column c rows ≡ true) (sym (seen_view shown snap table None read tt))
    (have_wide c (shown.columns table) (shown.rows table snap) (stored.wide table snap read) low)
seen_have shown touched table snap c (Some f) stored read low viewed =
    subst (λ (rows : List Record). have_column c rows ≡ true) (sym (seen_view shown snap table (Some f) read viewed.base))
    (have_viewed table c f.changes (shown.rows table snap) (own_have shown touched table c f.changes low viewed.changes)
    (have_wide c (shown.columns table) (shown.rows table snap) (stored.wide table snap read) low))

pub can_search : (shown : Shown) (schema : Schema) (txns : Transactions) (table snap : ℕ) (only : List (List Atom)) (frozen : Option Frozen) → IsTied shown schema txns → IsStored shown → CanRead shown table snap → table < length schema.tables → is_over_table schema.tables table only ≡ true → length schema.indexes ≤ 512
    → IfSome frozen (IsViewed shown txns.touched snap) → CanAsk (search_of table snap only (indexes_from table 0 schema.indexes)) (seen_at shown snap frozen)
can_search shown schema txns table snap only frozen tied stored read there over few viewed =
    let seen = seen_at shown snap frozen in
    let indexes = indexes_from table 0 schema.indexes in
    let asked = whole_asked table snap schema.indexes in
    let can : CanPlan (whole table) schema.indexes seen snap = plans shown schema txns (whole table) snap frozen schema.indexes tied stored read.snapshot (whole_query schema table there) (omega arith) refl few (stored.ascend table snap read, tt) viewed in
    let run : CanRun asked seen = can_run (whole table) schema.indexes seen snap 0 asked can (whole_is table snap schema.indexes) in
    let item : CanRunItem asked seen 0 = run.each 0 (omega arith) in
    let named : names_only (passes_home (is_column (shown.columns table))) only ≡ true = rw (tied.columns table there) over in
    record {
      ascend = item.ascend;
      read = item.read;
      columns = have_all (shown.columns table) only (seen.rows table snap) named (λ c low. seen_have shown txns.touched table snap c frozen stored read (ltb-true c (shown.columns table) low) viewed);
      few = item.few;
      different = item.different;
      indexes = indexes_of (search_of table snap only indexes) seen indexes item.indexes;
      named = named_home (is_column (shown.columns table)) only named;
      ordered = inl refl;
      needs = λ c h. none_needed c (stands_among (columns_named only) c) h;
    }

-- each index has at most four columns
pub few_columns : (table number : ℕ) (ds : List IndexDef) → AllByRecursion (λ (d : IndexDef). (1 ≤ length d.columns) × (length d.columns ≤ 4)) ds → AllByRecursion (λ (i : ℕ × List ℕ). length i.1 ≤ 4) (indexes_from table number ds)
few_columns table number [] all = tt
few_columns table number (d ∷ ds) all =
    let more = few_columns table (number + 1) ds all.1 in
    elim (nat_eq d.table table) as (λ b. AllByRecursion (λ (i : ℕ × List ℕ). length i.1 ≤ 4) (cond b ((number, d.columns) ∷ indexes_from table (number + 1) ds) (indexes_from table (number + 1) ds))) [
      | true ↦ (all.0.1, more)
      | false ↦ more
    ]

-- WHERE A SEARCH ASKS THE JUDGE.

-- over what was frozen no index has a short range, or nobody was asked
pub asks_long : (would : ℕ → Facts → Ruling) (shown : Shown) (own : Transaction) (table : ℕ) (only : List (List Atom)) (indexes : List (ℕ × List ℕ)) (view : Option Frozen) (before after : ℕ) → Freezes shown own view
    → (after ≡ before) ⊎ Ran would before after (seen_at shown own.base view) (search_of table own.base only indexes)
    → (has_short (search_of table own.base only indexes) (seen_at shown own.base view) ≡ true → after ≡ before) → (after ≡ before) ⊎ IsLong would before after shown own table only indexes
asks_long would shown own table only indexes view before after frozen (inl same) unasked = inl same
asks_long would shown own table only indexes view before after frozen (inr ran) unasked = elim (cases_Bool (has_short (search_of table own.base only indexes) (seen_at shown own.base view))) [
  | inl short ↦ inl (unasked short)
  | inr none ↦ inr (record { view = view; frozen = frozen; ran = ran; none_short = none })
]

-- HOW THE ROWS OF AN UPDATE OR DELETE ARE FOUND.

-- where an index narrows they were searched for
pub finds_searched : (would : ℕ → Facts → Ruling) (before after : ℕ) (shown : Shown) (indexes : List IndexDef) (active : List Transaction) (session table : ℕ) (only : List (List Atom)) (own : Transaction) (asked : List (ℕ × List ℕ)) → writing active session ≡ Ok own
    → asked ≡ indexes_from table 0 indexes → HasSearched would before after shown own table only asked → FindsRows would before after shown indexes active session table only
finds_searched would before after shown indexes active session table only own asked writes is searched other also narrows =
    let same : own ≡ other = cc in
    subst (λ (o : Transaction). HasSearched would before after shown o table only (indexes_from table 0 indexes)) same (subst (HasSearched would before after shown own table only) is searched)

-- what a search finds over a view of the transaction are the rows that it meets
pub search_met : (shown : Shown) (own : Transaction) (view : Option Frozen) (table : ℕ) (only : List (List Atom)) (indexes : List (ℕ × List ℕ)) → CanChange shown own table only → CanSearch shown own view table only indexes → qualifying only ((seen_at shown own.base view).rows table own.base) ≡ met own table only (shown.rows table)
search_met shown own view table only indexes change search = view_met shown own view table only change.rows search.frozen

-- the judge was asked where an index narrows, or not at all
pub may_ask : (would : ℕ → Facts → Ruling) (before after : ℕ) (shown : Shown) (indexes : List IndexDef) (active : List Transaction) (session table : ℕ) (only : List (List Atom)) (own : Transaction) (asked : List (ℕ × List ℕ)) (narrows : Bool) → writing active session ≡ Ok own
    → asked ≡ indexes_from table 0 indexes → narrows ≡ any_narrows only asked → (narrows ≡ false → after ≡ before)
    → (after ≡ before) ⊎ IsLong would before after shown own table only asked → (after ≡ before) ⊎ MayAsk would before after shown indexes active session table only
may_ask would before after shown indexes active session table only own asked false writes is told quiet asks = inl (quiet refl)
may_ask would before after shown indexes active session table only own asked true writes is told quiet (inl same) = inl same
may_ask would before after shown indexes active session table only own asked true writes is told quiet (inr long) = inr (record {
  own = own;
  writes = writes;
  narrows = ap (any_narrows only) (sym is) ∙ sym told;
  long = subst (IsLong would before after shown own table only) is long;
})

-- where none narrows nothing is said
pub finds_none : (would : ℕ → Facts → Ruling) (before after : ℕ) (shown : Shown) (indexes : List IndexDef) (active : List Transaction) (session table : ℕ) (only : List (List Atom)) → any_narrows only (indexes_from table 0 indexes) ≡ false → FindsRows would before after shown indexes active session table only
finds_none would before after shown indexes active session table only none other also narrows = absurd (cc)

-- the search of rows that was opened over what was frozen
pub has_searched : (would : ℕ → Facts → Ruling) (before after : ℕ) (shown : Shown) (own : Transaction) (table : ℕ) (only : List (List Atom)) (indexes : List (ℕ × List ℕ)) (view : Option Frozen) (found : ℕ) (begun counts : Counts) → begun ≡ no_counts → Freezes shown own view
    → RanFetched found would before after (seen_at shown own.base view) begun counts (search_of table own.base only indexes) → HasSearched would before after shown own table only indexes
has_searched would before after shown own table only indexes view found begun counts none frozen ran = record { view = view; frozen = frozen; found = found; counts = counts; ran = subst (λ (c : Counts). RanFetched found would before after (seen_at shown own.base view) c counts (search_of table own.base only indexes)) none ran }

-- whichever way they were found
pub finds_by : {A E : Type 0} (result : Result A E) (count : A → ℕ) (would : ℕ → Facts → Ruling) (before after : ℕ) (shown : Shown) (indexes : List IndexDef) (active : List Transaction) (session table : ℕ) (only : List (List Atom)) (own : Transaction) (asked : List (ℕ × List ℕ)) (view : Option Frozen) (begun counts : Counts) (narrows : Bool)
    → writing active session ≡ Ok own → asked ≡ indexes_from table 0 indexes → narrows ≡ any_narrows only asked → begun ≡ no_counts → (narrows ≡ true → Freezes shown own view)
    → (narrows ≡ true → IfOk result (λ found. RanFetched (count found) would before after (seen_at shown own.base view) begun counts (search_of table own.base only asked)))
    → IfOk result (λ found. FindsRows would before after shown indexes active session table only)
finds_by (Ok found) count would before after shown indexes active session table only own asked view begun counts true writes is told none frozen ran =
    finds_searched would before after shown indexes active session table only own asked writes is (has_searched would before after shown own table only asked view (count found) begun counts none (frozen refl) (ran refl))
finds_by (Ok found) count would before after shown indexes active session table only own asked view begun counts false writes is told none frozen ran =
    finds_none would before after shown indexes active session table only (ap (any_narrows only) (sym is) ∙ sym told)
finds_by (Err e) count would before after shown indexes active session table only own asked view begun counts narrows writes is told none frozen ran = tt

-- a refusal touches nothing
pub touches_none : {P : Type 0} (refusal : Refusal) (replies : Reply × Reply) → replies.0 ≡ Refused refusal → (count : ℕ) → replies.0 ≡ Touched count → P
touches_none refusal replies refused count touched = absurd (cc)
