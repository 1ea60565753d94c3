-- What always holds of a store shows what a store promises, and is kept by its calls.
use Rattle.std.proofs.Common.{◌≡◌, ℕ, ◌+◌, ◌<◌, ◌≤◌, List, [], ◌∷◌, ◌++◌, Bool, true, false, not, ◌==◌, cond, refl, ap, sym, ◌∙◌, inl, inr, arith, subst, length, filter, Option, Some, None, IfSome, length-append}
use Rattle.std.proofs.lemmas.Bool.{cases_Bool, cases_eq, cases_lt}
use Rattle.std.proofs.lemmas.Bool.Decides.{nat_tests}
use Rattle.std.proofs.lemmas.Grind.{common_steps}
use Rattle.std.specs.List.{AllByRecursion}
use Rattle.rv_index.proofs.Rooting.{nodes_above, sound_more}
use Rattle.rv_reader.proofs.Rows.{applied_ascends}
use Rattle.rv_value.specs.declared.value.Value.{Value}
use Rattle.rv_value.specs.declared.record.Record.{Record}
use Rattle.rv_rows.specs.declared.changes.Change.{Change}
use Rattle.rv_rows.specs.Changes.{rows_with_changes}
use Rattle.rv_rows.specs.Rows.{Ascend, comes_below, with_values}
use Rattle.rv_reader.specs.Entries as rows_entries
use Rattle.rv_reader.specs.Storing as storing
use Rattle.rv_reader.specs.Storing.{AreWide, IsStored, Stays, Committed, Swept, CanCommit, IsChange, pages_after}
use Rattle.rv_versions.proofs.Values.{chains_more}
use Rattle.rv_records.specs.Pages.{IsBelow, IsSame, rows_at, pages_at}
use Rattle.rv_records.proofs.Keeping.{below_more, same_above}
use Rattle.rv_node.specs.Nodes.{Parts}
use Rattle.rv_node.specs.Trees.{entries_all, cuts_all}
use Rattle.rv_index.specs.Index.{Nodes, empty_tree, nodes_at, whole_at, tree_of, entries_of, IsIndexTree}
use Rattle.rv_index.proofs.Facts.{few_cuts, index_is, short_leaves}
use Rattle.rv_index.specs.Estimates.{estimate}
use Rattle.rv_store.specs.declared.tables.Table.{Table}
use Rattle.rv_store.specs.declared.indexes.Index.{Index}
use Rattle.rv_store.specs.Tables.{no_table, table_at, rows_in, pages_in, AreOpen, AreSameBelow, CanPut}
use Rattle.rv_store.specs.Indexes.{index_at, tree_in, IsOpen, IsNewIndex, AreSameIndexes}
use Rattle.rv_store.specs.Indexing.{tree_over, tree_through, IsIndexed}
use Rattle.rv_store.specs.Whole.{AreThrough, AreBack}
use Rattle.rv_store.specs.Places.{Turns, AreSameFrom, AreIndexesFrom}
use Rattle.rv_store.specs.Paged.{Kept, IsKept, IsIndexOf, AreTreesThrough, shown_of}

-- Trees of the same nodes.

pub indexed_same : (columns : List ℕ) (rows others : List Record) (before after : ℕ) (old new : Nodes) → nodes_at new after ≡ nodes_at old before → length old ≤ length new → others ≡ rows → IsIndexed columns rows before old → IsIndexed columns others after new
indexed_same columns rows others before after old new same longer e indexed = record {
  sound = subst (λ (at : ℕ → Parts). IsIndexTree (length new) at) (sym same) (sound_more (length old) (length new) (nodes_at old before) longer indexed.sound);
  entries = ap (λ (at : ℕ → Parts). entries_all (whole_at at)) same ∙ indexed.entries ∙ ap (λ rs. rows_entries.entries_of columns rs) (sym e);
  cuts = subst (λ (at : ℕ → Parts). storing.AreKeys (length columns) (cuts_all (whole_at at))) (sym same) indexed.cuts;
}

-- What a store promises.

pub stored_is : (k : Kept) → IsKept k → IsStored (shown_of k)
stored_is k kept = record {
  standing = kept.standing;
  ascend = λ table snap can. kept.tables.ascend table snap can.snapshot.kept can.snapshot.known;
  wide = λ table snap can. kept.tables.wide table snap can.snapshot.kept can.snapshot.known;
  over = λ index h. let own = kept.indexes index h in record { table = own.there; columns = own.columns };
  kept = λ index snap can.
      let own = kept.indexes index can.there in
      let indexed = own.indexed snap can.snapshot.kept can.snapshot.known in
      let fewer = few_cuts (length (index_at k.indexes index).tree) (nodes_at (index_at k.indexes index).tree snap) indexed.sound in
      let few = own.few in
      record {
        entries = indexed.entries;
        cuts = indexed.cuts;
        apart = (index_is (length (index_at k.indexes index).tree) (nodes_at (index_at k.indexes index).tree snap) indexed.sound own.few).apart;
        few = omega arith;
        short = short_leaves (length (index_at k.indexes index).tree) (nodes_at (index_at k.indexes index).tree snap) indexed.sound;
      };
}

-- What a commit asks.

pub open_is : (k : Kept) → IsKept k → AreOpen (k.newest + 1) k.tables
open_is k kept =
    let standing = kept.standing in
    record {
      later = λ table. let low = kept.tables.kept table in omega arith;
      newest = λ table. below_more (k.newest + 1) (k.newest + 1 + 1) (table_at k.tables table).records (kept.tables.below table) (omega arith);
    }

rows_next : (k : Kept) (table : ℕ) → IsKept k → rows_in k.tables table (k.newest + 1) ≡ rows_in k.tables table k.newest
rows_next k table kept = (same_above (table_at k.tables table).records k.newest (k.newest + 1) (kept.tables.below table) (omega arith)).rows

pages_next : (k : Kept) (table : ℕ) → IsKept k → pages_in k.tables table (k.newest + 1) ≡ pages_in k.tables table k.newest
pages_next k table kept = (same_above (table_at k.tables table).records k.newest (k.newest + 1) (kept.tables.below table) (omega arith)).pages

pub index_open : (k : Kept) (index : ℕ) → IsKept k → index < length k.indexes → IsOpen (k.newest + 1) k.tables (index_at k.indexes index)
index_open k index kept h =
    let own = kept.indexes index h in
    let standing = kept.standing in
    let table = (index_at k.indexes index).table in
    let low = kept.tables.kept table in
    record {
      there = own.there;
      some = own.columns.some;
      few = own.columns.few;
      kept = omega arith;
      ascend = subst Ascend (sym (rows_next k table kept)) (kept.tables.ascend table k.newest standing (omega arith));
      indexed = indexed_same (index_at k.indexes index).columns (rows_in k.tables table k.newest) (rows_in k.tables table (k.newest + 1)) k.newest (k.newest + 1) (index_at k.indexes index).tree (index_at k.indexes index).tree
          (nodes_above (index_at k.indexes index).tree k.newest (k.newest + 1) own.below (omega arith)) (omega arith) (rows_next k table kept) (own.indexed k.newest standing (omega arith));
      newest = chains_more (k.newest + 1) (k.newest + 1 + 1) (index_at k.indexes index).tree own.below (omega arith);
    }

pub can_put : (k : Kept) (changes : List Change) → AllByRecursion (IsChange (shown_of k)) changes → AllByRecursion (CanPut (length k.tables)) changes
can_put k [] each = tt
can_put k (c ∷ cs) each = let first = each.0 in (record { there = first.there; narrow = first.fits }, can_put k cs each.1)

-- Rows stay as wide as their table.

abbrev IsWide : ℕ → Record → Type 0
IsWide width r = length r.values ≡ width

wide_append : (width : ℕ) (xs ys : List Record) → AreWide width xs → AreWide width ys → AreWide width (xs ++ ys)
wide_append width [] ys a b = b
wide_append width (x ∷ xs) ys a b = (a.0, wide_append width xs ys a.1 b)

wide_filter : (width : ℕ) (p : Record → Bool) (xs : List Record) → AreWide width xs → AreWide width (filter p xs)
wide_filter width p [] a = tt
wide_filter width p (x ∷ xs) a = elim (p x) as (λ b. AreWide width (cond b (x ∷ filter p xs) (filter p xs))) [
  | true ↦ (a.0, wide_filter width p xs a.1)
  | false ↦ wide_filter width p xs a.1
]

wide_with : (width number : ℕ) (values : Option (List Value)) (rows : List Record) → IfSome values (λ vs. length vs ≡ width) → AreWide width rows → AreWide width (with_values number values rows)
wide_with width number (Some vs) rows wide all =
    let new : Record = record { row = record { 0 = number }; values = vs } in
    wide_append width (filter (λ (r : Record). comes_below r new) rows) (new ∷ filter (λ (r : Record). comes_below new r) rows)
    (wide_filter width (λ (r : Record). comes_below r new) rows all) (wide, wide_filter width (λ (r : Record). comes_below new r) rows all)
wide_with width number None rows wide all = wide_filter width (λ (r : Record). not (r.row.0 == number)) rows all

applied_wide : (k : Kept) (table : ℕ) (changes : List Change) (rows : List Record) → AllByRecursion (IsChange (shown_of k)) changes → AreWide (table_at k.tables table).width rows → AreWide (table_at k.tables table).width (rows_with_changes table changes rows)
applied_wide k table [] rows each all = all
applied_wide k table (c ∷ cs) rows each all = elim (cases_Bool (c.table == table)) [
  | inl t ↦
      let own : c.table ≡ table = grind (arith, nat_tests) in
      let first = each.0 in
      let wide = subst (λ n. IfSome c.values (λ vs. length vs ≡ (table_at k.tables n).width)) own first.width in
      rw t (applied_wide k table cs (with_values c.row.0 c.values rows) each.1 (wide_with (table_at k.tables table).width c.row.0 c.values rows wide all))
  | inr f ↦ rw f (applied_wide k table cs rows each.1 all)
]

-- What stays.

-- at each snapshot of both stores the rows and nodes of the tables and indexes that were there are the same
pub record AreAlike (old new : Kept) : Type 0 where
  pub width : (table : ℕ) → table < length old.tables → (table_at new.tables table).width ≡ (table_at old.tables table).width
  pub over : (index : ℕ) → index < length old.indexes → (index_at new.indexes index).table ≡ (index_at old.indexes index).table
  pub columns : (index : ℕ) → index < length old.indexes → (index_at new.indexes index).columns ≡ (index_at old.indexes index).columns
  pub rows : (table snap : ℕ) → table < length old.tables → snap ≤ old.newest → new.horizon ≤ snap → IsSame (table_at old.tables table).records snap (table_at new.tables table).records snap
  pub nodes : (index snap : ℕ) → index < length old.indexes → snap ≤ old.newest → new.horizon ≤ snap → nodes_at (index_at new.indexes index).tree snap ≡ nodes_at (index_at old.indexes index).tree snap

pub stays_is : (old new : Kept) → AreAlike old new → Stays (shown_of old) (shown_of new)
stays_is old new alike = record {
  columns = alike.width;
  over = alike.over;
  keys = alike.columns;
  rows = λ table snap can still. (alike.rows table snap can.there can.snapshot.known still.kept).rows;
  pages = λ table snap can still. (alike.rows table snap can.there can.snapshot.known still.kept).pages;
  entries = λ index snap can still. ap (λ (at : ℕ → Parts). entries_all (whole_at at)) (alike.nodes index snap can.there can.snapshot.known still.kept);
  cuts = λ index snap can still. ap (λ (at : ℕ → Parts). cuts_all (whole_at at)) (alike.nodes index snap can.there can.snapshot.known still.kept);
  estimates = λ index snap range can still. ap (λ (at : ℕ → Parts). estimate (whole_at at) range) (alike.nodes index snap can.there can.snapshot.known still.kept);
}

-- A commit.

abbrev pub with_lists : Kept → ℕ → List Table → List Index → Turns → Kept
with_lists k newest tables indexes turns = record { horizon = k.horizon; newest = newest; tables = tables; indexes = indexes; turns = turns }

alike_below : (k : Kept) (newest : ℕ) (tables : List Table) (indexes : List Index) (turns : Turns) → AreSameBelow (k.newest + 1) k.tables tables → AreSameIndexes (k.newest + 1) k.indexes indexes → AreAlike k (with_lists k newest tables indexes turns)
alike_below k newest tables indexes turns same same_indexes = record {
  width = λ table h. same.width table;
  over = λ index h. (same_indexes.each index).table;
  columns = λ index h. (same_indexes.each index).columns;
  rows = λ table snap h known low. same.older table snap (omega arith);
  nodes = λ index snap h known low. (same_indexes.each index).older snap (omega arith);
}

pub failed_same : (k : Kept) (tables : List Table) (indexes : List Index) (turns : Turns) → AreSameBelow (k.newest + 1) k.tables tables → AreSameIndexes (k.newest + 1) k.indexes indexes → storing.IsSame (shown_of k) (shown_of (with_lists k k.newest tables indexes turns))
failed_same k tables indexes turns same same_indexes = record {
  tables = same.count;
  indexes = same_indexes.count;
  horizon = refl;
  newest = refl;
  stays = stays_is k (with_lists k k.newest tables indexes turns) (alike_below k k.newest tables indexes turns same same_indexes);
}

-- an index at the snapshots below a commit
index_older : (k : Kept) (tables : List Table) (indexes : List Index) (index snap : ℕ) → IsKept k → AreSameBelow (k.newest + 1) k.tables tables → AreSameIndexes (k.newest + 1) k.indexes indexes → index < length k.indexes → k.horizon ≤ snap → snap ≤ k.newest
    → IsIndexed (index_at indexes index).columns (rows_in tables (index_at indexes index).table snap) snap (index_at indexes index).tree
index_older k tables indexes index snap kept same same_indexes h low known =
    let own = kept.indexes index h in
    let each = same_indexes.each index in
    let rows = ap (λ t. rows_in tables t snap) each.table ∙ (same.older (index_at k.indexes index).table snap (omega arith)).rows in
    subst (λ cs. IsIndexed cs (rows_in tables (index_at indexes index).table snap) snap (index_at indexes index).tree) (sym each.columns)
    (indexed_same (index_at k.indexes index).columns (rows_in k.tables (index_at k.indexes index).table snap) (rows_in tables (index_at indexes index).table snap) snap snap (index_at k.indexes index).tree (index_at indexes index).tree
    (each.older snap (omega arith)) each.grows rows (own.indexed snap low known))

index_columns : (k : Kept) (tables : List Table) (indexes : List Index) (index : ℕ) → IsKept k → AreSameBelow (k.newest + 1) k.tables tables → AreSameIndexes (k.newest + 1) k.indexes indexes → index < length k.indexes
    → storing.AreColumns (table_at tables (index_at indexes index).table).width (index_at indexes index).columns
index_columns k tables indexes index kept same same_indexes h =
    let own = kept.indexes index h in
    let each = same_indexes.each index in
    let width = ap (λ t. (table_at tables t).width) each.table ∙ same.width (index_at k.indexes index).table in
    subst (λ cs. storing.AreColumns (table_at tables (index_at indexes index).table).width cs) (sym each.columns)
    (subst (λ w. storing.AreColumns w (index_at k.indexes index).columns) (sym width) own.columns)

index_there : (k : Kept) (tables : List Table) (indexes : List Index) (index : ℕ) → IsKept k → AreSameBelow (k.newest + 1) k.tables tables → AreSameIndexes (k.newest + 1) k.indexes indexes → index < length k.indexes → (index_at indexes index).table < length tables
index_there k tables indexes index kept same same_indexes h =
    let own = (kept.indexes index h).there in
    let table = (same_indexes.each index).table in
    let count = same.count in
    omega arith

pub kept_failed : (k : Kept) (tables : List Table) (indexes : List Index) (turns : Turns) → IsKept k → AreSameBelow (k.newest + 1) k.tables tables → AreSameIndexes (k.newest + 1) k.indexes indexes → AreBack (k.newest + 1) tables indexes → IsKept (with_lists k k.newest tables indexes turns)
kept_failed k tables indexes turns kept same same_indexes back =
    let count = same.count in
    let count_indexes = same_indexes.count in
    let few_tables = kept.few_tables in
    let few_indexes = kept.few_indexes in
    record {
      standing = kept.standing;
      few_tables = omega arith;
      few_indexes = omega arith;
      tables = record {
        kept = λ table. let low = kept.tables.kept table in let e = same.horizon table in omega arith;
        below = back.below;
        ascend = λ table snap low known. subst Ascend (sym (same.older table snap (omega arith)).rows) (kept.tables.ascend table snap low known);
        wide = λ table snap low known. subst (λ w. AreWide w (rows_in tables table snap)) (sym (same.width table)) (subst (AreWide (table_at k.tables table).width) (sym (same.older table snap (omega arith)).rows) (kept.tables.wide table snap low known));
      };
      indexes = λ index h.
          let old : index < length k.indexes = omega arith in
          record {
            there = index_there k tables indexes index kept same same_indexes old;
            columns = index_columns k tables indexes index kept same same_indexes old;
            below = back.newest index;
            few = back.few index;
            indexed = λ snap low known. index_older k tables indexes index snap kept same same_indexes old low known;
          };
    }

pub kept_committed : (k : Kept) (changes : List Change) (tables : List Table) (indexes : List Index) (turns : Turns) → IsKept k → CanCommit (shown_of k) changes → AreSameBelow (k.newest + 1) k.tables tables → AreSameIndexes (k.newest + 1) k.indexes indexes
    → AreThrough (k.newest + 1) changes k.tables tables k.indexes indexes → IsKept (with_lists k (k.newest + 1) tables indexes turns)
kept_committed k changes tables indexes turns kept can same same_indexes through =
    let count = same.count in
    let count_indexes = same_indexes.count in
    let few_tables = kept.few_tables in
    let few_indexes = kept.few_indexes in
    let standing = kept.standing in
    let commit = k.newest + 1 in
    record {
      standing = omega arith;
      few_tables = omega arith;
      few_indexes = omega arith;
      tables = record {
        kept = λ table. let low = kept.tables.kept table in let e = same.horizon table in omega arith;
        below = through.open_.newest;
        ascend = λ table snap low known. elim (cases_lt snap commit) [
          | inl old ↦ subst Ascend (sym (same.older table snap old).rows) (kept.tables.ascend table snap low (omega arith))
          | inr late ↦
              let e : snap ≡ commit = omega arith in
              let rows = through.changed.rows table commit (omega arith) ∙ ap (rows_with_changes table changes) (rows_next k table kept) in
              rw e (subst Ascend (sym rows) (applied_ascends table changes (rows_in k.tables table k.newest) (kept.tables.ascend table k.newest standing (omega arith))))
        ];
        wide = λ table snap low known. subst (λ w. AreWide w (rows_in tables table snap)) (sym (same.width table)) (elim (cases_lt snap commit) [
          | inl old ↦ subst (AreWide (table_at k.tables table).width) (sym (same.older table snap old).rows) (kept.tables.wide table snap low (omega arith))
          | inr late ↦
              let e : snap ≡ commit = omega arith in
              let rows = through.changed.rows table commit (omega arith) ∙ ap (rows_with_changes table changes) (rows_next k table kept) in
              rw e (subst (AreWide (table_at k.tables table).width) (sym rows) (applied_wide k table changes (rows_in k.tables table k.newest) can.each (kept.tables.wide table k.newest standing (omega arith))))
        ]);
      };
      indexes = λ index h.
          let old : index < length k.indexes = omega arith in
          let each = same_indexes.each index in
          let done = through.through index old in
          record {
            there = index_there k tables indexes index kept same same_indexes old;
            columns = index_columns k tables indexes index kept same same_indexes old;
            below = through.newest index;
            few = done.few;
            indexed = λ snap low known. elim (cases_lt snap commit) [
              | inl early ↦ index_older k tables indexes index snap kept same same_indexes old low (omega arith)
              | inr late ↦
                  let e : snap ≡ commit = omega arith in
                  let table = (index_at k.indexes index).table in
                  let rows = ap (λ t. rows_in tables t commit) each.table ∙ through.changed.rows table commit (omega arith) in
                  rw e (subst (λ cs. IsIndexed cs (rows_in tables (index_at indexes index).table commit) commit (index_at indexes index).tree) (sym each.columns)
                  (subst (λ rs. IsIndexed (index_at k.indexes index).columns rs commit (index_at indexes index).tree) (sym rows) done.indexed))
            ];
          };
    }

pub committed_is : (k : Kept) (changes : List Change) (tables : List Table) (indexes : List Index) (turns : Turns) → IsKept k → AreSameBelow (k.newest + 1) k.tables tables → AreSameIndexes (k.newest + 1) k.indexes indexes
    → AreThrough (k.newest + 1) changes k.tables tables k.indexes indexes → Committed (shown_of k) (shown_of (with_lists k (k.newest + 1) tables indexes turns)) changes
committed_is k changes tables indexes turns kept same same_indexes through = record {
  tables = same.count;
  indexes = same_indexes.count;
  horizon = refl;
  newest = refl;
  stays = stays_is k (with_lists k (k.newest + 1) tables indexes turns) (alike_below k (k.newest + 1) tables indexes turns same same_indexes);
  rows = λ table h. through.changed.rows table (k.newest + 1) (omega arith) ∙ ap (rows_with_changes table changes) (rows_next k table kept);
  pages = λ table h. through.changed.pages table (k.newest + 1) (omega arith) ∙ ap (pages_after table changes) (pages_next k table kept);
}

pub trees_committed : (k : Kept) (changes : List Change) (tables : List Table) (indexes : List Index) (turns : Turns) → IsKept k → AreThrough (k.newest + 1) changes k.tables tables k.indexes indexes → AreTreesThrough changes k (with_lists k (k.newest + 1) tables indexes turns)
trees_committed k changes tables indexes turns kept through index h =
    let one = index_at k.indexes index in
    (through.through index h).tree
    ∙ ap (λ rows. tree_through one.columns one.table changes rows (tree_of one.tree (k.newest + 1))) (rows_next k one.table kept)
    ∙ ap (λ (at : ℕ → Parts). tree_through one.columns one.table changes (rows_in k.tables one.table k.newest) (whole_at at)) (nodes_above one.tree k.newest (k.newest + 1) (kept.indexes index h).below (omega arith))

-- A sweep.

pub kept_swept : (k : Kept) (horizon : ℕ) (tables : List Table) (indexes : List Index) (turns : Turns) → IsKept k → k.horizon ≤ horizon → horizon ≤ k.newest → AreSameFrom horizon k.tables tables → AreIndexesFrom horizon k.indexes indexes
    → IsKept (record { horizon = horizon; newest = k.newest; tables = tables; indexes = indexes; turns = turns })
kept_swept k horizon tables indexes turns kept low high same same_indexes =
    let count = same.count in
    let count_indexes = same_indexes.count in
    let few_tables = kept.few_tables in
    let few_indexes = kept.few_indexes in
    record {
      standing = high;
      few_tables = omega arith;
      few_indexes = omega arith;
      tables = record {
        kept = λ table. let was = kept.tables.kept table in let e = same.horizon_is table in omega arith;
        below = λ table. same.below table (k.newest + 1) (kept.tables.below table);
        ascend = λ table snap from known. subst Ascend (sym (same.same table snap from).rows) (kept.tables.ascend table snap (omega arith) known);
        wide = λ table snap from known. subst (λ w. AreWide w (rows_in tables table snap)) (sym (same.width table)) (subst (AreWide (table_at k.tables table).width) (sym (same.same table snap from).rows) (kept.tables.wide table snap (omega arith) known));
      };
      indexes = λ index h.
          let old : index < length k.indexes = omega arith in
          let own = kept.indexes index old in
          let each = same_indexes.each index in
          let there = own.there in
          let table = each.table in
          let few = own.few in
          let nodes = each.count in
          let width = ap (λ t. (table_at tables t).width) each.table ∙ same.width (index_at k.indexes index).table in
          record {
            there = omega arith;
            columns = subst (λ cs. storing.AreColumns (table_at tables (index_at indexes index).table).width cs) (sym each.columns) (subst (λ w. storing.AreColumns w (index_at k.indexes index).columns) (sym width) own.columns);
            below = each.below (k.newest + 1) own.below;
            few = omega arith;
            indexed = λ snap from known.
                let rows = ap (λ t. rows_in tables t snap) each.table ∙ (same.same (index_at k.indexes index).table snap from).rows in
                subst (λ cs. IsIndexed cs (rows_in tables (index_at indexes index).table snap) snap (index_at indexes index).tree) (sym each.columns)
                (indexed_same (index_at k.indexes index).columns (rows_in k.tables (index_at k.indexes index).table snap) (rows_in tables (index_at indexes index).table snap) snap snap (index_at k.indexes index).tree (index_at indexes index).tree
                (each.same snap from) (omega arith) rows (own.indexed snap (omega arith) known));
          };
    }

pub swept_is : (k : Kept) (horizon : ℕ) (tables : List Table) (indexes : List Index) (turns : Turns) → AreSameFrom horizon k.tables tables → AreIndexesFrom horizon k.indexes indexes
    → Swept (shown_of k) (shown_of (record { horizon = horizon; newest = k.newest; tables = tables; indexes = indexes; turns = turns })) horizon
swept_is k horizon tables indexes turns same same_indexes = record {
  tables = same.count;
  indexes = same_indexes.count;
  moved = refl;
  newest = refl;
  stays = stays_is k (record { horizon = horizon; newest = k.newest; tables = tables; indexes = indexes; turns = turns }) (record {
    width = λ table h. same.width table;
    over = λ index h. (same_indexes.each index).table;
    columns = λ index h. (same_indexes.each index).columns;
    rows = λ table snap h known from. same.same table snap from;
    nodes = λ index snap h known from. (same_indexes.each index).same snap from;
  });
}

-- One more table.

table_old : (tables : List Table) (new : Table) (t : ℕ) → t < length tables → table_at (tables ++ new ∷ []) t ≡ table_at tables t
table_old tables new t h = grind (arith, common_steps)

table_new : (tables : List Table) (new : Table) (t : ℕ) → t ≡ length tables → table_at (tables ++ new ∷ []) t ≡ new
table_new tables new t h = grind (arith, common_steps)

table_none : (tables : List Table) (new : Table) (t : ℕ) → length tables < t → table_at (tables ++ new ∷ []) t ≡ no_table
table_none tables new t h = grind (arith, common_steps)

abbrev pub empty_table : ℕ → Table
empty_table width = record { width = width; records = record { horizon = 0; pages = []; sizes = [] } }

-- a fact of every table that holds of an empty one
each_table : (P : ℕ → Table → Type 0) (tables : List Table) (width : ℕ) → ((t : ℕ) → P t (table_at tables t)) → ((t n : ℕ) → P t (empty_table n)) → (t : ℕ) → P t (table_at (tables ++ empty_table width ∷ []) t)
each_table P tables width all empty t = elim (cases_lt t (length tables)) [
  | inl old ↦ rw (table_old tables (empty_table width) t old) (all t)
  | inr past ↦ elim (cases_eq t (length tables)) [
    | inl e ↦ rw (table_new tables (empty_table width) t e) (empty t width)
    | inr other ↦ rw (table_none tables (empty_table width) t (omega arith)) (empty t 0)
  ]
]

pub kept_table : (k : Kept) (width : ℕ) → IsKept k → length k.tables < 4294967296 → IsKept (with_lists k k.newest (k.tables ++ empty_table width ∷ []) k.indexes k.turns)
kept_table k width kept few =
    let count = length-append k.tables (empty_table width ∷ []) in
    record {
      standing = kept.standing;
      few_tables = omega arith;
      few_indexes = kept.few_indexes;
      tables = record {
        kept = each_table (λ t x. x.records.horizon ≤ k.horizon) k.tables width kept.tables.kept (λ t n. omega arith);
        below = each_table (λ t x. IsBelow (k.newest + 1) x.records) k.tables width kept.tables.below (λ t n. record { pages = λ id. tt; sizes = λ id. tt });
        ascend = λ table snap low known. each_table (λ t x. Ascend (rows_at x.records snap)) k.tables width (λ t. kept.tables.ascend t snap low known) (λ t n. tt) table;
        wide = λ table snap low known. each_table (λ t x. AreWide x.width (rows_at x.records snap)) k.tables width (λ t. kept.tables.wide t snap low known) (λ t n. tt) table;
      };
      indexes = λ index h.
          let own = kept.indexes index h in
          let there = own.there in
          let same = table_old k.tables (empty_table width) (index_at k.indexes index).table there in
          record {
            there = omega arith;
            columns = subst (λ (x : Table). storing.AreColumns x.width (index_at k.indexes index).columns) (sym same) own.columns;
            below = own.below;
            few = own.few;
            indexed = λ snap low known. subst (λ (x : Table). IsIndexed (index_at k.indexes index).columns (rows_at x.records snap) snap (index_at k.indexes index).tree) (sym same) (own.indexed snap low known);
          };
    }

pub created_is : (k : Kept) (width : ℕ) → storing.Created (shown_of k) (shown_of (with_lists k k.newest (k.tables ++ empty_table width ∷ []) k.indexes k.turns)) width
created_is k width =
    let new = table_new k.tables (empty_table width) (length k.tables) refl in
    record {
      tables = length-append k.tables (empty_table width ∷ []);
      indexes = refl;
      horizon = refl;
      newest = refl;
      stays = stays_is k (with_lists k k.newest (k.tables ++ empty_table width ∷ []) k.indexes k.turns) (record {
        width = λ table h. ap (λ (x : Table). x.width) (table_old k.tables (empty_table width) table h);
        over = λ index h. refl;
        columns = λ index h. refl;
        rows = λ table snap h known low. subst (λ (x : Table). IsSame (table_at k.tables table).records snap x.records snap) (sym (table_old k.tables (empty_table width) table h)) (record { rows = refl; pages = refl });
        nodes = λ index snap h known low. refl;
      });
      width = ap (λ (x : Table). x.width) new;
      rows = λ snap h. ap (λ (x : Table). rows_at x.records snap) new;
      pages = λ snap h. ap (λ (x : Table). pages_at x.records snap) new;
    }

-- One more index.

index_old : (indexes : List Index) (new : Index) (i : ℕ) → i < length indexes → index_at (indexes ++ new ∷ []) i ≡ index_at indexes i
index_old indexes new i h = grind (arith, common_steps)

index_new : (indexes : List Index) (new : Index) (i : ℕ) → i ≡ length indexes → index_at (indexes ++ new ∷ []) i ≡ new
index_new indexes new i h = grind (arith, common_steps)

pub kept_index : (k : Kept) (table : ℕ) (columns : List ℕ) (new : Index) (turns : Turns) → IsKept k → length k.indexes < 4294967296 → table < length k.tables → storing.AreColumns (table_at k.tables table).width columns → k.horizon ≡ k.newest
    → IsNewIndex table columns (rows_in k.tables table k.newest) k.newest new → IsKept (with_lists k k.newest k.tables (k.indexes ++ new ∷ []) turns)
kept_index k table columns new turns kept few there suits alone made =
    let count = length-append k.indexes (new ∷ []) in
    record {
      standing = kept.standing;
      few_tables = kept.few_tables;
      few_indexes = omega arith;
      tables = kept.tables;
      indexes = λ index h. elim (cases_lt index (length k.indexes)) [
        | inl old ↦ rw (index_old k.indexes new index old) (kept.indexes index old)
        | inr end ↦
            let e : index ≡ length k.indexes = omega arith in
            rw (index_new k.indexes new index e) (own_index (sym made.table_is) (sym made.columns_are))
      ];
    }
  where
    own_index : table ≡ new.table → columns ≡ new.columns → IsIndexOf k.horizon k.newest k.tables new
    own_index t c = record {
      there = subst (λ n. n < length k.tables) t there;
      columns = subst (λ n. storing.AreColumns (table_at k.tables n).width new.columns) t (subst (λ cs. storing.AreColumns (table_at k.tables table).width cs) c suits);
      below = made.newest;
      few = made.few;
      indexed = λ snap low known.
          let at : k.newest ≡ snap = omega arith in
          subst (λ s. IsIndexed new.columns (rows_in k.tables new.table s) s new.tree) at
          (subst (λ n. IsIndexed new.columns (rows_in k.tables n k.newest) k.newest new.tree) t
          (subst (λ cs. IsIndexed cs (rows_in k.tables table k.newest) k.newest new.tree) c made.indexed));
    }

pub indexed_is : (k : Kept) (table : ℕ) (columns : List ℕ) (new : Index) (turns : Turns) → IsNewIndex table columns (rows_in k.tables table k.newest) k.newest new
    → storing.Indexed (shown_of k) (shown_of (with_lists k k.newest k.tables (k.indexes ++ new ∷ []) turns)) table columns
indexed_is k table columns new turns made =
    let here = index_new k.indexes new (length k.indexes) refl in
    record {
      tables = refl;
      indexes = length-append k.indexes (new ∷ []);
      horizon = refl;
      newest = refl;
      stays = stays_is k (with_lists k k.newest k.tables (k.indexes ++ new ∷ []) turns) (record {
        width = λ t h. refl;
        over = λ index h. ap (λ (x : Index). x.table) (index_old k.indexes new index h);
        columns = λ index h. ap (λ (x : Index). x.columns) (index_old k.indexes new index h);
        rows = λ t snap h known low. record { rows = refl; pages = refl };
        nodes = λ index snap h known low. ap (λ (x : Index). nodes_at x.tree snap) (index_old k.indexes new index h);
      });
      over = ap (λ (x : Index). x.table) here ∙ made.table_is;
      keys = ap (λ (x : Index). x.columns) here ∙ made.columns_are;
      entries = ap (λ (x : Index). entries_of x.tree k.newest) here ∙ made.indexed.entries;
    }

pub none_same : (k : Kept) (turns : Turns) → storing.IsSame (shown_of k) (shown_of (with_lists k k.newest k.tables k.indexes turns))
none_same k turns = record {
  tables = refl;
  indexes = refl;
  horizon = refl;
  newest = refl;
  stays = stays_is k (with_lists k k.newest k.tables k.indexes turns) (record {
    width = λ t h. refl;
    over = λ i h. refl;
    columns = λ i h. refl;
    rows = λ t snap h known low. record { rows = refl; pages = refl };
    nodes = λ i snap h known low. refl;
  });
}

pub kept_turns : (k : Kept) (turns : Turns) → IsKept k → IsKept (with_lists k k.newest k.tables k.indexes turns)
kept_turns k turns kept = record {
  standing = kept.standing;
  few_tables = kept.few_tables;
  few_indexes = kept.few_indexes;
  tables = kept.tables;
  indexes = kept.indexes;
}

pub tree_indexed : (k : Kept) (table : ℕ) (columns : List ℕ) (new : Index) → IsNewIndex table columns (rows_in k.tables table k.newest) k.newest new → tree_in (k.indexes ++ new ∷ []) (length k.indexes) k.newest ≡ tree_over columns (rows_in k.tables table k.newest) empty_tree
tree_indexed k table columns new made = ap (λ (x : Index). tree_of x.tree k.newest) (index_new k.indexes new (length k.indexes) refl) ∙ made.tree
