-- A page or a node is purged.
use Rattle.std.proofs.Common.{◌≡◌, ℕ, ◌<◌, ◌≤◌, List, [], refl, ◌∙◌, arith, length, max, slice_set, length-set}
use Rattle.std.proofs.lemmas.List.{get_or_past, get_or-set_same}
use Rattle.std.specs.List.{slice_index_or}
use Rattle.rv_versions.specs.Chains.{versions_to}
use Rattle.rv_versions.proofs.Values.{put_each}
use Rattle.rv_records.specs.Pages.{IsBelow, IsSame}
use Rattle.rv_store.specs.declared.tables.Table.{Table}
use Rattle.rv_store.specs.declared.indexes.Index.{Index}
use Rattle.rv_store.specs.Tables.{no_table, table_at}
use Rattle.rv_store.specs.Indexes.{no_index, index_at}
use Rattle.rv_store.specs.Places.{AreIndexesFrom, AreSameFrom, IsNodePurged, IsPagePurged, IsSameFrom}

pub from_itself : (horizon : ℕ) (tables : List Table) → AreSameFrom horizon tables tables
from_itself horizon tables = record {
  count = refl;
  width = λ t. refl;
  horizon_is = λ t. omega arith;
  same = λ t snap h. record { rows = refl; pages = refl };
  below = λ t high b. b;
}

pub set_from : (horizon t : ℕ) (tables : List Table) (new : Table) → t < length tables → new.width ≡ (table_at tables t).width → new.records.horizon ≤ max (table_at tables t).records.horizon horizon
    → ((snap : ℕ) → horizon ≤ snap → IsSame (table_at tables t).records snap new.records snap) → ((high : ℕ) → IsBelow high (table_at tables t).records → IsBelow high new.records) → AreSameFrom horizon tables (slice_set tables t new)
set_from horizon t tables new there width low same below = record {
  count = length-set tables t new;
  width = put_each (λ k x. x.width ≡ (table_at tables k).width) tables t new no_table there width (λ k other. refl);
  horizon_is = put_each (λ k x. x.records.horizon ≤ max (table_at tables k).records.horizon horizon) tables t new no_table there low (λ k other. omega arith);
  same = λ table snap h. put_each (λ k x. IsSame (table_at tables k).records snap x.records snap) tables t new no_table there (same snap h) (λ k other. record { rows = refl; pages = refl }) table;
  below = λ table high. put_each (λ k x. IsBelow high (table_at tables k).records → IsBelow high x.records) tables t new no_table there (below high) (λ k other b. b) table;
}

pub page_purged : (horizon t n : ℕ) (tables : List Table) (new : Table) → t < length tables → versions_to horizon (slice_index_or new.records.pages n []) ≤ 1 → IsPagePurged horizon (slice_set tables t new) t n
page_purged horizon t n tables new there one = rw (get_or-set_same tables t new no_table there) one

pub page_none : (horizon t n : ℕ) (tables : List Table) → length tables ≤ t → IsPagePurged horizon tables t n
page_none horizon t n tables past = rw (get_or_past tables t no_table past) (omega arith)

pub same_from_itself : (horizon : ℕ) (index : Index) → IsSameFrom horizon index index
same_from_itself horizon index = record { table = refl; columns = refl; count = refl; same = λ snap h. refl; below = λ high b. b }

pub indexes_itself : (horizon : ℕ) (indexes : List Index) → AreIndexesFrom horizon indexes indexes
indexes_itself horizon indexes = record { count = refl; each = λ i. same_from_itself horizon (index_at indexes i) }

pub set_index_from : (horizon at : ℕ) (indexes : List Index) (new : Index) → at < length indexes → IsSameFrom horizon (index_at indexes at) new → AreIndexesFrom horizon indexes (slice_set indexes at new)
set_index_from horizon at indexes new there same = record {
  count = length-set indexes at new;
  each = put_each (λ k x. IsSameFrom horizon (index_at indexes k) x) indexes at new no_index there same (λ k other. same_from_itself horizon (index_at indexes k));
}

pub node_purged : (horizon at id : ℕ) (indexes : List Index) (new : Index) → at < length indexes → versions_to horizon (slice_index_or new.tree id []) ≤ 1 → IsNodePurged horizon (slice_set indexes at new) at id
node_purged horizon at id indexes new there one = rw (get_or-set_same indexes at new no_index there) one

pub node_none : (horizon at id : ℕ) (indexes : List Index) → length indexes ≤ at → IsNodePurged horizon indexes at id
node_none horizon at id indexes past = rw (get_or_past indexes at no_index past) (omega arith)

-- one after another

pub from_trans : (horizon : ℕ) (a b c : List Table) → AreSameFrom horizon a b → AreSameFrom horizon b c → AreSameFrom horizon a c
from_trans horizon a b c first second = record {
  count = second.count ∙ first.count;
  width = λ t. second.width t ∙ first.width t;
  horizon_is = λ t. let one = first.horizon_is t in let two = second.horizon_is t in omega (arith, one, two);
  same = λ t snap h. let one = first.same t snap h in let two = second.same t snap h in record { rows = two.rows ∙ one.rows; pages = two.pages ∙ one.pages };
  below = λ t high low. second.below t high (first.below t high low);
}

one_from_trans : (horizon : ℕ) (a b c : Index) → IsSameFrom horizon a b → IsSameFrom horizon b c → IsSameFrom horizon a c
one_from_trans horizon a b c first second = record {
  table = second.table ∙ first.table;
  columns = second.columns ∙ first.columns;
  count = second.count ∙ first.count;
  same = λ snap h. second.same snap h ∙ first.same snap h;
  below = λ high low. second.below high (first.below high low);
}

pub indexes_from_trans : (horizon : ℕ) (a b c : List Index) → AreIndexesFrom horizon a b → AreIndexesFrom horizon b c → AreIndexesFrom horizon a c
indexes_from_trans horizon a b c first second = record {
  count = second.count ∙ first.count;
  each = λ i. one_from_trans horizon (index_at a i) (index_at b i) (index_at c i) (first.each i) (second.each i);
}
