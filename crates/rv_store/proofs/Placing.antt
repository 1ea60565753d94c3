-- Places put at the end of a list.
use Rattle.std.proofs.Common.{rules, ◌≡◌, ℕ, ◌+◌, ◌<◌, ◌≤◌, List, [], ◌∷◌, ◌++◌, ap, sym, ◌∙◌, inl, inr, arith, subst, length, slice_set, append_assoc, append-nil, length-append}
use Rattle.std.proofs.lemmas.Bool.{cases_eq, cases_lt}
use Rattle.std.proofs.lemmas.List.{get_or_past, get_or-set_other, get_or-set_same}
use Rattle.std.proofs.lemmas.List.Elements.{Contains-append_left, Contains-append_right}
use Rattle.std.specs.List.{slice_index_or, Contains}
use Rattle.rv_store.specs.declared.tables.Table.{Table}
use Rattle.rv_store.specs.declared.indexes.Index.{Index}
use Rattle.rv_store.specs.declared.places.Place.{Place}
use Rattle.rv_store.specs.Tables.{no_table, table_at}
use Rattle.rv_store.specs.Indexes.{no_index, index_at}
use Rattle.rv_store.specs.Places.{node_places, page_places, AreInTurn, AreListed, HasAll, HasRange, IsLonger}

pub longer_none : (places : List Place) → IsLonger places places
longer_none places = record { more = []; is = sym (append-nil places) }

pub longer_push : (old places : List Place) (place : Place) → IsLonger old places → IsLonger old (places ++ place ∷ [])
longer_push old places place longer = record {
  more = longer.more ++ place ∷ [];
  is = ap (λ ps. ps ++ place ∷ []) longer.is ∙ append_assoc old longer.more (place ∷ []);
}

pub longer_trans : (a b c : List Place) → IsLonger a b → IsLonger b c → IsLonger a c
longer_trans a b c one two = record {
  more = one.more ++ two.more;
  is = two.is ∙ ap (λ ps. ps ++ two.more) one.is ∙ append_assoc a one.more two.more;
}

pub has_longer : (old places : List Place) (place : Place) → IsLonger old places → Contains old place → Contains places place
has_longer old places place longer has = subst (λ ps. Contains ps place) (sym longer.is) (Contains-append_left old longer.more place has)

pub range_none : (place : ℕ → Place) (places : List Place) (from : ℕ) → HasRange place places from from
range_none place places from n low high = absurd (omega arith)

pub range_push : (place : ℕ → Place) (places : List Place) (from to : ℕ) → HasRange place places from to → HasRange place (places ++ place to ∷ []) from (to + 1)
range_push place places from to has n low high = elim (cases_eq n to) [
  | inl e ↦ rw e (Contains-append_right places (place to ∷ []) (place to) (alone (place to)))
  | inr other ↦ Contains-append_left places (place to ∷ []) (place n) (has n low (omega arith))
]
  where
    alone : (p : Place) → Contains (p ∷ []) p
    alone p = search rules

-- one more row of places of a list
pub ranges_more : (place : ℕ → ℕ → Place) (from to : ℕ → ℕ) (at : ℕ) (old places : List Place) → IsLonger old places → ((k : ℕ) → k < at → HasRange (place k) old (from k) (to k)) → HasRange (place at) places (from at) (to at) → (k : ℕ) → k < at + 1 → HasRange (place k) places (from k) (to k)
ranges_more place from to at old places longer before here k h = elim (cases_eq k at) [
  | inl e ↦ rw e here
  | inr other ↦ λ n low high. has_longer old places (place k n) longer (before k (omega arith) n low high)
]

-- those counted before and those from there on
pub ranges_joined : (place : ℕ → ℕ → Place) (from to : ℕ → ℕ) (old more : List Place) → ((k : ℕ) → HasRange (place k) old 0 (from k)) → ((k : ℕ) → HasRange (place k) more (from k) (to k)) → (k : ℕ) → HasRange (place k) (old ++ more) 0 (to k)
ranges_joined place from to old more before behind k n low high = elim (cases_lt n (from k)) [
  | inl l ↦ Contains-append_left old more (place k n) (before k n (omega arith) l)
  | inr past ↦ Contains-append_right old more (place k n) (behind k n past high)
]

abbrev pub page_count : Table → ℕ
page_count t = length t.records.pages

abbrev pub node_count : Index → ℕ
node_count i = length i.tree

-- Counts of what is listed.

pub listed_none : (place : ℕ → ℕ → Place) (count : ℕ → ℕ) (counts : List ℕ) → AreListed place count counts counts
listed_none place count counts places all had = had

pub listed_trans : (place : ℕ → ℕ → Place) (count : ℕ → ℕ) (a b c : List ℕ) → AreListed place count a b → AreListed place count b c → AreListed place count a c
listed_trans place count a b c one two places all had = two places all (one places all had)

-- one of them is counted anew
pub listed_set : (place : ℕ → ℕ → Place) (count : ℕ → ℕ) (counts : List ℕ) (at : ℕ) → at < length counts → AreListed place count counts (slice_set counts at (count at))
listed_set place count counts at there places all had k = elim (cases_eq k at) [
  | inl e ↦ subst (λ n. HasRange (place k) places 0 n) (sym (ap (λ j. slice_index_or (slice_set counts at (count at)) j 0) e ∙ get_or-set_same counts at (count at) 0 there ∙ ap count (sym e))) (all k)
  | inr other ↦ subst (λ n. HasRange (place k) places 0 n) (sym (get_or-set_other counts at k (count at) 0 other)) (had k)
]

pub pages_past : (tables : List Table) (table from : ℕ) (places : List Place) → length tables ≤ table → HasRange (page_places table) places from (page_count (table_at tables table))
pages_past tables table from places past n low high = let none = ap page_count (get_or_past tables table no_table past) in absurd (omega (arith, none))

pub nodes_past : (indexes : List Index) (index from : ℕ) (places : List Place) → length indexes ≤ index → HasRange (node_places index) places from (node_count (index_at indexes index))
nodes_past indexes index from places past n low high = let none = ap node_count (get_or_past indexes index no_index past) in absurd (omega (arith, none))

-- What always holds of the list stays when zeros are put behind the counts.
pub turn_filled : (places : List Place) (next : ℕ) (pages nodes more_pages more_nodes : List ℕ) → AreInTurn places next pages nodes
    → ((at : ℕ) → slice_index_or more_pages at 0 ≡ slice_index_or pages at 0) → ((at : ℕ) → slice_index_or more_nodes at 0 ≡ slice_index_or nodes at 0) → AreInTurn places next more_pages more_nodes
turn_filled places next pages nodes more_pages more_nodes was same same_nodes = record {
  turn = was.turn;
  has_pages = λ table. subst (λ n. HasRange (page_places table) places 0 n) (sym (same table)) (was.has_pages table);
  has_nodes = λ index. subst (λ n. HasRange (node_places index) places 0 n) (sym (same_nodes index)) (was.has_nodes index);
}

-- All pages and nodes are listed when those that came are put behind those that were there.
pub has_all : (old first more : List Place) (next : ℕ) (tables : List Table) (indexes : List Index) (pages nodes : List ℕ) → AreInTurn old next pages nodes
    → IsLonger first more
    → ((table : ℕ) → HasRange (page_places table) first (slice_index_or pages table 0) (page_count (table_at tables table)))
    → ((index : ℕ) → HasRange (node_places index) more (slice_index_or nodes index 0) (node_count (index_at indexes index)))
    → HasAll (old ++ more) tables indexes
has_all old first more next tables indexes pages nodes turn longer has_pages has_nodes = record {
  pages = ranges_joined page_places (λ table. slice_index_or pages table 0) (λ table. page_count (table_at tables table)) old more turn.has_pages
      (λ table n low high. has_longer first more (page_places table n) longer (has_pages table n low high));
  nodes = ranges_joined node_places (λ index. slice_index_or nodes index 0) (λ index. node_count (index_at indexes index)) old more turn.has_nodes has_nodes;
}

pub turn_of : (old more : List Place) (next : ℕ) (tables : List Table) (indexes : List Index) (first_pages first_nodes pages nodes : List ℕ) → AreInTurn old next first_pages first_nodes
    → AreListed page_places (λ table. page_count (table_at tables table)) first_pages pages → AreListed node_places (λ index. node_count (index_at indexes index)) first_nodes nodes
    → HasAll (old ++ more) tables indexes → AreInTurn (old ++ more) next pages nodes
turn_of old more next tables indexes first_pages first_nodes pages nodes was of_pages of_nodes all = record {
  turn = (let sum = length-append old more in let within = was.turn in omega arith);
  has_pages = of_pages (old ++ more) all.pages (λ table n low high. Contains-append_left old more (page_places table n) (was.has_pages table n low high));
  has_nodes = of_nodes (old ++ more) all.nodes (λ index n low high. Contains-append_left old more (node_places index n) (was.has_nodes index n low high));
}
