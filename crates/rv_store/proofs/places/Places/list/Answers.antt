use Rattle.std.proofs.Common.{ℕ, List, refl, subst, sym}
use Rattle.std.specs.List.{slice_index_or}
use Rattle.rv_store.specs.declared.places.Place.{Place}
use Rattle.rv_store.specs.Indexes.{index_at}
use Rattle.rv_store.specs.Places.{node_places, page_places, AreInTurn, HasAll, HasRange}
use Rattle.rv_store.specs.Tables.{table_at}
use Rattle.rv_store.proofs.Placing.{has_all, node_count, page_count, turn_filled, turn_of}
use Rattle.rv_store.proofs.places.Places.list.Goals as goal

pub invariant_of-self : goal.invariant_of-self
invariant_of-self c =
    let nodes = c.self.inside.nodes.items in
    turn_filled c.self.inside.places.items c.self.inside.next c.self.inside.pages.items nodes c.fill.new.counts.items nodes c.self.invariant c.fill.ensures (λ at. refl)

pub invariant_of-self-in_err-fill-2 : goal.invariant_of-self-in_err-fill-2
invariant_of-self-in_err-fill-2 c =
    turn_filled c.self.inside.places.items c.self.inside.next c.self.inside.pages.items c.self.inside.nodes.items c.fill.new.counts.items c.fill-2.new.counts.items c.self.invariant c.fill.ensures c.fill-2.ensures

pub invariant_of-self-in_err-append : goal.invariant_of-self-in_err-append
invariant_of-self-in_err-append c =
    let places = c.self.inside.places.items in
    let next = c.self.inside.next in
    let pages = c.fill.new.counts.items in
    let nodes = c.fill-2.new.counts.items in
    subst (λ (ps : List Place). AreInTurn ps next pages nodes) (sym c.in_err-append.ensures.items)
    (turn_filled places next c.self.inside.pages.items c.self.inside.nodes.items pages nodes c.self.invariant c.fill.ensures c.fill-2.ensures)

pub invariant_of-self-2 : goal.invariant_of-self-2
invariant_of-self-2 c =
    let first = c.list_pages.new.more.items in
    let more = c.list_nodes.new.more.items in
    let places = c.self.inside.places.items in
    let next = c.self.inside.next in
    let has_pages = subst (λ (ps : List ℕ). (table : ℕ) → HasRange (page_places table) first (slice_index_or ps table 0) (page_count (table_at c.args.tables.now table))) c.as_slice.ensures.value c.in_ok-list_pages.ensures.ok in
    let has_nodes = subst (λ (ns : List ℕ). (index : ℕ) → HasRange (node_places index) more (slice_index_or ns index 0) (node_count (index_at c.args.indexes.now index))) c.as_slice-2.ensures.value c.in_ok-list_nodes.ensures.ok in
    let all = has_all places first more next c.args.tables.now c.args.indexes.now c.self.inside.pages.items c.self.inside.nodes.items c.self.invariant c.in_ok-list_nodes.ensures.longer has_pages has_nodes in
    let pages = c.fill.new.counts.items in
    let nodes = c.fill-2.new.counts.items in
    let filled : AreInTurn places next pages nodes = turn_filled places next c.self.inside.pages.items c.self.inside.nodes.items pages nodes c.self.invariant c.fill.ensures c.fill-2.ensures in
    subst (λ (ps : List Place). AreInTurn ps next c.count_places.new.pages.items c.count_places.new.nodes.items) (sym c.in_ok-append.ensures.items)
    (turn_of places more next c.args.tables.now c.args.indexes.now pages nodes c.count_places.new.pages.items c.count_places.new.nodes.items filled c.count_places.ensures.pages c.count_places.ensures.nodes all)

pub returns-clause-ok : goal.returns-clause-ok
returns-clause-ok c =
    let first = c.list_pages.new.more.items in
    let more = c.list_nodes.new.more.items in
    let has_pages = subst (λ (ps : List ℕ). (table : ℕ) → HasRange (page_places table) first (slice_index_or ps table 0) (page_count (table_at c.args.tables.now table))) c.as_slice.ensures.value c.in_ok-list_pages.ensures.ok in
    let has_nodes = subst (λ (ns : List ℕ). (index : ℕ) → HasRange (node_places index) more (slice_index_or ns index 0) (node_count (index_at c.args.indexes.now index))) c.as_slice-2.ensures.value c.in_ok-list_nodes.ensures.ok in
    let all = has_all c.self.inside.places.items first more c.self.inside.next c.args.tables.now c.args.indexes.now c.self.inside.pages.items c.self.inside.nodes.items c.self.invariant c.in_ok-list_nodes.ensures.longer has_pages has_nodes in
    subst (λ (ps : List Place). HasAll ps c.args.tables.now c.args.indexes.now) (sym c.in_ok-append.ensures.items) all
