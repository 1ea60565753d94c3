use Rattle.rv_store.specs.Places.{node_places, HasRange, IsLonger}
use Rattle.rv_store.proofs.places.add_nodes.Given as goal

abbrev pub invariant-nodes : goal.invariant-nodes
invariant-nodes l = record {
  longer : IsLonger l.initial.more.items l.more.items;
  has : HasRange (node_places l.index) l.more.items l.initial.id l.id;
}
