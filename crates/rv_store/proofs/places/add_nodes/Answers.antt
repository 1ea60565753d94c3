use Rattle.rv_store.specs.Places.{node_places}
use Rattle.rv_store.proofs.Placing.{longer_none, longer_push, range_none, range_push}
use Rattle.rv_store.proofs.places.add_nodes.Goals as goal

pub nodes-init : goal.nodes-init
nodes-init c = record {
  longer = longer_none c.args.more.now.items;
  has = range_none (node_places c.args.index) c.args.more.now.items c.args.from;
}

pub nodes-preserved : goal.nodes-preserved
nodes-preserved c = rw c.in_ok-push.ensures.items (record {
  longer = longer_push c.args.more.now.items c.nodes.more.items _ c.nodes.invariant.longer;
  has = range_push (node_places c.args.index) c.nodes.more.items c.args.from c.nodes.id c.nodes.invariant.has;
})
