use Rattle.rv_store.specs.Places.{page_places}
use Rattle.rv_store.proofs.Placing.{longer_none, longer_push, range_none, range_push}
use Rattle.rv_store.proofs.places.add_pages.Goals as goal

pub pages-init : goal.pages-init
pages-init c = record {
  longer = longer_none c.args.more.now.items;
  has = range_none (page_places c.args.table) c.args.more.now.items c.args.from;
}

pub pages-preserved : goal.pages-preserved
pages-preserved c = rw c.in_ok-push.ensures.items (record {
  longer = longer_push c.args.more.now.items c.pages.more.items _ c.pages.invariant.longer;
  has = range_push (page_places c.args.table) c.pages.more.items c.args.from c.pages.n c.pages.invariant.has;
})
