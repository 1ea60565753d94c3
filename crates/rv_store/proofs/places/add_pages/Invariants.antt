use Rattle.rv_store.specs.Places.{page_places, HasRange, IsLonger}
use Rattle.rv_store.proofs.places.add_pages.Given as goal

abbrev pub invariant-pages : goal.invariant-pages
invariant-pages l = record {
  longer : IsLonger l.initial.more.items l.more.items;
  has : HasRange (page_places l.table) l.more.items l.initial.n l.n;
}
