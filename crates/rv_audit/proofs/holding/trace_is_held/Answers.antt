use Rattle.rv_audit.proofs.holding.trace_is_held.Goals as goal

pub returns : goal.returns
returns c = record {
  events = rw c.as_slice.ensures at c.events_are_held.ensures;
  pages = c.number_is_held.ensures;
  leaves = c.number_is_held-2.ensures;
  fetches = c.number_is_held-3.ensures;
}
