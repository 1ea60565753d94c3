use Rattle.std.proofs.Common.{◌≡◌, map, take}
use Rattle.std.specs.List.{AllByRecursion}
use Rattle.rv_own.specs.Views.{AreViews, Freezes}
use Rattle.rv_rivals.specs.declared.near.Other.{Other}
use Rattle.rv_rivals.specs.Lookups.{touching}
use Rattle.rv_rivals.proofs.near.others_of.Given as goal

-- the transactions so far that have changed rows of the table, each with its view
abbrev pub invariant-active : goal.invariant-active
invariant-active g l = record {
  others : map (λ (o : Other). o.transaction.now) l.others.items ≡ touching l.table l.session (take l.transaction-index l.active);
  each : AllByRecursion (λ (o : Other). Freezes (g.S.Reader.shown l.store) o.transaction.now o.view) l.others.items;
  views : AreViews (g.S.Reader.shown l.store) l.active l.views;
}
