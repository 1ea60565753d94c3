use Rattle.std.proofs.Common.{◌≡◌, drop, map}
use Rattle.rv_rivals.specs.declared.near.Other.{Other}
use Rattle.rv_rivals.specs.Lookups.{written_first}
use Rattle.rv_rivals.proofs.rivals.in_others.Given as goal

-- none of the transactions so far has written such a row
abbrev pub invariant-others : goal.invariant-others
invariant-others g l = written_first l.index.columns.now l.sought.key l.row.0 l.table (map (λ (o : Other). o.transaction.now) (drop l.other-index l.others)) ≡ written_first l.index.columns.now l.sought.key l.row.0 l.table (map (λ (o : Other). o.transaction.now) l.others)
