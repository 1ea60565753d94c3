use Rattle.std.proofs.Common.{subst, sym}
use Rattle.rv_reader.specs.Shown.{CanScan, Suits}
use Rattle.rv_rivals.specs.Lookups.{Tells}
use Rattle.rv_rivals.specs.Points.{point}
use Rattle.rv_rivals.proofs.Finding.{suits}
use Rattle.rv_rivals.proofs.Places.{at_commit_is, newest_at}
use Rattle.rv_rivals.proofs.Telling.{store_tells}
use Rattle.rv_rivals.proofs.rivals.at_commit.Goals as goal

pub lowest_with-requires-clause-can : goal.lowest_with-requires-clause-can
lowest_with-requires-clause-can g c =
    let can = c.requires.can in
    let shown = g.S.Reader.shown c.args.store.now in
    subst (CanScan shown c.args.index.now.number) (sym c.last.ensures.newest) (store_tells shown c.args.near.now.table c.args.index.now.number shown.newest c.args.index.now.columns.now can.stored can.index (newest_at shown can.stored)).can

pub lowest_with-requires-clause-suits : goal.lowest_with-requires-clause-suits
lowest_with-requires-clause-suits g c =
    let can = c.requires.can in
    let shown = g.S.Reader.shown c.args.store.now in
    let table = c.args.near.now.table in
    subst (λ r. Suits shown c.args.index.now.number c.last.result r) (sym c.requires.range) (subst (λ n. Suits shown c.args.index.now.number n (point c.args.sought.now.key)) (sym c.last.ensures.newest) (suits shown c.args.index.now.number shown.newest c.args.index.now.columns.now (shown.rows table shown.newest) c.args.sought.now.key
    (store_tells shown table c.args.index.now.number shown.newest c.args.index.now.columns.now can.stored can.index (newest_at shown can.stored)) c.requires.long))

pub returns : goal.returns
returns g c row new st =
    let can = c.requires.can in
    let shown = g.S.Reader.shown c.args.store.now in
    let table = c.args.near.now.table in
    let columns = c.args.index.now.columns.now in
    let tells = store_tells shown table c.args.index.now.number shown.newest columns can.stored can.index (newest_at shown can.stored) in
    at_commit_is table row columns c.args.sought.now.key (shown.rows table shown.newest) c.args.near.now.own.now.changes c.args.near.now.new new c.args.index.now.entries c.in_ok-found.found st
    (c.in_ok-found.ensures columns (shown.rows table shown.newest) (subst (λ n. Tells shown c.args.index.now.number n columns (shown.rows table shown.newest)) (sym c.last.ensures.newest) tells) c.requires.long)
