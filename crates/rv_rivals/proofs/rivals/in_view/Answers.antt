use Rattle.std.proofs.Common.{[], subst, sym}
use Rattle.rv_reader.proofs.Rows.{applied_ascends}
use Rattle.rv_reader.specs.Shown.{Suits}
use Rattle.rv_rows.specs.Changes.{rows_with_changes}
use Rattle.rv_view.specs.Sights.{laid_over}
use Rattle.rv_model.specs.Rivals.{rows_written}
use Rattle.rv_rivals.proofs.Finding.{suits}
use Rattle.rv_rivals.proofs.Places.{are_entries, in_view_is}
use Rattle.rv_rivals.proofs.Telling.{lays, store_tells, view_tells}
use Rattle.rv_rivals.proofs.rivals.in_view.Goals as goal

pub lowest_seen-requires-clause-lays : goal.lowest_seen-requires-clause-lays
lowest_seen-requires-clause-lays g c = lays (g.S.Reader.shown c.args.store.now) c.args.near.now.own.now c.args.near.now.view c.requires.can.stored c.requires.can.freezes

pub lowest_seen-requires-clause-can : goal.lowest_seen-requires-clause-can
lowest_seen-requires-clause-can g c =
    let can = c.requires.can in
    (view_tells (g.S.Reader.shown c.args.store.now) c.args.near.now.own.now c.args.near.now.view c.args.near.now.table c.args.index.now.number c.args.index.now.columns.now can.stored can.index can.at can.freezes).can

pub lowest_seen-requires-clause-suits : goal.lowest_seen-requires-clause-suits
lowest_seen-requires-clause-suits g c =
    let can = c.requires.can in
    let own = c.args.near.now.own.now in
    let shown = g.S.Reader.shown c.args.store.now in
    subst (Suits (laid_over shown c.args.near.now.view) c.args.index.now.number own.base) (sym c.requires.range) (suits (laid_over shown c.args.near.now.view) c.args.index.now.number own.base c.args.index.now.columns.now (rows_with_changes c.args.near.now.table own.changes (shown.rows c.args.near.now.table own.base)) c.args.sought.now.key
    (view_tells shown own c.args.near.now.view c.args.near.now.table c.args.index.now.number c.args.index.now.columns.now can.stored can.index can.at can.freezes) c.requires.long)

pub other_with-requires-clause-are : goal.other_with-requires-clause-are
other_with-requires-clause-are g c = are_entries c.args.index.now.columns.now c.args.sought.now.key c.args.index.now.entries c.requires.can.rows c.requires.long

pub returns : goal.returns
returns g c new st =
    let can = c.requires.can in
    let own = c.args.near.now.own.now in
    let shown = g.S.Reader.shown c.args.store.now in
    let table = c.args.near.now.table in
    let columns = c.args.index.now.columns.now in
    let base = shown.rows table own.base in
    let tells = view_tells shown own c.args.near.now.view table c.args.index.now.number columns can.stored can.index can.at can.freezes in
    in_view_is shown own c.args.near.now.view table c.args.row.0 columns c.args.sought.now.key base c.args.near.now.new new c.args.index.now.entries c.in_ok-found.found c.in_ok-other.other c.lower_row.result
    (store_tells shown table c.args.index.now.number own.base columns can.stored can.index can.at).ascend can.freezes st
    (c.in_ok-found.ensures columns (rows_with_changes table own.changes base) tells c.requires.long)
    (c.in_ok-other.ensures columns (rows_written table new) (applied_ascends table new [] tt) st.told c.requires.long)
    c.lower_row.ensures
