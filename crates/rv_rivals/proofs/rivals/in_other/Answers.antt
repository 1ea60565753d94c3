use Rattle.std.proofs.Common.{subst, sym}
use Rattle.rv_reader.specs.Shown.{Suits}
use Rattle.rv_rows.specs.Changes.{rows_with_changes}
use Rattle.rv_view.specs.Sights.{laid_over}
use Rattle.rv_rivals.proofs.Finding.{suits}
use Rattle.rv_rivals.proofs.Places.{in_other_is}
use Rattle.rv_rivals.proofs.Telling.{lays, store_tells, view_tells}
use Rattle.rv_rivals.proofs.rivals.in_other.Goals as goal

pub lowest_seen-requires-clause-lays : goal.lowest_seen-requires-clause-lays
lowest_seen-requires-clause-lays g c = lays (g.S.Reader.shown c.args.store.now) c.args.other.now.transaction.now c.args.other.now.view c.requires.stored c.requires.other.freezes

pub lowest_seen-requires-clause-can : goal.lowest_seen-requires-clause-can
lowest_seen-requires-clause-can g c =
    (view_tells (g.S.Reader.shown c.args.store.now) c.args.other.now.transaction.now c.args.other.now.view c.args.table c.args.index.now.number c.args.index.now.columns.now c.requires.stored c.requires.index c.requires.other.at c.requires.other.freezes).can

pub lowest_seen-requires-clause-suits : goal.lowest_seen-requires-clause-suits
lowest_seen-requires-clause-suits g c =
    let t = c.args.other.now.transaction.now in
    let shown = g.S.Reader.shown c.args.store.now in
    subst (Suits (laid_over shown c.args.other.now.view) c.args.index.now.number t.base) (sym c.requires.range) (suits (laid_over shown c.args.other.now.view) c.args.index.now.number t.base c.args.index.now.columns.now (rows_with_changes c.args.table t.changes (shown.rows c.args.table t.base)) c.args.sought.now.key
    (view_tells shown t c.args.other.now.view c.args.table c.args.index.now.number c.args.index.now.columns.now c.requires.stored c.requires.index c.requires.other.at c.requires.other.freezes) c.requires.long)

pub returns : goal.returns
returns g c =
    let t = c.args.other.now.transaction.now in
    let shown = g.S.Reader.shown c.args.store.now in
    let columns = c.args.index.now.columns.now in
    let base = shown.rows c.args.table t.base in
    let tells = view_tells shown t c.args.other.now.view c.args.table c.args.index.now.number columns c.requires.stored c.requires.index c.requires.other.at c.requires.other.freezes in
    in_other_is shown t c.args.other.now.view c.args.table c.args.row.0 columns c.args.sought.now.key base c.in_ok-found.found
    (store_tells shown c.args.table c.args.index.now.number t.base columns c.requires.stored c.requires.index c.requires.other.at).ascend c.requires.other.freezes
    (c.in_ok-found.ensures columns (rows_with_changes c.args.table t.changes base) tells c.requires.long)
