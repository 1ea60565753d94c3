use Rattle.std.proofs.Common.{arith}
use Rattle.rv_loading.specs.Laid.{over_at}
use Rattle.rv_loading.proofs.Fitting.{are_columns}
use Rattle.rv_loading.proofs.Laying.{fits_columns}
use Rattle.rv_loading.proofs.load.make_index.Goals as goal

pub create_index-requires-clause-there : goal.create_index-requires-clause-there
create_index-requires-clause-there g c =
    let tables = c.requires.laid.counts.tables in
    let table = c.table_of-table.ensures in
    let low = c.requires.can.table in
    omega arith

pub create_index-requires-clause-columns : goal.create_index-requires-clause-columns
create_index-requires-clause-columns g c =
    let schema = c.args.schema.now in
    let over = over_at schema.indexes c.args.layout.indexes in
    let can = c.requires.can in
    rw (c.table_of-table.ensures, c.columns_of-columns.ensures) (fits_columns schema c.args.layout (g.S.Reader.shown c.args.store.now) over.table over.columns c.requires.laid can.table (are_columns schema.width over.columns can.some can.few can.fits))

pub returns-clause-ok : goal.returns-clause-ok
returns-clause-ok g c = rw (c.table_of-table.ensures, c.columns_of-columns.ensures) at c.create_index.ensures.ok
