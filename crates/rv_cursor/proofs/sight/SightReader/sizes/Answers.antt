use Rattle.std.proofs.Common.{◌∙◌, List, ap, length, subst, ℕ}
use Rattle.rv_value.specs.declared.record.Record.{Record}
use Rattle.rv_reader.specs.Tables.{IsTable}
use Rattle.rv_view.specs.Alone.{alone}
use Rattle.rv_view.specs.Sights.{laid_over}
use Rattle.rv_cursor.proofs.Seeing.{plain_pages, plain_reads, plain_rows}
use Rattle.rv_cursor.proofs.sight.SightReader.sizes.Goals as goal

pub sizes-requires : goal.sizes-requires
sizes-requires g c = plain_reads (g.R.Reader.shown c.args.self.now.at.reader.now) c.args.self.now.at.snap c.args.self.now.view.now c.args.table c.args.snap c.in-None.is c.requires

pub returns-in-None-clause-pages : goal.returns-in-None-clause-pages
returns-in-None-clause-pages g c = c.sizes.ensures.pages ∙ plain_pages (g.R.Reader.shown c.args.self.now.at.reader.now) c.args.self.now.at.snap c.args.self.now.view.now c.args.table c.args.snap c.in-None.is c.requires

pub returns-in-None-clause-rows : goal.returns-in-None-clause-rows
returns-in-None-clause-rows g c = c.sizes.ensures.rows ∙ ap length (plain_rows (g.R.Reader.shown c.args.self.now.at.reader.now) c.args.self.now.at.snap c.args.self.now.view.now c.args.table c.args.snap c.in-None.is c.requires)

pub returns-in-None-clause-table : goal.returns-in-None-clause-table
returns-in-None-clause-table g c =
    let shown = g.R.Reader.shown c.args.self.now.at.reader.now in
    let laid = laid_over (alone (g.R.Reader.shown c.args.self.now.at.reader.now) c.args.self.now.at.snap) c.args.self.now.view.now in
    let rows = subst (λ (rows : List Record). IsTable rows (shown.pages c.args.table c.args.snap)) (plain_rows (g.R.Reader.shown c.args.self.now.at.reader.now) c.args.self.now.at.snap c.args.self.now.view.now c.args.table c.args.snap c.in-None.is c.requires) c.sizes.ensures.table in
    subst (λ (pages : ℕ). IsTable (laid.rows c.args.table c.args.snap) pages) (plain_pages (g.R.Reader.shown c.args.self.now.at.reader.now) c.args.self.now.at.snap c.args.self.now.view.now c.args.table c.args.snap c.in-None.is c.requires) rows
