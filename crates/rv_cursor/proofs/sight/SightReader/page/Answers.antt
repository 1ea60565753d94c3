use Rattle.std.proofs.Common.{◌≡◌, IfOk, List, subst}
use Rattle.rv_value.specs.declared.record.Record.{Record}
use Rattle.rv_reader.specs.Tables.{page_of}
use Rattle.rv_cursor.proofs.Seeing.{plain_reads, plain_rows}
use Rattle.rv_cursor.proofs.sight.SightReader.page.Goals as goal

pub page-requires : goal.page-requires
page-requires g c = plain_reads (g.R.Reader.shown c.args.self.now.at.reader.now) c.args.self.now.at.snap c.args.self.now.view.now c.args.table c.args.snap c.in-None.is c.requires

pub returns-in-None-clause-rows : goal.returns-in-None-clause-rows
returns-in-None-clause-rows g c = subst (λ (rows : List Record). IfOk c.page.result (λ page. page.items ≡ page_of rows c.args.n)) (plain_rows (g.R.Reader.shown c.args.self.now.at.reader.now) c.args.self.now.at.snap c.args.self.now.view.now c.args.table c.args.snap c.in-None.is c.requires) c.page.ensures.rows
