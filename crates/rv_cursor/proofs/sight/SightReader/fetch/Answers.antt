use Rattle.std.proofs.Common.{◌≡◌, IfOk, List, subst}
use Rattle.rv_value.specs.declared.record.Record.{Record}
use Rattle.rv_reader.specs.Tables.{row_at}
use Rattle.rv_cursor.proofs.Seeing.{plain_reads, plain_rows}
use Rattle.rv_cursor.proofs.sight.SightReader.fetch.Goals as goal

pub fetch-requires : goal.fetch-requires
fetch-requires g c = plain_reads (g.R.Reader.shown c.args.self.now.at.reader.now) c.args.self.now.at.snap c.args.self.now.view.now c.args.table c.args.snap c.in-None.is c.requires

pub returns-in-None-clause-row : goal.returns-in-None-clause-row
returns-in-None-clause-row g c = subst (λ (rows : List Record). IfOk c.fetch.result (λ found. found ≡ row_at rows c.args.row.0)) (plain_rows (g.R.Reader.shown c.args.self.now.at.reader.now) c.args.self.now.at.snap c.args.self.now.view.now c.args.table c.args.snap c.in-None.is c.requires) c.fetch.ensures.row
