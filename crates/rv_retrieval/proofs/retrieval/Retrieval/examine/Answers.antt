use Rattle.std.proofs.Common.{◌≡◌, IfOk, subst}
use Rattle.rv_reader.specs.Tables.{row_at}
use Rattle.rv_scan.specs.Alongs.{looked}
use Rattle.rv_final.specs.Stage.{given_as}
use Rattle.rv_retrieval.specs.Shape.{Shape, rows_of}
use Rattle.rv_retrieval.proofs.retrieval.Retrieval.examine.Goals as goal

pub returns-clause-found : goal.returns-clause-found
returns-clause-found g c =
    let shown = g.R.Reader.shown c.args.reader.now in
    subst (λ (v : Shape). IfOk c.examine.result (λ found. given_as found ≡ looked v.query.only (row_at (rows_of v shown) c.args.row.0))) c.self.view_is c.examine.ensures.found
