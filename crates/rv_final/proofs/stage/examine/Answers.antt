use Rattle.std.proofs.Common.{◌≡◌, IfSome, Option, subst, sym, true}
use Rattle.rv_value.specs.declared.record.Record.{Record}
use Rattle.rv_restrict.specs.Truth.{names_only, row_has}
use Rattle.rv_scan.proofs.Fetches.{found_columns}
use Rattle.rv_final.proofs.stage.examine.Goals as goal

pub kept-requires : goal.kept-requires
kept-requires g c =
    let rows = (g.R.Reader.shown c.args.reader.now).rows c.args.table c.args.snap in
    subst (λ (o : Option Record). IfSome o (λ (r : Record). names_only (row_has r.values) c.args.only.now ≡ true)) (sym c.in_ok-found.ensures.row) (found_columns c.args.only.now rows c.args.row.0 c.requires.columns)
