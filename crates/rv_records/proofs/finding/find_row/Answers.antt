use Rattle.std.proofs.Common.{◌∙◌, ap, sym}
use Rattle.std.specs.Option.{option_copied}
use Rattle.rv_records.specs.Finding.{row_from}
use Rattle.rv_records.proofs.Searches.{first_is, found_in}
use Rattle.rv_records.proofs.finding.find_row.Goals as goal

pub returns-in-Some : goal.returns-in-Some
returns-in-Some c = sym (found_in c.args.row.0 _ c.args.rows.now c.in-Some.found.now c.requires (sym c.row_in.ensures ∙ ap option_copied c.in-Some.is))

pub returns-in-None : goal.returns-in-None
returns-in-None c = c.row_in-in-None.ensures ∙ ap (row_from c.args.row.0) c.rows_below.ensures.behind ∙ first_is c.args.row.0 c.args.rows.now c.requires
