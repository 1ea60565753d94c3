use Rattle.std.proofs.lemmas.Result.{err_from_is_err_and}
use Rattle.rv_final.proofs.Shells.{table_stepped, table_wanting}
use Rattle.rv_final.proofs.shell.Shell.table_step.Goals as goal

pub returns : goal.returns
returns g c list = table_stepped c.args.table c.args.snap c.args.only.now list (g.R.Reader.shown c.args.reader.now) c.args.steps.now c.scan_table.new.steps c.in_ok-scanned.scanned c.args.self.now c.scan_table.new.self c.end_by.new.self c.requires.control c.scan_table.ensures.same c.end_by.ensures c.requires.ascend c.scan_table.ensures.last c.in_ok-scanned.ensures.marks c.in_ok-scanned.ensures.reads c.in_ok-scanned.ensures.turns c.scan_table.ensures.may_read c.scan_table.ensures.tries c.in_ok-scanned.ensures.falls

pub returns-in_err-scanned : goal.returns-in_err-scanned
returns-in_err-scanned g c list =
    let p = err_from_is_err_and c.from_residual.result c.from_residual.ensures.1 in
    rw p.1 (table_wanting p.0 c.args.table c.args.snap c.args.only.now list (g.R.Reader.shown c.args.reader.now) c.args.steps.now c.scan_table.new.steps c.args.self.now c.scan_table.new.self c.requires.control c.in_err-scanned.ensures.err c.requires.last c.scan_table.ensures.may_read c.scan_table.ensures.tries)
