use Rattle.std.proofs.lemmas.Result.{err_from_is_err_and}
use Rattle.std.specs.Option.{option_copied}
use Rattle.rv_jscan.specs.Joint.{keys_of}
use Rattle.rv_final.proofs.Shells.{list_stepped, list_wanting}
use Rattle.rv_final.proofs.shell.Shell.list_step.Goals as goal

pub returns : goal.returns
returns g c = list_stepped c.args.table c.args.snap c.args.only.now (keys_of (option_copied c.args.list)) (g.R.Reader.shown c.args.reader.now) c.args.steps.now c.scan_list.new.steps c.in_ok-scanned.scanned c.args.self.now c.scan_list.new.self c.end_by.new.self c.requires.control c.scan_list.ensures.same c.end_by.ensures c.requires.ascend c.requires.last c.in_ok-scanned.ensures.marks c.in_ok-scanned.ensures.fetches c.scan_list.ensures.may_read c.scan_list.ensures.tries c.in_ok-scanned.ensures.falls

pub returns-in_err-scanned : goal.returns-in_err-scanned
returns-in_err-scanned g c =
    let p = err_from_is_err_and c.from_residual.result c.from_residual.ensures.1 in
    rw p.1 (list_wanting p.0 c.args.table c.args.snap c.args.only.now (keys_of (option_copied c.args.list)) (g.R.Reader.shown c.args.reader.now) c.args.steps.now c.scan_list.new.steps c.args.self.now c.scan_list.new.self c.requires.control c.scan_list.ensures.same c.requires.last c.in_err-scanned.ensures.passed c.scan_list.ensures.may_read c.scan_list.ensures.tries)
