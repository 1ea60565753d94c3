use Rattle.std.proofs.Common.{◌∙◌, ap}
use Rattle.rv_retrieval.specs.Shape.{Shape}
use Rattle.rv_retrieval.proofs.AtOnce.{all_fits, all_rest, all_scanned, runs_out}
use Rattle.rv_retrieval.proofs.Openings.{at_once_less, at_once_spends, at_once_tried}
use Rattle.rv_retrieval.proofs.Shorts.{most_keys, over_few, over_settled}
use Rattle.rv_retrieval.proofs.Wholes.{first_over}
use Rattle.rv_retrieval.proofs.retrieval.Retrieval.scan_at_once.Goals as goal

pub returns-clause-scanned : goal.returns-clause-scanned
returns-clause-scanned g c = all_scanned c.args.self.now c.scan_all.new.self c.scan_ended.new.self c.scan_all.ensures.same c.scan_all.ensures.scans c.scan_ended.ensures.aside

pub returns-clause-fits : goal.returns-clause-fits
returns-clause-fits g c = c.scan_ended.ensures.keeps.fits (g.R.Reader.shown c.args.reader.now) (all_fits c.args.self.now c.scan_all.new.self (g.R.Reader.shown c.args.reader.now) c.scan_all.ensures.same c.scan_all.ensures.scans c.requires.back c.scan_all.ensures.fits c.requires.fits)

pub returns-clause-rest : goal.returns-clause-rest
returns-clause-rest g c =
    let shown = g.R.Reader.shown c.args.reader.now in
    c.scan_ended.ensures.keeps.rest shown (all_fits c.args.self.now c.scan_all.new.self shown c.scan_all.ensures.same c.scan_all.ensures.scans c.requires.back c.scan_all.ensures.fits c.requires.fits) ∙ all_rest c.args.self.now c.scan_all.new.self shown c.scan_all.ensures.same c.requires.back

pub returns-clause-runs : goal.returns-clause-runs
returns-clause-runs g c = runs_out c.args.self.now c.scan_all.new.self c.scan_ended.new.self c.scan_all.ensures.same c.requires.way c.in_ok-scan_all.ensures.done c.scan_all.ensures.lists c.scan_all.ensures.scans c.scan_ended.ensures.over

pub returns-clause-spends : goal.returns-clause-spends
returns-clause-spends g c z = at_once_spends c.args.self.now c.scan_all.new.self c.scan_ended.new.self (g.R.Reader.shown c.args.reader.now) c.args.steps.now c.scan_all.new.steps c.requires.back z c.scan_all.ensures.same c.scan_ended.ensures.over c.in_ok-scan_all.ensures.spends

pub returns-clause-less : goal.returns-clause-less
returns-clause-less g c z = at_once_less c.args.self.now c.scan_all.new.self c.scan_ended.new.self (g.R.Reader.shown c.args.reader.now) c.requires.back z c.scan_all.ensures.same c.scan_ended.ensures.over c.scan_all.ensures.less

pub returns-clause-settled : goal.returns-clause-settled
returns-clause-settled g c a none = over_settled c.args.self.now c.scan_all.new.self c.scan_ended.new.self c.requires.back a none c.scan_all.ensures.same c.scan_all.ensures.scans c.scan_all.ensures.lists c.in_ok-scan_all.ensures.done c.scan_ended.ensures.over

pub returns-clause-few : goal.returns-clause-few
returns-clause-few g c a none few =
    let shown = g.R.Reader.shown c.args.reader.now in
    let settled = over_settled c.args.self.now c.scan_all.new.self c.scan_ended.new.self c.requires.back a none c.scan_all.ensures.same c.scan_all.ensures.scans c.scan_all.ensures.lists c.in_ok-scan_all.ensures.done c.scan_ended.ensures.over in
    let fits = c.scan_ended.ensures.keeps.fits shown (all_fits c.args.self.now c.scan_all.new.self shown c.scan_all.ensures.same c.scan_all.ensures.scans c.requires.back c.scan_all.ensures.fits c.requires.fits) in
    over_few c.args.self.now c.scan_all.new.self c.scan_ended.new.self shown c.requires.back a none c.scan_all.ensures.scans c.scan_all.ensures.lists c.in_ok-scan_all.ensures.done c.scan_ended.ensures.over settled fits (most_keys _ _ c.scan_all.ensures.keys few)

pub returns-clause-tried : goal.returns-clause-tried
returns-clause-tried g c z = at_once_tried c.args.self.now (g.R.Reader.shown c.args.reader.now) c.args.steps.now c.scan_all.new.steps c.requires.back z c.scan_all.ensures.tried

pub returns-clause-completes : goal.returns-clause-completes
returns-clause-completes g c few none = first_over (g.R.Reader.shown c.args.reader.now) c.args.self.now.joint c.scan_all.new.self.joint c.scan_ended.new.self.joint c.requires.way c.in_ok-scan_all.ensures.done (c.scan_all.ensures.first few none) (ap (λ (x : Shape). x.joint) c.scan_ended.ensures.aside)
