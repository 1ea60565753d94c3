use Rattle.rv_jscan.proofs.Fits.{accepts_fits}
use Rattle.rv_jscan.proofs.Leaves.{accepts_nearer}
use Rattle.rv_jscan.proofs.jscan.Jscan.give.Goals as goal

pub returns-clause-fits : goal.returns-clause-fits
returns-clause-fits c shown f = accepts_fits c.args.self.now c.accept.new.self c.args.sieved shown (c.awaits.ensures.0 c.if-not-awaits.false) c.in_ok-accept.ensures.ok f

pub returns-clause-nearer : goal.returns-clause-nearer
returns-clause-nearer c shown f = accepts_nearer c.args.self.now c.accept.new.self c.args.sieved shown (c.awaits.ensures.0 c.if-not-awaits.false) c.in_ok-accept.ensures.ok f
