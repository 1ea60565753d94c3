use Rattle.std.proofs.Common.{◌≡◌, None, arith, subst, sym}
use Rattle.rv_jscan.specs.Joint.{Joint, JointFits, no_counts}
use Rattle.rv_jscan.specs.Steps.{begun, eight}
use Rattle.rv_jscan.proofs.Fits.{begun_fits}
use Rattle.rv_jscan.proofs.jscan.Jscan.renew.Goals as goal

pub invariant_of-self : goal.invariant_of-self
invariant_of-self c = record { few = c.requires; within = omega arith; list_finished = tt }

pub returns-clause-begun : goal.returns-clause-begun
returns-clause-begun c = λ k. record { table = c.args.table; snap = c.args.snap; cursor = c.args.cursor; opening = c.args.opening; plans = c.args.scans.items; counts = eight no_counts; ended = 0; number = 1; place = (c.renew.ensures k).place; held = (c.renew.ensures k).held; building = (c.renew.ensures k).building; list = None }

pub returns-clause-fits : goal.returns-clause-fits
returns-clause-fits c shown apart =
    let now : Joint = record { table = c.args.table; snap = c.args.snap; cursor = c.args.cursor; opening = c.args.opening; plans = c.args.scans.items; counts = eight no_counts; ended = 0; number = 1; place = c.renew.new.self.place; held = c.renew.new.self.held; building = c.renew.new.self.building; list = None } in
    let is : now ≡ begun c.args.table c.args.snap c.args.scans.items c.args.cursor c.args.opening = λ k. record { table = c.args.table; snap = c.args.snap; cursor = c.args.cursor; opening = c.args.opening; plans = c.args.scans.items; counts = eight no_counts; ended = 0; number = 1; place = (c.renew.ensures k).place; held = (c.renew.ensures k).held; building = (c.renew.ensures k).building; list = None } in
    subst (λ (j : Joint). JointFits j shown) (sym is) (begun_fits c.args.table c.args.snap c.args.scans.items c.args.cursor c.args.opening shown c.requires apart)
