use Rattle.std.proofs.Common.{◌∙◌, sym}
use Rattle.rv_jscan.proofs.Works.{step_works, took_keys, took_way, works_fits, works_nearer}
use Rattle.rv_jscan.proofs.jscan.Jscan.step.Goals as goal

pub accept_held-requires-clause-way : goal.accept_held-requires-clause-way
accept_held-requires-clause-way g c = took_way c.args.self.now c.reach.new.self c.reach.ensures.leaves (sym c.is_under_way.ensures ∙ c.if-not-is_under_way.false)

pub accept_held-requires-clause-keys : goal.accept_held-requires-clause-keys
accept_held-requires-clause-keys g c = took_keys c.args.self.now c.reach.new.self (g.R.Reader.shown c.args.reader.now) c.reach.ensures.leaves (sym c.is_under_way.ensures ∙ c.if-not-is_under_way.false) c.requires.can c.reach.ensures.fits

pub returns-clause-works : goal.returns-clause-works
returns-clause-works g c more = step_works c.args.self.now c.reach.new.self c.accept_held.new.self (g.R.Reader.shown c.args.reader.now) (sym c.is_under_way.ensures ∙ c.if-not-is_under_way.false) c.reach.ensures.leaves c.in_ok-reach.ensures.some c.reach.ensures.fits c.in_ok-accept_held.ensures.ok

pub returns-clause-fits : goal.returns-clause-fits
returns-clause-fits g c =
    let shown = g.R.Reader.shown c.args.reader.now in
    works_fits c.args.self.now c.accept_held.new.self shown (step_works c.args.self.now c.reach.new.self c.accept_held.new.self shown (sym c.is_under_way.ensures ∙ c.if-not-is_under_way.false) c.reach.ensures.leaves c.in_ok-reach.ensures.some c.reach.ensures.fits c.in_ok-accept_held.ensures.ok)

pub returns-clause-nearer : goal.returns-clause-nearer
returns-clause-nearer g c more =
    let shown = g.R.Reader.shown c.args.reader.now in
    works_nearer c.args.self.now c.accept_held.new.self shown (step_works c.args.self.now c.reach.new.self c.accept_held.new.self shown (sym c.is_under_way.ensures ∙ c.if-not-is_under_way.false) c.reach.ensures.leaves c.in_ok-reach.ensures.some c.reach.ensures.fits c.in_ok-accept_held.ensures.ok)
