use Rattle.std.proofs.Common.{rules, ◌≡◌}
use Rattle.rv_restrict.specs.Bind.{bound}
use Rattle.rv_restrict.proofs.Binds.{bound_names, bound_truth}
use Rattle.rv_restrict.proofs.truth.Restriction.bind.Goals as goal

pub returns-clause-law : goal.returns-clause-law
returns-clause-law c row = let is_bound : c.from_groups.result ≡ bound c.args.place c.args.outer.now c.args.self.now = search rules in rw is_bound (bound_truth c.args.place c.args.outer.now c.args.self.now row c.requires.rows)

pub returns-clause-names : goal.returns-clause-names
returns-clause-names c p named = let is_bound : c.from_groups.result ≡ bound c.args.place c.args.outer.now c.args.self.now = search rules in rw is_bound (bound_names c.args.place c.args.outer.now p c.args.self.now named)
