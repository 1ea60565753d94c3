use Rattle.std.proofs.Common.{◌≡◌, rules}
use Rattle.rv_restrict.specs.Branches.{branches_of, group_at}
use Rattle.rv_restrict.specs.Truth.{row_reads}
use Rattle.rv_restrict.proofs.Branches.{branch_names, some_branch}
use Rattle.rv_restrict.proofs.truth.Restriction.branches.Goals as goal

pub returns-clause-law : goal.returns-clause-law
returns-clause-law c row = let are : c.add_branches.new.found.items ≡ branches_of (group_at c.args.self.now c.args.group) = search rules in rw are (some_branch (row_reads row) (group_at c.args.self.now c.args.group))

pub returns-clause-names : goal.returns-clause-names
returns-clause-names c p named = let are : c.add_branches.new.found.items ≡ branches_of (group_at c.args.self.now c.args.group) = search rules in rw are (branch_names p (group_at c.args.self.now c.args.group) named)
