use Rattle.std.proofs.Common.{arith}
use Rattle.rv_restrict.specs.Branches.{group_at}
use Rattle.rv_choice.proofs.OfMembers.{group_members, group_serves, one_without, plain_serves_not, too_few}
use Rattle.rv_choice.proofs.uniting.members_of.Goals as goal

pub returns-then-is_plain-clause-none : goal.returns-then-is_plain-clause-none
returns-then-is_plain-clause-none g c = λ none. plain_serves_not c.args.query.now (g.R.Reader.shown c.args.reader.now) (group_at c.args.query.now.only c.args.group) (rw c.group.ensures at (c.is_plain.ensures c.if-is_plain.true))

pub returns-then-len-lt2-clause-none : goal.returns-then-len-lt2-clause-none
returns-then-len-lt2-clause-none g c = λ none. too_few c.args.query.now (g.R.Reader.shown c.args.reader.now) (group_at c.args.query.now.only c.args.group) c.in_ok-branches.branches.items c.in_ok-branches.ensures.branches (omega arith)

pub returns-then-all-clause-serves : goal.returns-then-all-clause-serves
returns-then-all-clause-serves g c =
    let are = group_members c.args.query.now (g.R.Reader.shown c.args.reader.now) (group_at c.args.query.now.only c.args.group) c.in_ok-branches.branches.items _ c.add_members.new.members.items c.in_ok-branches.ensures.branches c.new-found.ensures.items (rw (c.as_slice.ensures.value, c.if-all.true) at c.in_ok-all.ensures) in
    group_serves c.args.query.now (g.R.Reader.shown c.args.reader.now) (group_at c.args.query.now.only c.args.group) c.in_ok-branches.branches.items _ c.in_ok-branches.ensures.branches (omega arith) are

pub returns-then-all-clause-some : goal.returns-then-all-clause-some
returns-then-all-clause-some g c = group_members c.args.query.now (g.R.Reader.shown c.args.reader.now) (group_at c.args.query.now.only c.args.group) c.in_ok-branches.branches.items _ c.add_members.new.members.items c.in_ok-branches.ensures.branches c.new-found.ensures.items (rw (c.as_slice.ensures.value, c.if-all.true) at c.in_ok-all.ensures)

pub returns-clause-none : goal.returns-clause-none
returns-clause-none g c = λ none. one_without c.args.query.now (g.R.Reader.shown c.args.reader.now) (group_at c.args.query.now.only c.args.group) c.in_ok-branches.branches.items c.in_ok-branches.ensures.branches (rw (c.as_slice.ensures.value, c.if-all.false) at c.in_ok-all.ensures)
