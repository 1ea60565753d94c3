use Rattle.std.proofs.Common.{◌≡◌, ◌+◌, ◌<◌, ◌≤◌, ◌^◌, arith, length}
use Rattle.std.proofs.lemmas.List.Sorted.{length_permutation}
use Rattle.rv_keyset.proofs.Lists.{apart_moved, moved_behind}
use Rattle.rv_union.proofs.joining.add_lane.Goals as goal

pub add-requires-clause-enough : goal.add-requires-clause-enough
add-requires-clause-enough c =
    let same = length_permutation c.args.lane.building c.into_list-list.result.keys c.into_list-list.ensures.keys in
    let enough = c.requires.enough in
    omega arith

pub add-requires-clause-small : goal.add-requires-clause-small
add-requires-clause-small c =
    let same = length_permutation c.args.lane.building c.into_list-list.result.keys c.into_list-list.ensures.keys in
    let small = c.requires.small in
    omega arith

pub add-requires-clause-apart : goal.add-requires-clause-apart
add-requires-clause-apart c = apart_moved c.args.keys.now.keys c.args.lane.building c.into_list-list.result.keys c.requires.apart c.into_list-list.ensures.keys

pub returns-clause-built : goal.returns-clause-built
returns-clause-built c = moved_behind c.args.keys.now.keys c.args.lane.building c.into_list-list.result.keys c.add.new.self.keys c.into_list-list.ensures.keys c.add.ensures.keys
