use Rattle.std.proofs.Common.{rules}
use Rattle.rv_turn.proofs.tests.in_threads.Goals as goal

pub map_vec-requires-send-J : goal.map_vec-requires-send-J
unfolding types.Keyed.entry denote.Memory.part_of
map_vec-requires-send-J g c κs within = search rules depth 20

pub map_vec-requires-send-X : goal.map_vec-requires-send-X
unfolding types.Keyed.entry denote.Memory.part_of
map_vec-requires-send-X g c κs within = search rules depth 20
