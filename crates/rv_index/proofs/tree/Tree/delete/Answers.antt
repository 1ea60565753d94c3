use Rattle.std.proofs.Common.{length, None}
use Rattle.std.proofs.lemmas.Result.{on_ok_weaker}
use Rattle.rv_node.specs.Ranks.{any}
use Rattle.rv_node.proofs.Parted.{all_any}
use Rattle.rv_node.proofs.Ranking.{ranked}
use Rattle.rv_index.specs.Index.{cuts_of, entries_of, level_at, nodes_at}
use Rattle.rv_index.proofs.Rooting.{deleted_by, deleted_is}
use Rattle.rv_index.proofs.tree.Tree.delete.Goals as goal

pub returns-clause-ok : goal.returns-clause-ok
returns-clause-ok c =
    let at = nodes_at c.args.self.now c.args.commit in let at' = nodes_at c.shrink.new.self c.args.commit in
    on_ok_weaker c.shrink.result (λ shrunk. deleted_is c.args.commit c.args.entry.now c.args.self.now c.shrink.new.self c.requires.sound
    (deleted_by (length c.args.self.now) (length c.shrink.new.self) c.level-level.result c.args.entry.now at at' c.level-level.ensures c.requires.sound shrunk)) c.shrink.ensures.ok

pub shrink-requires-clause-ranked : goal.shrink-requires-clause-ranked
shrink-requires-clause-ranked c =
    let at = nodes_at c.args.self.now c.args.commit in
    rw c.level-level.ensures (ranked at any (level_at at) 0 None None c.requires.sound.whole c.requires.sound.own.stored (all_any (entries_of c.args.self.now c.args.commit)) (all_any (cuts_of c.args.self.now c.args.commit)))
