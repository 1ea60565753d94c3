use Rattle.std.proofs.Common.{ℕ, length, None, Option, subst}
use Rattle.std.proofs.lemmas.Result.{on_ok_weaker}
use Rattle.rv_value.specs.declared.record.IndexEntry.{IndexEntry}
use Rattle.rv_reader.specs.Entries.{comes_before}
use Rattle.rv_node.specs.Trees.{grow}
use Rattle.rv_node.specs.Ranks.{any}
use Rattle.rv_node.proofs.Parted.{all_any}
use Rattle.rv_node.proofs.Ranking.{ranked}
use Rattle.rv_index.specs.Index.{cuts_of, entries_of, level_at, nodes_at}
use Rattle.rv_index.specs.Steps.{IsGrown}
use Rattle.rv_index.proofs.Rooting.{inserted_is, inserted_none, inserted_some}
use Rattle.rv_index.proofs.tree.Tree.insert.Goals as goal

pub returns-in-None-clause-ok : goal.returns-in-None-clause-ok
returns-in-None-clause-ok c =
    let at = nodes_at c.args.self.now c.args.commit in let at' = nodes_at c.grow.new.self c.args.commit in
    inserted_is c.args.commit c.args.entry c.args.self.now c.grow.new.self c.requires.sound c.requires.absent
    (inserted_none (length c.args.self.now) (length c.grow.new.self) c.level-level.result c.args.entry at at' c.level-level.ensures c.requires.sound
    (subst (λ (r : Option (IndexEntry × ℕ)). IsGrown (length c.args.self.now) (length c.grow.new.self) c.level-level.result 0 (grow c.level-level.result comes_before c.args.entry) r at at') c.in-None.is c.in_ok-grow.ensures.ok))

pub returns-in-Some-clause-ok : goal.returns-in-Some-clause-ok
returns-in-Some-clause-ok c =
    let at = nodes_at c.args.self.now c.args.commit in let at' = nodes_at c.grow.new.self c.args.commit in let at2 = nodes_at c.raise.new.self c.args.commit in
    on_ok_weaker c.raise.result (λ raised. inserted_is c.args.commit c.args.entry c.args.self.now c.raise.new.self c.requires.sound c.requires.absent
    (inserted_some (length c.args.self.now) (length c.grow.new.self) (length c.raise.new.self) c.level-level.result c.args.entry c.in-Some.cut c.in-Some.right at at' at2 c.level-level.ensures c.requires.sound
    (subst (λ (r : Option (IndexEntry × ℕ)). IsGrown (length c.args.self.now) (length c.grow.new.self) c.level-level.result 0 (grow c.level-level.result comes_before c.args.entry) r at at') c.in-Some.is c.in_ok-grow.ensures.ok) raised)) c.raise.ensures.ok

pub grow-requires-clause-ranked : goal.grow-requires-clause-ranked
grow-requires-clause-ranked c =
    let at = nodes_at c.args.self.now c.args.commit in
    rw c.level-level.ensures (ranked at any (level_at at) 0 None None c.requires.sound.whole c.requires.sound.own.stored (all_any (entries_of c.args.self.now c.args.commit)) (all_any (cuts_of c.args.self.now c.args.commit)))
