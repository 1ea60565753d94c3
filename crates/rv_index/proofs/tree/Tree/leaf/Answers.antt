use Rattle.std.proofs.Common.{◌-◌, ◌∙◌, None, refl, sym, arith, ap, subst}
use Rattle.std.specs.Option.{option_copied}
use Rattle.std.specs.Prelude.{unwrap_or}
use Rattle.rv_reader.specs.Leaves.{is_passed}
use Rattle.rv_node.specs.Nodes.{empty_node}
use Rattle.rv_node.specs.Ranks.{Ranks, is_long}
use Rattle.rv_node.proofs.Ranking.{ranked, ranked_kid, ranked_leaf, ranked_lows}
use Rattle.rv_index.specs.Index.{level_at, nodes_at}
use Rattle.rv_index.proofs.Descents.{leaf_step, leaf_end}
use Rattle.rv_index.proofs.tree.Tree.leaf.Goals as goal

pub down-init : goal.down-init
down-init c =
    let at = nodes_at c.args.self.now c.args.snap in
    rw c.level-level.ensures (record {
      stored = c.requires.sound.own.stored;
      ranked = ranked at (is_long c.args.range.now) (level_at at) 0 None None c.requires.sound.whole c.requires.sound.own.stored c.requires.long c.requires.long_cuts;
      same = refl;
    })

pub child_of-kid-requires-clause-ascend : goal.child_of-kid-requires-clause-ascend
child_of-kid-requires-clause-ascend c =
    let at = nodes_at c.args.self.now c.args.snap in
    let node_is = ap (λ v. unwrap_or v empty_node) (sym c.read.ensures ∙ ap option_copied c.in-Some.is) in
    rw (← node_is, c.self.view_is) (ranked_lows at (is_long c.args.range.now) c.down.level c.down.id c.down-test.true c.down.invariant.ranked).ascend

pub child_of-kid-requires-clause-long : goal.child_of-kid-requires-clause-long
child_of-kid-requires-clause-long c =
    let at = nodes_at c.args.self.now c.args.snap in
    let node_is = ap (λ v. unwrap_or v empty_node) (sym c.read.ensures ∙ ap option_copied c.in-Some.is) in
    rw (← node_is, c.self.view_is) (ranked_lows at (is_long c.args.range.now) c.down.level c.down.id c.down-test.true c.down.invariant.ranked).all

pub down-preserved : goal.down-preserved
down-preserved c =
    let at = nodes_at c.args.self.now c.args.snap in
    let node_is = ap (λ v. unwrap_or v empty_node) (sym c.read.ensures ∙ ap option_copied c.in-Some.is) in
    let goes = is_passed (option_copied c.args.from) c.args.range.now in
    let step = leaf_step at goes c.down.level (c.down.level - 1) c.down.id (option_copied c.down.next) (omega arith) c.down.invariant.stored in
    let kid = ranked_kid at (is_long c.args.range.now) goes c.down.level (c.down.level - 1) c.down.id (option_copied c.down.next) (omega arith) c.down.invariant.stored c.down.invariant.ranked in
    let kid_is = ap (λ p. p.0) c.child_of-kid.ensures in
    let cut_is = ap (λ p. p.1) c.child_of-kid.ensures in
    rw (kid_is, cut_is, ← node_is, c.self.view_is) (record { stored = step.1; ranked = kid; same = sym step.0 ∙ c.down.invariant.same })

pub returns-clause-leaf : goal.returns-clause-leaf
returns-clause-leaf c =
    let at = nodes_at c.args.self.now c.args.snap in
    let node_is = ap (λ v. (unwrap_or v empty_node).entries) (sym c.read-2.ensures) in
    let here = leaf_end at (is_passed (option_copied c.args.from) c.args.range.now) c.down.level c.down.id (option_copied c.down.next) (omega arith) ∙ c.down.invariant.same in
    ap (λ es. (es, option_copied c.down.next)) (sym (rw c.self.view_is at node_is)) ∙ here

pub returns-clause-ranks : goal.returns-clause-ranks
returns-clause-ranks c =
    let at = nodes_at c.args.self.now c.args.snap in
    let node_is = ap (λ v. (unwrap_or v empty_node).entries) (sym c.read-2.ensures) in
    subst (Ranks (is_long c.args.range.now)) (rw c.self.view_is at node_is) (ranked_leaf at (is_long c.args.range.now) c.down.level c.down.id (omega arith) c.down.invariant.ranked)
