use Rattle.std.proofs.Common.{◌-◌, ◌∙◌, List, None, refl, sym, arith, length, drop, ap, subst}
use Rattle.std.specs.Option.{option_copied}
use Rattle.std.specs.Prelude.{unwrap_or}
use Rattle.rv_value.specs.declared.record.IndexEntry.{IndexEntry}
use Rattle.rv_reader.specs.Entries.{AreLong, Ascend, run}
use Rattle.rv_node.specs.Children.{first_child, last_child}
use Rattle.rv_node.specs.Nodes.{empty_node}
use Rattle.rv_node.specs.Ranks.{is_long}
use Rattle.rv_node.proofs.Ranking.{ranked, ranked_at, ranked_leaf, ranked_lows}
use Rattle.rv_index.specs.Index.{level_at, nodes_at}
use Rattle.rv_index.proofs.Descents.{stored_kids}
use Rattle.rv_index.specs.Estimates.{exactly, guess}
use Rattle.rv_index.proofs.Steps.{estimate_down, estimate_split, estimate_leaf}
use Rattle.rv_index.proofs.descent.descend.Goals as goal

pub down-init : goal.down-init
down-init c =
    let at = nodes_at c.args.tree.now c.args.snap in
    rw c.level-level.ensures (record {
      stored = c.requires.sound.own.stored;
      ranked = ranked at (is_long c.args.range.now) (level_at at) 0 None None c.requires.sound.whole c.requires.sound.own.stored c.requires.long c.requires.long_cuts;
      same = refl;
    })

pub children_between-first-requires-clause-some : goal.children_between-first-requires-clause-some
children_between-first-requires-clause-some c =
    let at = nodes_at c.args.tree.now c.args.snap in
    let node_is = sym (ap (λ v. unwrap_or (option_copied v) empty_node) c.in-Some.is) ∙ c.node.ensures.node in
    let long = ap length (c.entries.ensures.same ∙ ap (λ x. x.entries) node_is) in
    let kids = stored_kids at c.down.level c.down.id c.down-test.true c.down.invariant.stored in
    omega (arith, long, kids.0, kids.1)

pub children_between-first-requires-clause-ascend : goal.children_between-first-requires-clause-ascend
children_between-first-requires-clause-ascend c =
    let at = nodes_at c.args.tree.now c.args.snap in
    let node_is = sym (ap (λ v. unwrap_or (option_copied v) empty_node) c.in-Some.is) ∙ c.node.ensures.node in
    subst (λ (es : List IndexEntry). Ascend (drop 1 es)) (sym (c.entries.ensures.same ∙ ap (λ x. x.entries) node_is)) (ranked_lows at (is_long c.args.range.now) c.down.level c.down.id c.down-test.true c.down.invariant.ranked).ascend

pub children_between-first-requires-clause-long : goal.children_between-first-requires-clause-long
children_between-first-requires-clause-long c =
    let at = nodes_at c.args.tree.now c.args.snap in
    let node_is = sym (ap (λ v. unwrap_or (option_copied v) empty_node) c.in-Some.is) ∙ c.node.ensures.node in
    subst (λ (es : List IndexEntry). AreLong c.args.range.now (drop 1 es)) (sym (c.entries.ensures.same ∙ ap (λ x. x.entries) node_is)) (ranked_lows at (is_long c.args.range.now) c.down.level c.down.id c.down-test.true c.down.invariant.ranked).all

pub counted-requires-clause-ascend : goal.counted-requires-clause-ascend
counted-requires-clause-ascend c =
    let at = nodes_at c.args.tree.now c.args.snap in
    let node_is = sym (ap (λ v. unwrap_or (option_copied v) empty_node) c.in-Some-node.is) ∙ c.node-2.ensures.node in
    subst Ascend (sym (c.entries-in-Some-node.ensures.same ∙ ap (λ x. x.entries) node_is)) (ranked_leaf at (is_long c.args.range.now) c.down.level c.down.id (omega arith) c.down.invariant.ranked).ascend

pub counted-requires-clause-long : goal.counted-requires-clause-long
counted-requires-clause-long c =
    let at = nodes_at c.args.tree.now c.args.snap in
    let node_is = sym (ap (λ v. unwrap_or (option_copied v) empty_node) c.in-Some-node.is) ∙ c.node-2.ensures.node in
    subst (AreLong c.args.range.now) (sym (c.entries-in-Some-node.ensures.same ∙ ap (λ x. x.entries) node_is)) (ranked_leaf at (is_long c.args.range.now) c.down.level c.down.id (omega arith) c.down.invariant.ranked).all

pub returns-then-first-last : goal.returns-then-first-last
returns-then-first-last c =
    let at = nodes_at c.args.tree.now c.args.snap in
    let range = c.args.range.now in
    let node_is = sym (ap (λ v. unwrap_or (option_copied v) empty_node) c.in-Some.is) ∙ c.node.ensures.node in
    let lows_are = c.entries.ensures.same ∙ ap (λ x. x.entries) node_is in
    let first_is = c.children_between-first.ensures.first ∙ ap (first_child range) lows_are in
    let last_is = c.children_between-first.ensures.last ∙ ap (last_child range) lows_are in
    c.spread.ensures ∙ (λ i. guess c.down.level (first_is i) (last_is i))
    ∙ sym (estimate_split at range c.down.level c.down.id c.down-test.true c.down.invariant.stored (λ eq. c.if-first-last.true (first_is ∙ eq ∙ sym last_is))) ∙ c.down.invariant.same

pub down-preserved : goal.down-preserved
down-preserved c =
    let at = nodes_at c.args.tree.now c.args.snap in
    let range = c.args.range.now in
    let node_is = sym (ap (λ v. unwrap_or (option_copied v) empty_node) c.in-Some.is) ∙ c.node.ensures.node in
    let kids_is = c.children.ensures.same ∙ ap (λ x. x.children) node_is in
    let first = c.children_between-first.result.0 in
    let lows_are = c.entries.ensures.same ∙ ap (λ x. x.entries) node_is in
    let first_is = c.children_between-first.ensures.first ∙ ap (first_child range) lows_are in
    let last_is = c.if-first-last.false ∙ c.children_between-first.ensures.last ∙ ap (last_child range) lows_are in
    let long = ap length lows_are in
    let beside = (stored_kids at c.down.level c.down.id c.down-test.true c.down.invariant.stored).0 in
    let step = estimate_down at range c.down.level (c.down.level - 1) c.down.id first (omega arith) c.down.invariant.stored first_is last_is
    (omega (arith, c.children_between-first.ensures.order, c.children_between-first.ensures.within, long, beside)) in
    let kid = ranked_at at (is_long range) c.down.level (c.down.level - 1) c.down.id first (omega arith) (omega (arith, c.children_between-first.ensures.order, c.children_between-first.ensures.within, long)) c.down.invariant.ranked in
    rw kids_is (record { stored = step.1; ranked = kid; same = sym step.0 ∙ c.down.invariant.same })

pub returns-in-Some-node : goal.returns-in-Some-node
returns-in-Some-node c =
    let at = nodes_at c.args.tree.now c.args.snap in
    let range = c.args.range.now in
    let node_is = sym (ap (λ v. unwrap_or (option_copied v) empty_node) c.in-Some-node.is) ∙ c.node-2.ensures.node in
    let leaf_is = c.entries-in-Some-node.ensures.same ∙ ap (λ x. x.entries) node_is in
    c.counted.ensures ∙ ap (λ es. exactly (length (run es range))) leaf_is
    ∙ sym (estimate_leaf at range c.down.level c.down.id (omega arith)) ∙ c.down.invariant.same

pub returns-in-None : goal.returns-in-None
returns-in-None c =
    let at = nodes_at c.args.tree.now c.args.snap in
    let range = c.args.range.now in
    let node_is = sym (ap (λ v. unwrap_or (option_copied v) empty_node) c.in-None.is) ∙ c.node-2.ensures.node in
    c.counted-in-None.ensures ∙ ap (λ x. exactly (length (run x.entries range))) node_is
    ∙ sym (estimate_leaf at range c.down.level c.down.id (omega arith)) ∙ c.down.invariant.same
