use Rattle.std.proofs.Common.{◌≡◌, arith, length, sym, subst, get_or}
use Rattle.rv_node.specs.Nodes.{Parts}
use Rattle.rv_index.specs.Index.{nodes_at}
use Rattle.rv_index.specs.Steps.{IsNodePut}
use Rattle.rv_index.proofs.Growing.{store_two}
use Rattle.rv_index.proofs.Halves.{left_node, right_node}
use Rattle.rv_index.proofs.tree.Tree.store.Goals as goal

pub make-requires-2 : goal.make-requires-2
make-requires-2 c =
    right_node c.args.level c.args.entries.items c.in_ok-right_entries.right_entries.items c.args.children.items c.in_ok-right_children.right_children.items c.requires.parts
    (omega (arith, c.args.entries.ok.0)) c.requires.few c.in_ok-right_entries.ensures.rest c.in_ok-right_children.ensures.rest

pub make-requires-3 : goal.make-requires-3
make-requires-3 c =
    left_node c.args.level c.args.entries.items c.cut_off.new.items.items c.args.children.items c.cut_off-2.new.items.items c.requires.parts
    (omega (arith, c.args.entries.ok.0)) c.in_ok-right_entries.ensures.first c.in_ok-right_children.ensures.first

pub returns-clause-ok : goal.returns-clause-ok
returns-clause-ok c =
    let len = length c.args.self.now in
    let at = nodes_at c.args.self.now c.args.commit in
    let at1 = nodes_at c.push.new.self c.args.commit in
    let at2 = nodes_at c.replace-2.new.self c.args.commit in
    store_two len (length c.push.new.self) (length c.replace-2.new.self) c.args.level c.args.id c.args.entries.items c.args.children.items c.in_ok-cut.cut c.in_ok-right.right at at1 at2
    c.cut_off.new.items.items c.in_ok-right_entries.right_entries.items c.cut_off-2.new.items.items c.in_ok-right_children.right_children.items
    c.requires.there (omega (arith, c.args.entries.ok.0))
    c.in_ok-right_entries.ensures.first c.in_ok-right_entries.ensures.rest c.in_ok-right_children.ensures.first c.in_ok-right_children.ensures.rest
    (subst (λ v. v ≡ get_or c.in_ok-right_entries.right_entries.items 0 v) (sym c.in_ok-cut.ensures) c.index.ensures) c.in_ok-right.ensures.id c.in_ok-right.ensures.len c.in_ok-replace-2.ensures.len
    (subst (λ (x : Parts). IsNodePut len x at at1) c.make-2.ensures c.in_ok-right.ensures.ok)
    (subst (λ (x : Parts). IsNodePut c.args.id x at1 at2) c.make-3.ensures c.in_ok-replace-2.ensures.ok)
