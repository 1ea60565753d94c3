use Rattle.std.proofs.Common.{◌∙◌, sym}
use Rattle.rv_records.proofs.Keeping.{ok_only}
use Rattle.rv_store.proofs.Changing.{tree_changed}
use Rattle.rv_store.proofs.indexes.change_tree.Goals as goal

pub returns-clause-ok : goal.returns-clause-ok
returns-clause-ok c =
    ok_only c.put_in.result _ _ c.put_in.ensures.ok
    (tree_changed c.args.commit c.args.before c.args.after c.args.tree.now c.take_out.new.tree c.put_in.new.tree (sym c.is_same.ensures ∙ c.if-is_same.false) c.in-Ok.ensures.ok)

pub returns-clause-older : goal.returns-clause-older
returns-clause-older c snap h = c.put_in.ensures.older snap h ∙ c.take_out.ensures.older snap h
