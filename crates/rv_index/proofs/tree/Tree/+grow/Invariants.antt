use Rattle.rv_index.proofs.tree.Tree.+grow.Given as goal

abbrev pub decreases-grow : goal.decreases-grow
decreases-grow l = l.level
