use Rattle.rv_index.proofs.tree.Tree.+shrink.Given as goal

abbrev pub decreases-shrink : goal.decreases-shrink
decreases-shrink l = l.level
