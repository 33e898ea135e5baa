use Rattle.roc_witness.proofs.walks.Walks.+descend.Given as goal

abbrev pub decreases-descend : goal.decreases-descend
decreases-descend l = l.left
