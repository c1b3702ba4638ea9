use Rattle.derive_impls.proofs.branch.sides.Given as goal

abbrev pub decreases-loop-count : goal.decreases-loop-count
decreases-loop-count l = l.count
