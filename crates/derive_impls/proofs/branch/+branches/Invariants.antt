use Rattle.std.proofs.Common.{length}
use Rattle.derive_impls.proofs.branch.+branches.Given as goal

abbrev pub decreases-branches : goal.decreases-branches
decreases-branches g l = length l.leaves.now
