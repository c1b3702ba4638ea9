use Rattle.std.proofs.Common.{length, ◌≤◌, ◌<◌}
use Rattle.derive_impls.proofs.tree.+tree_of.Given as goal

abbrev pub decreases-tree_of : goal.decreases-tree_of
decreases-tree_of g l = length l.leaves.now

abbrev pub invariant-loop-done : goal.invariant-loop-done
invariant-loop-done g l = record {
  several : 1 < l.groups;
  leaves : 1 < length l.fn.leaves;
  rest : length l.rest ≤ length l.fn.leaves;
  fewer : 0 < l.done → length l.rest < length l.fn.leaves;
}
