use Rattle.std.proofs.Common.{◌≡◌, length}
use Rattle.dynamo_serde.proofs.located.from_items_located.Given as goal

abbrev pub invariant-loop-index : goal.invariant-loop-index
invariant-loop-index g l = length l.values.items ≡ l.index
