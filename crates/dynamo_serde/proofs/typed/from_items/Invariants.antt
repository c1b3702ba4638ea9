use Rattle.std.proofs.Common.{◌≡◌, length}
use Rattle.dynamo_serde.proofs.typed.from_items.Given as goal

-- a value for each item so far
abbrev pub invariant-loop-map : goal.invariant-loop-map
invariant-loop-map g l = length l.values.items ≡ l.map-index
