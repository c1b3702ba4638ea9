use Rattle.std.proofs.Common.{drop}
use Rattle.dynamo_json.proofs.WithoutFloats.{Left, LeftOf}
use Rattle.dynamo_json.proofs.without_floats.+walk.Given as goal

abbrev pub invariant-items-loop-json : goal.invariant-items-loop-json
invariant-items-loop-json l = Left l.json-items (drop l.json-index l.json-items)

abbrev pub invariant-members-loop-json : goal.invariant-members-loop-json
invariant-members-loop-json l = LeftOf l.object.entries l.json-iterator
