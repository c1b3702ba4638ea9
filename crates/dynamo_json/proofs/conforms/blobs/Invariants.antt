use Rattle.std.proofs.Common.{map, take}
use Rattle.dynamo_json.proofs.Common.{AllByRecursion, IsBytes}
use Rattle.dynamo_json.proofs.conforms.blobs.Given as goal

abbrev pub invariant-loop-bytes : goal.invariant-loop-bytes
invariant-loop-bytes l = AllByRecursion IsBytes (map (λ b. b.items) (take l.bytes-index l.bytes-items))
