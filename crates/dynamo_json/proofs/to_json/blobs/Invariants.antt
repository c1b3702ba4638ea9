use Rattle.std.proofs.Common.{◌≡◌, map, take}
use Rattle.dynamo_json.proofs.Common.{AllByRecursion, IsBytes, base64_text}
use Rattle.serde_json.specs.Data as json
use Rattle.serde_json.specs.View as sj
use Rattle.dynamo_json.proofs.to_json.blobs.Given as goal

abbrev pub invariant-loop-bytes : goal.invariant-loop-bytes
invariant-loop-bytes l =
    let done = map (λ b. b.items) (take l.bytes-index l.bytes-items) in
    record { json : map sj.view l.array.items ≡ map json.string (map base64_text done); bytes : AllByRecursion IsBytes done }
