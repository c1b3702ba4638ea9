use Rattle.std.proofs.Common.{◌≡◌, Ok, map, take}
use Rattle.dynamo_json.proofs.Common.{blob_in}
use Rattle.serde_json.specs.View as sj
use Rattle.dynamo_json.proofs.Each.{each}
use Rattle.dynamo_json.proofs.from_json.blobs.Given as goal

abbrev pub invariant-loop-json : goal.invariant-loop-json
invariant-loop-json l = each (λ v. blob_in (sj.view v)) (take l.json-index l.json-items) ≡ Ok (map (λ b. b.items) l.blobs.items)
