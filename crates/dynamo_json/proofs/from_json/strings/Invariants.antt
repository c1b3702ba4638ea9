use Rattle.std.proofs.Common.{◌≡◌, Ok, map, take, string_bytes}
use Rattle.dynamo_json.proofs.Common.{string_in}
use Rattle.serde_json.specs.View as sj
use Rattle.dynamo_json.proofs.Each.{each}
use Rattle.dynamo_json.proofs.from_json.strings.Given as goal

abbrev pub invariant-loop-json : goal.invariant-loop-json
invariant-loop-json l = each (λ v. string_in (sj.view v)) (take l.json-index l.json-items) ≡ Ok (map string_bytes l.strings.items)
