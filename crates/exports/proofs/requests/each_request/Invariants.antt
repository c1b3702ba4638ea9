use Rattle.std.proofs.Common.{◌≡◌, Ok, map, take}
use Rattle.serde_json.specs.View as sj
use Rattle.dynamo_json.proofs.Each.{each}
use Rattle.exports.specs.Requests.{asked, request_in}
use Rattle.exports.proofs.requests.each_request.Given as goal

abbrev pub invariant-loop-json : goal.invariant-loop-json
invariant-loop-json l = each (λ v. request_in (sj.view v)) (take l.json-index l.json-items) ≡ Ok (map asked l.requests.items)
