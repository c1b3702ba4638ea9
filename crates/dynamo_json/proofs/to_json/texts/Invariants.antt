use Rattle.std.proofs.Common.{◌≡◌, map, take, string_bytes}
use Rattle.serde_json.specs.Data as json
use Rattle.serde_json.specs.View as sj
use Rattle.dynamo_json.proofs.to_json.texts.Given as goal

abbrev pub invariant-loop-text : goal.invariant-loop-text
invariant-loop-text l = map sj.view l.array.items ≡ map json.string (map string_bytes (take l.text-index l.text-items))
