use Rattle.std.proofs.Common.{◌≡◌, take, map}
use Rattle.dynamo_json.proofs.Common.{byte_number}
use Rattle.serde_json.specs.View.{view}
use Rattle.dynamo_json.proofs.plain.serializer.Serializer.numbers.Given as goal

abbrev pub invariant-loop-byte : goal.invariant-loop-byte
invariant-loop-byte l = map view l.numbers.items ≡ map byte_number (take l.byte-index l.bytes)
