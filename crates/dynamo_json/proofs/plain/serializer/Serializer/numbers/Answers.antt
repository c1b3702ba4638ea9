use Rattle.std.proofs.Common.{rules, ◌≡◌, map, take, ap, ◌∙◌, arith}
use Rattle.dynamo_json.proofs.Common.{take_all, byte_number}
use Rattle.serde_json.specs.View.{view}
use Rattle.dynamo_json.proofs.Bytes.{number_pushed, numbers_view}
use Rattle.dynamo_json.proofs.plain.serializer.Serializer.numbers.Goals as goal

pub loop-byte-preserved : goal.loop-byte-preserved
loop-byte-preserved c = ap (map view) c.in_ok-push.ensures.items
    ∙ number_pushed c.loop-byte.numbers.items c.from.result c.args.bytes.now c.loop-byte.byte-index c.loop-byte-test.true c.loop-byte.invariant (search rules)

pub returns : goal.returns
returns c =
    let all : take c.loop-byte.byte-index c.args.bytes.now ≡ c.args.bytes.now = take_all c.loop-byte.byte-index c.args.bytes.now (omega arith) in
    numbers_view c.loop-byte.numbers c.args.bytes.now (c.loop-byte.invariant ∙ ap (map byte_number) all)
