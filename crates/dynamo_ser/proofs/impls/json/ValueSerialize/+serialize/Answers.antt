use Rattle.dynamo_ser.proofs.Json.{array_told, object_told, wants_nothing}
use Rattle.dynamo_ser.proofs.impls.json.ValueSerialize.+serialize.Goals as goal

pub returns-in-Array : goal.returns-in-Array
returns-in-Array g t c = rw (array_told c.args.self.now c.in-Array.items c.in-Array.is)
    (wants_nothing g.S.Error.Error.fault (g.S.Outcomes.outcome c.args.serializer) _ c.serialize.result c.serialize.ensures)

pub returns-in-Object : goal.returns-in-Object
returns-in-Object g t c = rw (object_told c.args.self.now c.in-Object.members c.in-Object.is)
    (wants_nothing g.S.Error.Error.fault (g.S.Outcomes.outcome c.args.serializer) _ c.serialize-in-Object.result c.serialize-in-Object.ensures)
