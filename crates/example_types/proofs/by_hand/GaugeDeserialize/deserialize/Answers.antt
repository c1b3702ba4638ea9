use Rattle.dynamo_de.specs.Visitors.{claims_struct, take_parts}
use Rattle.dynamo_de.specs.declared.request.Request.TheVariants as request
use Rattle.dynamo_de.proofs.Reading.{as_read}
use Rattle.example_types.specs.GaugeShape.{gauge_from_parts}
use Rattle.example_types.proofs.by_hand.GaugeDeserialize.deserialize.Goals as goal

pub returns : goal.returns
returns g c = as_read claims_struct take_parts gauge_from_parts (λ c x f e h. cc) request.Struct g.D.Error.Error.fault (g.D.Reader.source c.args.deserializer) c.deserialize_struct.result c.deserialize_struct.ensures
