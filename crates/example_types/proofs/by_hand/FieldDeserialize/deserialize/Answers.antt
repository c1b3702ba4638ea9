use Rattle.std.proofs.Common.{◌≡◌, Ok}
use Rattle.dynamo_de.proofs.Reading.{identifier_read}
use Rattle.example_types.specs.GaugeShape.{gauge_field}
use Rattle.example_types.proofs.by_hand.FieldDeserialize.deserialize.Goals as goal

pub returns : goal.returns
returns g c = identifier_read (λ t r. r ≡ Ok (gauge_field t)) g.D.Error.Error.fault (g.D.Reader.source c.args.deserializer) c.deserialize_identifier.result c.deserialize_identifier.ensures
