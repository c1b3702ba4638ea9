use Rattle.dynamo_ser.proofs.Attributes.{map_told}
use Rattle.dynamo_ser.proofs.impls.attribute_value.AttributeValueSerialize.+serialize.Goals as goal

pub returns-in-M : goal.returns-in-M
returns-in-M g t c = rw (map_told c.args.self.now c.in-M.map c.in-M.is) c.under-in-M.ensures
