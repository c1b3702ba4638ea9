use Rattle.dynamo_record.proofs.Common.{⊤, Gives, read_unit_struct, meets_more, conforms}
use Rattle.dynamo_record.specs.Newtypes.{ReadsUnitStruct}
use Rattle.dynamo_ser.specs.Datum as datum
use Rattle.dynamo_shape.specs.Shape as shape
use Rattle.dynamo_shape.proofs.Scalars.{given}
use Rattle.dynamo_record.proofs.unit_struct.read_unit_struct.Goals as goal

pub returns : goal.returns
unfolding ReadsUnitStruct
returns g c = λ own.
    let source = g.D.Reader.source c.args.deserializer in
    meets_more g.D.Error.Error.fault (Gives {V = ⊤} (λ u. u) (read_unit_struct source)) (ReadsUnitStruct own source)
    (λ r h. given (conforms (shape.unit_struct own)) (λ u. u) (λ _. datum.unit_struct own) (read_unit_struct source) r h) c.read_unit.result c.read_unit.ensures
