use Rattle.std.proofs.Common.{[], refl}
use Rattle.dynamo_record.proofs.Common.{field_shapes, named_fields, fields_conform, tag}
use Rattle.dynamo_ser.specs.Datum as datum
use Rattle.dynamo_shape.specs.Shape as shape
use Rattle.dynamo_record.proofs.OneVariant.{variant_conforms}
use Rattle.dynamo_record.proofs.write_enum.named_conform.Goals as goal

pub returns : goal.returns
returns g c =
    let a = g.T.Enumeration.about in
    let names = g.N.NamedFields.names in
    let ss = g.W.RefList.shapes [] in
    let gs = g.N.Fields.FieldList.about.defaults [] in
    let told = g.W.RefList.told c.args.fields.now [] in
    variant_conforms a c.args.index (shape.named (field_shapes names ss gs)) (datum.struct_variant (tag a.name a.names c.args.index) (named_fields names gs told)) c.requires
    (named_fields names gs told, refl, fields_conform names ss gs told (c.conform.ensures [] [] tt))
