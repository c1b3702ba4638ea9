use Rattle.std.proofs.Common.{[], refl}
use Rattle.dynamo_record.proofs.Common.{shapes_of, elements_conform, tag}
use Rattle.dynamo_ser.specs.Datum as datum
use Rattle.dynamo_shape.specs.Shape as shape
use Rattle.dynamo_record.proofs.OneVariant.{variant_conforms}
use Rattle.dynamo_record.proofs.write_enum.several_conform.Goals as goal

pub returns : goal.returns
returns g c =
    let a = g.T.Enumeration.about in
    let ss = g.W.RefList.shapes [] in
    let told = g.W.RefList.told c.args.fields.now [] in
    variant_conforms a c.args.index (shape.several (shapes_of ss)) (datum.tuple_variant (tag a.name a.names c.args.index) (datum.elements_of told)) c.requires
    (datum.elements_of told, refl, elements_conform ss told (c.conform.ensures [] [] tt))
