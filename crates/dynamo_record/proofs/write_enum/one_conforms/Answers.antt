use Rattle.std.proofs.Common.{refl}
use Rattle.dynamo_record.proofs.Common.{tag}
use Rattle.dynamo_ser.specs.Datum as datum
use Rattle.dynamo_shape.specs.Shape as shape
use Rattle.dynamo_record.proofs.OneVariant.{variant_conforms}
use Rattle.dynamo_record.proofs.write_enum.one_conforms.Goals as goal

pub returns : goal.returns
returns g c =
    let a = g.T.Enumeration.about in
    let told = g.V.Shaped.about.tells c.args.value.now in
    variant_conforms a c.args.index (shape.one g.V.Shaped.about.shape) (datum.newtype_variant (tag a.name a.names c.args.index) told) c.requires (told, refl, c.conforms.ensures)
