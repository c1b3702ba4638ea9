use Rattle.std.proofs.Common.{refl}
use Rattle.dynamo_record.proofs.Common.{no_field_shapes}
use Rattle.dynamo_ser.specs.Datum as datum
use Rattle.dynamo_record.proofs.TaggedTold.{tagged_conforms}
use Rattle.dynamo_record.proofs.write_tagged.tagged_unit_conforms.Goals as goal

pub returns : goal.returns
returns g c = tagged_conforms g.T.TaggedEnum.about c.args.index g.T.TaggedEnum.about.name no_field_shapes c.requires datum.no_fields refl
