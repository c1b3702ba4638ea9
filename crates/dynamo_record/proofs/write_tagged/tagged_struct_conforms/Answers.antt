use Rattle.std.proofs.Common.{[]}
use Rattle.dynamo_record.proofs.Common.{field_shapes, named_fields, fields_conform}
use Rattle.dynamo_record.proofs.TaggedTold.{tagged_conforms}
use Rattle.dynamo_record.proofs.write_tagged.tagged_struct_conforms.Goals as goal

pub returns : goal.returns
returns g c =
    let a = g.T.TaggedEnum.about in
    let ss = g.W.RefList.shapes [] in
    let names = g.N.NamedFields.names in
    let gs = g.N.Fields.FieldList.about.defaults [] in
    let told = g.W.RefList.told c.args.fields.now [] in
    tagged_conforms a c.args.index a.name (field_shapes names ss gs) c.requires (named_fields names gs told) (fields_conform names ss gs told (c.conform.ensures [] [] tt))
