use Rattle.std.proofs.Common.{[]}
use Rattle.dynamo_record.proofs.Common.{field_shapes, named_fields, fields_conform}
use Rattle.dynamo_record.proofs.TaggedTold.{tagged_conforms}
use Rattle.dynamo_record.proofs.write_tagged.tagged_inner_conforms.Goals as goal

pub returns : goal.returns
returns g c =
    let a = g.T.TaggedEnum.about in
    let r = g.R.Record.about in
    let ss = g.W.RefList.shapes [] in
    let gs = r.list.defaults [] in
    let told = g.W.RefList.told c.args.fields.now [] in
    tagged_conforms a c.args.index r.name (field_shapes r.names ss gs) c.requires (named_fields r.names gs told) (fields_conform r.names ss gs told (c.conform.ensures [] [] tt))
