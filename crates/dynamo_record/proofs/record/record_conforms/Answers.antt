use Rattle.std.proofs.Common.{[], refl}
use Rattle.dynamo_record.proofs.Common.{named_fields, fields_conform}
use Rattle.dynamo_record.proofs.record.record_conforms.Goals as goal

pub returns : goal.returns
returns g c =
    let told = g.W.RefList.told c.args.fields.now [] in
    let names = g.R.Record.about.names in
    let gs = g.R.Record.about.list.defaults [] in
    (named_fields names gs told, refl, fields_conform names (g.W.RefList.shapes []) gs told (c.conform.ensures [] [] tt))
