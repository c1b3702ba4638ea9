use Rattle.std.proofs.Common.{[], refl}
use Rattle.dynamo_record.proofs.Common.{elements_of, elements_conform}
use Rattle.dynamo_record.proofs.tuple_struct.tuple_struct_conforms.Goals as goal

pub returns : goal.returns
returns g c =
    let told = g.W.RefList.told c.args.fields.now [] in
    (elements_of told, refl, elements_conform (g.W.RefList.shapes []) told (c.conform.ensures [] [] tt))
