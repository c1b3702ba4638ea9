use Rattle.std.proofs.Common.{sym, subst}
use Rattle.dynamo_ser.specs.Datum as datum
use Rattle.dynamo_ser.specs.Writes.{Writes}
use Rattle.dynamo_record.proofs.newtype.write_newtype.Goals as goal

pub returns : goal.returns
returns g c =
    let call = c.serialize_newtype_struct in
    subst (λ tells. Writes g.S.Error.Error.fault (g.T.Serialize.wants c.args.field.now) (g.S.Outcomes.outcome c.args.serializer) (datum.newtype_struct c.args.name.now (tells c.args.field.now)) call.result) (sym g.met.T.Shaped.as_told) call.ensures
