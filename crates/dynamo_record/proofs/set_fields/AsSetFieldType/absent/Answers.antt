use Rattle.dynamo_record.proofs.set_fields.AsSetFieldType.absent.Goals as goal

pub returns : goal.returns
returns g c = (g.met.M.SetValue.is_set g.K.KindOfSet.kind).missed
