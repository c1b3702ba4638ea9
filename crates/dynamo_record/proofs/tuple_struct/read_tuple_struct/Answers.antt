use Rattle.std.proofs.Common.{Ok, Err, sym, subst}
use Rattle.dynamo_record.proofs.Common.{ReadsAs}
use Rattle.dynamo_record.specs.Tuples.{named_tuple}
use Rattle.dynamo_record.proofs.InTuple.{tuple_read}
use Rattle.dynamo_record.proofs.tuple_struct.read_tuple_struct.Goals as goal

pub returns-in-Ok : goal.returns-in-Ok
returns-in-Ok g c =
    let a = named_tuple g.R.TupleStruct.about.name g.R.Fields.FieldList.about in
    let s = g.D.Reader.source c.args.deserializer in
    subst (λ l. ReadsAs a s (Ok l)) (sym c.make.ensures) (tuple_read g.R.TupleStruct.about.name g.R.Fields.FieldList.about g.D.Error.Error.fault s (Ok c.in-Ok.fields) c.in-Ok.ensures)

pub returns-in-Err : goal.returns-in-Err
returns-in-Err g c = tuple_read g.R.TupleStruct.about.name g.R.Fields.FieldList.about g.D.Error.Error.fault (g.D.Reader.source c.args.deserializer) (Err c.in-Err.error) c.in-Err.ensures
