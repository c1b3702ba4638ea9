use Rattle.std.proofs.Common.{Ok, Err}
use Rattle.dynamo_record.proofs.Common.{listed}
use Rattle.dynamo_record.proofs.TaggedChoice.{fit_named, fields_read}
use Rattle.dynamo_record.proofs.tagged_list.InnerTaggedList.read.Goals as goal

pub returns-in-Ok : goal.returns-in-Ok
returns-in-Ok g c = λ tag fit inside fits name ss es h.
    let a = listed g.R.Record.about g.R.Fields.FieldList.about in
    fields_read a a.name ss es c.args._place inside g.D.Error.Error.fault (Ok c.in-Ok.fields) (c.in-Ok.ensures (fit_named a tag fit) es h)

pub returns-in-Err : goal.returns-in-Err
returns-in-Err g c = λ tag fit inside fits name ss es h.
    let a = listed g.R.Record.about g.R.Fields.FieldList.about in
    fields_read a a.name ss es c.args._place inside g.D.Error.Error.fault (Err c.in-Err.error) (c.in-Err.ensures (fit_named a tag fit) es h)
