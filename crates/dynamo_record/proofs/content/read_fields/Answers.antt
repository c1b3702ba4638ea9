use Rattle.std.proofs.Common.{rules}
use Rattle.dynamo_record.proofs.Common.{stops_before, ReadsInOrder}
use Rattle.dynamo_record.proofs.content.read_fields.Goals as goal

pub returns-in_err-elements : goal.returns-in_err-elements
returns-in_err-elements g c =
    let stop = stops_before g.R.Error.Error.fault g.R.Reader.elements (ReadsInOrder g.L.FieldList.about) _ c.in_err-elements.field-0.0 c.in_err-elements.ensures in
    search rules
