use Rattle.dynamo_record.proofs.Common.{unread}
use Rattle.dynamo_record.proofs.field_list.Tuple2FieldList.unread.Goals as goal

pub returns : goal.returns
returns g c = λ ss. (unread (g.R.FieldList.about.shapes ss), c.unread.ensures (g.R.FieldList.about.shapes ss), c.unread-2.ensures ss)
