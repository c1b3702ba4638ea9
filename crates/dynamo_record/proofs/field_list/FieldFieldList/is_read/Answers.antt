use Rattle.std.proofs.Common.{◌≡◌, ap, ◌∙◌, arith}
use Rattle.dynamo_record.proofs.Common.{is_filled}
use Rattle.dynamo_record.proofs.OneField.{there_alike}
use Rattle.dynamo_record.proofs.field_list.FieldFieldList.is_read.Goals as goal

pub returns : goal.returns
returns g c = λ inside fits os more h.
    let a = g.F.FieldType.about in
    let first : 0 ≡ c.args._place = omega arith in
    c.is_some.ensures ∙ there_alike a.shape a.tells c.args.slots.now os h.0 ∙ ap (λ i. is_filled i os) first
