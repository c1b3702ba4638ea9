use Rattle.std.proofs.Common.{[], subst}
use Rattle.dynamo_record.proofs.Common.{Makes, read_fields}
use Rattle.dynamo_de.specs.Answer as answer
use Rattle.dynamo_record.proofs.Inside.{all_made, too_few}
use Rattle.dynamo_record.proofs.content.read_elements.Goals as goal

pub returns-in-Ok-Some : goal.returns-in-Ok-Some
returns-in-Ok-Some g c =
    let a = g.L.FieldList.about in
    let xs = g.R.Reader.elements c.args.elements in
    all_made g.R.Error.Error.fault a xs c.in-Ok-Some.fields (subst (λ o. Makes a.shapes a.told (read_fields (a.shapes []) xs) (answer.value []) o) c.in-Ok-Some.field-0-is (c.in-Ok-Some.ensures []))

pub returns-in-Ok-None : goal.returns-in-Ok-None
returns-in-Ok-None g c =
    let a = g.L.FieldList.about in
    let xs = g.R.Reader.elements c.args.elements in
    too_few g.R.Error.Error.fault a xs c.too_few.result _ (subst (λ o. Makes a.shapes a.told (read_fields (a.shapes []) xs) (answer.value []) o) c.in-Ok-None.field-0-is (c.in-Ok-None.ensures [])) c.too_few.ensures
