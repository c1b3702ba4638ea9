use Rattle.std.proofs.Common.{Ok, Err, refl}
use Rattle.dynamo_record.proofs.Common.{about_several, tag}
use Rattle.dynamo_record.specs.declared.content.Several.{Several}
use Rattle.dynamo_record.proofs.Inside.{content_read, values_read, values_fail}
use Rattle.dynamo_record.proofs.content.SeveralVariantList.read.Goals as goal

pub returns-in-Ok : goal.returns-in-Ok
returns-in-Ok g c = λ inside fits name ns i cs.
    let a = g.L.FieldList.about in
    let s = g.A.VariantAccess.content c.args.content in
    content_read {C = Several g.row.L.Denot} g.A.Error.Error.fault (about_several (λ x. x.0) a) name ns i cs c.args._place inside s (Ok _)
    (values_read {C = Several g.row.L.Denot} g.A.Error.Error.fault (λ x. x.0) a (tag name ns i) s c.in-Ok.fields _ refl c.in-Ok.ensures)

pub returns-in-Err : goal.returns-in-Err
returns-in-Err g c = λ inside fits name ns i cs.
    let a = g.L.FieldList.about in
    let s = g.A.VariantAccess.content c.args.content in
    content_read {C = Several g.row.L.Denot} g.A.Error.Error.fault (about_several (λ x. x.0) a) name ns i cs c.args._place inside s (Err c.in-Err.error)
    (values_fail {C = Several g.row.L.Denot} g.A.Error.Error.fault (λ x. x.0) a (tag name ns i) s c.in-Err.error c.in-Err.ensures)
