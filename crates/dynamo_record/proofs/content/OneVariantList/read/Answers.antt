use Rattle.std.proofs.Common.{Ok, Err, refl}
use Rattle.dynamo_record.proofs.Common.{about_one, tag}
use Rattle.dynamo_record.specs.declared.content.One.{One}
use Rattle.dynamo_record.proofs.Inside.{content_read, value_read, value_fails}
use Rattle.dynamo_record.proofs.content.OneVariantList.read.Goals as goal

pub returns-in-Ok : goal.returns-in-Ok
returns-in-Ok g c = λ inside fits name ns i cs.
    let a = g.F.FieldType.about in
    let s = g.A.VariantAccess.content c.args.content in
    content_read {C = One g.row.F.Denot g.row.F-Value.Denot} g.A.Error.Error.fault (about_one (λ x. x.0) a) name ns i cs c.args._place inside s (Ok _)
    (value_read {C = One g.row.F.Denot g.row.F-Value.Denot} g.A.Error.Error.fault (λ x. x.0) a g.F.Value.Deserialize.reads g.met.F.FieldType.reads_by_shape (tag name ns i) s c.in-Ok.value _ refl c.in-Ok.ensures)

pub returns-in-Err : goal.returns-in-Err
returns-in-Err g c = λ inside fits name ns i cs.
    let a = g.F.FieldType.about in
    let s = g.A.VariantAccess.content c.args.content in
    content_read {C = One g.row.F.Denot g.row.F-Value.Denot} g.A.Error.Error.fault (about_one (λ x. x.0) a) name ns i cs c.args._place inside s (Err c.in-Err.error)
    (value_fails {C = One g.row.F.Denot g.row.F-Value.Denot} g.A.Error.Error.fault (λ x. x.0) a g.F.Value.Deserialize.reads g.met.F.FieldType.reads_by_shape (tag name ns i) s c.in-Err.error c.in-Err.ensures)
