use Rattle.dynamo_record.proofs.Common.{codes, about_named, tag}
use Rattle.dynamo_record.specs.declared.named.Named.{Named}
use Rattle.dynamo_record.proofs.Inside.{content_read}
use Rattle.dynamo_record.proofs.InsideNamed.{named_read}
use Rattle.dynamo_record.proofs.named.NamedVariantList.read.Goals as goal

pub returns : goal.returns
returns g c = λ inside fits name ns i cs.
    let l = g.N.Fields.FieldList.about in
    let names = g.N.NamedFields.names in
    let s = g.A.VariantAccess.content c.args.content in
    content_read {C = Named g.row.N.Denot g.row.N-Fields.Denot g.row.N-Fields-Slots.Denot} g.A.Error.Error.fault (about_named names (λ v. v.0) l) name ns i cs c.args._place inside s c.read_named.result
    (named_read {C = Named g.row.N.Denot g.row.N-Fields.Denot g.row.N-Fields-Slots.Denot} (codes "variant") names (λ v. v.0) l (tag name ns i) g.A.Error.Error.fault s c.read_named.result c.read_named.ensures)
