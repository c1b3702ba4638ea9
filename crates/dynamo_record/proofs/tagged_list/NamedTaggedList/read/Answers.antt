use Rattle.dynamo_record.proofs.Common.{codes, record_of}
use Rattle.dynamo_record.specs.declared.named.Named.{Named}
use Rattle.dynamo_record.proofs.TaggedChoice.{fields_read}
use Rattle.dynamo_record.proofs.tagged_list.NamedTaggedList.read.Goals as goal

pub returns : goal.returns
returns g c = λ tag fit inside fits name ss es h.
    let a = record_of {V = Named g.row.N.Denot g.row.N-Fields.Denot g.row.N-Fields-Slots.Denot} (codes "variant") g.N.NamedFields.names (λ v. v.0) g.N.Fields.FieldList.about in
    fields_read a name ss es c.args._place inside g.D.Error.Error.fault c.read_held.result (c.read_held.ensures g.met.N.NamedFields.named es h)
