use Rattle.dynamo_record.specs.declared.content.Nothing.{Nothing}
use Rattle.dynamo_record.proofs.TaggedChoice.{nothing_read, nothing_fails}
use Rattle.dynamo_record.proofs.tagged_list.NothingTaggedList.read.Goals as goal

pub returns-in-Ok : goal.returns-in-Ok
returns-in-Ok g c = λ tag fit inside fits name ss es h. nothing_read Nothing name ss es c.args._place inside g.D.Error.Error.fault _ (c.in-Ok.ensures es h)

pub returns-in-Err : goal.returns-in-Err
returns-in-Err g c = λ tag fit inside fits name ss es h. nothing_fails Nothing name ss es c.args._place inside g.D.Error.Error.fault c.in-Err.error (c.in-Err.ensures es h)
