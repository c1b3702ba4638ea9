use Rattle.std.proofs.Common.{Ok, refl}
use Rattle.dynamo_record.proofs.Common.{about_nothing, tag}
use Rattle.dynamo_ser.specs.Datum as datum
use Rattle.dynamo_record.specs.declared.content.Nothing.{Nothing}
use Rattle.dynamo_record.proofs.Inside.{content_read}
use Rattle.dynamo_record.proofs.content.NothingVariantList.read.Goals as goal

pub returns : goal.returns
returns g c = λ inside fits name ns i cs.
    content_read {C = Nothing} g.A.Error.Error.fault about_nothing name ns i cs c.args._place inside (g.A.VariantAccess.content c.args.content) (Ok _) (datum.unit_variant (tag name ns i), refl, λ _. refl)
