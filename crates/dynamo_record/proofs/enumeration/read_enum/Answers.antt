use Rattle.dynamo_record.proofs.Common.{of_variants}
use Rattle.dynamo_record.proofs.Chosen.{named_as, enum_by_source}
use Rattle.dynamo_record.proofs.enumeration.read_enum.Goals as goal

pub returns : goal.returns
returns g c =
    let own = g.T.Enumeration.about in
    let list = g.T.Variants.VariantList.about in
    enum_by_source (of_variants own list) (named_as own list g.met.T.Enumeration.named c.requires) g.D.Error.Error.fault (g.D.Reader.source c.args.deserializer) c.read_shown.result c.read_shown.ensures
