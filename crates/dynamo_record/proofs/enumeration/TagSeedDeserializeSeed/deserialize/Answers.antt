use Rattle.std.proofs.Common.{rules}
use Rattle.dynamo_record.proofs.Common.{string_bytes, stops_before, NamesVariant}
use Rattle.dynamo_record.proofs.enumeration.TagSeedDeserializeSeed.deserialize.Goals as goal

pub returns-in_err-name : goal.returns-in_err-name
returns-in_err-name g c =
    let stop = stops_before g.D.Error.Error.fault string_bytes (NamesVariant g.T.Enumeration.about.names) _ c.in_err-name.field-0.0 c.in_err-name.ensures in
    search rules
