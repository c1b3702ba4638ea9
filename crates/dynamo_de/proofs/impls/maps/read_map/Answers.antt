use Rattle.std.proofs.Common.{rules}
use Rattle.dynamo_de.specs.Reads.{ReadsMap}
use Rattle.dynamo_de.proofs.Meets.{stops_before}
use Rattle.dynamo_de.proofs.impls.maps.read_map.Goals as goal

pub returns-in_err-entries : goal.returns-in_err-entries
returns-in_err-entries g c =
    let stop = stops_before g.R.Error.Error.fault g.R.Reader.entries (ReadsMap g.M.FromEntries.get g.M.FromEntries.eq g.K.Deserialize.reads g.V.Deserialize.reads) _ c.in_err-entries.field-0.0 c.in_err-entries.ensures in
    search rules
