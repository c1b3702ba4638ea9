use Rattle.std.proofs.Common.{rules, ◌∙◌}
use Rattle.dynamo_record.proofs.Common.{read_entries, by_name, stops_before, listed, FromParts}
use Rattle.dynamo_record.proofs.Answering.{goes_on}
use Rattle.dynamo_record.proofs.record.read_by_name.Goals as goal

pub returns-in_err-entries : goal.returns-in_err-entries
returns-in_err-entries g c =
    let stop = stops_before g.D.Error.Error.fault g.D.Reader.entries (λ es. FromParts (listed g.R.Record.about g.R.Fields.FieldList.about) (by_name es)) _ c.in_err-entries.field-0.0 c.in_err-entries.ensures in
    search rules

pub returns : goal.returns
returns g c =
    goes_on g.D.Error.Error.fault g.D.Reader.entries (read_entries (g.D.Reader.source c.args.reader)) (λ es. FromParts (listed g.R.Record.about g.R.Fields.FieldList.about) (by_name es)) c.in_ok-entries.entries c.read_entries.result
    c.in_ok-entries.ensures c.read_entries.ensures

pub read_entries-requires : goal.read_entries-requires
read_entries-requires g c = (g.met.R.Record.named.0, g.met.R.Record.named.1 ∙ c.requires)
