use Rattle.std.proofs.Common.{◌∙◌}
use Rattle.dynamo_record.proofs.record_rules.read_shown.Goals as goal

pub read_entries-requires : goal.read_entries-requires
read_entries-requires g c = (g.met.R.Record.named.0, g.met.R.Record.named.1 ∙ c.requires)
