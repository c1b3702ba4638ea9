use Rattle.std.proofs.Common.{rules}
use Rattle.dynamo_de.proofs.Meets.{stops_before}
use Rattle.dynamo_de.proofs.impls.sequences.read_sequence.Goals as goal

pub returns-in_err-elements : goal.returns-in_err-elements
returns-in_err-elements g c =
    let stop = stops_before g.R.Error.Error.fault g.R.Reader.elements g.T.FromElements.of_elements _ c.in_err-elements.field-0.0 c.in_err-elements.ensures in
    search rules
