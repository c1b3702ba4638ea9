use Rattle.dynamo_value.specs.View.{view}
use Rattle.dynamo_serde.proofs.Value.{value_written}
use Rattle.example_derived.proofs.known.attribute_value.Goals as goal

pub returns : goal.returns
returns c = value_written (view c.args.value.now.0) (view c.in_ok-written.written) c.in_ok-written.ensures
