use Rattle.dynamo_value.specs.View.{view}
use Rattle.example_derived.proofs.Stated.{optional_written}
use Rattle.example_derived.proofs.known.optional.Goals as goal

pub returns : goal.returns
returns c = optional_written c.args.b (view c.in_ok-value.value) c.in_ok-value.ensures
