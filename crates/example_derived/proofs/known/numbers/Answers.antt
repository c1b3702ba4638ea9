use Rattle.dynamo_value.specs.View.{view}
use Rattle.example_derived.proofs.Stated.{numbers_written}
use Rattle.example_derived.proofs.known.numbers.Goals as goal

pub returns : goal.returns
returns c = numbers_written c.args.numbers.now.items (view c.in_ok-value.value) c.in_ok-value.ensures
