use Rattle.serde.specs.Event as event
use Rattle.serde.specs.Event.{Logs}
use Rattle.dynamo_value.specs.View.{view}
use Rattle.dynamo_serde.specs.Datum as datum
use Rattle.dynamo_serde.specs.Datum.{i64}
use Rattle.dynamo_serde.proofs.Sends.{written_so}
use Rattle.example_derived.proofs.known.integer.Goals as goal

pub returns : goal.returns
returns c =
    let is = written_so (λ old new. Logs old new (event.signed c.args.n.now)) (datum.integer i64 c.args.n.now) (view c.in_ok-value.value) (λ es new h. h) tt c.in_ok-value.ensures in cc (is)
