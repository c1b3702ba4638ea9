use Rattle.std.proofs.Common.{string_bytes}
use Rattle.serde.specs.Event as event
use Rattle.serde.specs.Event.{Logs}
use Rattle.dynamo_value.specs.View.{view}
use Rattle.dynamo_serde.specs.Datum as datum
use Rattle.dynamo_serde.proofs.Sends.{written_so}
use Rattle.example_derived.proofs.known.text.Goals as goal

pub returns : goal.returns
returns c =
    let s = string_bytes c.args.text.now in
    let is = written_so (λ old new. Logs old new (event.text s)) (datum.string s) (view c.in_ok-value.value) (λ es new h. h) tt c.in_ok-value.ensures in cc (is)
