use Rattle.std.proofs.Common.{string_bytes}
use Rattle.std.proofs.lemmas.Result.{IfOk-weaker}
use Rattle.dynamo_value.specs.View.{view}
use Rattle.dynamo_serde.specs.Tape.{place}
use Rattle.dynamo_serde.proofs.Read.{string_read}
use Rattle.example_derived.proofs.AtTape.{held}
use Rattle.example_derived.proofs.known_read.text.Goals as goal

pub returns : goal.returns
returns c =
    let value = view c.args.value.now in
    let at = c.new-2.result.format.now in
    let start = held value c.in_ok-tape.tape at c.new-2.ensures.format c.in_ok-tape.ensures in
    let after = place c.deserialize_owned.new.from.format.now in
    IfOk-weaker c.deserialize_owned.result _ _ (λ x read. string_read value (place at) after start.0 (string_bytes x) start.1 read.0) c.deserialize_owned.ensures
