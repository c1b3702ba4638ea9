use Rattle.std.proofs.Common.{◌≡◌, Bool, true, Option, Some, None}
use Rattle.std.specs.Prelude.{IfNone}
use Rattle.std.proofs.lemmas.Result.{IfOk-weaker}
use Rattle.dynamo_value.specs.Av as av
use Rattle.dynamo_value.specs.View.{view}
use Rattle.dynamo_serde.specs.Tape.{place}
use Rattle.dynamo_serde.proofs.Read.{nothing_read}
use Rattle.example_derived.proofs.AtTape.{held}
use Rattle.example_derived.proofs.known_read.optional.Goals as goal

-- what is said of none
none_only : (P Q : Type 0) → (P → Q) → (o : Option Bool) → IfNone o P → IfNone o Q
none_only P Q f None h = f h
none_only P Q f (Some b) h = tt

pub returns : goal.returns
returns c =
    let value = view c.args.value.now in
    let at = c.new-2.result.format.now in
    let start = held value c.in_ok-tape.tape at c.new-2.ensures.format c.in_ok-tape.ensures in
    let after = place c.deserialize_owned.new.from.format.now in
    IfOk-weaker c.deserialize_owned.result _ _ (λ o read. none_only _ (value ≡ av.Null true) (λ r. nothing_read value (place at) after start.0 r.0) o read) c.deserialize_owned.ensures
