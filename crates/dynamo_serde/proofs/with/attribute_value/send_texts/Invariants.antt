use Rattle.std.proofs.Common.{string_bytes}
use Rattle.dynamo_serde.specs.Value.{text_events}
use Rattle.dynamo_serde.proofs.Logged.{SentUpTo}
use Rattle.dynamo_serde.proofs.with.attribute_value.send_texts.Given as goal

abbrev pub invariant-loop-text : goal.invariant-loop-text
invariant-loop-text g l = SentUpTo text_events string_bytes l.text-items l.text-index (g.S.Serializer.written l.initial.out) (g.S.Serializer.written l.out)
