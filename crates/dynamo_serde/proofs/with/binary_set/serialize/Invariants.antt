use Rattle.dynamo_serde.specs.Value.{blob_events}
use Rattle.dynamo_serde.proofs.Logged.{SentUpTo}
use Rattle.dynamo_serde.proofs.with.binary_set.serialize.Given as goal

abbrev pub invariant-loop-blob : goal.invariant-loop-blob
invariant-loop-blob g l = SentUpTo blob_events (λ b. b.items) l.blob-items l.blob-index (g.S.Serializer.written l.initial.out) (g.S.Serializer.written l.out)
