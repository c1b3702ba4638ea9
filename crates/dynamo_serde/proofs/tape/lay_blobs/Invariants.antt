use Rattle.dynamo_serde.specs.Laid.{bytes}
use Rattle.dynamo_serde.specs.Tape.{row}
use Rattle.dynamo_serde.proofs.Laying.{LaidUpTo}
use Rattle.dynamo_serde.proofs.tape.lay_blobs.Given as goal

abbrev pub invariant-loop-blob : goal.invariant-loop-blob
invariant-loop-blob l = LaidUpTo bytes (λ b. b.items) l.blob-items l.blob-index (row l.initial.tokens.items) (row l.tokens.items)
