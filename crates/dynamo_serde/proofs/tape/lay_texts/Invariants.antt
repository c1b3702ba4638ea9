use Rattle.std.proofs.Common.{string_bytes}
use Rattle.dynamo_serde.specs.Laid.{text}
use Rattle.dynamo_serde.specs.Tape.{row}
use Rattle.dynamo_serde.proofs.Laying.{LaidUpTo}
use Rattle.dynamo_serde.proofs.tape.lay_texts.Given as goal

abbrev pub invariant-loop-text : goal.invariant-loop-text
invariant-loop-text l = LaidUpTo text string_bytes l.text-items l.text-index (row l.initial.tokens.items) (row l.tokens.items)
