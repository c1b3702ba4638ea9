use Rattle.std.proofs.Common.{map, string_bytes}
use Rattle.dynamo_serde.specs.Fetched.{InTurn, ReadsText}
use Rattle.dynamo_serde.proofs.with.attribute_value.fetch_texts.Given as goal

abbrev pub invariant-loop : goal.invariant-loop
invariant-loop g l = InTurn (ReadsText g.F.Format.gives g.F.Format.stays g.F.Format.picks l.kind) (map string_bytes l.texts.items) l.initial.from l.from
