use Rattle.std.proofs.Common.{map}
use Rattle.dynamo_serde.specs.Fetched.{InTurn, ReadsBlob}
use Rattle.dynamo_serde.proofs.with.binary_set.deserialize.Given as goal

abbrev pub invariant-loop : goal.invariant-loop
invariant-loop g l = InTurn (ReadsBlob g.F.Format.gives g.F.Format.stays) (map (λ b. b.items) l.blobs.items) l.initial.from l.from
