use Rattle.std.proofs.Common.{length}
use Rattle.dynamo_de.specs.Reads.{SetSoFar}
use Rattle.dynamo_de.proofs.impls.sets.from_members.Given as goal

-- what the set has so far, and what is left
abbrev pub invariant-loop-set : goal.invariant-loop-set
invariant-loop-set g l = SetSoFar g.M.FromMembers.has g.M.FromMembers.eq g.T.Deserialize.reads (g.A.SeqAccess.left l.fn.seq) l.set (g.A.SeqAccess.left l.seq)

abbrev pub decreases-loop-set : goal.decreases-loop-set
decreases-loop-set g l = length (g.A.SeqAccess.left l.seq)
