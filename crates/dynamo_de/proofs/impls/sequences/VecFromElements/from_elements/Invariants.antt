use Rattle.std.proofs.Common.{length}
use Rattle.dynamo_de.specs.Reads.{ReadsSoFar}
use Rattle.dynamo_de.proofs.impls.sequences.VecFromElements.from_elements.Given as goal

-- what is read so far, and what is left
abbrev pub invariant-loop-all : goal.invariant-loop-all
invariant-loop-all g l = ReadsSoFar g.T.Deserialize.reads (g.A.SeqAccess.left l.fn.seq) l.all.items (g.A.SeqAccess.left l.seq)

abbrev pub decreases-loop-all : goal.decreases-loop-all
decreases-loop-all g l = length (g.A.SeqAccess.left l.seq)
