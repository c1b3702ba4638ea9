use Rattle.std.proofs.Common.{◌≡◌, length}
use Rattle.dynamo_de.specs.ReadAttribute.{read_each, read_blob}
use Rattle.dynamo_de.proofs.Promises.{EachFrom}
use Rattle.dynamo_de.proofs.impls.attribute_value.read_blobs.Given as goal

-- what is left, put after what is read, reads as the whole
abbrev pub invariant-loop-element : goal.invariant-loop-element
invariant-loop-element g l = EachFrom (λ b. b.items) read_blob l.blobs.items (g.R.Reader.elements l.elements) ≡ read_each read_blob (g.R.Reader.elements l.initial.elements)

abbrev pub decreases-loop-element : goal.decreases-loop-element
decreases-loop-element g l = length (g.R.Reader.elements l.elements)
