use Rattle.std.proofs.Common.{◌+◌, ◌*◌, ◌≤◌, suc, length}
use Rattle.dynamo_de.specs.Ignored.{source_height, sources_height}
use Rattle.example_types.proofs.tree.+read.Given as goal

abbrev pub decreases-read : goal.decreases-read
decreases-read g l = 2 * source_height (g.R.Reader.source l.reader) + 1

abbrev pub decreases-children : goal.decreases-children
decreases-children g l = 2 * suc (sources_height (g.R.Reader.elements l.elements))

-- what is left nests no deeper
abbrev pub invariant-children-loop-element : goal.invariant-children-loop-element
invariant-children-loop-element g l = sources_height (g.R.Reader.elements l.elements) ≤ sources_height (g.R.Reader.elements l.initial.elements)

abbrev pub decreases-children-loop-element : goal.decreases-children-loop-element
decreases-children-loop-element g l = length (g.R.Reader.elements l.elements)
