use Rattle.std.proofs.Common.{◌≡◌, ◌+◌, ◌*◌, ◌≤◌, [], length}
use Rattle.dynamo_value.specs.View.{view, entries_view}
use Rattle.dynamo_de.specs.Ignored.{source_height, sources_height, entries_height}
use Rattle.dynamo_de.specs.OpenedView.{opened_view}
use Rattle.dynamo_de.specs.ReadAttribute.{attribute_from, read_each, read_entries}
use Rattle.dynamo_de.proofs.Attributes.{opened_height}
use Rattle.dynamo_de.proofs.Promises.{EachFrom}
use Rattle.dynamo_de.proofs.impls.attribute_value.+read.Given as goal

abbrev pub decreases-read : goal.decreases-read
decreases-read g l = 3 * source_height (g.R.Reader.source l.reader)

abbrev pub decreases-read_opened : goal.decreases-read_opened
decreases-read_opened g l = 3 * opened_height (opened_view g.R.Reader.elements g.R.Reader.entries l.opened) + 2

abbrev pub decreases-read_elements : goal.decreases-read_elements
decreases-read_elements g l = 3 * sources_height (g.R.Reader.elements l.elements) + 1

abbrev pub decreases-read_members : goal.decreases-read_members
decreases-read_members g l = 3 * entries_height (g.R.Reader.entries l.entries) + 1

-- what is left nests no deeper; put after what is read, it reads as the whole
abbrev pub invariant-read_elements-loop-values : goal.invariant-read_elements-loop-values
invariant-read_elements-loop-values g l =
    (sources_height (g.R.Reader.elements l.elements) ≤ sources_height (g.R.Reader.elements l.initial.elements))
    × (EachFrom view attribute_from l.values.items (g.R.Reader.elements l.elements) ≡ read_each attribute_from (g.R.Reader.elements l.initial.elements))

abbrev pub decreases-read_elements-loop-values : goal.decreases-read_elements-loop-values
decreases-read_elements-loop-values g l = length (g.R.Reader.elements l.elements)

abbrev pub invariant-read_members-loop-key : goal.invariant-read_members-loop-key
invariant-read_members-loop-key g l =
    (entries_height (g.R.Reader.entries l.entries) ≤ entries_height (g.R.Reader.entries l.initial.entries))
    × (read_entries (entries_view l.members.entries) (g.R.Reader.entries l.entries) ≡ read_entries [] (g.R.Reader.entries l.initial.entries))

abbrev pub decreases-read_members-loop-key : goal.decreases-read_members-loop-key
decreases-read_members-loop-key g l = length (g.R.Reader.entries l.entries)
