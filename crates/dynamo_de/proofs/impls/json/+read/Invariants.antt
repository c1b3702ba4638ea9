use Rattle.std.proofs.Common.{◌≡◌, ◌+◌, ◌*◌, ◌≤◌, suc, length}
use Rattle.serde_json.specs.Data as json
use Rattle.serde_json.specs.View.{members_view}
use Rattle.dynamo_de.specs.Ignored.{source_height, sources_height, entries_height}
use Rattle.dynamo_de.specs.ReadJson.{read_sources, read_entries}
use Rattle.dynamo_de.proofs.Json.{ItemsFrom}
use Rattle.dynamo_de.proofs.impls.json.+read.Given as goal

abbrev pub decreases-read : goal.decreases-read
decreases-read g l = 2 * source_height (g.R.Reader.source l.reader) + 1

abbrev pub decreases-read_elements : goal.decreases-read_elements
decreases-read_elements g l = 2 * suc (sources_height (g.R.Reader.elements l.elements))

abbrev pub decreases-read_members : goal.decreases-read_members
decreases-read_members g l = 2 * suc (entries_height (g.R.Reader.entries l.entries))

-- what is left nests no deeper; put after what is read, it reads as the whole
abbrev pub invariant-read_elements-loop-element : goal.invariant-read_elements-loop-element
invariant-read_elements-loop-element g l =
    (sources_height (g.R.Reader.elements l.elements) ≤ sources_height (g.R.Reader.elements l.initial.elements))
    × (ItemsFrom l.items.items (g.R.Reader.elements l.elements) ≡ read_sources (g.R.Reader.elements l.initial.elements))

abbrev pub decreases-read_elements-loop-element : goal.decreases-read_elements-loop-element
decreases-read_elements-loop-element g l = length (g.R.Reader.elements l.elements)

abbrev pub invariant-read_members-loop-key : goal.invariant-read_members-loop-key
invariant-read_members-loop-key g l =
    (entries_height (g.R.Reader.entries l.entries) ≤ entries_height (g.R.Reader.entries l.initial.entries))
    × (read_entries (members_view l.members.entries) (g.R.Reader.entries l.entries) ≡ read_entries json.no_members (g.R.Reader.entries l.initial.entries))

abbrev pub decreases-read_members-loop-key : goal.decreases-read_members-loop-key
decreases-read_members-loop-key g l = length (g.R.Reader.entries l.entries)
