use Rattle.std.proofs.Common.{◌≡◌, ◌+◌, ◌*◌, ◌≤◌, suc, length}
use Rattle.dynamo_de.specs.Ignored.{source_height, sources_height, entries_height, ignore_sources, ignore_entries}
use Rattle.dynamo_de.proofs.ignored_any.+ignore.Given as goal

abbrev pub decreases-ignore : goal.decreases-ignore
decreases-ignore g l = 2 * source_height (g.R.Reader.source l.reader) + 1

abbrev pub decreases-ignore_entries : goal.decreases-ignore_entries
decreases-ignore_entries g l = 2 * suc (entries_height (g.R.Reader.entries l.entries))

abbrev pub decreases-ignore_elements : goal.decreases-ignore_elements
decreases-ignore_elements g l = 2 * suc (sources_height (g.R.Reader.elements l.elements))

-- what is left nests no deeper, and meets what all met
abbrev pub invariant-ignore_entries-loop-key : goal.invariant-ignore_entries-loop-key
invariant-ignore_entries-loop-key g l =
    (entries_height (g.R.Reader.entries l.entries) ≤ entries_height (g.R.Reader.entries l.initial.entries)) × (ignore_entries (g.R.Reader.entries l.entries) ≡ ignore_entries (g.R.Reader.entries l.initial.entries))

abbrev pub decreases-ignore_entries-loop-key : goal.decreases-ignore_entries-loop-key
decreases-ignore_entries-loop-key g l = length (g.R.Reader.entries l.entries)

abbrev pub invariant-ignore_elements-loop-element : goal.invariant-ignore_elements-loop-element
invariant-ignore_elements-loop-element g l =
    (sources_height (g.R.Reader.elements l.elements) ≤ sources_height (g.R.Reader.elements l.initial.elements)) × (ignore_sources (g.R.Reader.elements l.elements) ≡ ignore_sources (g.R.Reader.elements l.initial.elements))

abbrev pub decreases-ignore_elements-loop-element : goal.decreases-ignore_elements-loop-element
decreases-ignore_elements-loop-element g l = length (g.R.Reader.elements l.elements)
