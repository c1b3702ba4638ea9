use Rattle.std.proofs.Common.{rules}
use Rattle.dynamo_de.proofs.Ignored.{inside_elements_fall, inside_entries_fall}
use Rattle.dynamo_de.proofs.ignored_any.+ignore.Goals as goal

pub ignore-ignore_elements-requires : goal.ignore-ignore_elements-requires
ignore-ignore_elements-requires g t c κs within =
    let h = inside_elements_fall (g.R.Reader.source c.args.reader) (g.R.Reader.elements c.in-Elements.elements) (search rules) in
    search rules

pub ignore-ignore_entries-requires : goal.ignore-ignore_entries-requires
ignore-ignore_entries-requires g t c κs within =
    let h = inside_entries_fall (g.R.Reader.source c.args.reader) (g.R.Reader.entries c.in-Entries.entries) (search rules) in
    search rules
