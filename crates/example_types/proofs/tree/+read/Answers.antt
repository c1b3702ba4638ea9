use Rattle.std.proofs.Common.{rules}
use Rattle.dynamo_de.proofs.Json.{items_fall}
use Rattle.example_types.proofs.tree.+read.Goals as goal

pub read-children-requires : goal.read-children-requires
read-children-requires g t c κs within =
    let lower = items_fall g.R.Reader.source g.R.Reader.elements g.R.Reader.entries g.R.Reader.chosen (g.R.Reader.source c.args.reader) c.in_ok-n.field-0 c.in-Sequence.elements (search rules) c.in-Sequence.is in
    search rules
