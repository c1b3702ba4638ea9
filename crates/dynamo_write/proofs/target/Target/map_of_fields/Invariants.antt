use Rattle.std.proofs.Common.{◌≡◌}
use Rattle.dynamo_write.specs.Collect.{collect, collect_onto}
use Rattle.dynamo_write.specs.Held.{fields_of}
use Rattle.dynamo_write.proofs.target.Target.map_of_fields.Given as goal

abbrev pub invariant-loop-name : goal.invariant-loop-name
invariant-loop-name g l =
    let held = fields_of g.Self.Target.about.seen in
    collect_onto (g.Self.Target.members l.map) (held l.name-iterator.rest.items) ≡ collect (held l.fn.fields.items)
