use Rattle.std.proofs.Common.{◌≡◌}
use Rattle.dynamo_write.specs.Collect.{collect, collect_onto}
use Rattle.dynamo_write.specs.Held.{held_entries}
use Rattle.dynamo_write.proofs.target.Target.map_of_entries.Given as goal

abbrev pub invariant-loop-key : goal.invariant-loop-key
invariant-loop-key g l =
    let held = held_entries g.Self.Target.about.seen in
    collect_onto (g.Self.Target.members l.map) (held l.key-iterator.rest.items) ≡ collect (held l.fn.entries.items)
