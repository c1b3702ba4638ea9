use Rattle.std.proofs.Common.{◌+◌, ◌*◌}
use Rattle.dynamo_serde.proofs.Fetching.{ListSoFar, MapSoFar}
use Rattle.dynamo_serde.proofs.with.attribute_value.+fetch.Given as goal

abbrev pub decreases-fetch : goal.decreases-fetch
decreases-fetch g l = 2 * l.levels + 1

abbrev pub decreases-fetch_list : goal.decreases-fetch_list
decreases-fetch_list g l = 2 * l.levels

abbrev pub decreases-fetch_map : goal.decreases-fetch_map
decreases-fetch_map g l = 2 * l.levels

abbrev pub invariant-fetch_list-loop : goal.invariant-fetch_list-loop
invariant-fetch_list-loop g l = ListSoFar g.F.Format.gives g.F.Format.stays g.F.Format.picks l.items.items l.initial.from l.from

abbrev pub invariant-fetch_map-loop : goal.invariant-fetch_map-loop
invariant-fetch_map-loop g l = MapSoFar g.F.Format.gives g.F.Format.stays g.F.Format.picks l.members.entries l.initial.from l.from
