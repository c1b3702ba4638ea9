use Rattle.std.proofs.Common.{length}
use Rattle.dynamo_de.specs.Reads.{MapSoFar}
use Rattle.dynamo_de.proofs.impls.maps.from_entries.Given as goal

-- what the map has so far, and what is left
abbrev pub invariant-loop-key : goal.invariant-loop-key
invariant-loop-key g l = MapSoFar g.M.FromEntries.get g.M.FromEntries.eq g.K.Deserialize.reads g.V.Deserialize.reads (g.R.Reader.entries l.initial.entries) l.map (g.R.Reader.entries l.entries)

abbrev pub decreases-loop-key : goal.decreases-loop-key
decreases-loop-key g l = length (g.R.Reader.entries l.entries)
