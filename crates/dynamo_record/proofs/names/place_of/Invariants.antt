use Rattle.std.proofs.Common.{◌≡◌, map, drop}
use Rattle.dynamo_record.proofs.Common.{place_of}
use Rattle.dynamo_record.proofs.names.place_of.Given as goal

-- none of the names before is the key
abbrev pub invariant-loop-place : goal.invariant-loop-place
invariant-loop-place l = place_of 0 (map (λ n. n.now) l.fn.names) l.fn.key ≡ place_of l.place (map (λ n. n.now) (drop l.place l.fn.names)) l.fn.key
