use Rattle.std.proofs.Common.{map, Result}
use Rattle.dynamo_ser.specs.Datum as datum
use Rattle.dynamo_ser.proofs.impls.maps.HashMapSerialize.serialize.Given as goal

-- what is given where the entries that are left follow is an answer to the whole map
abbrev pub invariant-loop-key : goal.invariant-loop-key
invariant-loop-key g l =
    (answer : Result _ _) →
    g.S.SerializeMap.SerializeMap.gives l.entries (datum.pairs_of (map (λ e. (g.K.Serialize.tells e.0, g.V.Serialize.tells e.1)) l.key-iterator)) answer →
    g.S.Outcomes.outcome l.fn.serializer (datum.map (datum.pairs_of (map (λ e. (g.K.Serialize.tells e.0, g.V.Serialize.tells e.1)) l.self.entries))) answer
