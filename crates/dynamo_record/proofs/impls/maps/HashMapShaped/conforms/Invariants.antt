use Rattle.std.proofs.Common.{map}
use Rattle.dynamo_record.proofs.Common.{Pairs, pairs_of, AllPairs, conforms}
use Rattle.dynamo_record.proofs.impls.maps.HashMapShaped.conforms.Given as goal

-- where the entries that are left conform, all do
abbrev pub invariant-loop-key : goal.invariant-loop-key
invariant-loop-key g l =
    let Conform : Pairs → Type 0 = AllPairs (λ k d. conforms g.K.ShapedKey.about_key.about.shape k × conforms g.V.Shaped.about.shape d) in
    Conform (pairs_of (map (λ e. (g.K.ShapedKey.about_key.about.tells e.0, g.V.Shaped.about.tells e.1)) l.key-iterator)) → Conform (pairs_of (map (λ e. (g.K.ShapedKey.about_key.about.tells e.0, g.V.Shaped.about.tells e.1)) l.self.entries))
