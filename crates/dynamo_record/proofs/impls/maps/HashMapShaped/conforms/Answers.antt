use Rattle.std.proofs.Common.{sym, subst}
use Rattle.dynamo_record.proofs.Common.{IsDistinct}
use Rattle.std.specs.Map.{keys_of}
use Rattle.dynamo_shape.proofs.MapsTold.{map_conforms}
use Rattle.dynamo_record.proofs.impls.maps.HashMapShaped.conforms.Goals as goal

-- no two keys are equal, so they tell different data
pub returns : goal.returns
returns g c =
    let key = g.K.ShapedKey.about_key in
    let es = c.args.self.now.entries in
    let distinct = subst (λ eq. IsDistinct eq (keys_of es)) (sym g.met.K.ShapedKey.is_key.eq) c.into_iter-key-iterator.ensures.into_iter_gives.4 in
    map_conforms key.eq key.about.tells g.V.Shaped.about.tells key.equal_as_told key.about.shape g.V.Shaped.about.shape es distinct (c.loop-key.invariant (rw c.in-None.ensures.steps.0 tt))
