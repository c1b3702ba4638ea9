use Rattle.std.proofs.Common.{sym, subst}
use Rattle.dynamo_record.proofs.Common.{IsDistinct}
use Rattle.std.specs.Map.{keys_of}
use Rattle.std.specs.Ordering.{eq_by_cmp}
use Rattle.std.proofs.lemmas.Map.Keys.{IsDistinct-from_sorted}
use Rattle.dynamo_shape.proofs.MapsTold.{map_conforms}
use Rattle.dynamo_record.proofs.impls.maps.BTreeMapShaped.conforms.Goals as goal

-- the keys are in order, so that no two are equal
pub returns : goal.returns
returns g c =
    let key = g.K.ShapedKey.about_key in
    let es = c.args.self.now.entries in
    let sorted = IsDistinct-from_sorted g.K.Ord.cmp (keys_of es) c.into_iter-key-iterator.ensures.into_iter_gives.5 in
    let distinct = subst (λ cmp. IsDistinct (eq_by_cmp cmp) (keys_of es)) (sym g.met.K.ShapedKey.is_key.cmp) sorted in
    map_conforms (eq_by_cmp key.cmp) key.about.tells g.V.Shaped.about.tells key.ordered_as_told key.about.shape g.V.Shaped.about.shape es distinct (c.loop-key.invariant (rw c.in-None.ensures.steps.0 tt))
