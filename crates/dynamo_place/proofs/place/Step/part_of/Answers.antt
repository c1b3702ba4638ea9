use Rattle.std.proofs.Common.{◌∙◌, inl, ap, slice_get}
use Rattle.dynamo_place.proofs.Items.{item_at}
use Rattle.dynamo_place.proofs.place.Step.part_of.Goals as goal

pub returns-in-Element-L : goal.returns-in-Element-L
returns-in-Element-L c =
    let index = c.in-Element-L.index in
    let lent = item_at c.deref.result.now index c.get-in-Element-L.result c.get-in-Element-L.ensures.lookup in
    rw c.in-Element-L.is-0 (inl (c.in-Element-L.values, c.in-Element-L.is-1, lent ∙ ap (λ xs. slice_get xs index) c.deref.ensures.value))
