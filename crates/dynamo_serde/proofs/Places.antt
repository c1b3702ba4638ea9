-- The place of an error, where items are read.
use Rattle.std.proofs.Common.{◌<◌, ℕ, inl, inr}
use Rattle.dynamo_place.specs.Found.{steps_of, IsUnder}
use Rattle.dynamo_place.specs.declared.place.Place.{Place}
use Rattle.dynamo_place.specs.declared.place.Step.{Step}
use Rattle.dynamo_serde.specs.Located.{IsInItems}

pub in_items : (index count : ℕ) (inner outer : Place) → index < count → IsUnder (Step.Element index) inner outer → IsInItems count outer
in_items index count inner outer lt (inl is) = inl (index, steps_of inner, lt, is)
in_items index count inner outer lt (inr is) = inr is
