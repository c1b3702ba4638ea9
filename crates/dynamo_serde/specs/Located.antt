-- The place of an error, where items are read.
use Rattle.std.specs.Prelude.{◌≡◌, ◌<◌, ◌⊎◌, ℕ, List, [], ◌∷◌}
use Rattle.dynamo_place.specs.Found.{steps_of}
use Rattle.dynamo_place.specs.declared.place.Place.{Place}
use Rattle.dynamo_place.specs.declared.place.Step.{Step}

-- the place begins with the index of one of the items, or is that of the whole
abbrev pub IsInItems : ℕ → Place → Type 0
IsInItems count place =
    ((index : ℕ) × (inner : List Step) × (index < count) × (steps_of place ≡ Step.Element index ∷ inner)) ⊎ (steps_of place ≡ [])
