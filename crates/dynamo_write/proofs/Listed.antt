-- The attribute values that are in a list.
use Rattle.std.proofs.Common.{◌≡◌, List, [], ◌∷◌, map, refl, ap}
use Rattle.dynamo_value.specs.Av as av
use Rattle.dynamo_value.specs.Av.{elements_of}
use Rattle.dynamo_value.specs.View.{view}
use Rattle.dynamo_value.specs.declared.attribute_value.AttributeValue.{AttributeValue}
use Rattle.dynamo_write.specs.AttributeValues.{attribute_values}
use Rattle.dynamo_write.specs.Target.{parts_before}

pub before_nothing : (vs : List AttributeValue) → parts_before attribute_values vs av.no_elements ≡ elements_of (map view vs)
before_nothing [] = refl
before_nothing (v ∷ vs) = ap (av.element (view v)) (before_nothing vs)
