-- What holds of an attribute value of a program where it holds of the values inside, holds of every one.
use Rattle.std.proofs.Common.{List, [], ◌∷◌, map, subst, String, Global}
use Rattle.dynamo_json.proofs.Common.{AllByRecursion, AttributeValue, Entry}
use Rattle.dynamo_value.specs.declared.attribute_value.AttributeValue.TheOpen.{AttributeValue-F}
use Rattle.dynamo_value.specs.declared.attribute_value.AttributeValue.TheFolds.{ind-AttributeValue, map-AttributeValue}
use Rattle.dynamo_value.specs.declared.attribute_value.AttributeValue.TheViews.{roll-AttributeValue}

-- a value, with values in the places of those inside
abbrev pub Layer : Type 0
Layer = AttributeValue-F AttributeValue

module _ (Good : AttributeValue → Type 0) where
  abbrev pub AllEntries : List Entry → Type 0
  AllEntries es = AllByRecursion (λ e. Good e.1) es

  -- the values inside are good
  abbrev pub Inside : Layer → Type 0
  Inside (AttributeValue-F.M h) = AllEntries h.entries
  Inside (AttributeValue-F.L values) = AllByRecursion Good values.items
  Inside _ = Unit {0}

  abbrev Child : Type 0
  Child = (v : AttributeValue) × Good v

  elements_inside : (cs : List Child) → AllByRecursion Good (map (λ c. c.0) cs)
  elements_inside [] = tt
  elements_inside (c ∷ cs) = (c.1, elements_inside cs)

  entries_inside : (es : List (String Global × Child)) → AllEntries (map (λ e. (e.0, e.1.0)) es)
  entries_inside [] = tt
  entries_inside (e ∷ es) = (e.1.1, entries_inside es)

  inside : (y : AttributeValue-F Child) → Inside (map-AttributeValue Child AttributeValue (λ c. c.0) y)
  inside (AttributeValue-F.M h) = entries_inside h.entries
  inside (AttributeValue-F.L values) = elements_inside values.items
  inside y = tt

  module _ (step : (x : Layer) → Inside x → Good (roll-AttributeValue x)) where
    pub every_value : (v : AttributeValue) → Good v
    every_value = ind-AttributeValue Good (λ x y is. step x (subst Inside is (inside y)))

    pub every_entry : (es : List Entry) → AllEntries es
    every_entry [] = tt
    every_entry (e ∷ es) = (every_value e.1, every_entry es)
