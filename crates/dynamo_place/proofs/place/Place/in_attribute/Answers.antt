use Rattle.std.proofs.Common.{rules, ◌≡◌, ℕ, List, string_bytes, inl, inr}
use Rattle.std.specs.declared.alloc.Global.{Global}
use Rattle.std.specs.declared.string.String.{String}
use Rattle.dynamo_place.specs.Found.{IsUnder, IsUnderName}
use Rattle.dynamo_place.specs.declared.place.Place.{Place}
use Rattle.dynamo_place.specs.declared.place.Step.{Step}
use Rattle.dynamo_place.proofs.place.Place.in_attribute.Goals as goal

named : (name : List ℕ) (text : String Global) (inner outer : Place) → string_bytes text ≡ name
    → IsUnder (Step.Attribute text) inner outer → IsUnderName name inner outer
named name text inner outer is (inl e) = inl (text, is, e)
named name text inner outer is (inr e) = inr e

pub returns-in-Ok : goal.returns-in-Ok
returns-in-Ok c = named c.args.name.now c.in-Ok.name c.args.self c.under.result (search rules) c.under.ensures
