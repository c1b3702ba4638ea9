-- What a single text shows, before a reader is put around what lies inside.
use Rattle.std.specs.Prelude.{◌≡◌, ℕ, List, Result, Ok, Err, String, string_bytes}
use Rattle.std.specs.declared.alloc.Global.{Global}
use Rattle.dynamo_value.specs.Fault.{Fault, failed_to_parse_int, failed_to_parse_float}
use Rattle.dynamo_de.specs.Showing.{integer_showing}
use Rattle.dynamo_de.specs.Shown.{Shown, named}
use Rattle.dynamo_de.specs.Showing as showing
use Rattle.dynamo_de.specs.Showing.{Showing}
use Rattle.dynamo_de.specs.Source.{key_text}
use Rattle.dynamo_leaf.specs.declared.leaf.Leaf.{Leaf}
use Rattle.dynamo_leaf.specs.declared.leaf.Leaf.TheVariants as leaf
use Rattle.dynamo_leaf.specs.declared.leaf.NoNumber.{NoNumber}
use Rattle.dynamo_leaf.specs.declared.leaf.NoNumber.TheVariants as no_number

-- what a visitor is shown of the leaf of a text
abbrev pub leaf_showing : List ℕ → Leaf → Showing
leaf_showing t (leaf.Bool b) = showing.boolean b
leaf_showing t (leaf.Integer n) = integer_showing n
leaf_showing t leaf.NumberText = showing.number_text t
leaf_showing t leaf.Text = showing.text t
leaf_showing t leaf.Name = named t
leaf_showing t leaf.Newtype = showing.newtype (key_text t)

-- the fault of a text that shows no number
abbrev pub no_number_fault : List ℕ → NoNumber → Fault
no_number_fault t (no_number.Integer cause) = failed_to_parse_int t
no_number_fault t no_number.Float = failed_to_parse_float t

-- The text shows exactly this, or refuses by exactly this fault. Want of memory is no excuse.
abbrev pub ShowsLeaf : {E : Type 0} → (E → Fault) → List ℕ → Shown → Result Leaf E → Type 0
ShowsLeaf fault t shown (Ok l) = shown ≡ Ok (leaf_showing t l)
ShowsLeaf fault t shown (Err e) = shown ≡ Err (fault e)

-- the same where the text comes with it
abbrev pub ShowsText : {E : Type 0} → (E → Fault) → Shown → Result (Leaf × String Global) E → Type 0
ShowsText fault shown (Ok p) = shown ≡ Ok (leaf_showing (string_bytes p.1) p.0)
ShowsText fault shown (Err e) = shown ≡ Err (fault e)
