-- The attribute value, as contracts see it, that a value of the program stands for.
use Rattle.std.specs.Prelude.{ℕ, List, [], ◌∷◌, map, String, string_bytes}
use Rattle.std.specs.Ordering.{nat_cmp}
use Rattle.std.specs.Cmp.Lexicographic.{slice_cmp}
use Rattle.std.specs.FinMap.Entries.{put}
use Rattle.std.specs.declared.alloc.Global.{Global}
use Rattle.std.specs.declared.cmp.Ordering.{Ordering}
use Rattle.dynamo_value.specs.Av as av
use Rattle.dynamo_value.specs.Av.{Av, Members, Elements, elements_of, members_of}
use Rattle.dynamo_value.specs.declared.attribute_value.AttributeValue.{AttributeValue, fold-AttributeValue}
use Rattle.dynamo_value.specs.declared.attribute_value.AttributeValue.TheOpen.{AttributeValue-F}

-- texts by their bytes
abbrev pub text_cmp : List ℕ → List ℕ → Ordering
text_cmp = slice_cmp nat_cmp

-- the entries of a hashed map, whose keys differ, in ascending order of the bytes of their keys
abbrev pub in_key_order : {A : Type 0} → List (String Global × A) → List (List ℕ × A)
in_key_order [] = []
in_key_order (e ∷ es) = put text_cmp (string_bytes e.0) e.1 (in_key_order es)

-- one level, where each value inside is seen already
abbrev pub view_step : AttributeValue-F Av → Av
view_step (AttributeValue-F.N text) = av.N (string_bytes text)
view_step (AttributeValue-F.S text) = av.S (string_bytes text)
view_step (AttributeValue-F.Bool b) = av.Boolean b
view_step (AttributeValue-F.B bytes) = av.B bytes.items
view_step (AttributeValue-F.Null b) = av.Null b
view_step (AttributeValue-F.M h) = av.M (members_of (in_key_order h.entries))
view_step (AttributeValue-F.L values) = av.L (elements_of values.items)
view_step (AttributeValue-F.Ss texts) = av.Ss (map string_bytes texts.items)
view_step (AttributeValue-F.Ns texts) = av.Ns (map string_bytes texts.items)
view_step (AttributeValue-F.Bs blobs) = av.Bs (map (λ b. b.items) blobs.items)

abbrev pub view : AttributeValue → Av
view = fold-AttributeValue Av view_step

-- the elements of a list
abbrev pub elements_view : List AttributeValue → Elements
elements_view values = elements_of (map view values)

-- the members of a map, by the entries of the hashed map
abbrev pub entries_view : List (String Global × AttributeValue) → List (List ℕ × Av)
entries_view es = in_key_order (map (λ e. (e.0, view e.1)) es)

abbrev pub members_view : List (String Global × AttributeValue) → Members
members_view es = members_of (entries_view es)
