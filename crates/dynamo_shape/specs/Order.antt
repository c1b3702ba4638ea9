-- The order of the members of a set, and lists and sets in that order.
use Rattle.std.specs.Prelude.{◌≡◌, Bool, true, false, ⊤, if◌then◌else◌}
use Rattle.std.specs.Cmp.Lexicographic.{slice_cmp}
use Rattle.std.specs.Ordering.{is_lt, nat_cmp, int_cmp, bool_cmp}
use Rattle.dynamo_ser.specs.Datum.{Datum, boolean, integer, char, string, bytes, unit_variant, newtype_struct, seq, Elements, no_elements, element}

-- Whether a datum is below another one: false is below true; integers and characters are in the order of their values, strings
-- and byte strings in the order of their bytes, unit variants in the order of their enum, and newtype structs in the order of
-- what they hold. No other datum is below one.
abbrev pub is_below : Datum → Datum → Bool
is_below (boolean b) (boolean c) = is_lt (bool_cmp b c)
is_below (integer k y) (integer j z) = is_lt (int_cmp y z)
is_below (char c) (char e) = is_lt (nat_cmp c e)
is_below (string t) (string u) = is_lt (slice_cmp nat_cmp t u)
is_below (bytes t) (bytes u) = is_lt (slice_cmp nat_cmp t u)
is_below (unit_variant v) (unit_variant w) = is_lt (nat_cmp v.index w.index)
is_below (newtype_struct name l) (newtype_struct other m) = is_below l m
is_below _ _ = false

abbrev pub IsBelowEach : Datum → Elements → Type 0
IsBelowEach d no_elements = ⊤
IsBelowEach d (element e es) = (is_below d e ≡ true) × IsBelowEach d es

-- each element is below all that follow, so that none occurs twice
abbrev pub AreAscending : Elements → Type 0
AreAscending no_elements = ⊤
AreAscending (element d ds) = IsBelowEach d ds × AreAscending ds

-- of a list, or a newtype struct over one, that its elements ascend; nothing of any other datum
abbrev pub IsAscending : Datum → Type 0
IsAscending (seq ds) = AreAscending ds
IsAscending (newtype_struct name d) = IsAscending d
IsAscending _ = ⊤

-- the elements with this one in its place, unless it comes to one that is neither below it nor above it
abbrev pub put_element : Datum → Elements → Elements
put_element d no_elements = element d no_elements
put_element d (element e es) = if is_below d e then element d (element e es) else (if is_below e d then element e (put_element d es) else element e es)

-- the elements, each once and in its place
abbrev pub sorted_elements : Elements → Elements
sorted_elements no_elements = no_elements
sorted_elements (element d ds) = put_element d (sorted_elements ds)

-- a list, or a newtype struct over one, with its elements sorted; any other datum as it is
abbrev pub sorted : Datum → Datum
sorted (seq ds) = seq (sorted_elements ds)
sorted (newtype_struct name d) = newtype_struct name (sorted d)
sorted d = d
