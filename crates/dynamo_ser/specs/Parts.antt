-- What lies in a datum, and something at hand where it has no such part.
use Rattle.std.specs.Prelude.{ℕ, ℤ, pos, Bool, true, List, []}
use Rattle.dynamo_ser.specs.Datum as datum
use Rattle.dynamo_ser.specs.Datum.{Datum, Elements, Pairs, Fields}

abbrev pub bool_in : Datum → Bool
bool_in (datum.boolean b) = b
bool_in _ = true

abbrev pub integer_in : Datum → ℤ
integer_in (datum.integer k z) = z
integer_in _ = pos 0

-- the number of an integer, or the code of a character
abbrev pub number_in : Datum → ℕ
number_in (datum.integer k (pos n)) = n
number_in (datum.char c) = c
number_in _ = 0

abbrev pub text_in : Datum → List ℕ
text_in (datum.string t) = t
text_in (datum.bytes t) = t
text_in _ = []

-- the content of an option, a newtype or a variant of one
abbrev pub content_in : Datum → Datum
content_in (datum.some d) = d
content_in (datum.newtype_struct name d) = d
content_in (datum.newtype_variant v d) = d
content_in d = d

-- the elements, also of what a newtype struct holds
abbrev pub elements_in : Datum → Elements
elements_in (datum.seq ds) = ds
elements_in (datum.tuple ds) = ds
elements_in (datum.tuple_struct name ds) = ds
elements_in (datum.tuple_variant v ds) = ds
elements_in (datum.newtype_struct name d) = elements_in d
elements_in _ = datum.no_elements

abbrev pub head_in : Elements → Datum
head_in (datum.element d ds) = d
head_in datum.no_elements = datum.unit

abbrev pub tail_in : Elements → Elements
tail_in (datum.element d ds) = ds
tail_in datum.no_elements = datum.no_elements

abbrev pub pairs_in : Datum → Pairs
pairs_in (datum.map ps) = ps
pairs_in _ = datum.no_pairs

abbrev pub fields_in : Datum → Fields
fields_in (datum.struct name fs) = fs
fields_in (datum.struct_variant v fs) = fs
fields_in _ = datum.no_fields

abbrev pub first_in : Fields → Datum
first_in (datum.field name d fs) = d
first_in datum.no_fields = datum.unit

abbrev pub others_in : Fields → Fields
others_in (datum.field name d fs) = fs
others_in datum.no_fields = datum.no_fields
