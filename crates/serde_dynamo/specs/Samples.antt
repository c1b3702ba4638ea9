-- The data that the samples tell.
use Rattle.std.specs.Prelude.{ℕ, ℤ, pos, List, map, string_bytes, codes}
use Rattle.dynamo_value.specs.Bytes.{octets_of}
use Rattle.dynamo_ser.specs.Datum as datum
use Rattle.dynamo_ser.specs.Datum.{Datum, variant, elements_of}
use Rattle.dynamo_ser.specs.Symbols.{SetKind, strings, numbers, blobs, symbol}
use Rattle.serde_dynamo.specs.declared.samples.event.Event.{Event}
use Rattle.serde_dynamo.specs.declared.samples.sets.Sets.{Sets}
use Rattle.serde_dynamo.specs.declared.samples.user.User.{User}

-- a user: the struct of its three fields, in this order
abbrev pub user_of : List ℕ → List ℕ → ℤ → Datum
user_of id name age =
    datum.struct (codes "User")
    (datum.field (codes "id") (datum.string id)
    (datum.field (codes "name") (datum.string name)
    (datum.field (codes "age") (datum.integer datum.u8 age) datum.no_fields)))

abbrev pub user_datum : List ℕ → List ℕ → ℕ → Datum
user_datum id name age = user_of id name (pos age)

abbrev pub user_told : User → Datum
user_told user = user_datum (string_bytes user.id) (string_bytes user.name) user.age

-- a byte, as the datum of a u8
abbrev pub byte : ℤ → Datum
byte n = datum.integer datum.u8 n

abbrev pub event_variant : ℕ → List ℕ → datum.Variant
event_variant index name = variant (codes "Event") index name

-- an event: its variant, numbered from 0
abbrev pub event_unit : Datum
event_unit = datum.unit_variant (event_variant 0 (codes "Unit"))

abbrev pub event_newtype : ℤ → Datum
event_newtype n = datum.newtype_variant (event_variant 1 (codes "Newtype")) (byte n)

abbrev pub event_tuple : ℤ → ℤ → Datum
event_tuple a b = datum.tuple_variant (event_variant 2 (codes "Tuple"))
    (datum.element (byte a) (datum.element (byte b) datum.no_elements))

abbrev pub event_structy : ℤ → ℤ → Datum
event_structy one two =
    datum.struct_variant (event_variant 3 (codes "Structy"))
    (datum.field (codes "one") (byte one) (datum.field (codes "two") (byte two) datum.no_fields))

abbrev pub event_told : Event → Datum
event_told Event.Unit = event_unit
event_told (Event.Newtype n) = event_newtype (pos n)
event_told (Event.Tuple a b) = event_tuple (pos a) (pos b)
event_told (Event.Structy one two) = event_structy (pos one) (pos two)

-- three lists: the struct of the three sets
abbrev pub set_told : SetKind → List Datum → Datum
set_told kind ds = datum.newtype_struct (symbol kind) (datum.seq (elements_of ds))

abbrev pub sets_of : List Datum → List Datum → List Datum → Datum
sets_of names the_numbers the_blobs =
    datum.struct (codes "Sets")
    (datum.field (codes "names") (set_told strings names)
    (datum.field (codes "numbers") (set_told numbers the_numbers)
    (datum.field (codes "blobs") (set_told blobs the_blobs) datum.no_fields)))

abbrev pub sets_told : Sets → Datum
sets_told sets = sets_of (map (λ s. datum.string (string_bytes s)) sets.names.items)
    (map (λ n. datum.integer datum.u64 (pos n)) sets.numbers.items)
    (map (λ b. datum.bytes (octets_of b)) sets.blobs.items)
