-- What is written for a datum: an attribute value or a fault. In a list or a struct the first faulty element's or field's
-- fault is the fault; in a map the first faulty pair's, its key's before its value's.
use Rattle.std.specs.Prelude.{ℕ, true, List, [], ◌∷◌, Result, Ok, Err, encode_utf8}
use Rattle.std.specs.Fmt.{signed_decimal}
use Rattle.dynamo_value.specs.Av as av
use Rattle.dynamo_value.specs.Av.{Av, members_of}
use Rattle.dynamo_value.specs.Fault.{Fault, message, not_maplike}
use Rattle.dynamo_value.specs.Steps.{◌>>=◌}
use Rattle.dynamo_ser.specs.Datum as datum
use Rattle.dynamo_ser.specs.Datum.{Datum}
use Rattle.dynamo_ser.specs.Key.{key_text}
use Rattle.dynamo_write.specs.Collect.{collect}
use Rattle.dynamo_write.specs.Set.{set_kind, named}

-- the map of these entries, in the order in which they were written
abbrev pub map_of_entries : List (List ℕ × Av) → Av
map_of_entries es = av.M (members_of (collect es))

-- the map of one member
abbrev pub one_member : List ℕ → Av → Av
one_member name a = av.M (av.member name a av.no_members)

abbrev mutual
  pub written : Datum → Result Av Fault
  written (datum.boolean b) = Ok (av.Boolean b)
  written (datum.integer kind z) = Ok (av.N (signed_decimal z))
  written (datum.char c) = Ok (av.S (encode_utf8 c))
  written (datum.string text) = Ok (av.S text)
  written (datum.bytes bytes) = Ok (av.B bytes)
  written datum.none = Ok (av.Null true)
  written datum.unit = Ok (av.Null true)
  written (datum.unit_struct name) = Ok (av.Null true)
  written (datum.some content) = written content
  written (datum.unit_variant variant) = Ok (av.S variant.name)
  written (datum.newtype_struct name content) = written content >>= named (set_kind name)
  written (datum.newtype_variant variant content) = written content >>= λ a. Ok (one_member variant.name a)
  written (datum.seq ds) = written_elements ds >>= λ as'. Ok (av.L as')
  written (datum.tuple ds) = written_elements ds >>= λ as'. Ok (av.L as')
  written (datum.tuple_struct name ds) = written_elements ds >>= λ as'. Ok (av.L as')
  written (datum.tuple_variant variant ds) = written_elements ds >>= λ as'. Ok (one_member variant.name (av.L as'))
  written (datum.map ps) = written_pairs ps >>= λ es. Ok (map_of_entries es)
  written (datum.struct name fs) = written_fields fs >>= λ es. Ok (map_of_entries es)
  written (datum.struct_variant variant fs) = written_fields fs >>= λ es. Ok (one_member variant.name (map_of_entries es))
  written (datum.refuse text) = Err (message text)

  pub written_elements : datum.Elements → Result av.Elements Fault
  written_elements datum.no_elements = Ok av.no_elements
  written_elements (datum.element d ds) = do
    a ← written d
    as' ← written_elements ds
    Ok (av.element a as')

  pub written_pairs : datum.Pairs → Result (List (List ℕ × Av)) Fault
  written_pairs datum.no_pairs = Ok []
  written_pairs (datum.pair k d ps) = do
    text ← key_text k
    a ← written d
    es ← written_pairs ps
    Ok ((text, a) ∷ es)

  pub written_fields : datum.Fields → Result (List (List ℕ × Av)) Fault
  written_fields datum.no_fields = Ok []
  written_fields (datum.field name d fs) = do
    a ← written d
    es ← written_fields fs
    Ok ((name, a) ∷ es)

-- the members of an item: what is written has to be a map
abbrev pub members_in : Av → Result av.Members Fault
members_in (av.M members) = Ok members
members_in _ = Err not_maplike

abbrev pub item_written : Datum → Result av.Members Fault
item_written d = written d >>= members_in
