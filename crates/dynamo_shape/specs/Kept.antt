-- What writing keeps of a datum: some of what is written as null is none, at every depth. Nothing else is lost.
use Rattle.std.specs.Prelude.{Bool, false, Result, Ok, Err, if◌then◌else◌}
use Rattle.dynamo_value.specs.Av.{Av, Null}
use Rattle.dynamo_value.specs.Fault.{Fault}
use Rattle.dynamo_ser.specs.Datum.{Datum, none, some, newtype_struct, newtype_variant, seq, tuple, tuple_struct, tuple_variant, map, struct, struct_variant, Elements, no_elements, element, Pairs, no_pairs, pair, Fields, no_fields, field}
use Rattle.dynamo_write.specs.Written.{written}

abbrev pub is_null : Av → Bool
is_null (Null b) = b
is_null _ = false

abbrev pub is_written_null : Result Av Fault → Bool
is_written_null (Ok a) = is_null a
is_written_null (Err f) = false

abbrev mutual
  pub kept : Datum → Datum
  kept (some d) = if is_written_null (written d) then none else some (kept d)
  kept (newtype_struct name d) = newtype_struct name (kept d)
  kept (newtype_variant v d) = newtype_variant v (kept d)
  kept (seq ds) = seq (kept_elements ds)
  kept (tuple ds) = tuple (kept_elements ds)
  kept (tuple_struct name ds) = tuple_struct name (kept_elements ds)
  kept (tuple_variant v ds) = tuple_variant v (kept_elements ds)
  kept (map ps) = map (kept_pairs ps)
  kept (struct name fs) = struct name (kept_fields fs)
  kept (struct_variant v fs) = struct_variant v (kept_fields fs)
  kept d = d

  pub kept_elements : Elements → Elements
  kept_elements no_elements = no_elements
  kept_elements (element d ds) = element (kept d) (kept_elements ds)

  pub kept_pairs : Pairs → Pairs
  kept_pairs no_pairs = no_pairs
  kept_pairs (pair k d ps) = pair (kept k) (kept d) (kept_pairs ps)

  pub kept_fields : Fields → Fields
  kept_fields no_fields = no_fields
  kept_fields (field name d fs) = field name (kept d) (kept_fields fs)
