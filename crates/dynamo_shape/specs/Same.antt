-- The same data up to the order of map entries, at every depth.
use Rattle.std.specs.Prelude.{◌≡◌}
use Rattle.dynamo_ser.specs.Datum.{Datum, some, newtype_struct, newtype_variant, seq, tuple, tuple_struct, tuple_variant, map, struct, struct_variant, Elements, no_elements, element, Pairs, no_pairs, pair, Fields, no_fields, field}
use Rattle.dynamo_ser.specs.Without.{Without}

abbrev mutual
  pub Same : Datum → Datum → Type 0
  Same (some d) x = (e : Datum) × (x ≡ some e) × Same d e
  Same (newtype_struct name d) x = (e : Datum) × (x ≡ newtype_struct name e) × Same d e
  Same (newtype_variant v d) x = (e : Datum) × (x ≡ newtype_variant v e) × Same d e
  Same (seq ds) x = (es : Elements) × (x ≡ seq es) × SameElements ds es
  Same (tuple ds) x = (es : Elements) × (x ≡ tuple es) × SameElements ds es
  Same (tuple_struct name ds) x = (es : Elements) × (x ≡ tuple_struct name es) × SameElements ds es
  Same (tuple_variant v ds) x = (es : Elements) × (x ≡ tuple_variant v es) × SameElements ds es
  Same (map ps) x = (qs : Pairs) × (x ≡ map qs) × SamePairs ps qs
  Same (struct name fs) x = (gs : Fields) × (x ≡ struct name gs) × SameFields fs gs
  Same (struct_variant v fs) x = (gs : Fields) × (x ≡ struct_variant v gs) × SameFields fs gs
  Same d x = d ≡ x

  pub SameElements : Elements → Elements → Type 0
  SameElements no_elements xs = xs ≡ no_elements
  SameElements (element d ds) xs = (e : Datum) × (es : Elements) × (xs ≡ element e es) × Same d e × SameElements ds es

  -- each pair has one like it, and none is left
  pub SamePairs : Pairs → Pairs → Type 0
  SamePairs no_pairs xs = xs ≡ no_pairs
  SamePairs (pair k d ps) xs = (l : Datum) × (e : Datum) × (others : Pairs) × Without xs l e others × Same k l × Same d e × SamePairs ps others

  pub SameFields : Fields → Fields → Type 0
  SameFields no_fields xs = xs ≡ no_fields
  SameFields (field name d fs) xs = (e : Datum) × (gs : Fields) × (xs ≡ field name e gs) × Same d e × SameFields fs gs
