-- Each datum is the same as itself.
use Rattle.std.proofs.Common.{◌≡◌, refl, subst, inl}
use Rattle.dynamo_shape.proofs.Common.{Datum, some, newtype_struct, newtype_variant, seq, tuple}
use Rattle.dynamo_shape.proofs.Common.{tuple_struct, tuple_variant, map, struct_variant, Pairs}
use Rattle.dynamo_shape.proofs.Common.{no_pairs, pair, Fields, no_fields, field, ToldAlike, Same}
use Rattle.dynamo_shape.proofs.Common.{SameElements, SamePairs, SameFields, Shape}
use Rattle.dynamo_ser.specs.Datum as datum
use Rattle.dynamo_ser.specs.Datum.{struct}

mutual
  pub same_refl : (d : Datum) → Same d d
  same_refl (some d) = (d, refl, same_refl d)
  same_refl (newtype_struct name d) = (d, refl, same_refl d)
  same_refl (newtype_variant v d) = (d, refl, same_refl d)
  same_refl (seq ds) = (ds, refl, data_refl ds)
  same_refl (tuple ds) = (ds, refl, data_refl ds)
  same_refl (tuple_struct name ds) = (ds, refl, data_refl ds)
  same_refl (tuple_variant v ds) = (ds, refl, data_refl ds)
  same_refl (map ps) = (ps, refl, pairs_refl ps)
  same_refl (struct name fs) = (fs, refl, fields_refl fs)
  same_refl (struct_variant v fs) = (fs, refl, fields_refl fs)
  same_refl d = refl

  pub data_refl : (ds : datum.Elements) → SameElements ds ds
  data_refl datum.no_elements = refl
  data_refl (datum.element d ds) = (d, ds, refl, same_refl d, data_refl ds)

  pairs_refl : (ps : Pairs) → SamePairs ps ps
  pairs_refl no_pairs = refl
  pairs_refl (pair k d ps) = (k, d, ps, inl (refl, refl, refl), same_refl k, same_refl d, pairs_refl ps)

  pub fields_refl : (fs : Fields) → SameFields fs fs
  fields_refl no_fields = refl
  fields_refl (field name d fs) = (d, fs, refl, same_refl d, fields_refl fs)

-- equal values tell the same data
pub equal_alike : {V : Type 0} (s : Shape) (tells : V → Datum) → ToldAlike s tells (λ v w. v ≡ w)
equal_alike s tells v w _ _ h = subst (λ u. Same (tells v) (tells u)) h (same_refl (tells v))
