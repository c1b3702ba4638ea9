-- What is known of the values of a type: data, the proofs among them, so that what is made of
-- several types is known too.
use Rattle.std.specs.Prelude.{◌≡◌, ℕ, ℤ, pos, Bool, List, Option, Some, None, Result, Ok, Err, ⊤}
use Rattle.std.specs.Prelude.{map}
use Rattle.std.specs.declared.alloc.Global.{Global}
use Rattle.std.specs.declared.vec.Vec.{Vec}
use Rattle.dynamo_value.specs.Fault.{Fault, out_of_memory}
use Rattle.dynamo_value.specs.Integer.{IntegerKind}
use Rattle.dynamo_ser.specs.Datum as datum
use Rattle.dynamo_ser.specs.Datum.{Datum, elements_of}
use Rattle.dynamo_ser.specs.Options.{option_tells}
use Rattle.dynamo_de.specs.Answer as answer
use Rattle.dynamo_shape.specs.ByValue.{SameEach, SameOption}
use Rattle.dynamo_shape.specs.Laws.{IsToldByValue, ToldAlike}
use Rattle.dynamo_shape.specs.Absence.{Absence}
use Rattle.dynamo_shape.specs.Read.{missing}
use Rattle.dynamo_shape.specs.Shape as shape
use Rattle.dynamo_shape.specs.Shape.{Shape}
use Rattle.dynamo_shape.proofs.ByValue.{list_told, list_alike, option_told, option_alike}
use Rattle.dynamo_shape.proofs.Scalars.{bool_told, bool_alike, signed_told, signed_alike}
use Rattle.dynamo_shape.proofs.Scalars.{unsigned_told, unsigned_alike, char_told, char_alike}
use Rattle.dynamo_shape.proofs.Scalars.{text_told, text_alike, bytes_told, bytes_alike, unit_told}
use Rattle.dynamo_shape.proofs.Scalars.{unit_alike}

-- The shape; the datum that a value tells; when two values are the same by value: hashed maps as
-- finite maps, all else part by part; and that they are so exactly where they tell the same data,
-- up to the order of map entries.
pub record About (T : Type 0) : Type 1 where
  pub shape : Shape
  pub tells : T → Datum
  pub same : T → T → Type 0
  pub told_by_value : IsToldByValue shape tells same
  pub told_alike : ToldAlike shape tells same

-- the value of a field that is missing, which tells what reading gives in its place; none where
-- reading refuses
abbrev pub IsAbsent : {T E : Type 0} → (E → Fault) → Shape → Absence → (T → Datum)
    → Result (Option T) E → Type 0
IsAbsent fault s default tells (Ok None) = missing s default ≡ answer.refused
IsAbsent fault s default tells (Ok (Some v)) = missing s default ≡ answer.value (tells v)
IsAbsent fault s default tells (Err e) = fault e ≡ out_of_memory

-- ---- one value

abbrev pub about_bool : About Bool
about_bool = record {
  shape = shape.boolean;
  tells = datum.boolean;
  same = λ a b. a ≡ b;
  told_by_value = bool_told;
  told_alike = bool_alike;
}

abbrev pub about_signed : IntegerKind → About ℤ
about_signed k = record {
  shape = shape.integer k;
  tells = datum.integer k;
  same = λ a b. a ≡ b;
  told_by_value = signed_told k;
  told_alike = signed_alike k;
}

abbrev pub about_unsigned : IntegerKind → About ℕ
about_unsigned k = record {
  shape = shape.integer k;
  tells = λ n. datum.integer k (pos n);
  same = λ a b. a ≡ b;
  told_by_value = unsigned_told k;
  told_alike = unsigned_alike k;
}

abbrev pub about_char : About ℕ
about_char = record {
  shape = shape.char;
  tells = datum.char;
  same = λ a b. a ≡ b;
  told_by_value = char_told;
  told_alike = char_alike;
}

abbrev pub about_text : {T : Type 0} → (T → List ℕ) → About T
about_text seen = record {
  shape = shape.string;
  tells = λ t. datum.string (seen t);
  same = λ a b. seen a ≡ seen b;
  told_by_value = text_told seen;
  told_alike = text_alike seen;
}

abbrev pub about_bytes : {T : Type 0} → (T → List ℕ) → About T
about_bytes seen = record {
  shape = shape.bytes;
  tells = λ t. datum.bytes (seen t);
  same = λ a b. seen a ≡ seen b;
  told_by_value = bytes_told seen;
  told_alike = bytes_alike seen;
}

abbrev pub about_unit : About ⊤
about_unit = record {
  shape = shape.unit;
  tells = λ _. datum.unit;
  same = λ a b. a ≡ b;
  told_by_value = unit_told;
  told_alike = unit_alike;
}

-- ---- values of other types

abbrev pub about_option : {T : Type 0} → About T → About (Option T)
about_option a = record {
  shape = shape.option a.shape;
  tells = option_tells a.tells;
  same = SameOption a.same;
  told_by_value = option_told a.shape a.tells a.same a.told_by_value;
  told_alike = option_alike a.shape a.tells a.same a.told_alike;
}

-- as the part of it that is told
abbrev pub about_part : {B T : Type 0} → (B → T) → About T → About B
about_part part a = record {
  shape = a.shape;
  tells = λ b. a.tells (part b);
  same = λ b c. a.same (part b) (part c);
  told_by_value = λ b c. a.told_by_value (part b) (part c);
  told_alike = λ b c. a.told_alike (part b) (part c);
}

abbrev pub list_tells : {T : Type 0} → (T → Datum) → Vec T Global → Datum
list_tells tells v = datum.seq (elements_of (map tells v.items))

abbrev pub about_list : {T : Type 0} → About T → About (Vec T Global)
about_list a = record {
  shape = shape.list a.shape;
  tells = list_tells a.tells;
  same = λ v w. SameEach a.same v.items w.items;
  told_by_value = list_told a.shape a.tells a.same a.told_by_value;
  told_alike = list_alike a.shape a.tells a.same a.told_alike;
}
