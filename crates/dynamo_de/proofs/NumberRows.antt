-- Worked rows: single texts, and what the two grammars say of them.
use Rattle.std.proofs.Common.{◌≡◌, pos, negsuc, true, false, [], Some, None, refl}
use Rattle.std.specs.Prelude.{codes}
use Rattle.dynamo_value.specs.Integer.{i8, u8}
use Rattle.dynamo_de.specs.Number.{parse, is_float_text}

-- float texts

point_at_the_end : is_float_text (codes "1.") ≡ true
point_at_the_end = refl

point_at_the_front : is_float_text (codes ".5") ≡ true
point_at_the_front = refl

exponent : is_float_text (codes "1e5") ≡ true
exponent = refl

signed_exponent : is_float_text (codes "-1.5E-07") ≡ true
signed_exponent = refl

negative_infinity : is_float_text (codes "-INF") ≡ true
negative_infinity = refl

signed_nan : is_float_text (codes "+nan") ≡ true
signed_nan = refl

-- texts of no float

empty : is_float_text [] ≡ false
empty = refl

sign_alone : is_float_text (codes "-") ≡ false
sign_alone = refl

point_alone : is_float_text (codes ".") ≡ false
point_alone = refl

exponent_without_digits : is_float_text (codes "1e") ≡ false
exponent_without_digits = refl

two_points : is_float_text (codes "1.2.3") ≡ false
two_points = refl

hexadecimal : is_float_text (codes "0x1") ≡ false
hexadecimal = refl

underscore : is_float_text (codes "1_0") ≡ false
underscore = refl

leading_blank : is_float_text (codes " 1") ≡ false
leading_blank = refl

-- integer texts

plus : parse u8 (codes "+7") ≡ Some (pos 7)
plus = refl

leading_zeros : parse u8 (codes "007") ≡ Some (pos 7)
leading_zeros = refl

unsigned_minus_zero : parse u8 (codes "-0") ≡ None
unsigned_minus_zero = refl

signed_minus_zero : parse i8 (codes "-0") ≡ Some (pos 0)
signed_minus_zero = refl

greatest : parse u8 (codes "255") ≡ Some (pos 255)
greatest = refl

one_too_many : parse u8 (codes "256") ≡ None
one_too_many = refl

least : parse i8 (codes "-128") ≡ Some (negsuc 127)
least = refl

one_too_few : parse i8 (codes "-129") ≡ None
one_too_few = refl
