-- What `parse` gives at a u8 is the age.
use Rattle.std.proofs.Common.{◌≡◌, ℕ, ◌^◌, ◌<◌, true, ◌&&◌, nat_lt, List, length, Result, Ok, Err, Some, refl, ap, arith, inl, inr}
use Rattle.std.specs.Result.{result_ok}
use Rattle.std.specs.Str.{all_ascii_digits}
use Rattle.std.specs.Str.Parse.{without_leading_plus, digits_value, IsNumeral, ParsesUnsigned}
use Rattle.std.proofs.lemmas.Bool.{and_parts, cases_Bool}
use Rattle.std.proofs.lemmas.Bool.Decides.{nat_tests}
use Rattle.std.proofs.lemmas.Str.Parse.{IsNumeralModel, numerals_by_value, tells_all_ascii_digits}
use Rattle.tool_commands.specs.Age.{age_of}

own : IsNumeralModel (λ ds. all_ascii_digits ds ≡ true) (digits_value 10)
own = numerals_by_value _ tells_all_ascii_digits

-- the test of `age_in`, by its three parts
holds : (ds : List ℕ) → IsNumeral 10 ds → digits_value 10 ds < 2 ^ 8 → (nat_lt 0 (length ds) && all_ascii_digits ds && nat_lt (digits_value 10 ds) 256) ≡ true
holds ds numeral small =
    let some : nat_lt 0 (length ds) ≡ true = grind (arith, nat_tests, numeral) in
    let digits : all_ascii_digits ds ≡ true = own.from ds numeral.1 in
    let fits : nat_lt (digits_value 10 ds) 256 ≡ true = grind (arith, nat_tests, small) in
    rw (some, digits, fits) refl

parts : (ds : List ℕ) → (nat_lt 0 (length ds) && all_ascii_digits ds && nat_lt (digits_value 10 ds) 256) ≡ true → IsNumeral 10 ds × (digits_value 10 ds < 2 ^ 8)
parts ds test =
    let (numeral, fits) = and_parts (nat_lt 0 (length ds) && all_ascii_digits ds) (nat_lt (digits_value 10 ds) 256) test in
    let (some, digits) = and_parts (nat_lt 0 (length ds)) (all_ascii_digits ds) numeral in
    ((grind (arith, nat_tests, some), own.to ds digits), grind (arith, nat_tests, fits))

pub parsed_age : {E : Type 0} (text : List ℕ) (r : Result ℕ E) → ParsesUnsigned 8 10 text r → result_ok r ≡ age_of text
parsed_age text (Ok n) h = rw (holds (without_leading_plus text) h.0.0 h.0.1) (ap Some h.1)
parsed_age text (Err e) h =
    let ds = without_leading_plus text in
    elim (cases_Bool (nat_lt 0 (length ds) && all_ascii_digits ds && nat_lt (digits_value 10 ds) 256)) [
      | inl test ↦ absurd (h (parts ds test))
      | inr test ↦ rw test refl
    ]
