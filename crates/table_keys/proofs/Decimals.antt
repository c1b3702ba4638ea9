-- What reading a number's digits answers, by what its parts answer.
use Rattle.std.proofs.Common.{◌≡◌, ℕ, ◌+◌, ◌*◌, ◌^◌, ℤ, pos, ◌==◌, Bool, true, false, List, ◌++◌, length, Option, Some, None, MatchOption, refl, sym, ap, ◌∙◌, subst, arith}
use Rattle.std.specs.Bool.{MatchBool}
use Rattle.std.specs.List.{after_first}
use Rattle.std.specs.Int.RustNames.{FitsSigned}
use Rattle.std.specs.Int.{w32}
use Rattle.std.specs.Str.Parse.{AllDigits, IsNumeral, digits_value, digits_value_after, signed_digits_value, starts_with_minus, without_leading_sign}
use borrow.Author.Differences.{up, down}
use Rattle.table_keys.specs.Digits.{IsLong, IsScaled}
use Rattle.table_keys.specs.Numbers.{IsNumber, IsDecimal, IsExponent, whole, fraction, IsKept, has, mark, signed}
use Rattle.table_keys.proofs.Longs.{value_append, digits_front, digits_back, long_after, long_not_kept, rescale}
use Rattle.table_keys.proofs.Scaled.{tens}

module _ (negative : Bool) (before behind : List ℕ) (exponent : ℤ) where
  -- too many digits
  pub long_digits : (z : ℤ) → IsLong (digits_value 10 (before ++ behind)) → IsDecimal negative before behind exponent z → ⊥
  long_digits z l n = long_not_kept n.size (digits_value 10 (before ++ behind)) (length behind + down exponent) (167 + up exponent) l n.is_kept n.is_size

  pub long_before : (z : ℤ) → (AllDigits 10 before → IsLong (digits_value_after 10 0 before)) → IsDecimal negative before behind exponent z → ⊥
  long_before z l n = long_digits z (subst IsLong (sym (value_append 0 before behind))
      (long_after (digits_value 10 before) behind (l (digits_front before behind n.is_numeral.1)) (digits_back before behind n.is_numeral.1))) n

  pub long_behind : (z : ℤ) (read : ℕ) → read ≡ digits_value_after 10 0 before → (AllDigits 10 behind → IsLong (digits_value_after 10 read behind)) → IsDecimal negative before behind exponent z → ⊥
  long_behind z read is l n = long_digits z (subst IsLong (ap (λ m. digits_value_after 10 m behind) is ∙ sym (value_append 0 before behind)) (l (digits_back before behind n.is_numeral.1))) n

  module _ (digits zeros : ℕ) (power : ℤ) (is_digits : digits * 10 ^ zeros ≡ digits_value 10 (before ++ behind))
      (is_power : down power + (zeros + (167 + up exponent)) ≡ up power + (length behind + down exponent)) where
    size_from : (n : ℕ) → IsScaled digits power n → n * 10 ^ (length behind + down exponent) ≡ digits_value 10 (before ++ behind) * 10 ^ (167 + up exponent)
    size_from n e = rescale n digits (down power) (up power) (length behind + down exponent) (zeros + (167 + up exponent)) is_power e
        ∙ sym (tens digits zeros (167 + up exponent)) ∙ ap (λ m. m * 10 ^ (167 + up exponent)) is_digits

    size_to : (n : ℕ) → n * 10 ^ (length behind + down exponent) ≡ digits_value 10 (before ++ behind) * 10 ^ (167 + up exponent) → IsScaled digits power n
    size_to n e = rescale n digits (length behind + down exponent) (zeros + (167 + up exponent)) (down power) (up power) (omega arith)
        (e ∙ ap (λ m. m * 10 ^ (167 + up exponent)) (sym is_digits) ∙ tens digits zeros (167 + up exponent))

    pub decimal_is : IsNumeral 10 (before ++ behind) → (r : Option ℤ)
        → MatchOption r ((n : ℕ) → IsScaled digits power n → IsKept n → ⊥) (λ z. (n : ℕ) × IsScaled digits power n × IsKept n × (z ≡ signed negative n))
        → MatchOption r ((z : ℤ) → IsDecimal negative before behind exponent z → ⊥) (IsDecimal negative before behind exponent)
    decimal_is numeral None h = λ z n. h n.size (size_to n.size n.is_size) n.is_kept
    decimal_is numeral (Some z) h = record { size = h.0; is_numeral = numeral; is_size = size_from h.0 h.1; is_kept = h.2; is_signed = h.3 }

by_mark : (b : Bool) (N : Type 0) (F : ℤ → Type 0) (v y z : ℤ) → MatchBool b (N × F y × (y ≡ v)) (y ≡ pos 0) → MatchBool b (N × F z × (z ≡ v)) (z ≡ pos 0) → y ≡ z
by_mark true N F v y z h k = h.2 ∙ sym k.2
by_mark false N F v y z h k = h ∙ sym k

-- a text has one exponent
pub same_exponent : (text : List ℕ) (y z : ℤ) → IsExponent text y → IsExponent text z → y ≡ z
same_exponent text y z = by_mark (has (mark text) text) (IsNumeral 10 (without_leading_sign (after_first (λ b. b == mark text) text))) (FitsSigned w32) (signed_digits_value 10 (after_first (λ b. b == mark text) text)) y z

along : (n m : Bool) (a b c d : List ℕ) (e f z : ℤ) → n ≡ m → a ≡ b → c ≡ d → e ≡ f → IsDecimal n a c e z → IsDecimal m b d f z
along n m a b c d e f z p q r s h =
    subst (λ (x : Bool). IsDecimal x b d f z) p (subst (λ (x : List ℕ). IsDecimal n x d f z) q (subst (λ (x : List ℕ). IsDecimal n a x f z) r (subst (λ (x : ℤ). IsDecimal n a c x z) s h)))

module _ (text : List ℕ) (negative : Bool) (before behind : List ℕ) (exponent : ℤ) (e : IsExponent text exponent)
    (p : negative ≡ starts_with_minus (whole text)) (q : before ≡ without_leading_sign (whole text)) (r : behind ≡ fraction text) where
  to_text : (z : ℤ) → IsDecimal negative before behind exponent z → IsNumber text z
  to_text z h = record { exponent = exponent; is_exponent = e; is_decimal = along _ _ _ _ _ _ _ _ z p q r refl h }

  pub from_text : (z : ℤ) → IsNumber text z → IsDecimal negative before behind exponent z
  from_text z n = along _ _ _ _ _ _ _ _ z (sym p) (sym q) (sym r) (same_exponent text n.exponent exponent n.is_exponent e) n.is_decimal

  pub number_is : (r : Option ℤ) → MatchOption r ((z : ℤ) → IsDecimal negative before behind exponent z → ⊥) (IsDecimal negative before behind exponent)
      → MatchOption r ((z : ℤ) → IsNumber text z → ⊥) (IsNumber text)
  number_is None h = λ z n. h z (from_text z n)
  number_is (Some z) h = to_text z h
