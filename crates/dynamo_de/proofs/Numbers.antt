-- Integer texts: what std's `parse` reads is what the grammar of integer texts says.
use Rattle.std.proofs.Common.{◌≡◌, ℕ, ℤ, pos, negsuc, ◌^◌, Bool, true, false, cond, List, length, Some, None, Result, Ok, Err, refl, ap, ◌∙◌, Decides, SFits, w8, w16, w32, w64}
use Rattle.std.specs.Int.{w128}
use Rattle.std.specs.Prelude.{option_map}
use mir.Syntax.{Width}
use mir.Val.{hbits}
use Rattle.std.proofs.lemmas.Bool.Decides.{Decides-and, Decides-ltb, Decides-like}
use Rattle.std.proofs.lemmas.Str.Parse.{IsNumeralModel, numerals_by_value, tells_all_ascii_digits}
use Rattle.std.specs.Result.{result_ok, OkIff}
use Rattle.std.specs.Str.{all_ascii_digits}
use Rattle.std.specs.Str.Parse.{without_leading_plus, without_leading_sign, digits_value, signed_digits_value, IsNumeral, ParsesUnsigned, ParsesSigned}
use Rattle.dynamo_value.specs.Integer.{IntegerKind, i8, i16, i32, i64, i128, u8, u16, u32, u64, u128}
use Rattle.dynamo_de.specs.Number.{parse, fits, is_numeral, is_signed, value_bits}

-- a numeral is what std's `parse` takes for one
numeral_decided : (ds : List ℕ) → Decides (is_numeral ds) (IsNumeral 10 ds)
numeral_decided ds =
    let same : IsNumeralModel (λ t. all_ascii_digits t ≡ true) (digits_value 10) = numerals_by_value _ tells_all_ascii_digits in
    Decides-and _ _ (Decides-ltb 0 (length ds)) (same.to ds, same.from ds)

-- the integers of a signed kind are those that its width holds
fits_decided : (k : IntegerKind) (w : Width) → is_signed k ≡ true → value_bits k ≡ hbits w → (z : ℤ) → Decides (fits k z) (SFits w z)
fits_decided k w s b (pos n) = rw b (Decides-like _ (λ h. record { sfits = h }) (λ f. f.sfits) (Decides-ltb n (2 ^ hbits w)))
fits_decided k w s b (negsuc n) = rw (b, s) (Decides-like _ (λ h. record { sfits = h }) (λ f. f.sfits) (Decides-ltb n (2 ^ hbits w)))

-- an answer that is `Ok v` just where P holds, as a choice by a test that decides P
chosen : {A E : Type 0} (t : Bool) (P : Type 0) (v : A) (r : Result A E) → Decides t P → OkIff r P v → result_ok r ≡ cond t (Some v) None
chosen true P v (Ok x) d h = ap Some h.1
chosen false P v (Ok x) d h = let e : false ≡ true = d.1 h.0 in cc
chosen true P v (Err e) d h = absurd (h (d.0 refl))
chosen false P v (Err e) d h = refl

mapped : {A B : Type 0} (f : A → B) (t : Bool) (v : A) → option_map f (cond t (Some v) None) ≡ cond t (Some (f v)) None
mapped f true v = refl
mapped f false v = refl

-- one lemma for the signed kinds, and one for the unsigned ones
reads_signed : {E : Type 0} (k : IntegerKind) (w : Width) → is_signed k ≡ true → value_bits k ≡ hbits w → (text : List ℕ) (r : Result ℤ E) → ParsesSigned w 10 text r → result_ok r ≡ parse k text
reads_signed k w s b text r h =
    let z = signed_digits_value 10 text in
    rw s (chosen _ _ z r (Decides-and _ _ (numeral_decided (without_leading_sign text)) (fits_decided k w s b z)) h)

reads_unsigned : {E : Type 0} (k : IntegerKind) → is_signed k ≡ false → (text : List ℕ) (r : Result ℕ E) → ParsesUnsigned (value_bits k) 10 text r → option_map pos (result_ok r) ≡ parse k text
reads_unsigned k s text r h =
    let ds = without_leading_plus text in
    let n = digits_value 10 ds in
    rw s (ap (option_map pos) (chosen _ _ n r (Decides-and _ _ (numeral_decided ds) (Decides-ltb n (2 ^ value_bits k))) h) ∙ mapped pos _ n)

-- the same at each kind, as the functions cite it
pub reads_i8 : {E : Type 0} (text : List ℕ) (r : Result ℤ E) → ParsesSigned w8 10 text r → result_ok r ≡ parse i8 text
reads_i8 text r h = reads_signed i8 w8 refl refl text r h

pub reads_i16 : {E : Type 0} (text : List ℕ) (r : Result ℤ E) → ParsesSigned w16 10 text r → result_ok r ≡ parse i16 text
reads_i16 text r h = reads_signed i16 w16 refl refl text r h

pub reads_i32 : {E : Type 0} (text : List ℕ) (r : Result ℤ E) → ParsesSigned w32 10 text r → result_ok r ≡ parse i32 text
reads_i32 text r h = reads_signed i32 w32 refl refl text r h

pub reads_i64 : {E : Type 0} (text : List ℕ) (r : Result ℤ E) → ParsesSigned w64 10 text r → result_ok r ≡ parse i64 text
reads_i64 text r h = reads_signed i64 w64 refl refl text r h

pub reads_i128 : {E : Type 0} (text : List ℕ) (r : Result ℤ E) → ParsesSigned w128 10 text r → result_ok r ≡ parse i128 text
reads_i128 text r h = reads_signed i128 w128 refl refl text r h

pub reads_u8 : {E : Type 0} (text : List ℕ) (r : Result ℕ E) → ParsesUnsigned 8 10 text r → option_map pos (result_ok r) ≡ parse u8 text
reads_u8 text r h = reads_unsigned u8 refl text r h

pub reads_u16 : {E : Type 0} (text : List ℕ) (r : Result ℕ E) → ParsesUnsigned 16 10 text r → option_map pos (result_ok r) ≡ parse u16 text
reads_u16 text r h = reads_unsigned u16 refl text r h

pub reads_u32 : {E : Type 0} (text : List ℕ) (r : Result ℕ E) → ParsesUnsigned 32 10 text r → option_map pos (result_ok r) ≡ parse u32 text
reads_u32 text r h = reads_unsigned u32 refl text r h

pub reads_u64 : {E : Type 0} (text : List ℕ) (r : Result ℕ E) → ParsesUnsigned 64 10 text r → option_map pos (result_ok r) ≡ parse u64 text
reads_u64 text r h = reads_unsigned u64 refl text r h

pub reads_u128 : {E : Type 0} (text : List ℕ) (r : Result ℕ E) → ParsesUnsigned 128 10 text r → option_map pos (result_ok r) ≡ parse u128 text
reads_u128 text r h = reads_unsigned u128 refl text r h
