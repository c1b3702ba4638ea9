-- A number by its digits and a power of ten, which the number that is kept has in one way alone.
use Rattle.std.proofs.Common.{◌≡◌, ℕ, ◌+◌, ◌*◌, ◌^◌, ◌<◌, ◌≤◌, ℤ, sym, ap, ◌∙◌, ⊎_elim, arith}
use Rattle.std.proofs.Math.Nat.{mul_assoc, mul_right_comm, zero-mul, mul-pos}
use Rattle.std.proofs.lemmas.Nat.{pow-add}
use Rattle.std.proofs.lemmas.Bool.{cases_order}
use borrow.Author.Differences.{up, down}
use Rattle.table_keys.specs.Digits.{IsScaled}
use Rattle.table_keys.specs.Numbers.{IsKept}
use Rattle.table_keys.proofs.Sizes.{ten_pos, below_power}

-- the tens of a product, put together
pub tens : (n i j : ℕ) → n * 10 ^ i * 10 ^ j ≡ n * 10 ^ (i + j)
tens n i j = mul_assoc n (10 ^ i) (10 ^ j) ∙ ap (λ m. n * m) (sym (pow-add 10 i j))

pub scaled_from : (digits c x p : ℕ) (power : ℤ) → c ≡ digits * 10 ^ x → x + p + down power ≡ up power → IsScaled digits power (c * 10 ^ p)
scaled_from digits c x p power is e =
    ap (λ m. m * 10 ^ p * 10 ^ down power) is ∙ ap (λ m. m * 10 ^ down power) (tens digits x p) ∙ tens digits (x + p) (down power) ∙ ap (λ k. digits * 10 ^ k) e

same_tens : (c d p q : ℕ) → 10 ^ 37 ≤ c → c < 10 ^ 38 → 10 ^ 37 ≤ d → d < 10 ^ 38 → c * 10 ^ p ≡ d * 10 ^ q → p ≡ q
same_tens c d p q low high low' high' e =
    ⊎_elim (λ s. s) (λ o. ⊎_elim (λ l. absurd (omega (arith, below_power c d p q l high low'))) (λ g. absurd (omega (arith, below_power d c q p g high' low))) o) (cases_order p q)

-- the power of ten of a number that is kept lies from 0 to 255
pub power_kept : (digits c x n : ℕ) (power : ℤ) → 0 < digits → c ≡ digits * 10 ^ x → 10 ^ 37 ≤ c → c < 10 ^ 38 → IsScaled digits power n → IsKept n
    → (p : ℕ) × (p < 256) × (p + down power + x ≡ up power)
power_kept digits c x n power some is low high e kept =
    ⊎_elim (λ z.
    let none : n * 10 ^ down power ≡ 0 = ap (λ m. m * 10 ^ down power) z ∙ zero-mul (10 ^ down power) in
    absurd (omega (arith, e, mul-pos some (ten_pos (up power)))))
    (λ k.
    let same : k.0 * 10 ^ (k.1 + down power + x) ≡ c * 10 ^ up power =
    sym (tens k.0 (k.1 + down power) x) ∙ ap (λ m. m * 10 ^ x) (sym (tens k.0 k.1 (down power)) ∙ ap (λ m. m * 10 ^ down power) (sym k.5) ∙ e)
    ∙ mul_right_comm digits (10 ^ up power) (10 ^ x) ∙ ap (λ m. m * 10 ^ up power) (sym is) in
    (k.1, k.4, same_tens k.0 c (k.1 + down power + x) (up power) k.2 k.3 low high same)) kept
