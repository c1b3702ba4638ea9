-- Which size of 38 digits and a power of ten comes next to another.
use Rattle.std.proofs.Common.{◌≡◌, ℕ, ◌+◌, ◌*◌, ◌^◌, ◌<◌, ◌≤◌, sym, subst, ⊎_elim, arith}
use Rattle.std.proofs.Math.Nat.{lt_of_mul-lt-mul_right, mul-le-mul_left, mul-le-mul_right, mul-lt-mul_of_pos_right, pow-le-pow_right}
use Rattle.std.proofs.lemmas.Bool.{cases_order}
use Rattle.table_keys.specs.Neighbours.{IsGreatestSize, IsNextSize}
use Rattle.table_keys.specs.Numbers.{IsKept}
use Rattle.table_keys.proofs.Sizes.{below_power, ten_pos}

-- where the powers are one, the digits decide
by_digits : (c d p q : ℕ) → p ≡ q → c * 10 ^ p < d * 10 ^ q → c < d
by_digits c d p q e h =
    let along : c * 10 ^ q < d * 10 ^ q = subst (λ r. c * 10 ^ r < d * 10 ^ q) e h in
    lt_of_mul-lt-mul_right (10 ^ q) along

-- ---- what is above a size of 38 digits

module _ (c p d q : ℕ) (large : 10 ^ 37 ≤ c) (many : 10 ^ 37 ≤ d) (few : d < 10 ^ 38)
    (h : c * 10 ^ p < d * 10 ^ q) where
  -- one more in the last digit
  one_more : c + 1 < 10 ^ 38 → (c + 1) * 10 ^ p ≤ d * 10 ^ q
  one_more small = ⊎_elim same (λ o. ⊎_elim higher lower o) (cases_order p q)
    where
      same : p ≡ q → (c + 1) * 10 ^ p ≤ d * 10 ^ q
      same e =
          let more : c + 1 ≤ d = omega (arith, by_digits c d p q e h) in
          subst (λ r. (c + 1) * 10 ^ p ≤ d * 10 ^ r) e (mul-le-mul_right (10 ^ p) more)

      higher : p < q → (c + 1) * 10 ^ p ≤ d * 10 ^ q
      higher l = let above = below_power (c + 1) d p q l small many in omega arith

      lower : q < p → (c + 1) * 10 ^ p ≤ d * 10 ^ q
      lower l = let below = below_power d c q p l few large in absurd (omega arith)

  -- one more in the power
  next_power : c + 1 ≡ 10 ^ 38 → p < q
  next_power full = ⊎_elim same (λ o. ⊎_elim (λ l. l) lower o) (cases_order p q)
    where
      same : p ≡ q → p < q
      same e = absurd (omega (arith, by_digits c d p q e h))

      lower : q < p → p < q
      lower l = let below = below_power d c q p l few large in absurd (omega arith)

  least_there : c + 1 ≡ 10 ^ 38 → 10 ^ 37 * 10 ^ (p + 1) ≤ d * 10 ^ q
  least_there full =
      let powers : 10 ^ (p + 1) ≤ 10 ^ q =
      pow-le-pow_right (omega arith) (omega (arith, next_power full)) in
      let low : 10 ^ 37 * 10 ^ (p + 1) ≤ 10 ^ 37 * 10 ^ q = mul-le-mul_left (10 ^ 37) powers in
      let high : 10 ^ 37 * 10 ^ q ≤ d * 10 ^ q = mul-le-mul_right (10 ^ q) many in
      omega arith

-- ---- what is next to a size

-- whatever holds of zero and of all sizes of 38 digits holds of each kept size
of_kept : (P : ℕ → Type 0) → P 0
    → ((d q : ℕ) → 10 ^ 37 ≤ d → d < 10 ^ 38 → q < 256 → P (d * 10 ^ q)) → (n : ℕ) → IsKept n → P n
of_kept P zero_too others n kept =
    ⊎_elim (λ e. subst P (sym e) zero_too)
    (λ k. subst P (sym k.5) (others k.0 k.1 k.2 k.3 k.4)) kept

-- the digits are one more
pub after_digits : (c p : ℕ) → 10 ^ 37 ≤ c → c + 1 < 10 ^ 38 → IsNextSize (c * 10 ^ p) ((c + 1) * 10 ^ p)
after_digits c p large small = (mul-lt-mul_of_pos_right (omega arith) (ten_pos p), least)
  where
    least : (other : ℕ) → IsKept other → c * 10 ^ p < other → (c + 1) * 10 ^ p ≤ other
    least = of_kept (λ n. c * 10 ^ p < n → (c + 1) * 10 ^ p ≤ n) (λ h. absurd (omega arith))
        (λ d q many few byte h. one_more c p d q large many few h small)

-- the digits are all nines, and the power is one more
pub after_nines : (c p : ℕ) → c + 1 ≡ 10 ^ 38 → IsNextSize (c * 10 ^ p) (10 ^ 37 * 10 ^ (p + 1))
after_nines c p full = (below, least)
  where
    below : c * 10 ^ p < 10 ^ 37 * 10 ^ (p + 1)
    below = below_power c (10 ^ 37) p (p + 1) (omega arith) (omega (arith, full)) (omega arith)

    least : (other : ℕ) → IsKept other → c * 10 ^ p < other → 10 ^ 37 * 10 ^ (p + 1) ≤ other
    least = of_kept (λ n. c * 10 ^ p < n → 10 ^ 37 * 10 ^ (p + 1) ≤ n) (λ h. absurd (omega arith))
        (λ d q many few byte h. least_there c p d q (omega (arith, full)) many few h full)

-- the least size above zero
pub after_zero : IsNextSize 0 (10 ^ 37)
after_zero = (omega arith, least)
  where
    least : (other : ℕ) → IsKept other → 0 < other → 10 ^ 37 ≤ other
    least = of_kept (λ n. 0 < n → 10 ^ 37 ≤ n) (λ h. absurd (omega arith))
        (λ d q many few byte h. let digits : d * 1 ≤ d * 10 ^ q = mul-le-mul_left d (omega (arith, ten_pos q)) in omega arith)

-- all nines and the greatest power
pub greatest : (c p : ℕ) → c + 1 ≡ 10 ^ 38 → 255 ≤ p → IsGreatestSize (c * 10 ^ p)
greatest c p full high =
    of_kept (λ n. n ≤ c * 10 ^ p) (omega arith) (λ d q many few byte.
    let powers : 10 ^ q ≤ 10 ^ p = pow-le-pow_right (omega arith) (omega arith) in
    let low : d * 10 ^ q ≤ d * 10 ^ p = mul-le-mul_left d powers in
    let more : d * 10 ^ p ≤ c * 10 ^ p = mul-le-mul_right (10 ^ p) (omega arith) in
    omega arith)
