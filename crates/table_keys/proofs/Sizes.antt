-- Numbers of 38 digits and a power of ten compare by the power and then by the digits.
use Rattle.std.proofs.Common.{Less, Equal, Greater, ◌≡◌, ◌⊎◌, ℕ, ◌+◌, ◌*◌, ◌^◌, ◌<◌, ◌≤◌, pos, neg_ℤ, sym, ap, ◌∙◌, ⊎_elim, arith}
use Rattle.std.proofs.Math.Nat.{one-le-pow, zero-mul, mul-pos, mul-lt-mul_of_pos_right, mul-le-mul_right, pow-le-pow_right}
use Rattle.std.proofs.lemmas.Nat.{pow-add}
use Rattle.std.proofs.lemmas.Int.{ints}
use Rattle.std.proofs.lemmas.Bool.{cases_order}
use Rattle.std.specs.Cmp.{nat_cmp_is, int_cmp_is}
use Rattle.std.specs.Ordering.{nat_cmp, int_cmp, ordering_then, ordering_reverse}

pub ten_pos : (k : ℕ) → 0 < 10 ^ k
ten_pos k = omega (arith, one-le-pow k 10 (omega arith))

pub less : (x y : ℕ) → x < y → nat_cmp x y ≡ Less
less x y h = sym (nat_cmp_is x y Less h)

pub greater : (x y : ℕ) → y < x → nat_cmp x y ≡ Greater
greater x y h = sym (nat_cmp_is x y Greater h)

pub equal : (x y : ℕ) → x ≡ y → nat_cmp x y ≡ Equal
equal x y h = sym (nat_cmp_is x y Equal h)

-- ---- without the sign

abbrev pub IsFull : ℕ → ℕ → Type 0
IsFull c p = ((c ≡ 0) × (p ≡ 0)) ⊎ ((10 ^ 37 ≤ c) × (c < 10 ^ 38))

pub below_power : (c d p q : ℕ) → p < q → c < 10 ^ 38 → 10 ^ 37 ≤ d → c * 10 ^ p < d * 10 ^ q
below_power c d p q h small large =
    let low : c * 10 ^ p < 10 ^ 38 * 10 ^ p = mul-lt-mul_of_pos_right small (ten_pos p) in
    let low_is = pow-add 10 38 p in
    let step : 10 ^ (38 + p) ≤ 10 ^ (37 + q) = pow-le-pow_right (omega arith) (omega arith) in
    let high_is = pow-add 10 37 q in
    let high : 10 ^ 37 * 10 ^ q ≤ d * 10 ^ q = mul-le-mul_right (10 ^ q) large in
    omega arith

smaller : (c p d q : ℕ) → IsFull c p → IsFull d q → p < q → c * 10 ^ p < d * 10 ^ q
smaller c p d q f g h =
    ⊎_elim (λ z. absurd (omega (arith, z.1)))
    (λ large. ⊎_elim
    (λ z. let some : 0 < d * 10 ^ q = mul-pos (omega (arith, large.0)) (ten_pos q) in
    let none : c * 10 ^ p ≡ 0 = ap (λ n. n * 10 ^ p) z.0 ∙ zero-mul (10 ^ p) in omega arith)
    (λ small. below_power c d p q h small.1 large.0) f) g

same_power : (c d n : ℕ) → 0 < n → nat_cmp c d ≡ nat_cmp (c * n) (d * n)
same_power c d n h =
    ⊎_elim (λ e. equal c d e ∙ sym (equal (c * n) (d * n) (ap (λ m. m * n) e)))
    (λ o. ⊎_elim (λ l. less c d l ∙ sym (less (c * n) (d * n) (mul-lt-mul_of_pos_right l h)))
    (λ g. greater c d g ∙ sym (greater (c * n) (d * n) (mul-lt-mul_of_pos_right g h))) o) (cases_order c d)

pub size_cmp : (c p d q : ℕ) → IsFull c p → IsFull d q → ordering_then (nat_cmp p q) (nat_cmp c d) ≡ nat_cmp (c * 10 ^ p) (d * 10 ^ q)
size_cmp c p d q f g =
    ⊎_elim (λ e. ap (λ o. ordering_then o (nat_cmp c d)) (equal p q e) ∙ same_power c d (10 ^ p) (ten_pos p) ∙ ap (λ n. nat_cmp (c * 10 ^ p) (d * 10 ^ n)) e)
    (λ o. ⊎_elim (λ l. ap (λ r. ordering_then r (nat_cmp c d)) (less p q l) ∙ sym (less (c * 10 ^ p) (d * 10 ^ q) (smaller c p d q f g l)))
    (λ h. ap (λ r. ordering_then r (nat_cmp c d)) (greater p q h) ∙ sym (greater (c * 10 ^ p) (d * 10 ^ q) (smaller d q c p g f h))) o) (cases_order p q)

-- ---- with it

pub pos_cmp : (m n : ℕ) → nat_cmp m n ≡ int_cmp (pos m) (pos n)
pos_cmp m n =
    ⊎_elim (λ e. equal m n e ∙ int_cmp_is (pos m) (pos n) Equal (ap pos e))
    (λ o. ⊎_elim (λ l. less m n l ∙ int_cmp_is (pos m) (pos n) Less (omega (arith, ints)))
    (λ g. greater m n g ∙ int_cmp_is (pos m) (pos n) Greater (omega (arith, ints))) o) (cases_order m n)

pub neg_cmp : (m n : ℕ) → ordering_reverse (nat_cmp m n) ≡ int_cmp (neg_ℤ (pos m)) (neg_ℤ (pos n))
neg_cmp m n =
    ⊎_elim (λ e. ap ordering_reverse (equal m n e) ∙ int_cmp_is (neg_ℤ (pos m)) (neg_ℤ (pos n)) Equal (ap (λ k. neg_ℤ (pos k)) e))
    (λ o. ⊎_elim (λ l. ap ordering_reverse (less m n l) ∙ int_cmp_is (neg_ℤ (pos m)) (neg_ℤ (pos n)) Greater (omega (arith, ints)))
    (λ g. ap ordering_reverse (greater m n g) ∙ int_cmp_is (neg_ℤ (pos m)) (neg_ℤ (pos n)) Less (omega (arith, ints))) o) (cases_order m n)

pub mixed_cmp : (m n : ℕ) → 0 < m → Less ≡ int_cmp (neg_ℤ (pos m)) (pos n)
mixed_cmp m n h = int_cmp_is (neg_ℤ (pos m)) (pos n) Less (omega (arith, ints))

pub mixed_cmp_back : (m n : ℕ) → 0 < n → Greater ≡ int_cmp (pos m) (neg_ℤ (pos n))
mixed_cmp_back m n h = int_cmp_is (pos m) (neg_ℤ (pos n)) Greater (omega (arith, ints))
