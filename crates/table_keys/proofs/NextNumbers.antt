-- Which number comes next to another, by their sizes.
use Rattle.std.proofs.Common.{◌≡◌, ◌⊎◌, ℕ, ◌*◌, ◌^◌, ◌<◌, ◌≤◌, ℤ, pos, neg_ℤ, Bool, true, false, Ordering, Less, Equal, Greater, refl, sym, ap, ◌∙◌, subst, inl, inr, ⊎_elim, arith}
use Rattle.std.proofs.Math.Nat.{zero-mul}
use Rattle.std.proofs.lemmas.Bool.{cases_order}
use Rattle.std.proofs.lemmas.Bool.Decides.{nat_tests}
use Rattle.std.proofs.lemmas.Cmp.{int_ranked}
use Rattle.std.proofs.lemmas.Int.{ints}
use Rattle.std.specs.Cmp.{int_cmp_is}
use Rattle.std.specs.Ordering.{int_cmp, is_le}
use Rattle.std.specs.Prelude.{◌<ℤ◌, ◌≤ℤ◌, nat_eq, not}
use Rattle.table_keys.specs.Neighbours.{IsFull, IsGreatest, IsGreatestSize, IsKeptNumber, IsLeast, IsNext, IsNextSize}
use Rattle.table_keys.specs.Normal.{value_of, IsNormal}
use Rattle.table_keys.specs.Numbers.{IsKept, signed}
use Rattle.table_keys.specs.declared.number.Number.TheInside.{Inside}
use Rattle.table_keys.proofs.Normals.{full, is_neg, is_pos}

-- ---- orders

less : (x y : ℤ) → int_cmp x y ≡ Less → x <ℤ y
less x y h = int_ranked x y Less (sym h)

cmp_less : (x y : ℤ) → x <ℤ y → int_cmp x y ≡ Less
cmp_less x y h = sym (int_cmp_is x y Less h)

not_above : (x y : ℤ) → x ≤ℤ y → is_le (int_cmp x y) ≡ true
not_above x y h = go (int_cmp x y) refl
  where
    go : (o : Ordering) → o ≡ int_cmp x y → is_le o ≡ true
    go Less e = refl
    go Equal e = refl
    go Greater e = let above : y <ℤ x = int_ranked x y Greater e in absurd (omega (arith, ints, above, h))

-- ---- kept numbers

-- whatever holds of each kept size with either sign holds of each kept number
of_signs : (P : ℤ → Type 0) → ((n : ℕ) → IsKept n → P (pos n)) → ((n : ℕ) → IsKept n → P (neg_ℤ (pos n)))
    → (z : ℤ) → IsKeptNumber z → P z
of_signs P plain negative z k = subst P (sym k.is_signed) (go k.negative)
  where
    go : (sign : Bool) → P (signed sign k.size)
    go false = plain k.size k.is_kept
    go true = negative k.size k.is_kept

pub kept_size : (c p : ℕ) → IsFull c p → p < 256 → IsKept (c * 10 ^ p)
kept_size c p full byte =
    ⊎_elim (λ z. inl (ap (λ n. n * 10 ^ p) z.0 ∙ zero-mul (10 ^ p))) (λ d. inr (c, p, d.0, d.1, byte, refl)) full

pub kept : (a : Inside) → IsNormal a → a.power < 256 → IsKeptNumber (value_of a)
kept a normal byte = record {
  negative = a.negative;
  size = a.coefficient * 10 ^ a.power;
  is_kept = kept_size a.coefficient a.power (full a normal) byte;
  is_signed = refl;
}

-- the sign of a size that is negative where it isn't zero
pub signed_some : (c p : ℕ) → signed (not (nat_eq c 0)) (c * 10 ^ p) ≡ neg_ℤ (pos (c * 10 ^ p))
signed_some c p = go (nat_eq c 0) refl
  where
    nothing : (n : ℕ) → n ≡ 0 → pos n ≡ neg_ℤ (pos n)
    nothing n e = ap pos e ∙ sym (ap (λ m. neg_ℤ (pos m)) e)

    go : (b : Bool) → nat_eq c 0 ≡ b → signed (not (nat_eq c 0)) (c * 10 ^ p) ≡ neg_ℤ (pos (c * 10 ^ p))
    go false e = ap (λ b. signed (not b) (c * 10 ^ p)) e
    go true e =
        let none : c ≡ 0 = grind (arith, nat_tests) in
        ap (λ b. signed (not b) (c * 10 ^ p)) e ∙ nothing (c * 10 ^ p) (ap (λ n. n * 10 ^ p) none ∙ zero-mul (10 ^ p))

-- ---- what is next

-- of numbers that are not negative
pub next_positive : (n next : ℕ) → IsKept next → IsNextSize n next → IsNext (pos n) (pos next)
next_positive n next size_kept is = record {
  is_kept = record { negative = false; size = next; is_kept = size_kept; is_signed = refl };
  is_above = cmp_less (pos n) (pos next) (omega (arith, ints, is.0));
  is_least = of_signs (λ z. int_cmp (pos n) z ≡ Less → is_le (int_cmp (pos next) z) ≡ true) plain negative;
}
  where
    plain : (m : ℕ) → IsKept m → int_cmp (pos n) (pos m) ≡ Less → is_le (int_cmp (pos next) (pos m)) ≡ true
    plain m k h =
        let above : n < m = omega (arith, ints, less (pos n) (pos m) h) in
        not_above (pos next) (pos m) (omega (arith, ints, is.1 m k above))

    negative : (m : ℕ) → IsKept m → int_cmp (pos n) (neg_ℤ (pos m)) ≡ Less → is_le (int_cmp (pos next) (neg_ℤ (pos m))) ≡ true
    negative m k h = absurd (omega (arith, ints, less (pos n) (neg_ℤ (pos m)) h))

-- of negative numbers, whose sizes fall
pub next_negative : (n next : ℕ) → IsKept next → IsNextSize next n → IsNext (neg_ℤ (pos n)) (neg_ℤ (pos next))
next_negative n next size_kept is = record {
  is_kept = record { negative = true; size = next; is_kept = size_kept; is_signed = refl };
  is_above = cmp_less (neg_ℤ (pos n)) (neg_ℤ (pos next)) (omega (arith, ints, is.0));
  is_least = of_signs (λ z. int_cmp (neg_ℤ (pos n)) z ≡ Less → is_le (int_cmp (neg_ℤ (pos next)) z) ≡ true) plain negative;
}
  where
    not_between : (m : ℕ) → IsKept m → m < n → (m ≡ next) ⊎ ((m < next) ⊎ (next < m)) → m ≤ next
    not_between m k below (inl e) = omega (arith, e)
    not_between m k below (inr (inl l)) = omega (arith, l)
    not_between m k below (inr (inr g)) = absurd (omega (arith, is.1 m k g, below))

    plain : (m : ℕ) → IsKept m → int_cmp (neg_ℤ (pos n)) (pos m) ≡ Less → is_le (int_cmp (neg_ℤ (pos next)) (pos m)) ≡ true
    plain m k h = not_above (neg_ℤ (pos next)) (pos m) (omega (arith, ints))

    negative : (m : ℕ) → IsKept m → int_cmp (neg_ℤ (pos n)) (neg_ℤ (pos m)) ≡ Less
        → is_le (int_cmp (neg_ℤ (pos next)) (neg_ℤ (pos m))) ≡ true
    negative m k h =
        let below : m < n = omega (arith, ints, less (neg_ℤ (pos n)) (neg_ℤ (pos m)) h) in
        let reached : m ≤ next = not_between m k below (cases_order m next) in
        not_above (neg_ℤ (pos next)) (neg_ℤ (pos m)) (omega (arith, ints, reached))

-- nothing is above the greatest size
pub none_above : (n : ℕ) → IsGreatestSize n → IsGreatest (pos n)
none_above n is = of_signs (λ z. is_le (int_cmp z (pos n)) ≡ true)
    (λ m k. not_above (pos m) (pos n) (omega (arith, ints, is m k)))
    (λ m k. not_above (neg_ℤ (pos m)) (pos n) (omega (arith, ints)))

-- nothing is below its negative
pub none_below : (n : ℕ) → IsKept n → IsGreatestSize n → IsLeast (neg_ℤ (pos n))
none_below n size_kept is = (record { negative = true; size = n; is_kept = size_kept; is_signed = refl }, least)
  where
    least : (z : ℤ) → IsKeptNumber z → is_le (int_cmp (neg_ℤ (pos n)) z) ≡ true
    least = of_signs (λ z. is_le (int_cmp (neg_ℤ (pos n)) z) ≡ true)
        (λ m k. not_above (neg_ℤ (pos n)) (pos m) (omega (arith, ints)))
        (λ m k. not_above (neg_ℤ (pos n)) (neg_ℤ (pos m)) (omega (arith, ints, is m k)))

-- ---- the same of numbers as they are held

pub above_held : (a : Inside) (z : ℤ) (c p : ℕ) → value_of a ≡ z → a.negative ≡ false
    → IsFull c p → p < 256 → IsNextSize (a.coefficient * 10 ^ a.power) (c * 10 ^ p) → IsNext z (pos (c * 10 ^ p))
above_held a z c p is plain whole byte next =
    subst (λ y. IsNext y (pos (c * 10 ^ p))) (sym (is_pos a plain) ∙ is)
    (next_positive (a.coefficient * 10 ^ a.power) (c * 10 ^ p) (kept_size c p whole byte) next)

pub below_held : (a : Inside) (z : ℤ) (c p : ℕ) → value_of a ≡ z → a.negative ≡ true
    → IsFull c p → p < 256 → IsNextSize (c * 10 ^ p) (a.coefficient * 10 ^ a.power)
    → IsNext z (signed (not (nat_eq c 0)) (c * 10 ^ p))
below_held a z c p is negative whole byte next =
    subst (IsNext z) (sym (signed_some c p))
    (subst (λ y. IsNext y (neg_ℤ (pos (c * 10 ^ p)))) (sym (is_neg a negative) ∙ is)
    (next_negative (a.coefficient * 10 ^ a.power) (c * 10 ^ p) (kept_size c p whole byte) next))

pub greatest_held : (a : Inside) (z : ℤ) → value_of a ≡ z → a.negative ≡ false
    → IsGreatestSize (a.coefficient * 10 ^ a.power) → IsGreatest z
greatest_held a z is plain greatest =
    subst IsGreatest (sym (is_pos a plain) ∙ is) (none_above (a.coefficient * 10 ^ a.power) greatest)
