-- Numbers as they are held compare by value.
use Rattle.std.proofs.Common.{Ordering, Less, Greater, ◌≡◌, ◌*◌, ◌^◌, ◌<◌, ℤ, pos, neg_ℤ, true, false, sym, ap, ◌∙◌, inl, inr, ⊎_elim, arith}
use Rattle.std.proofs.Math.Nat.{mul-pos}
use Rattle.std.specs.Ordering.{nat_cmp, int_cmp, ordering_then, ordering_reverse}
use Rattle.table_keys.specs.Numbers.{signed}
use Rattle.table_keys.specs.Normal.{value_of, IsNormal}
use Rattle.table_keys.specs.declared.number.Number.TheInside.{Inside}
use Rattle.table_keys.proofs.Sizes.{IsFull, size_cmp, pos_cmp, neg_cmp, mixed_cmp, mixed_cmp_back, ten_pos}

abbrev sized_cmp : Inside → Inside → Ordering
sized_cmp a b = ordering_then (nat_cmp a.power b.power) (nat_cmp a.coefficient b.coefficient)

pub full : (a : Inside) → IsNormal a → IsFull a.coefficient a.power
full a h = ⊎_elim (λ z. inl (z.0, z.1)) (λ d. inr d) h

pub is_pos : (a : Inside) → a.negative ≡ false → value_of a ≡ pos (a.coefficient * 10 ^ a.power)
is_pos a e = ap (λ b. signed b (a.coefficient * 10 ^ a.power)) e

pub is_neg : (a : Inside) → a.negative ≡ true → value_of a ≡ neg_ℤ (pos (a.coefficient * 10 ^ a.power))
is_neg a e = ap (λ b. signed b (a.coefficient * 10 ^ a.power)) e

-- a negative number is not zero
some : (a : Inside) → IsNormal a → a.negative ≡ true → 0 < a.coefficient * 10 ^ a.power
some a h e = ⊎_elim (λ z. absurd (cc z.2)) (λ d. mul-pos (omega (arith, d.0)) (ten_pos a.power)) h

-- both values, by those of the numbers as they are held
along : (a b : Inside) (x y u v : ℤ) (r : Ordering) → value_of a ≡ x → value_of b ≡ y → value_of a ≡ u → value_of b ≡ v → r ≡ int_cmp u v → r ≡ int_cmp x y
along a b x y u v r e f p q h = h ∙ ap (λ z. int_cmp z v) (sym p ∙ e) ∙ ap (λ z. int_cmp x z) (sym q ∙ f)

module _ (a b : Inside) (x y : ℤ) (na : IsNormal a) (nb : IsNormal b) (e : value_of a ≡ x) (f : value_of b ≡ y) where
  pub both_positive : a.negative ≡ false → b.negative ≡ false → sized_cmp a b ≡ int_cmp x y
  both_positive p q = along a b x y _ _ _ e f (is_pos a p) (is_pos b q)
      (size_cmp a.coefficient a.power b.coefficient b.power (full a na) (full b nb) ∙ pos_cmp (a.coefficient * 10 ^ a.power) (b.coefficient * 10 ^ b.power))

  pub both_negative : a.negative ≡ true → b.negative ≡ true → ordering_reverse (sized_cmp a b) ≡ int_cmp x y
  both_negative p q = along a b x y _ _ _ e f (is_neg a p) (is_neg b q)
      (ap ordering_reverse (size_cmp a.coefficient a.power b.coefficient b.power (full a na) (full b nb)) ∙ neg_cmp (a.coefficient * 10 ^ a.power) (b.coefficient * 10 ^ b.power))

  pub negative_first : a.negative ≡ true → b.negative ≡ false → Less ≡ int_cmp x y
  negative_first p q = along a b x y _ _ _ e f (is_neg a p) (is_pos b q) (mixed_cmp (a.coefficient * 10 ^ a.power) (b.coefficient * 10 ^ b.power) (some a na p))

  pub negative_last : a.negative ≡ false → b.negative ≡ true → Greater ≡ int_cmp x y
  negative_last p q = along a b x y _ _ _ e f (is_pos a p) (is_neg b q) (mixed_cmp_back (a.coefficient * 10 ^ a.power) (b.coefficient * 10 ^ b.power) (some b nb q))
