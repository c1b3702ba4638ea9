-- The bytes of numbers come in the order of the numbers.
use Rattle.std.proofs.Common.{Ordering, Less, Equal, Greater, ◌≡◌, ℕ, ◌+◌, ◌-◌, ◌*◌, ◌/◌, ◌%◌, ◌^◌, ◌<◌, ◌≤◌, length, get_or, ℤ, Bool, true, false, List, refl, sym, ap, ◌∙◌, ⊎_elim, arith, suc, zero, pow-suc, suc-mul, mul_comm}
use Rattle.std.proofs.Math.Nat.{mod-lt, mod-eq_of_lt, mul-le-mul_right, pow-le-pow_right}
use Rattle.std.proofs.Math.Arith.{mod-mul}
use Rattle.std.proofs.lemmas.Bool.{cases_order}
use Rattle.std.proofs.lemmas.List.{same_lists, get_or-map, length-map}
use Rattle.std.specs.Cmp.Lexicographic.{slice_cmp}
use Rattle.std.specs.Int.{byte_at, bytes_high_first}
use Rattle.std.specs.Ordering.{nat_cmp, int_cmp, ordering_then, ordering_reverse}
use Rattle.table_keys.specs.NumberBytes.{IsBytesOf, signed_bytes, size_bytes, turned}
use Rattle.table_keys.specs.Normal.{value_of, IsNormal}
use Rattle.table_keys.specs.declared.number.Number.TheInside.{Inside}
use Rattle.table_keys.proofs.Normals.{both_positive, both_negative, negative_first, negative_last}
use Rattle.table_keys.proofs.Sizes.{less, equal, greater}

-- ---- a number by its bytes, the greatest first

high_less : (u x y r s : ℕ) → r < u → x < y → x * u + r < y * u + s
high_less u x y r s h l =
    let step : suc x * u ≤ y * u = mul-le-mul_right u l in
    omega (arith, simp suc-mul at step)

-- two numbers by what is above a place and what is below it
place_cmp : (u x y r s : ℕ) → r < u → s < u → ordering_then (nat_cmp x y) (nat_cmp r s) ≡ nat_cmp (x * u + r) (y * u + s)
place_cmp u x y r s h g =
    ⊎_elim (λ e. ap (λ o. ordering_then o (nat_cmp r s)) (equal x y e) ∙ below e)
    (λ o. ⊎_elim (λ l. ap (λ o. ordering_then o (nat_cmp r s)) (less x y l) ∙ sym (less (x * u + r) (y * u + s) (high_less u x y r s h l)))
    (λ l. ap (λ o. ordering_then o (nat_cmp r s)) (greater x y l) ∙ sym (greater (x * u + r) (y * u + s) (high_less u y x s r g l))) o) (cases_order x y)
  where
    below : x ≡ y → nat_cmp r s ≡ nat_cmp (x * u + r) (y * u + s)
    below e =
        let high : x * u ≡ y * u = ap (λ n. n * u) e in
        ⊎_elim (λ d. equal r s d ∙ sym (equal (x * u + r) (y * u + s) (omega arith)))
        (λ o. ⊎_elim (λ l. less r s l ∙ sym (less (x * u + r) (y * u + s) (omega arith)))
        (λ l. greater r s l ∙ sym (greater (x * u + r) (y * u + s) (omega arith))) o) (cases_order r s)

unit_pos : (k : ℕ) → 0 < 256 ^ k
unit_pos k = pow-le-pow_right {n = 256} (omega arith) {i = 0} {j = k} (omega arith)

byte_on : (k n : ℕ) → byte_at k n * 256 ^ k + n % 256 ^ k ≡ n % 256 ^ suc k
byte_on zero n = omega arith
byte_on (suc k) n =
    let wider : 256 ^ suc (suc k) ≡ 256 * 256 ^ suc k = pow-suc 256 (suc k) ∙ mul_comm (256 ^ suc k) 256 in
    sym (ap (λ m. n % m) wider ∙ mod-mul n {m = 256} {c = 256 ^ suc k} (omega arith) (unit_pos (suc k)))

bytes_cmp : (k m n : ℕ) → slice_cmp nat_cmp (bytes_high_first k m) (bytes_high_first k n) ≡ nat_cmp (m % 256 ^ k) (n % 256 ^ k)
bytes_cmp zero m n = sym (equal (m % 1) (n % 1) (omega arith))
bytes_cmp (suc k) m n =
    ap (ordering_then (nat_cmp (byte_at k m) (byte_at k n))) (bytes_cmp k m n)
    ∙ place_cmp (256 ^ k) (byte_at k m) (byte_at k n) (m % 256 ^ k) (n % 256 ^ k) (mod-lt m (unit_pos k)) (mod-lt n (unit_pos k))
    ∙ ap (λ x. nat_cmp x (byte_at k n * 256 ^ k + n % 256 ^ k)) (byte_on k m) ∙ ap (nat_cmp (m % 256 ^ suc k)) (byte_on k n)

-- ---- bytes turned over

reverse_then : (o p : Ordering) → ordering_then (ordering_reverse o) (ordering_reverse p) ≡ ordering_reverse (ordering_then o p)
reverse_then Less p = refl
reverse_then Equal p = refl
reverse_then Greater p = refl

byte_turned : (x y : ℕ) → x < 256 → y < 256 → nat_cmp (255 - x) (255 - y) ≡ ordering_reverse (nat_cmp x y)
byte_turned x y h g =
    ⊎_elim (λ e. equal (255 - x) (255 - y) (omega arith) ∙ ap ordering_reverse (sym (equal x y e)))
    (λ o. ⊎_elim (λ l. greater (255 - x) (255 - y) (omega arith) ∙ ap ordering_reverse (sym (less x y l)))
    (λ l. less (255 - x) (255 - y) (omega arith) ∙ ap ordering_reverse (sym (greater x y l))) o) (cases_order x y)

byte_small : (k n : ℕ) → byte_at k n < 256
byte_small zero n = omega arith
byte_small (suc k) n = mod-lt (n / 256 ^ suc k) (omega arith)

bytes_turned : (k m n : ℕ) → slice_cmp nat_cmp (turned (bytes_high_first k m)) (turned (bytes_high_first k n)) ≡ ordering_reverse (slice_cmp nat_cmp (bytes_high_first k m) (bytes_high_first k n))
bytes_turned zero m n = refl
bytes_turned (suc k) m n =
    ap (ordering_then (nat_cmp (255 - byte_at k m) (255 - byte_at k n))) (bytes_turned k m n)
    ∙ ap (λ o. ordering_then o (ordering_reverse (slice_cmp nat_cmp (bytes_high_first k m) (bytes_high_first k n)))) (byte_turned (byte_at k m) (byte_at k n) (byte_small k m) (byte_small k n))
    ∙ reverse_then (nat_cmp (byte_at k m) (byte_at k n)) (slice_cmp nat_cmp (bytes_high_first k m) (bytes_high_first k n))

-- ---- by sign, power and coefficient

whole : (a : Inside) → IsNormal a → a.coefficient % 256 ^ 16 ≡ a.coefficient
whole a h = mod-eq_of_lt (⊎_elim (λ z. omega (arith, z.0)) (λ d. omega (arith, d.1)) h)

module _ (a b : Inside) (na : IsNormal a) (nb : IsNormal b) where
  sizes : slice_cmp nat_cmp (size_bytes a.power a.coefficient) (size_bytes b.power b.coefficient) ≡ ordering_then (nat_cmp a.power b.power) (nat_cmp a.coefficient b.coefficient)
  sizes = ap (ordering_then (nat_cmp a.power b.power))
      (bytes_cmp 16 a.coefficient b.coefficient ∙ ap (λ m. nat_cmp m (b.coefficient % 256 ^ 16)) (whole a na) ∙ ap (nat_cmp a.coefficient) (whole b nb))

  sizes_turned : a.power < 256 → b.power < 256 → slice_cmp nat_cmp (turned (size_bytes a.power a.coefficient)) (turned (size_bytes b.power b.coefficient))
      ≡ ordering_reverse (ordering_then (nat_cmp a.power b.power) (nat_cmp a.coefficient b.coefficient))
  sizes_turned fa fb =
      ap (ordering_then (nat_cmp (255 - a.power) (255 - b.power))) (bytes_turned 16 a.coefficient b.coefficient)
      ∙ ap (λ o. ordering_then o (ordering_reverse (slice_cmp nat_cmp (bytes_high_first 16 a.coefficient) (bytes_high_first 16 b.coefficient)))) (byte_turned a.power b.power fa fb)
      ∙ reverse_then (nat_cmp a.power b.power) (slice_cmp nat_cmp (bytes_high_first 16 a.coefficient) (bytes_high_first 16 b.coefficient))
      ∙ ap ordering_reverse sizes

  by_sign : (x y : ℤ) (p q : Bool) → a.power < 256 → b.power < 256 → value_of a ≡ x → value_of b ≡ y → a.negative ≡ p → b.negative ≡ q
      → slice_cmp nat_cmp (signed_bytes p a.power a.coefficient) (signed_bytes q b.power b.coefficient) ≡ int_cmp x y
  by_sign x y false false fa fb e f p q = sizes ∙ both_positive a b x y na nb e f p q
  by_sign x y true true fa fb e f p q = sizes_turned fa fb ∙ both_negative a b x y na nb e f p q
  by_sign x y true false fa fb e f p q = negative_first a b x y na nb e f p q
  by_sign x y false true fa fb e f p q = negative_last a b x y na nb e f p q

pub in_order : (a b : ℤ) (x y : List ℕ) → IsBytesOf a x → IsBytesOf b y → slice_cmp nat_cmp x y ≡ int_cmp a b
in_order a b x y h g =
    ap (λ (u : List ℕ). slice_cmp nat_cmp u y) h.is_bytes ∙ ap (slice_cmp nat_cmp (signed_bytes h.held.negative h.held.power h.held.coefficient)) g.is_bytes
    ∙ by_sign h.held g.held h.is_normal g.is_normal a b h.held.negative g.held.negative h.is_byte g.is_byte h.is_value g.is_value refl refl

-- ---- bytes that a closure turned over

pub is_turned : (n : ℕ) (xs ys : List ℕ) → length xs ≡ n → length ys ≡ n → ((i d e : ℕ) → i < n → get_or ys i e ≡ 255 - get_or xs i d) → ys ≡ turned xs
is_turned n xs ys l m h =
    same_lists ys (turned xs) (omega (arith, length-map xs (λ b. 255 - b))) (λ k d below. let short : k < length xs = omega arith in
    h k 0 d (omega arith) ∙ sym (get_or-map (λ b. 255 - b) xs k 0 d short))
