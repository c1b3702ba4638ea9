-- Digits that are read one after another: those that are too many, and what becomes of the size.
use Rattle.std.proofs.Common.{◌≡◌, ◌≢◌, ℕ, ◌+◌, ◌*◌, ◌-◌, ◌^◌, ◌%◌, ◌<◌, ◌≤◌, List, [], ◌∷◌, ◌++◌, refl, sym, ap, ◌∙◌, ⊎_elim, arith}
use Rattle.std.proofs.Math.Nat.{mul_assoc, mul_comm, mul_right_comm, add-mul, zero-mul, mul-pos, mul-lt-mul_of_pos_right, mul-le-mul_right, mul-le-mul_left, pow-le-pow_right, eq_of_mul-eq-mul_right, mul-mod_left, le-mul_of_pos_right}
use Rattle.std.proofs.lemmas.Nat.{pow-add, mod-mul-add}
use Rattle.std.proofs.lemmas.Bool.{cases_lt}
use Rattle.std.specs.Char.{digit_value}
use Rattle.std.specs.Str.Parse.{AllDigits, digits_value_after}
use Rattle.table_keys.specs.Digits.{IsLong}
use Rattle.table_keys.specs.Numbers.{IsKept}
use Rattle.table_keys.proofs.Sizes.{ten_pos}

pub ten_more : (k : ℕ) → 10 ^ (k + 1) ≡ 10 ^ k * 10
ten_more k = pow-add 10 k 1

-- ---- texts of digits, one after the other

pub value_append : (n : ℕ) (xs ys : List ℕ) → digits_value_after 10 n (xs ++ ys) ≡ digits_value_after 10 (digits_value_after 10 n xs) ys
value_append n [] ys = refl
value_append n (x ∷ xs) ys = value_append (n * 10 + digit_value x) xs ys

pub digits_append : (xs ys : List ℕ) → AllDigits 10 xs → AllDigits 10 ys → AllDigits 10 (xs ++ ys)
digits_append [] ys p q = q
digits_append (x ∷ xs) ys p q = (p.0, digits_append xs ys p.1 q)

pub digits_front : (xs ys : List ℕ) → AllDigits 10 (xs ++ ys) → AllDigits 10 xs
digits_front [] ys p = tt
digits_front (x ∷ xs) ys p = (p.0, digits_front xs ys p.1)

pub digits_back : (xs ys : List ℕ) → AllDigits 10 (xs ++ ys) → AllDigits 10 ys
digits_back [] ys p = p
digits_back (x ∷ xs) ys p = digits_back xs ys p.1

-- ---- too many digits stay too many

long_more : (n d : ℕ) → d < 10 → IsLong n → IsLong (n * 10 + d)
long_more n d h l =
    let more = ten_more l.others in
    let split : n * 10 ≡ l.first * 10 ^ l.others * 10 + l.rest * 10 = ap (λ m. m * 10) l.is_split ∙ add-mul (l.first * 10 ^ l.others) l.rest 10 in
    let front : l.first * 10 ^ l.others * 10 ≡ l.first * 10 ^ (l.others + 1) = mul_assoc l.first (10 ^ l.others) 10 ∙ ap (λ m. l.first * m) (sym more) in
    record {
      first = l.first;
      others = l.others + 1;
      rest = l.rest * 10 + d;
      is_split = omega arith;
      is_rest = omega (arith, l.is_rest);
      is_large = l.is_large;
      counts = l.counts;
    }

pub long_after : (n : ℕ) (cs : List ℕ) → IsLong n → AllDigits 10 cs → IsLong (digits_value_after 10 n cs)
long_after n [] l p = l
long_after n (c ∷ cs) l p = long_after (n * 10 + digit_value c) cs (long_more n (digit_value c) p.0 l) p.1

-- a digit that is not zero, after 38 digits and zeros
pub long_here : (digits zeros d : ℕ) → 10 ^ 37 ≤ digits → 0 < d → d < 10 → IsLong (digits * 10 ^ zeros * 10 + d)
long_here digits zeros d large some h =
    let all : digits ≤ digits * 10 ^ zeros = le-mul_of_pos_right digits (ten_pos zeros) in
    record {
      first = digits * 10 ^ zeros * 10 + d;
      others = 0;
      rest = 0;
      is_split = omega arith;
      is_rest = omega arith;
      is_large = omega arith;
      counts = λ e. absurd (omega (arith, mod-mul-add (digits * 10 ^ zeros) 10 d h));
    }

-- a kept number has no more digits that count, whatever power of ten it is divided by
long_apart : (first others rest c more : ℕ) → rest < 10 ^ others → first % 10 ≢ 0 → c * 10 ^ (others + 1 + more) ≡ first * 10 ^ others + rest → ⊥
long_apart first others rest c more small counts e =
    let tens = 10 ^ others in
    let up : 10 ^ (others + 1 + more) ≡ 10 ^ (1 + more) * tens = ap (λ k. 10 ^ k) (omega arith) ∙ pow-add 10 (1 + more) others in
    let even : c * 10 ^ (1 + more) * tens ≡ first * tens + rest = mul_assoc c (10 ^ (1 + more)) tens ∙ ap (λ n. c * n) (sym up) ∙ e in
    let none : rest ≡ 0 = sym (mod-mul-add first tens rest small) ∙ ap (λ n. n % tens) (sym even) ∙ mul-mod_left (c * 10 ^ (1 + more)) tens in
    let same : c * 10 ^ (1 + more) ≡ first = eq_of_mul-eq-mul_right tens (ten_pos others) _ _ (even ∙ omega (arith, none)) in
    let ten : c * 10 ^ (1 + more) ≡ c * 10 ^ more * 10 = ap (λ n. c * n) (pow-add 10 1 more ∙ mul_comm 10 (10 ^ more)) ∙ sym (mul_assoc c (10 ^ more) 10) in
    counts (ap (λ n. n % 10) (sym same ∙ ten) ∙ mul-mod_left (c * 10 ^ more) 10)

long_size : (n d c p a b : ℕ) → IsLong d → c < 10 ^ 38 → n ≡ c * 10 ^ p → n * 10 ^ a ≡ d * 10 ^ b → ⊥
long_size n d c p a b l small is e =
    let whole : c * 10 ^ (p + a) ≡ d * 10 ^ b = ap (λ m. c * m) (pow-add 10 p a) ∙ sym (mul_assoc c (10 ^ p) (10 ^ a)) ∙ ap (λ m. m * 10 ^ a) (sym is) ∙ e in
    ⊎_elim (λ far.
    let more = p + a - (l.others + 1 + b) in
    let split : 10 ^ (p + a) ≡ 10 ^ (l.others + 1 + more) * 10 ^ b = ap (λ k. 10 ^ k) (omega arith) ∙ pow-add 10 (l.others + 1 + more) b in
    let cut : c * 10 ^ (l.others + 1 + more) * 10 ^ b ≡ d * 10 ^ b = mul_assoc c (10 ^ (l.others + 1 + more)) (10 ^ b) ∙ ap (λ m. c * m) (sym split) ∙ whole in
    long_apart l.first l.others l.rest c more l.is_rest l.counts (eq_of_mul-eq-mul_right (10 ^ b) (ten_pos b) _ _ cut ∙ l.is_split))
    (λ near.
    let low : c * 10 ^ (p + a) < 10 ^ 38 * 10 ^ (p + a) = mul-lt-mul_of_pos_right small (ten_pos (p + a)) in
    let reach : 10 ^ (p + a) ≤ 10 ^ (l.others + b) = pow-le-pow_right (omega arith) (omega arith) in
    let high : 10 ^ 38 * 10 ^ (p + a) ≤ 10 ^ 38 * 10 ^ (l.others + b) = mul-le-mul_left (10 ^ 38) reach in
    let first : 10 ^ 38 * 10 ^ l.others ≤ l.first * 10 ^ l.others = mul-le-mul_right (10 ^ l.others) l.is_large in
    let all : 10 ^ 38 * 10 ^ l.others * 10 ^ b ≤ d * 10 ^ b = mul-le-mul_right (10 ^ b) (omega (arith, l.is_split)) in
    let tens : 10 ^ 38 * 10 ^ l.others * 10 ^ b ≡ 10 ^ 38 * 10 ^ (l.others + b) = mul_assoc (10 ^ 38) (10 ^ l.others) (10 ^ b) ∙ ap (λ m. 10 ^ 38 * m) (sym (pow-add 10 l.others b)) in
    absurd (omega arith)) (cases_lt (l.others + b) (p + a))

pub long_not_kept : (n d a b : ℕ) → IsLong d → IsKept n → n * 10 ^ a ≡ d * 10 ^ b → ⊥
long_not_kept n d a b l kept e =
    ⊎_elim (λ z.
    let none : n * 10 ^ a ≡ 0 = ap (λ m. m * 10 ^ a) z ∙ zero-mul (10 ^ a) in
    let first : 0 < l.first * 10 ^ l.others = mul-pos (omega (arith, l.is_large)) (ten_pos l.others) in
    let some : 0 < d * 10 ^ b = mul-pos (omega (arith, l.is_split)) (ten_pos b) in
    absurd (omega arith))
    (λ k. long_size n d k.0 k.1 a b l k.3 k.5 e) kept

-- ---- powers of ten on both sides

pub rescale : (n d a b x y : ℕ) → a + y ≡ b + x → n * 10 ^ a ≡ d * 10 ^ b → n * 10 ^ x ≡ d * 10 ^ y
rescale n d a b x y h e = eq_of_mul-eq-mul_right (10 ^ a) (ten_pos a) _ _ (
    mul_right_comm n (10 ^ x) (10 ^ a) ∙ ap (λ m. m * 10 ^ x) e ∙ mul_assoc d (10 ^ b) (10 ^ x) ∙ ap (λ m. d * m) (sym (pow-add 10 b x) ∙ ap (λ k. 10 ^ k) (sym h ∙ omega arith) ∙ pow-add 10 y a)
    ∙ sym (mul_assoc d (10 ^ y) (10 ^ a)))

-- how often a number below 10 ^ 38 can be multiplied by ten
pub few : (d e n : ℕ) → 0 < e → d ≡ e * 10 ^ n → d < 10 ^ 38 → n < 38
few d e n some is small =
    ⊎_elim (λ l. l) (λ g.
    let large : 10 ^ 38 ≤ 10 ^ n = pow-le-pow_right (omega arith) g in
    let all : 10 ^ n ≤ 10 ^ n * e = le-mul_of_pos_right (10 ^ n) some in
    absurd (omega (arith, mul_comm e (10 ^ n)))) (cases_lt n 38)
