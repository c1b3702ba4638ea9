-- Numbers in float texts: std's state machine accepts just those that the grammar describes by their parts.
use Rattle.std.proofs.Common.{◌≡◌, ℕ, suc, ◌+◌, ◌<◌, Bool, true, false, ◌&&◌, ◌||◌, cond, List, [], ◌∷◌, length, drop, map, refl, ap, ◌∙◌, inl, inr, arith, one-add, zero-add, nat_lt, ◌==◌}
use Rattle.std.proofs.lemmas.Bool.{cases_Bool, lt-ltb, eqb-true}
use Rattle.std.proofs.lemmas.Bool.Decides.{nat_tests}
use Rattle.std.specs.Char.{is_ascii_digit, to_ascii_lowercase}
use Rattle.std.specs.List.{prefix_len}
use Rattle.std.specs.Str.{all_ascii_digits}
use Rattle.std.specs.Str.Parse.{without_leading_sign}
use Rattle.std.specs.Float.Parse.{completes_number}
use Rattle.dynamo_de.specs.Number.{is_numeral, is_exponent, is_rest}

-- what a byte tells once it is in lower case

abbrev pub low : ℕ → ℕ
low c = to_ascii_lowercase c

low_digit : (c : ℕ) → is_ascii_digit (low c) ≡ is_ascii_digit c
low_digit c = grind (arith, nat_tests)

low_small : (c w : ℕ) → w < 65 → (low c == w) ≡ (c == w)
low_small c w h = grind (arith, nat_tests, h)

low_e : (c : ℕ) → (low c == 101) ≡ (c == 101 || c == 69)
low_e c = grind (arith, nat_tests)

-- texts that are no number: the state 7 is never left

nowhere : (d p e s : Bool) → cond {A = ℕ} d 7 (cond p 7 (cond e 7 (cond (s && false) 5 7))) ≡ 7
nowhere true p e s = refl
nowhere false true e s = refl
nowhere false false true s = refl
nowhere false false false true = refl
nowhere false false false false = refl

lost : (cs : List ℕ) → completes_number 7 cs ≡ false
lost [] = refl
lost (c ∷ cs) = ap (λ s. completes_number s cs) (nowhere (is_ascii_digit c) (c == 46) (c == 101 || c == 69) (c == 43 || c == 45)) ∙ lost cs

stuck : (cs : List ℕ) (p e s : Bool) → completes_number (cond p 7 (cond e 7 (cond (s && false) 5 7))) cs ≡ false
stuck cs p e s = ap (λ t. completes_number t cs) (nowhere false p e s) ∙ lost cs

-- what the state machine still accepts from each state, in the words of the grammar

abbrev pub lower : List ℕ → List ℕ
lower cs = map low cs

abbrev pub digits : List ℕ → ℕ
digits cs = prefix_len is_ascii_digit (lower cs)

abbrev pub rest : List ℕ → List ℕ
rest cs = drop (digits cs) (lower cs)

in_exponent : (cs : List ℕ) → completes_number 6 cs ≡ all_ascii_digits (lower cs)
in_exponent [] = refl
in_exponent (c ∷ cs) = elim (cases_Bool (is_ascii_digit c)) [
  | inl d ↦ rw (low_digit c, d) (in_exponent cs)
  | inr d ↦ rw (low_digit c, d) (stuck cs (c == 46) (c == 101 || c == 69) (c == 43 || c == 45))
]

after_sign : (cs : List ℕ) → completes_number 5 cs ≡ is_numeral (lower cs)
after_sign [] = refl
after_sign (c ∷ cs) = elim (cases_Bool (is_ascii_digit c)) [
  | inl d ↦ rw (low_digit c, d, lt-ltb 0 (suc (length (lower cs))) (omega arith)) (in_exponent cs)
  | inr d ↦ rw (low_digit c, d, lt-ltb 0 (suc (length (lower cs))) (omega arith)) (stuck cs (c == 46) (c == 101 || c == 69) (c == 43 || c == 45))
]

after_e : (cs : List ℕ) → completes_number 4 cs ≡ is_numeral (without_leading_sign (lower cs))
after_e [] = refl
after_e (c ∷ cs) = elim (cases_Bool (c == 45)) [
  | inl m ↦ rw (eqb-true c 45 m) (after_sign cs)
  | inr m ↦ elim (cases_Bool (c == 43)) [
    | inl p ↦ rw (eqb-true c 43 p) (after_sign cs)
    | inr p ↦ rw (low_small c 45 (omega arith), low_small c 43 (omega arith), m, p) (rw (m, p) at (after_sign (c ∷ cs)))
  ]
]

at_e : (c : ℕ) (cs : List ℕ) → completes_number (cond (c == 101 || c == 69) 4 (cond ((c == 43 || c == 45) && false) 5 7)) cs ≡ is_exponent (lower (c ∷ cs))
at_e c cs = elim (cases_Bool (c == 101 || c == 69)) [
  | inl e ↦ rw (low_e c, e) (after_e cs)
  | inr e ↦ rw (low_e c, e) (stuck cs false false (c == 43 || c == 45))
]

in_fraction : (cs : List ℕ) → completes_number 3 cs ≡ is_exponent (rest cs)
in_fraction [] = refl
in_fraction (c ∷ cs) = elim (cases_Bool (is_ascii_digit c)) [
  | inl d ↦ rw (low_digit c, d, one-add) (in_fraction cs)
  | inr d ↦ elim (cases_Bool (c == 46)) [ inl p ↦ rw (eqb-true c 46 p) (lost cs) | inr p ↦ rw (low_digit c, d, p) (at_e c cs) ]
]

after_point : (cs : List ℕ) → completes_number 2 cs ≡ (nat_lt 0 (digits cs) && is_exponent (rest cs))
after_point [] = refl
after_point (c ∷ cs) = elim (cases_Bool (is_ascii_digit c)) [
  | inl d ↦ rw (low_digit c, d, one-add, lt-ltb 0 (suc (digits cs)) (omega arith)) (in_fraction cs)
  | inr d ↦ rw (low_digit c, d) (stuck cs (c == 46) (c == 101 || c == 69) (c == 43 || c == 45))
]

after_digits : (n : ℕ) → 0 < n → (cs : List ℕ) → completes_number 1 cs ≡ is_rest n (rest cs)
after_digits n h [] = rw (lt-ltb 0 n h)
after_digits n h (c ∷ cs) = elim (cases_Bool (is_ascii_digit c)) [
  | inl d ↦ rw (low_digit c, d, one-add) (after_digits n h cs)
  | inr d ↦ elim (cases_Bool (c == 46)) [
    | inl p ↦ rw (eqb-true c 46 p, lt-ltb 0 (n + digits cs) (omega arith)) (in_fraction cs)
    | inr p ↦ rw (low_digit c, d, low_small c 46 (omega arith), p, lt-ltb 0 n h) (at_e c cs)
  ]
]

pub same_number : (cs : List ℕ) → completes_number 0 cs ≡ is_rest (digits cs) (rest cs)
same_number [] = refl
same_number (c ∷ cs) = elim (cases_Bool (is_ascii_digit c)) [
  | inl d ↦ rw (low_digit c, d, one-add) (after_digits (suc (digits cs)) (omega arith) cs)
  | inr d ↦ elim (cases_Bool (c == 46)) [
    | inl p ↦ rw (eqb-true c 46 p, zero-add) (after_point cs)
    | inr p ↦ rw (low_digit c, d, low_small c 46 (omega arith), p) (stuck cs false (c == 101 || c == 69) (c == 43 || c == 45))
  ]
]
