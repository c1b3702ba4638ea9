-- Where the exponent of a number's text is.
use Rattle.std.proofs.Common.{◌≡◌, ◌<◌, ◌==◌, ℕ, true, false, List, length, Option, Some, None, MatchOption, Bor, if◌then◌else◌, subst, sym, ap, ◌∙◌, arith}
use Rattle.std.proofs.lemmas.Bool.Decides.{nat_tests}
use Rattle.std.specs.List.{position_or_len, before_first, after_first}
use Rattle.std.specs.Option.{option_or}
use Rattle.table_keys.specs.Numbers.{has, mark, mantissa}

abbrev pub Parts : Type 0
Parts = Option (Bor (List ℕ) × Bor (List ℕ))

-- what `split_once` gives at a character
abbrev pub IsSplit : ℕ → List ℕ → Parts → Type 0
IsSplit c text r = MatchOption r (position_or_len (λ b. b == c) text ≡ length text)
    (λ x. (position_or_len (λ b. b == c) text < length text) × (x.0.now ≡ before_first (λ b. b == c) text) × (x.1.now ≡ after_first (λ b. b == c) text))

abbrev pub IsMarked : List ℕ → Parts → Type 0
IsMarked text r = MatchOption r (has (mark text) text ≡ false)
    (λ x. (has (mark text) text ≡ true) × (x.0.now ≡ mantissa text) × (x.1.now ≡ after_first (λ b. b == mark text) text))

found : (c : ℕ) (text : List ℕ) → position_or_len (λ b. b == c) text < length text → has c text ≡ true
found c text h = grind (arith, nat_tests)

missed : (c : ℕ) (text : List ℕ) → position_or_len (λ b. b == c) text ≡ length text → has c text ≡ false
missed c text h = grind (arith, nat_tests)

at_mark : (c : ℕ) (text : List ℕ) (r : Parts) → mark text ≡ c → IsSplit c text r → IsMarked text r
at_mark c text None e h = ap (λ m. has m text) e ∙ missed c text h
at_mark c text (Some x) e h =
    (ap (λ m. has m text) e ∙ found c text h.0, h.1 ∙ ap (λ m. before_first (λ b. b == m) text) (sym e), h.2 ∙ ap (λ m. after_first (λ b. b == m) text) (sym e))

pub marked : (text : List ℕ) (r s t : Parts) → IsSplit 101 text r → IsSplit 69 text s → t ≡ option_or r s → IsMarked text t
marked text (Some x) s t h k e = subst (IsMarked text) (sym e) (at_mark 101 text (Some x) (ap (λ b. if b then 101 else 69) (found 101 text h.0)) h)
marked text None s t h k e = subst (IsMarked text) (sym e) (at_mark 69 text s (ap (λ b. if b then 101 else 69) (missed 101 text h)) k)
