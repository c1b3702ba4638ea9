-- What the rules make of the first character of a name.
use Rattle.std.proofs.Common.{◌≡◌, ◌≢◌, ℕ, ◌+◌, ◌<◌, ◌≤◌, ◌==◌, Bool, true, false, if◌then◌else◌, List, [], ◌∷◌, ◌++◌}
use Rattle.std.proofs.Common.{length, get_or, encode_utf8, ◌⊎◌, inl, inr, ⊎_elim, refl, sym, ap, ap₂, ◌∙◌, arith, append_assoc, append-nil}
use Rattle.std.proofs.lemmas.Bool.{cases_order}
use Rattle.std.proofs.lemmas.Grind.{common_steps}
use Rattle.std.proofs.lemmas.List.{map-append}
use Rattle.std.proofs.lemmas.Str.{encode_ascii, inside_one, length-encode, len_utf8_bounds}
use Rattle.std.proofs.lemmas.Str.Ascii.{lowercase_ascii, uppercase_ascii}
use Rattle.std.specs.Char.{is_ascii_uppercase, to_ascii_lowercase as lower, to_ascii_uppercase as upper}
use Rattle.std.specs.List.{flat_map}
use Rattle.derive_declarations.specs.Renamed.{dashed, kebab, camel, worded, snake, pascal_from}

ascii_or_wide : (c : ℕ) → (c < 128) ⊎ (128 ≤ c)
ascii_or_wide c = ⊎_elim (λ e. inr (omega arith))
    (λ (differs : (c < 128) ⊎ (128 < c)). ⊎_elim (λ m. inl m) (λ m. inr (omega arith)) differs)
    (cases_order c 128)

-- each byte is beyond ASCII
abbrev IsWide : List ℕ → Type 0
IsWide bs = (k : ℕ) → k < length bs → 128 ≤ get_or bs k 0

wide : (c : ℕ) → 128 ≤ c → IsWide (encode_utf8 c)
wide c h = λ k lt. grind (arith, inside_one c [] (encode_utf8 c) k (sym (append-nil (encode_utf8 c))) lt)

some_byte : (c : ℕ) → 0 < length (encode_utf8 c)
some_byte c = omega (arith, length-encode c, (len_utf8_bounds c).0)

wide_head : (b : ℕ) (bs : List ℕ) → IsWide (b ∷ bs) → 128 ≤ b
wide_head b bs h = grind (arith, common_steps, h 0)

wide_tail : (b : ℕ) (bs : List ℕ) → IsWide (b ∷ bs) → IsWide bs
wide_tail b bs h = λ k lt. grind (arith, common_steps, h (k + 1))

-- ---- bytes

lower_wide : (b : ℕ) → 128 ≤ b → lower b ≡ b
lower_wide b h = grind (arith, common_steps)

upper_wide : (b : ℕ) → 128 ≤ b → upper b ≡ b
upper_wide b h = grind (arith, common_steps)

dashed_wide : (b : ℕ) → 128 ≤ b → dashed b ≡ b
dashed_wide b h = grind (arith, common_steps)

dashed_ascii : (b : ℕ) → b < 128 → dashed b < 128
dashed_ascii b h = grind (arith, common_steps)

worded_wide : (b : ℕ) → 128 ≤ b → worded b ≡ b ∷ []
worded_wide b h = grind (arith, common_steps)

worded_other : (b : ℕ) → is_ascii_uppercase b ≡ false → worded b ≡ lower b ∷ []
worded_other b h = grind (arith, common_steps)

worded_capital : (b : ℕ) → is_ascii_uppercase b ≡ true → worded b ≡ 95 ∷ lower b ∷ []
worded_capital b h = grind (arith, common_steps)

capital_ascii : (b : ℕ) → is_ascii_uppercase b ≡ true → b < 128
capital_ascii b h = grind (arith, common_steps)

-- the letter that a part of a name has in `PascalCase`
abbrev lettered : Bool → ℕ → ℕ
lettered begins b = if begins then upper b else b

lettered_wide : (begins : Bool) (b : ℕ) → 128 ≤ b → lettered begins b ≡ b
lettered_wide true b h = upper_wide b h
lettered_wide false b h = refl

lettered_ascii : (begins : Bool) (b : ℕ) → b < 128 → lettered begins b < 128
lettered_ascii true b h = uppercase_ascii b h
lettered_ascii false b h = h

pascal_letter : (begins : Bool) (b : ℕ) (bs : List ℕ) → b ≢ 95
    → pascal_from begins (b ∷ bs) ≡ lettered begins b ∷ pascal_from false bs
pascal_letter begins b bs h =
    let other : (b == 95) ≡ false = grind (arith, common_steps) in
    rw other refl

-- ---- characters beyond ASCII

kebab_wide : (bs : List ℕ) → IsWide bs → kebab bs ≡ bs
kebab_wide [] h = refl
kebab_wide (b ∷ bs) h =
    ap₂ (λ x xs. x ∷ xs) (dashed_wide b (wide_head b bs h)) (kebab_wide bs (wide_tail b bs h))

words_wide : (bs rest : List ℕ) → IsWide bs
    → flat_map worded (bs ++ rest) ≡ bs ++ flat_map worded rest
words_wide [] rest h = refl
words_wide (b ∷ bs) rest h =
    ap₂ (λ xs ys. xs ++ ys) (worded_wide b (wide_head b bs h)) (words_wide bs rest (wide_tail b bs h))

pascal_wide : (begins : Bool) (b : ℕ) (bs rest : List ℕ) → IsWide (b ∷ bs)
    → pascal_from begins ((b ∷ bs) ++ rest) ≡ (b ∷ bs) ++ pascal_from false rest
pascal_wide begins b [] rest h =
    let high = wide_head b [] h in
    pascal_letter begins b rest (omega arith) ∙ ap (λ x. x ∷ pascal_from false rest) (lettered_wide begins b high)
pascal_wide begins b (d ∷ ds) rest h =
    let high = wide_head b (d ∷ ds) h in
    pascal_letter begins b ((d ∷ ds) ++ rest) (omega arith)
    ∙ ap₂ (λ x xs. x ∷ xs) (lettered_wide begins b high) (pascal_wide false d ds rest (wide_tail b (d ∷ ds) h))

camel_wide : (bs rest : List ℕ) → 0 < length bs → IsWide bs → camel (bs ++ rest) ≡ bs ++ rest
camel_wide [] rest some h = absurd (omega arith)
camel_wide (b ∷ bs) rest some h = ap (λ x. x ∷ (bs ++ rest)) (lower_wide b (wide_head b bs h))

snake_wide : (bs rest : List ℕ) → 0 < length bs → IsWide bs
    → snake (bs ++ rest) ≡ bs ++ flat_map worded rest
snake_wide [] rest some h = absurd (omega arith)
snake_wide (b ∷ bs) rest some h =
    ap₂ (λ x xs. x ∷ xs) (lower_wide b (wide_head b bs h)) (words_wide bs rest (wide_tail b bs h))

pascal_begins_wide : (begins : Bool) (bs rest : List ℕ) → 0 < length bs → IsWide bs
    → pascal_from begins (bs ++ rest) ≡ bs ++ pascal_from false rest
pascal_begins_wide begins [] rest some h = absurd (omega arith)
pascal_begins_wide begins (b ∷ bs) rest some h = pascal_wide begins b bs rest h

-- ---- any character

kebab_of_char : (c : ℕ) → kebab (encode_utf8 c) ≡ encode_utf8 (dashed c)
kebab_of_char c = ⊎_elim
    (λ m. ap kebab (encode_ascii c m) ∙ sym (encode_ascii (dashed c) (dashed_ascii c m)))
    (λ m. kebab_wide (encode_utf8 c) (wide c m) ∙ ap encode_utf8 (sym (dashed_wide c m)))
    (ascii_or_wide c)

pub kebab_char : (c : ℕ) (rest : List ℕ)
    → kebab (encode_utf8 c ++ rest) ≡ encode_utf8 (dashed c) ++ kebab rest
kebab_char c rest = map-append dashed (encode_utf8 c) rest ∙ ap (λ xs. xs ++ kebab rest) (kebab_of_char c)

pub camel_char : (c : ℕ) (rest : List ℕ)
    → camel (encode_utf8 c ++ rest) ≡ encode_utf8 (lower c) ++ rest
camel_char c rest = ⊎_elim
    (λ m. ap (λ xs. camel (xs ++ rest)) (encode_ascii c m)
    ∙ ap (λ xs. xs ++ rest) (sym (encode_ascii (lower c) (lowercase_ascii c m))))
    (λ m. camel_wide (encode_utf8 c) rest (some_byte c) (wide c m)
    ∙ ap (λ d. encode_utf8 d ++ rest) (sym (lower_wide c m)))
    (ascii_or_wide c)

pub snake_char : (c : ℕ) (rest : List ℕ)
    → snake (encode_utf8 c ++ rest) ≡ encode_utf8 (lower c) ++ flat_map worded rest
snake_char c rest = ⊎_elim
    (λ m. ap (λ xs. snake (xs ++ rest)) (encode_ascii c m)
    ∙ ap (λ xs. xs ++ flat_map worded rest) (sym (encode_ascii (lower c) (lowercase_ascii c m))))
    (λ m. snake_wide (encode_utf8 c) rest (some_byte c) (wide c m)
    ∙ ap (λ d. encode_utf8 d ++ flat_map worded rest) (sym (lower_wide c m)))
    (ascii_or_wide c)

pub word_capital : (c : ℕ) (rest : List ℕ) → is_ascii_uppercase c ≡ true
    → flat_map worded (encode_utf8 c ++ rest) ≡ 95 ∷ (encode_utf8 (lower c) ++ flat_map worded rest)
word_capital c rest h =
    let m = capital_ascii c h in
    ap (λ xs. flat_map worded (xs ++ rest)) (encode_ascii c m)
    ∙ ap (λ xs. xs ++ flat_map worded rest) (worded_capital c h)
    ∙ ap (λ xs. 95 ∷ (xs ++ flat_map worded rest)) (sym (encode_ascii (lower c) (lowercase_ascii c m)))

pub word_other : (c : ℕ) (rest : List ℕ) → is_ascii_uppercase c ≡ false
    → flat_map worded (encode_utf8 c ++ rest) ≡ encode_utf8 (lower c) ++ flat_map worded rest
word_other c rest h = ⊎_elim
    (λ m. ap (λ xs. flat_map worded (xs ++ rest)) (encode_ascii c m)
    ∙ ap (λ xs. xs ++ flat_map worded rest) (worded_other c h ∙ sym (encode_ascii (lower c) (lowercase_ascii c m))))
    (λ m. words_wide (encode_utf8 c) rest (wide c m)
    ∙ ap (λ d. encode_utf8 d ++ flat_map worded rest) (sym (lower_wide c m)))
    (ascii_or_wide c)

pub pascal_char : (begins : Bool) (c : ℕ) (rest : List ℕ) → c ≢ 95
    → pascal_from begins (encode_utf8 c ++ rest) ≡ encode_utf8 (if begins then upper c else c) ++ pascal_from false rest
pascal_char begins c rest h = ⊎_elim
    (λ m. ap (λ xs. pascal_from begins (xs ++ rest)) (encode_ascii c m)
    ∙ pascal_letter begins c rest h
    ∙ ap (λ xs. xs ++ pascal_from false rest) (sym (encode_ascii (lettered begins c) (lettered_ascii begins c m))))
    (λ m. pascal_begins_wide begins (encode_utf8 c) rest (some_byte c) (wide c m)
    ∙ ap (λ d. encode_utf8 d ++ pascal_from false rest) (sym (lettered_wide begins c m)))
    (ascii_or_wide c)

-- what is left of a name begins with what was pushed
pub goes_on : (name new piece left rest all : List ℕ)
    → name ++ left ≡ all → left ≡ piece ++ rest → new ≡ name ++ piece → new ++ rest ≡ all
goes_on name new piece left rest all h l n =
    ap (λ xs. xs ++ rest) n ∙ append_assoc name piece rest ∙ ap (λ xs. name ++ xs) (sym l) ∙ h
