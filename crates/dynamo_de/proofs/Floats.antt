-- Float texts: the grammar and std name the same ones.
use Rattle.std.proofs.Common.{◌≡◌, ℕ, Bool, ◌||◌, List, [], ◌∷◌, refl, ◌∙◌, inl, inr, ◌==◌}
use Rattle.std.proofs.lemmas.Bool.{cases_Bool, eqb-true}
use Rattle.std.proofs.Math.Bool.{or_comm}
use Rattle.std.specs.Prelude.{codes, bytes_eq}
use Rattle.std.specs.Str.Parse.{without_leading_sign}
use Rattle.std.specs.Float.Parse.{completes_number, lowercases_to, without_sign, is_float_text as is_std_float_text}
use Rattle.dynamo_de.specs.Number.{is_float_body, is_float_text}
use Rattle.dynamo_de.proofs.FloatNumbers.{lower, same_number}

same_word : (cs ws : List ℕ) → lowercases_to cs ws ≡ bytes_eq (lower cs) ws
same_word [] [] = refl
same_word [] (w ∷ ws) = refl
same_word (c ∷ cs) [] = refl
same_word (c ∷ cs) (w ∷ ws) = rw (same_word cs ws)

same_without_sign : (cs : List ℕ) → without_sign cs ≡ without_leading_sign cs
same_without_sign [] = refl
same_without_sign (c ∷ cs) = elim (cases_Bool (c == 45)) [
  | inl m ↦ rw (eqb-true c 45 m)
  | inr m ↦ elim (cases_Bool (c == 43)) [ inl p ↦ rw (m, p) | inr p ↦ rw (m, p) ]
]

abbrev is_word : List ℕ → Bool
is_word cs = (lowercases_to cs (codes "inf") || lowercases_to cs (codes "infinity")) || lowercases_to cs (codes "nan")

same_body : (cs : List ℕ) → (completes_number 0 cs || is_word cs) ≡ is_float_body (lower cs)
same_body cs = or_comm (completes_number 0 cs) (is_word cs) ∙ rw (same_word cs (codes "inf"), same_word cs (codes "infinity"), same_word cs (codes "nan"), same_number cs)

-- The two grammars name the same texts.
pub same_float_texts : (text : List ℕ) → is_std_float_text text ≡ is_float_text text
same_float_texts text = rw (same_without_sign text) (same_body (without_leading_sign text))

pub reads_float : (text : List ℕ) (found : Bool) → found ≡ is_std_float_text text → found ≡ is_float_text text
reads_float text found h = h ∙ same_float_texts text
