-- Texts: the one character of a text, by what an iterator over its characters gives first and second, and UTF-8.
use Rattle.std.proofs.Common.{◌≡◌, ℕ, true, false, inl, inr, List, [], ◌∷◌, ◌++◌, Some, None, refl, sym, subst, encode_utf8}
use Rattle.std.specs.Str.{chars, IsUtf8, is_utf8}
use Rattle.std.specs.List.{slice_get}
use Rattle.std.proofs.lemmas.Bool.{cases_Bool}
use Rattle.std.proofs.lemmas.Str.{chars_past_char, IsUtf8-from_is_utf8, is_utf8-from_IsUtf8}
use Rattle.dynamo_de.specs.Visitors.{the_only, one_char}

pub no_char : (t : List ℕ) → slice_get (chars t) 0 ≡ None → one_char t ≡ None
no_char t h = along (chars t) h
  where
    along : (cs : List ℕ) → slice_get cs 0 ≡ None → the_only cs ≡ None
    along [] h = refl
    along (c ∷ cs) h = cc

pub one_alone : (t rest : List ℕ) (c : ℕ) → IsUtf8 t → t ≡ encode_utf8 c ++ rest → slice_get (chars rest) 0 ≡ None → one_char t ≡ Some c
one_alone t rest c u e n = subst (λ cs. the_only cs ≡ Some c) (sym (chars_past_char t rest c u e)) (along (chars rest) n)
  where
    along : (cs : List ℕ) → slice_get cs 0 ≡ None → the_only (c ∷ cs) ≡ Some c
    along [] h = refl
    along (d ∷ cs) h = cc

pub too_many : (t rest : List ℕ) (c d : ℕ) → IsUtf8 t → t ≡ encode_utf8 c ++ rest → slice_get (chars rest) 0 ≡ Some d → one_char t ≡ None
too_many t rest c d u e n = subst (λ cs. the_only cs ≡ None) (sym (chars_past_char t rest c u e)) (along (chars rest) n)
  where
    along : (cs : List ℕ) → slice_get cs 0 ≡ Some d → the_only (c ∷ cs) ≡ None
    along [] h = cc
    along (b ∷ cs) h = refl

pub utf8_told : (bytes : List ℕ) → IsUtf8 bytes → is_utf8 bytes ≡ true
utf8_told bytes h = is_utf8-from_IsUtf8 bytes h

pub utf8_denied : (bytes : List ℕ) → ¬ (IsUtf8 bytes) → is_utf8 bytes ≡ false
utf8_denied bytes h = elim (cases_Bool (is_utf8 bytes)) [ inl told ↦ absurd (h (IsUtf8-from_is_utf8 bytes told)) | inr denied ↦ denied ]
