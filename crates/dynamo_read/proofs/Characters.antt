-- The characters of a text, as `chars` gives them.
use Rattle.std.proofs.Common.{◌≡◌, ℕ, List, [], ◌∷◌, ◌++◌, Some, None, Ok, sym, refl, subst, encode_utf8}
use Rattle.std.specs.List.{slice_get}
use Rattle.std.specs.Str.{chars, IsUtf8}
use Rattle.std.proofs.lemmas.Str.{chars_past_char}
use Rattle.dynamo_de.specs.Shown.{chars_shown}
use Rattle.dynamo_de.specs.Showing as showing

-- one that nothing follows
pub only_one : (t rest : List ℕ) (c : ℕ) → IsUtf8 t → t ≡ encode_utf8 c ++ rest → slice_get (chars rest) 0 ≡ None
    → chars_shown (chars t) ≡ Ok (showing.char c)
only_one t rest c utf8 is none = subst (λ cs. chars_shown cs ≡ Ok (showing.char c)) (sym (chars_past_char t rest c utf8 is)) (along (chars rest) none)
  where
    along : (cs : List ℕ) → slice_get cs 0 ≡ None → chars_shown (c ∷ cs) ≡ Ok (showing.char c)
    along [] h = refl
    along (d ∷ cs) h = cc

-- one that another follows
pub first_of_more : (t rest : List ℕ) (c d : ℕ) → IsUtf8 t → t ≡ encode_utf8 c ++ rest → slice_get (chars rest) 0 ≡ Some d
    → chars_shown (chars t) ≡ Ok (showing.first_char c)
first_of_more t rest c d utf8 is some = subst (λ cs. chars_shown cs ≡ Ok (showing.first_char c)) (sym (chars_past_char t rest c utf8 is)) (along (chars rest) some)
  where
    along : (cs : List ℕ) → slice_get cs 0 ≡ Some d → chars_shown (c ∷ cs) ≡ Ok (showing.first_char c)
    along [] h = cc
    along (e ∷ cs) h = refl
