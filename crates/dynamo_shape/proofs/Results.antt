-- Results and answers that are values.
use Rattle.std.proofs.Common.{◌≡◌, ℕ, [], ◌∷◌, Ok, Err, refl, sym, ap, ◌∙◌}
use Rattle.dynamo_shape.proofs.Common.{chars, encode_utf8, nothing_more, Answer, value}
use Rattle.std.specs.Char.{IsScalar}
use Rattle.std.proofs.lemmas.Str.{chars-encodes}

abbrev given : {A : Type 0} → Answer A → A → A
given (Ok x) y = x
given (Err r) y = y

pub value_same : {A : Type 0} {x y : A} → value x ≡ value y → x ≡ y
value_same {x = x} e = ap (λ r. given r x) e

pub chars-encode : (c : ℕ) → IsScalar c → chars (encode_utf8 c) ≡ c ∷ []
chars-encode c h = ap chars (sym (nothing_more (encode_utf8 c))) ∙ chars-encodes (c ∷ []) (rw h refl)
