-- Texts of UTF-8 compare by their bytes as by their characters.
use Rattle.std.proofs.Common.{◌≡◌, ℕ, List, ◌∷◌, ◌++◌, arith}
use Rattle.std.proofs.lemmas.Bool.Decides.{nat_tests}
use Rattle.std.specs.Ordering.{nat_cmp, ordering_then}
use Rattle.std.specs.Prelude.{◌&&◌, nat_eq}
use Rattle.dynamo_value.specs.View.{text_cmp}
use lib.Utf8.{encode, encodes}
use Rattle.table_keys.proofs.PrefixLists.{has}

-- of two texts, the first characters decide, and where they are equal the rests
first_cmp : (c d : ℕ) (r s : List ℕ)
    → text_cmp (encode c ++ r) (encode d ++ s) ≡ ordering_then (nat_cmp c d) (text_cmp r s)
unfolding encode
first_cmp c d r s = grind (arith, nat_tests)

first_has : (c d : ℕ) (r s : List ℕ) → has (encode d ++ s) (encode c ++ r) ≡ (nat_eq c d && has s r)
unfolding encode
first_has c d r s = grind (arith, nat_tests)

-- texts compare as their characters
pub encodes_cmp : (cs ds : List ℕ) → text_cmp (encodes cs) (encodes ds) ≡ text_cmp cs ds
unfolding encode
encodes_cmp (c ∷ cs) (d ∷ ds) = let rest = encodes_cmp cs ds in grind (arith, first_cmp)
encodes_cmp cs ds = grind (arith, nat_tests)

-- a text begins with another where its characters begin with the other's
pub encodes_has : (cs ds : List ℕ) → has (encodes ds) (encodes cs) ≡ has ds cs
unfolding encode
encodes_has (c ∷ cs) (d ∷ ds) = let rest = encodes_has cs ds in grind (arith, first_has)
encodes_has cs ds = grind (arith, nat_tests)
