-- Where what begins with a prefix ends, of byte strings and of texts.
use Rattle.std.proofs.Common.{◌≡◌, ◌∙◌, ℕ, ◌+◌, ◌<◌, ◌≤◌, true, List, [], ◌∷◌, ◌++◌, Some, None}
use Rattle.std.proofs.Common.{append_assoc, arith}
use Rattle.std.proofs.lemmas.Bool.{and_parts}
use Rattle.std.proofs.lemmas.List.Elements.{All-cons, All-nil}
use Rattle.std.specs.Char.{IsScalar}
use Rattle.std.specs.List.{All}
use Rattle.std.specs.Prelude.{IsUtf8}
use Rattle.table_keys.specs.Held.{IsByte}
use Rattle.table_keys.specs.Prefixes.{BeginsUpTo}
use Rattle.table_keys.proofs.PrefixLists.{IsApart, from_greatest, from_last}
use Rattle.table_keys.proofs.TextOrder.{encodes_cmp, encodes_has}
use lib.Utf8.{encodes, scalar, scalar_cases, scalars}

-- ---- byte strings

pub bytes_up_to : (prefix before greatest : List ℕ) (c : ℕ)
    → prefix ≡ (before ++ c ∷ []) ++ greatest
    → All (λ b. b ≡ 255) greatest → c < 255
    → BeginsUpTo (All IsByte) prefix (Some (before ++ (c + 1) ∷ []))
bytes_up_to prefix before greatest c is all small list bytes =
    rw (is ∙ append_assoc before (c ∷ []) greatest) (from_last 255 c (c + 1)
    (omega arith) before greatest list all
    (λ k d l. let byte : IsByte _ = bytes k d l in (omega (arith, byte), λ h. omega (arith, h))))

pub bytes_to_last : (prefix greatest : List ℕ) → prefix ≡ greatest → All (λ b. b ≡ 255) greatest
    → BeginsUpTo (All IsByte) prefix None
bytes_to_last prefix greatest is all list bytes =
    rw is (grind (arith, from_greatest 255 greatest list all (λ k d l. omega (arith, bytes k d l))))

-- ---- texts

all_scalars : (P : ℕ → Type 0) → ((c : ℕ) → IsScalar c → P c)
    → (cs : List ℕ) → scalars cs ≡ true → All P cs
all_scalars P each [] h = All-nil P
all_scalars P each (c ∷ cs) h =
    let parts = and_parts (scalar c) (scalars cs) h in
    All-cons P c cs (each c parts.0) (all_scalars P each cs parts.1)

pub text_up_to : (prefix before greatest : List ℕ) (c d : ℕ)
    → prefix ≡ encodes (before ++ c ∷ greatest)
    → All (λ x. x ≡ 1114111) greatest → c < d
    → ((other : ℕ) → IsScalar other → c < other → d ≤ other)
    → BeginsUpTo IsUtf8 prefix (Some (encodes (before ++ d ∷ [])))
text_up_to prefix before greatest c d is all less next list text =
    rw (is, ← text.1.1) (simp (encodes_has, encodes_cmp)
    (from_last 1114111 c d less before greatest text.0 all
    (all_scalars (IsApart 1114111 c d less) (λ x h. (omega (arith, scalar_cases x h), next x h))
    text.0 text.1.0)))

pub text_to_last : (prefix greatest : List ℕ) → prefix ≡ encodes greatest
    → All (λ x. x ≡ 1114111) greatest
    → BeginsUpTo IsUtf8 prefix None
text_to_last prefix greatest is all list text =
    rw (is, ← text.1.1, encodes_has, encodes_cmp) (grind (
      arith,
      from_greatest 1114111 greatest text.0 all
          (all_scalars (λ x. x ≤ 1114111) (λ x h. omega (arith, scalar_cases x h)) text.0 text.1.0),
    ))
