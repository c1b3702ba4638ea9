-- What begins with a prefix lies between the prefix and what comes next to it.
use Rattle.std.proofs.Common.{◌≡◌, ℕ, ◌<◌, ◌≤◌, Bool, List, [], ◌∷◌, ◌++◌, arith}
use Rattle.std.proofs.lemmas.Bool.Decides.{nat_tests}
use Rattle.std.proofs.lemmas.List.Elements.{All-head, All-tail}
use Rattle.std.specs.List.{All, starts_with}
use Rattle.std.specs.Ordering.{is_gt, is_le}
use Rattle.std.specs.Prelude.{◌&&◌, nat_eq}
use Rattle.dynamo_value.specs.View.{text_cmp}

abbrev pub has : List ℕ → List ℕ → Bool
has list prefix = starts_with nat_eq list prefix

module _ (m : ℕ) where
  -- Of lists whose elements are at most m, those that begin with a list of m's are those from it on.
  pub from_greatest : (ms xs : List ℕ) → All (λ x. x ≡ m) ms → All (λ x. x ≤ m) xs
      → has xs ms ≡ is_le (text_cmp ms xs)
  from_greatest (c ∷ ms) (x ∷ xs) greatest small =
      let rest = from_greatest ms xs (All-tail (λ y. y ≡ m) c ms greatest)
      (All-tail (λ y. y ≤ m) x xs small) in
      grind (
        arith,
        nat_tests,
        All-head (λ y. y ≡ m) c ms greatest,
        All-head (λ y. y ≤ m) x xs small,
      )
  from_greatest ms xs greatest small = grind (arith, nat_tests)

  module _ (c d : ℕ) (c<d : c < d) where
    -- x is at most m, and above c only from d on
    abbrev pub IsApart : ℕ → Type 0
    IsApart x = (x ≤ m) × (c < x → d ≤ x)

    -- Of such lists, those that begin with c and then m's lie from it up to d, after other elements.
    pub from_last : (before ms xs : List ℕ) → All (λ x. x ≡ m) ms → All IsApart xs
        → has xs (before ++ c ∷ ms)
        ≡ (is_le (text_cmp (before ++ c ∷ ms) xs) && is_gt (text_cmp (before ++ d ∷ []) xs))
    from_last [] ms (x ∷ xs) greatest apart =
        let rest = from_greatest ms xs greatest (λ k e l. (All-tail IsApart x xs apart k e l).0) in
        grind (arith, nat_tests, All-head IsApart x xs apart)
    from_last (p ∷ before) ms (x ∷ xs) greatest apart =
        let rest = from_last before ms xs greatest (All-tail IsApart x xs apart) in
        grind (arith, nat_tests)
    from_last before ms xs greatest apart = grind (arith, nat_tests)
