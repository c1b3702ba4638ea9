-- Other names passed one after another, until one is found; and names found by their places.
use Rattle.std.proofs.Common.{◌≡◌, ℕ, suc, true, false, ◌||◌, List, [], ◌∷◌, length, ◌<◌, ◌≤◌, ◌+◌, drop, get_or, map, sym, ap, subst, ◌∙◌, inl, inr, arith}
use Rattle.dynamo_record.proofs.Common.{bytes_eq, if◌then◌else◌, Text, own_name, Names, is_named}
use Rattle.dynamo_record.proofs.Common.{place_of}
use Rattle.std.proofs.Math.Seq.{drop-cons}
use Rattle.std.proofs.Math.ListN.{drop_of_length-le}
use Rattle.std.proofs.lemmas.Bool.{true≢false, cases_Bool}
use Rattle.dynamo_shape.proofs.Found.{or_false}

module _ {A : Type 0} (f : A → Text × Text) (xs : List A) (i : ℕ) where
  module _ (d : A) (t all : Text) (so_far : all ≡ own_name (map f (drop i xs)) t) where
    here : i < length xs → all ≡ own_name (f (get_or xs i d) ∷ map f (drop (suc i) xs)) t
    here h = so_far ∙ ap (λ l. own_name (map f l) t) (drop-cons xs i d h)

    pub alias_found : i < length xs → true ≡ bytes_eq t (f (get_or xs i d)).0 → (f (get_or xs i d)).1 ≡ all
    alias_found h e = sym (here h ∙ ap (λ b. if b then (f (get_or xs i d)).1 else own_name (map f (drop (suc i) xs)) t) (sym e))

    next : suc i ≡ i + 1
    next = omega arith

    pub alias_passed : i < length xs → false ≡ bytes_eq t (f (get_or xs i d)).0 → all ≡ own_name (map f (drop (i + 1) xs)) t
    alias_passed h e = subst (λ j. all ≡ own_name (map f (drop j xs)) t) next (here h ∙ ap (λ b. if b then (f (get_or xs i d)).1 else own_name (map f (drop (suc i) xs)) t) (sym e))

  pub none_found : (t all : Text) → all ≡ own_name (map f (drop i xs)) t → length xs ≤ i → t ≡ all
  none_found t all so_far h = sym (so_far ∙ ap (λ l. own_name (map f l) t) (drop_of_length-le xs h))

-- the own name of a key, by the names that are listed
pub own_as : (found key name : Text) (listed aliases : List (Text × Text)) → found ≡ own_name listed key → listed ≡ aliases → key ≡ name → found ≡ own_name aliases name
own_as found key name listed aliases h same is = h ∙ (ap (λ others. own_name others key) same ∙ ap (own_name aliases) is)

-- ---- places of names

pub place_as : (found : ℕ) (t : Text) (listed names : Names) → found ≡ place_of 0 listed t → listed ≡ names → found ≡ place_of 0 names t
place_as found t listed names h same = h ∙ ap (λ ns. place_of 0 ns t) same

ends : (i : ℕ) → i ≡ i + 0
ends i = omega arith

goes_on : (i n p : ℕ) → p ≡ suc i + n → p ≡ i + suc n
goes_on i n p h = omega (arith, h)

here_among : (i n : ℕ) → i < i + suc n
here_among i n = omega arith

later_among : (i n p : ℕ) → p < suc i + n → p < i + suc n
later_among i n p h = omega (arith, h)

place_past : (i : ℕ) (ns : Names) (t : Text) → is_named ns t ≡ false → place_of i ns t ≡ i + length ns
place_past i [] t h = ends i
place_past i (n ∷ ns) t h = let p = or_false (bytes_eq t n) (is_named ns t) h in rw p.0 (goes_on i (length ns) (place_of (suc i) ns t) (place_past (suc i) ns t p.1))

place_among : (i : ℕ) (ns : Names) (t : Text) → is_named ns t ≡ true → place_of i ns t < i + length ns
place_among i [] t h = absurd (true≢false (sym h))
place_among i (n ∷ ns) t h =
    elim (bytes_eq t n) as (λ b. (b || is_named ns t) ≡ true → (if b then i else place_of (suc i) ns t) < i + suc (length ns)) [
      | true ↦ λ _. here_among i (length ns)
      | false ↦ λ k. later_among i (length ns) (place_of (suc i) ns t) (place_among (suc i) ns t k)
    ] h

not_past : (n p : ℕ) → p ≡ 0 + n → p < n → ⊥
not_past n p h k = omega (arith, h, k)

not_among : (n p : ℕ) → p < 0 + n → n ≤ p → ⊥
not_among n p h k = omega (arith, h, k)

-- a name has a place before the end exactly where it is one of the names
pub named_before : (ns : Names) (t : Text) → place_of 0 ns t < length ns → is_named ns t ≡ true
named_before ns t h = elim (cases_Bool (is_named ns t)) [ inl p ↦ p | inr p ↦ absurd (not_past (length ns) (place_of 0 ns t) (place_past 0 ns t p) h) ]

pub none_named : (ns : Names) (t : Text) → length ns ≤ place_of 0 ns t → is_named ns t ≡ false
none_named ns t h = elim (cases_Bool (is_named ns t)) [ inl p ↦ absurd (not_among (length ns) (place_of 0 ns t) (place_among 0 ns t p) h) | inr p ↦ p ]
