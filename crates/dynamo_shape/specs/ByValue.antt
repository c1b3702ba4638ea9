-- When two values are the same by value: part by part, maps at each key, and sets where their members are the same.
use Rattle.std.specs.Prelude.{◌≡◌, Bool, List, [], ◌∷◌, Option, Some, None, ⊤}

abbrev pub SameEach : {A : Type 0} → (A → A → Type 0) → List A → List A → Type 0
SameEach same [] [] = ⊤
SameEach same (x ∷ xs) (y ∷ ys) = same x y × SameEach same xs ys
SameEach same _ _ = ⊥

abbrev pub SameOption : {A : Type 0} → (A → A → Type 0) → Option A → Option A → Type 0
SameOption same None None = ⊤
SameOption same (Some x) (Some y) = same x y
SameOption same _ _ = ⊥

-- the same at each key
abbrev pub SameMap : {K V M : Type 0} → (M → K → Option V) → (V → V → Type 0) → M → M → Type 0
SameMap {K} get same m n = (k : K) → SameOption same (get m k) (get n k)

-- the same members, in whatever order: each set has what the other has
abbrev pub SameSet : {K M : Type 0} → (M → K → Bool) → M → M → Type 0
SameSet {K} has m n = (k : K) → has m k ≡ has n k
