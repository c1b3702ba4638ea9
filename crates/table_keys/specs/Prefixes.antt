-- What begins with a prefix, among all lists in their order.
use Rattle.std.specs.Prelude.{◌≡◌, ℕ, ◌<◌, ◌≤◌, Bool, true, ◌&&◌, List, Option, Some, None, MatchOption, nat_eq}
use Rattle.std.specs.Char.{IsScalar}
use Rattle.std.specs.Cmp.Lexicographic.{slice_cmp}
use Rattle.std.specs.List.{starts_with}
use Rattle.std.specs.Ordering.{is_gt, is_le, nat_cmp}

-- the list comes before the end, if there is one
abbrev pub is_before : Option (List ℕ) → List ℕ → Bool
is_before None list = true
is_before (Some end) list = is_gt (slice_cmp nat_cmp end list)

-- Of these lists, those that begin with the prefix go from the prefix up to an end, or to the last.
abbrev pub BeginsUpTo : (List ℕ → Type 0) → List ℕ → Option (List ℕ) → Type 0
BeginsUpTo Is prefix end = (list : List ℕ) → Is list
    → starts_with nat_eq list prefix ≡ (is_le (slice_cmp nat_cmp prefix list) && is_before end list)

-- no character lies between these two, and U+10FFFF, which has no next, is the last
abbrev pub IsNextChar : ℕ → Option ℕ → Type 0
IsNextChar c next = MatchOption next (c ≡ 0x10_FFFF)
    (λ n. IsScalar n × (c < n) × ((other : ℕ) → IsScalar other → c < other → n ≤ other))
