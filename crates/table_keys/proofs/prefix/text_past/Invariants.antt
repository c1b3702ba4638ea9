use Rattle.std.proofs.Common.{◌≡◌, ℕ, List, ◌++◌, string_bytes, string_len}
use Rattle.std.specs.List.{All}
use lib.Utf8.{encodes}
use Rattle.table_keys.proofs.prefix.text_past.Given as goal

-- what was taken off the end are the greatest characters
abbrev pub invariant-loop-last : goal.invariant-loop-last
invariant-loop-last l = (greatest : List ℕ) × All (λ c. c ≡ 1114111) greatest
    × (string_bytes l.fn.prefix ≡ string_bytes l.text ++ encodes greatest)

abbrev pub decreases-loop-last : goal.decreases-loop-last
decreases-loop-last l = string_len l.text
