use Rattle.std.proofs.Common.{◌≡◌, ℕ, List, ◌++◌, vec_len}
use Rattle.std.specs.List.{All}
use Rattle.table_keys.proofs.prefix.bytes_past.Given as goal

-- what was taken off the end are the greatest bytes
abbrev pub invariant-loop-last : goal.invariant-loop-last
invariant-loop-last l = (greatest : List ℕ) × All (λ b. b ≡ 255) greatest × (l.fn.prefix.items ≡ l.bytes.items ++ greatest)

abbrev pub decreases-loop-last : goal.decreases-loop-last
decreases-loop-last l = vec_len l.bytes
