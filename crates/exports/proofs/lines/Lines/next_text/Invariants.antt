use Rattle.std.proofs.Common.{◌≡◌, ℕ, ◌+◌, ◌-◌, false}
use Rattle.exports.specs.Lines.{PassesBlank}
use Rattle.exports.proofs.lines.Lines.next_text.Given as goal

abbrev pub decreases-loop-self : goal.decreases-loop-self
decreases-loop-self g l = 18446744073709551615 - l.self.number

abbrev pub invariant-loop-self : goal.invariant-loop-self
invariant-loop-self g l =
    (n : ℕ) × (l.self.number ≡ l.fn.self.number + n) × (l.self.is_ended ≡ false)
    × (l.self.limit ≡ l.fn.self.limit)
    × PassesBlank l.fn.self.limit n (g.R.Read.remaining l.fn.self.reader) (g.R.Read.remaining l.self.reader)
