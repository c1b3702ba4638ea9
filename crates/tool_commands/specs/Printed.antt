-- What the program prints, and the status that it ends with.
use Rattle.std.specs.Prelude.{◌≡◌, ◌⊎◌, ℕ, List, Result, Ok, Err, is_ok, IfSome, if◌then◌else◌}
use Rattle.tool_commands.specs.Failed.{Failed, reason_text}
use Rattle.tool_commands.specs.Lines.{error_line, no_memory_line}

-- The text is written once, whole, and the status is the one that belongs to it; where the writer
-- fails the status is 1. `gives` says what writing some bytes may answer and leave.
abbrev pub Prints : {W E : Type 0} → (W → List ℕ → Result (Unit {0}) E → W → Type 0) → W → W
    → List ℕ → ℕ → ℕ → Type 0
Prints {W} {E} gives old new text status result = (answer : Result (Unit {0}) E)
    × gives old text answer new
    × (result ≡ (if is_ok answer then status else 1))

-- The text of a command's answer and its status. A failure has status 1, and its line tells the
-- reason, or that there is no memory for that line.
abbrev pub Tells : Result (List ℕ) Failed → List ℕ → ℕ → Type 0
Tells (Ok answer) text status = (text ≡ answer) × (status ≡ 0)
Tells (Err failed) text status = (IfSome (reason_text failed) (λ reason. text ≡ error_line reason)
    ⊎ (text ≡ no_memory_line))
    × (status ≡ 1)
