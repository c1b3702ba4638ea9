-- Readers and writers that tell their bytes and never fail.
use Rattle.std.specs.Prelude.{◌≡◌, ◌<◌, ℕ, List, [], ◌++◌, length, Option, Result, Ok}
use Rattle.std.specs.declared.io.Error.{Error}
use Rattle.tool_commands.specs.Reading.{calls}
use Rattle.tool_commands.specs.Runs.{Ends}
use Rattle.tool_commands.specs.Words.{Command}

-- A call with room gives the bytes that come next, and none only at the end; `left` are the bytes
-- that a reader has left.
abbrev pub TellsBytes : {R : Type 0} → (R → ℕ → Result (List ℕ) Error → R → Type 0) → (R → List ℕ)
    → Type 0
TellsBytes {R} gives left = (reader : R) (room : ℕ) (answer : Result (List ℕ) Error) (next : R)
    → gives reader room answer next → 0 < room
    → (bytes : List ℕ) × (answer ≡ Ok bytes) × (left reader ≡ bytes ++ left next)
    × (bytes ≡ [] → left reader ≡ [])

-- all bytes are appended to those that the writer holds
abbrev pub KeepsBytes : {W : Type 0} → (W → List ℕ → Result (Unit {0}) Error → W → Type 0)
    → (W → List ℕ) → Type 0
KeepsBytes {W} gives held = (old : W) (bytes : List ℕ) (answer : Result (Unit {0}) Error) (new : W)
    → gives old bytes answer new
    → (answer ≡ Ok tt) × (held new ≡ held old ++ bytes)

-- Over such a reader, with fewer bytes than calls may be made, and such a writer, exactly the bytes
-- that belong to the command and the input are written, and the status is theirs.
abbrev pub RunsOnKnown : {R W : Type 0} → (R → ℕ → Result (List ℕ) Error → R → Type 0)
    → (W → List ℕ → Result (Unit {0}) Error → W → Type 0)
    → Option Command → R → W → W → ℕ → Type 0
RunsOnKnown {R} {W} reads writes command reader old new result = (left : R → List ℕ)
    (held : W → List ℕ)
    → TellsBytes reads left → KeepsBytes writes held → length (left reader) < calls
    → (text : List ℕ) × (held new ≡ held old ++ text) × Ends command (Ok (left reader)) text result
