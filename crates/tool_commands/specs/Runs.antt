-- What the program does.
use Rattle.std.specs.Prelude.{◌≡◌, ℕ, List, Option, Some, None, Result, MatchResult}
use Rattle.std.specs.declared.io.Error.{Error}
use Rattle.tool_commands.specs.Checked.{ChecksJson}
use Rattle.tool_commands.specs.Converted.{ToDynamo, ToPlain}
use Rattle.tool_commands.specs.Failed.{Failed, no_memory}
use Rattle.tool_commands.specs.JsonText.{OfJson}
use Rattle.tool_commands.specs.Lines.{usage_line, user_lines}
use Rattle.tool_commands.specs.Printed.{Prints, Tells}
use Rattle.tool_commands.specs.Reading.{Reads, calls}
use Rattle.tool_commands.specs.Words.{Command, user, check, dynamo, plain}

-- what `user` returns: the lines of the user's item, or out of memory
abbrev pub AnswersUser : List ℕ → List ℕ → ℕ → Result (List ℕ) Failed → Type 0
AnswersUser id name age answer = MatchResult answer (λ text. text ≡ user_lines id name age)
    (λ failed. failed ≡ no_memory)

-- What is printed, and the status that belongs to it, where reading the input to its end gives
-- `input`. Words that are no command print the usage.
abbrev pub Ends : Option Command → Result (List ℕ) Failed → List ℕ → ℕ → Type 0
Ends None input text status = (text ≡ usage_line) × (status ≡ 2)
Ends (Some (user id name age)) input text status = (answer : Result (List ℕ) Failed)
    × AnswersUser id name age answer × Tells answer text status
Ends (Some check) input text status = (answer : Result (List ℕ) Failed)
    × OfJson ChecksJson input answer × Tells answer text status
Ends (Some dynamo) input text status = (answer : Result (List ℕ) Failed)
    × OfJson ToDynamo input answer × Tells answer text status
Ends (Some plain) input text status = (answer : Result (List ℕ) Failed)
    × OfJson ToPlain input answer × Tells answer text status

-- The commands that have an input read it to its end; else the reader is as before.
abbrev pub ReadsFor : {R : Type 0} → Option Command → (R → ℕ → Result (List ℕ) Error → R → Type 0)
    → R → Result (List ℕ) Failed → R → Type 0
ReadsFor None gives reader input end = end ≡ reader
ReadsFor (Some (user id name age)) gives reader input end = end ≡ reader
ReadsFor (Some check) gives reader input end = Reads gives calls reader input end
ReadsFor (Some dynamo) gives reader input end = Reads gives calls reader input end
ReadsFor (Some plain) gives reader input end = Reads gives calls reader input end

-- The whole run: what is read, what belongs to it, and one write of exactly that.
abbrev pub Runs : {R W : Type 0} → (R → ℕ → Result (List ℕ) Error → R → Type 0)
    → (W → List ℕ → Result (Unit {0}) Error → W → Type 0)
    → Option Command → R → R → W → W → ℕ → Type 0
Runs reads writes command reader end old new result = (input : Result (List ℕ) Failed)
    × ReadsFor command reads reader input end
    × (text : List ℕ) × (status : ℕ) × Ends command input text status
    × Prints writes old new text status result
