-- What the words after the program's name ask for.
use Rattle.std.specs.Prelude.{ℕ, List, [], ◌∷◌, Option, Some, None, option_map, codes, bytes_eq}
use Rattle.std.specs.Prelude.{if◌then◌else◌}
use Rattle.tool_commands.specs.Age.{age_of}
use Rattle.tool_commands.specs.declared.commands.Command as declared

pub data Command : Type 0 where
  user : List ℕ → List ℕ → ℕ → Command
  check dynamo plain : Command

-- `user ID NAME AGE`, where AGE is an age, with the id, the name and the age; or `check`, `dynamo`,
-- `plain`
abbrev pub command_of : List (List ℕ) → Option Command
command_of (word ∷ []) =
    if bytes_eq word (codes "check") then Some check else
    if bytes_eq word (codes "dynamo") then Some dynamo else
    if bytes_eq word (codes "plain") then Some plain else None
command_of (word ∷ id ∷ name ∷ age ∷ []) = if bytes_eq word (codes "user") then option_map
    (user id name) (age_of age) else None
command_of _ = None

-- as contracts see the program's own type
abbrev pub asked : declared.Command → Command
asked (declared.Command.User id name age) = user id.now name.now age
asked declared.Command.Check = check
asked declared.Command.Dynamo = dynamo
asked declared.Command.Plain = plain
