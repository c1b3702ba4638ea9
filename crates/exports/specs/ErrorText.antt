-- The printed text of why a line gives no item.
use Rattle.std.specs.Prelude.{ℕ, List, ◌++◌, Option, Some, None, codes, cond, ltb}
use Rattle.std.specs.Fmt.{decimal}
use Rattle.std.specs.Option.{option_map}
use Rattle.dynamo_place.specs.PlaceText.{located_text}
use Rattle.dynamo_value.specs.KindText.{kind_text}
use Rattle.exports.specs.declared.fault.Fault.{Fault}
use Rattle.exports.specs.declared.fault.Position.{Position}

-- the column, after the line unless it is the first
abbrev pub position_text : Position → List ℕ
position_text position =
    let column = codes "column " ++ decimal position.column in
    cond (ltb 1 position.line) (codes "line " ++ (decimal position.line ++ (codes ", " ++ column))) column

-- what the reader says of its own fault isn't promised
abbrev pub fault_text : Fault → Option (List ℕ)
fault_text (Fault.Read error) = None
fault_text (Fault.TooLong limit) = Some
    (codes "it is longer than " ++ (decimal limit ++ codes " bytes"))
fault_text (Fault.NotJson position) = Some
    (codes "it is not JSON (" ++ (position_text position ++ codes ")"))
fault_text Fault.NoItem = Some (codes "it has no Item")
fault_text (Fault.Form located) = located_text kind_text located

-- a text after the number of its line
abbrev pub at_line : ℕ → List ℕ → List ℕ
at_line number text = codes "line " ++ (decimal number ++ (codes ": " ++ text))

abbrev pub line_text : ℕ → Option (List ℕ) → Option (List ℕ)
line_text number text = option_map (at_line number) text
