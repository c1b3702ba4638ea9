-- The lines of a reader. A line goes up to its line feed, or to the end. What a reader that doesn't
-- tell its bytes gives isn't known, but its lines are read and counted alike.
use Rattle.std.specs.Prelude.{◌≡◌, ◌≢◌, ◌⊎◌, ◌+◌, ◌++◌, ◌≤◌, ◌<◌, ⊤, ℕ, zero, suc, Bool, true}
use Rattle.std.specs.Prelude.{false}
use Rattle.std.specs.Prelude.{List, [], All, length, Option, Some, None, Result, Ok, Err, IfSome}
use Rattle.std.specs.declared.vec.Vec.{Vec}
use Rattle.std.specs.declared.alloc.Global.{Global}
use Rattle.std.specs.Char.{is_ascii_whitespace}
use Rattle.std.specs.List.{list_all}
use Rattle.std.specs.Io.KnownBytes.{Consumes, IsAtEnd}
use Rattle.std.specs.Io.BufRead.{take_through, strip_last}
use Rattle.dynamo_value.specs.declared.item.Item.{Item}
use Rattle.exports.specs.Items.{ReadsText}
use Rattle.exports.specs.declared.fault.Fault.{Fault}
use Rattle.exports.specs.declared.lines.Line.{Line}
use Rattle.exports.specs.declared.lines.LineFault.{LineFault}
use Rattle.exports.specs.declared.lines.Lines.{Lines}

abbrev pub number_of : {R : Type 0} → Lines R → ℕ
number_of lines = lines.number

abbrev pub reader_of : {R : Type 0} → Lines R → R
reader_of lines = lines.reader

abbrev pub is_ended : {R : Type 0} → Lines R → Bool
is_ended lines = lines.is_ended

-- how many bytes a line may have, if there is a limit
abbrev pub limit_of : {R : Type 0} → Lines R → Option ℕ
limit_of lines = lines.limit

-- nothing but spaces, tabs and line ends
abbrev pub is_blank : List ℕ → Bool
is_blank line = list_all is_ascii_whitespace line

-- the next line is taken, where the bytes are known: up to the first line feed, or to the end
abbrev pub TakesLine : Option (List ℕ) → Option (List ℕ) → List ℕ → Type 0
TakesLine old new line = Consumes old new line × IfSome old (λ xs. line ≡ take_through 10 xs)

-- how many bytes a line has, its line feed aside
abbrev pub line_length : List ℕ → ℕ
line_length line = length (strip_last 10 line)

abbrev pub IsWithin : Option ℕ → List ℕ → Type 0
IsWithin None line = ⊤
IsWithin (Some limit) line = line_length line ≤ limit

abbrev pub IsTooLong : Option ℕ → List ℕ → Type 0
IsTooLong None line = ⊥
IsTooLong (Some limit) line = limit < line_length line

-- a line that is within the limit is given, and no longer one
abbrev pub GivesWithin : Option ℕ → List ℕ → Option (Vec ℕ Global) → Type 0
GivesWithin limit line None = IsTooLong limit line
GivesWithin limit line (Some text) = (text.items ≡ line) × IsWithin limit line

-- a line of at most so many bytes is taken, or a longer one
abbrev pub ReadsWithin : ℕ → Option (List ℕ) → Option (List ℕ) → Option (Vec ℕ Global) → Type 0
ReadsWithin limit old new found =
    (line : List ℕ) × TakesLine old new line × GivesWithin (Some limit) line found

-- the same of the rest of a line that has begun
abbrev pub ReadsRest : ℕ → List ℕ → Option (List ℕ) → Option (List ℕ) → Option (Vec ℕ Global)
    → Type 0
ReadsRest limit begun old new found =
    (rest : List ℕ) × TakesLine old new rest × GivesWithin (Some limit) (begun ++ rest) found

-- bytes without a line feed are taken, and appended
abbrev pub TakesPart : Option (List ℕ) → Option (List ℕ) → List ℕ → List ℕ → Type 0
TakesPart old new before after =
    (bytes : List ℕ) × (after ≡ before ++ bytes) × Consumes old new bytes × All (λ x. x ≢ 10) bytes

-- with the bytes without a line feed that are taken, the line has more than so many
abbrev pub TakesTooMuch : ℕ → Option (List ℕ) → Option (List ℕ) → List ℕ → Type 0
TakesTooMuch limit old new before =
    (bytes : List ℕ) × Consumes old new bytes × All (λ x. x ≢ 10) bytes
    × (limit < length before + length bytes)

-- a line of more than so many bytes is taken
abbrev pub TakesLong : ℕ → Option (List ℕ) → Option (List ℕ) → Type 0
TakesLong limit old new = (line : List ℕ) × TakesLine old new line × (limit < line_length line)

-- so many lines are taken, each of them blank and within the limit, and none of them at the end
abbrev pub PassesBlank : Option ℕ → ℕ → Option (List ℕ) → Option (List ℕ) → Type 0
PassesBlank limit zero old new = new ≡ old
PassesBlank limit (suc n) old new =
    (middle : Option (List ℕ)) × (line : List ℕ) × PassesBlank limit n old middle
    × TakesLine middle new line × IsWithin limit line × (line ≢ []) × (is_blank line ≡ true)

-- a read that failed ends the lines; a line that is too long is passed over
abbrev pub FailsBy : {R : Type 0} → (R → Option (List ℕ)) → Option (List ℕ) → Lines R → Lines R
    → Fault → Type 0
FailsBy left middle old new (Fault.Read error) = is_ended new ≡ true
FailsBy left middle old new (Fault.TooLong limit) =
    (limit_of old ≡ Some limit) × (is_ended new ≡ is_ended old)
    × TakesLong limit middle (left (reader_of new))
FailsBy left middle old new _ = ⊥

-- the blank lines before the next one are passed, of which there are so many
abbrev pub PassesTo : {R : Type 0} → (R → Option (List ℕ)) → Lines R → ℕ → Option (List ℕ) → Type 0
PassesTo left old n middle = PassesBlank (limit_of old) n (left (reader_of old)) middle

-- no line follows
abbrev pub IsLast : {R : Type 0} → Option (List ℕ) → Lines R → Type 0
IsLast middle new = (is_ended new ≡ true × IsAtEnd middle) ⊎ (18446744073709551615 ≤ number_of new)

-- The next line that isn't blank, after some blank ones, and each of them counts. A read that
-- failed counts as a line, and so does a line that is too long. The lines end where the reader
-- does, and with a read that failed.
abbrev pub GivesText : {R : Type 0} → (R → Option (List ℕ)) → Lines R → Lines R
    → Option (Result (Vec ℕ Global) Fault) → Type 0
GivesText left old new None =
    (is_ended old ≡ true × (new ≡ old))
    ⊎ ((n : ℕ) × (middle : Option (List ℕ)) × PassesTo left old n middle
    × (number_of new ≡ number_of old + n) × IsLast middle new)
GivesText left old new (Some (Err fault)) =
    (n : ℕ) × (middle : Option (List ℕ)) × PassesTo left old n middle
    × (number_of new ≡ number_of old + n + 1) × FailsBy left middle old new fault
GivesText left old new (Some (Ok text)) =
    (n : ℕ) × (middle : Option (List ℕ)) × PassesTo left old n middle
    × (number_of new ≡ number_of old + n + 1) × (is_ended new ≡ is_ended old)
    × TakesLine middle (left (reader_of new)) text.items × IsWithin (limit_of old) text.items
    × (is_blank text.items ≡ false)

-- the number and the answer of a line
abbrev pub number_in : Result Line LineFault → ℕ
number_in (Ok line) = line.number
number_in (Err broken) = broken.number

abbrev pub item_in : Result Line LineFault → Result Item Fault
item_in (Ok line) = Ok line.item
item_in (Err broken) = Err broken.fault

-- The next line that isn't blank gives its item or its fault, under its number.
abbrev pub Gives : {R : Type 0} → (R → Option (List ℕ)) → Lines R → Lines R
    → Option (Result Line LineFault) → Type 0
Gives left old new None = GivesText left old new None
Gives left old new (Some r) =
    (text : Result (Vec ℕ Global) Fault) × GivesText left old new (Some text)
    × (number_in r ≡ number_of new) × ReadsText text (item_in r)

-- what is given, without what comes with it
abbrev pub first_in : {A B E : Type 0} → Result (A × B) E → Result A E
first_in (Ok both) = Ok both.0
first_in (Err e) = Err e
