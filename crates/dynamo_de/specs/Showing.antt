-- What a visitor is shown.
use Rattle.std.specs.Prelude.{ℕ, ℤ, Bool, List, Option, Some, Result, Ok, Err}
use Rattle.dynamo_value.specs.Av as av
use Rattle.dynamo_value.specs.Av.{Members}
use Rattle.dynamo_value.specs.Fault.{Fault, expected_single_key}
use Rattle.dynamo_value.specs.Integer.{IntegerKind}
use Rattle.dynamo_value.specs.IntegerTypes.{kind_of, number_of, type_of}
use Rattle.dynamo_value.specs.declared.integer.Integer.{Integer}
use Rattle.dynamo_de.specs.Source.{Source, Entry, attribute}

-- Scalars; the source of an option's or a newtype's content; the sources of a sequence; the entries of a map in ascending
-- order of the bytes of their keys; a variant.
pub data Showing : Type 0 where
  boolean : Bool → Showing
  integer : IntegerKind → ℤ → Showing
  -- a number that neither an i64 nor a u64 holds
  number_text : List ℕ → Showing
  char : ℕ → Showing
  -- the first character of a text that has more
  first_char : ℕ → Showing
  text bytes : List ℕ → Showing
  none unit : Showing
  some newtype : Source → Showing
  sequence : List Source → Showing
  entries : List Entry → Showing
  -- the name of a variant and the source of its content, or the fault that asking for the variant meets
  variant : Result (List ℕ × Option Source) Fault → Showing

-- an integer as it is shown
abbrev pub integer_showing : Integer → Showing
integer_showing z = integer (kind_of (type_of z)) (number_of z)

-- the variant whose name is the one key of a map, and whose content is the value
abbrev pub only_entry : Members → Result (List ℕ × Option Source) Fault
only_entry av.no_members = Err expected_single_key
only_entry (av.member k a av.no_members) = Ok (k, Some (attribute a))
only_entry (av.member k a (av.member _ _ _)) = Err expected_single_key
