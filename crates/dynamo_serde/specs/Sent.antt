-- The attribute value that serde's events stand for, told by a machine that takes them one by one.
--
-- A value that is sent is put into what is open: it is the whole, the next element of a list, or a
-- map's value at the key that waits. A list or a map that ends is put into what is open round it.
-- Between `key_begins` and `key_ends` a scalar is no value but a key, by its text. After `flattens`
-- a map's members go into the map that is open. A map whose first key is a symbol is no map: what
-- is under it becomes a set, a number or a NULL.
use Rattle.std.specs.Prelude.{◌≡◌, ◌⊎◌, ℕ, zero, ◌+◌, List, [], ◌∷◌, ◌++◌, Bool, true, false}
use Rattle.std.specs.Prelude.{Option, Some, None, IfSome, decimal, encode_utf8}
use Rattle.std.specs.Float.{Float, Format, binary32, binary64}
use Rattle.std.specs.Fmt.{signed_decimal}
use Rattle.std.specs.FinMap.Entries.{put}
use Rattle.ryu.specs.Parse.{parse_float}
use Rattle.ryu.specs.Plain.{IsPlainNumber}
use Rattle.serde.specs.Event.{Event, Log, boolean, signed, unsigned, single, double, character}
use Rattle.serde.specs.Event.{text, octets, nothing, unit_variant, seq_begins, seq_ends, map_begins}
use Rattle.serde.specs.Event.{map_ends, field_key, variant_key, key_begins, key_ends, flattens}
use Rattle.serde.specs.Spelling.{spelled}
use Rattle.serde.specs.declared.name.NameKind.TheVariants.{Field, Variant}
use Rattle.dynamo_value.specs.Av as av
use Rattle.dynamo_value.specs.Av.{Av, elements_of, members_of}
use Rattle.dynamo_value.specs.View.{text_cmp}
use Rattle.dynamo_ser.specs.Key.{bool_text}
use Rattle.dynamo_serde.specs.Symbol.{Symbol, named, converted}

-- What is open: the whole; a list with its elements; a map with its members in the order of their
-- keys, the key that waits, and how many more maps are open whose members go into it; what is
-- under a symbol.
pub data Frame : Type 0 where
  whole : Option Av → Frame
  list : List Av → Frame
  table : List (List ℕ × Av) → Option (List ℕ) → ℕ → Frame
  marked : Symbol → Option Av → Frame

pub record State : Type 0 where
  pub below : List Frame
  pub top : Frame
  pub at_key : Bool
  pub flattens : Bool

abbrev pub start : State
start = record { below = []; top = whole None; at_key = false; flattens = false }

abbrev pub filled : Symbol → Option Av → Option Frame
filled symbol (Some a) = Some (marked symbol (Some a))
filled symbol None = None

-- a value is put in; of equal keys the last value stays
abbrev pub put_in : Frame → Av → Option Frame
put_in (whole a) b = Some (whole (Some b))
put_in (list as') b = Some (list (as' ++ b ∷ []))
put_in (table es (Some key) shared) b = Some (table (put text_cmp key b es) None shared)
put_in (table es None shared) b = None
put_in (marked symbol a) b = filled symbol (converted symbol b)

abbrev pub key_in : Frame → List ℕ → Option Frame
key_in (table es key shared) new_key = Some (table es (Some new_key) shared)
key_in _ new_key = None

-- a map that has no member yet becomes what its symbol says
abbrev pub symbol_in : Frame → Symbol → Option Frame
symbol_in (table [] key zero) symbol = Some (marked symbol None)
symbol_in _ symbol = None

abbrev pub variant_in : Frame → Option Symbol → List ℕ → Option Frame
variant_in f None new_key = key_in f new_key
variant_in f (Some symbol) new_key = symbol_in f symbol

abbrev pub share_in : Frame → Option Frame
share_in (table es key shared) = Some (table es key (shared + 1))
share_in _ = None

-- what a map makes when it ends, or what is under a symbol
abbrev pub made : Frame → Option Av
made (table es key zero) = Some (av.M (members_of es))
made (marked symbol a) = a
made _ = None

-- only the innermost changes
abbrev pub Turns : (Frame → Option Frame) → State → State → Type 0
Turns f old new = (inner : Frame) × (f old.top ≡ Some inner) × (new ≡ record old { top = inner })

abbrev pub Puts : State → Av → State → Type 0
Puts old a new = Turns (λ f. put_in f a) old new

abbrev pub Keys : State → List ℕ → State → Type 0
Keys old key new = Turns (λ f. key_in f key) old new

-- a scalar is a key or a value, and cannot be flattened
abbrev pub Adds : State → List ℕ → Av → State → Type 0
Adds old key a new = (old.flattens ≡ false)
    × (((old.at_key ≡ true) × Keys old key new) ⊎ ((old.at_key ≡ false) × Puts old a new))

-- what is no scalar is no key; only maps and units can be flattened
abbrev pub IsValue : State → Type 0
IsValue s = (s.at_key ≡ false) × (s.flattens ≡ false)

-- a float is written as some text that reads as it, the shortest one that ryu finds
abbrev pub AddsFloat : Format → State → Float → State → Type 0
AddsFloat format old x new = IsValue old × (s : List ℕ) × IsPlainNumber s
    × (parse_float format s ≡ Some x) × Puts old (av.N s) new

abbrev pub Opens : State → Frame → State → Type 0
Opens old inner new = new ≡ record old { below = old.below ++ old.top ∷ []; top = inner }

-- the innermost is closed, and a is in its place
abbrev pub Closes : State → Av → State → Type 0
Closes old a new = (rest : List Frame) × (outer inner : Frame) × (old.below ≡ rest ++ outer ∷ [])
    × (put_in outer a ≡ Some inner)
    × (new ≡ record old { below = rest; top = inner })

-- a map of its own ends, or what is under a symbol
abbrev pub Ends : State → State → Type 0
Ends old new = (a : Av) × (made old.top ≡ Some a) × Closes old a new

abbrev pub Takes : State → Event → State → Type 0
Takes old (boolean b) new = Adds old (bool_text b) (av.Boolean b) new
Takes old (signed z) new = Adds old (signed_decimal z) (av.N (signed_decimal z)) new
Takes old (unsigned n) new = Adds old (decimal n) (av.N (decimal n)) new
Takes old (single x) new = AddsFloat binary32 old x new
Takes old (double x) new = AddsFloat binary64 old x new
Takes old (character c) new = Adds old (encode_utf8 c) (av.S (encode_utf8 c)) new
Takes old (text s) new = Adds old s (av.S s) new
Takes old (octets bs) new = IsValue old × Puts old (av.B bs) new
-- in place of a map to be flattened a unit writes nothing
Takes old nothing new = (old.at_key ≡ false)
    × (((old.flattens ≡ true) × (new ≡ record old { flattens = false }))
    ⊎ ((old.flattens ≡ false) × Puts old (av.Null true) new))
Takes old (unit_variant name case) new = Adds old (spelled case Variant name)
    (av.S (spelled case Variant name)) new
Takes old (seq_begins n) new = IsValue old × Opens old (list []) new
Takes old seq_ends new = (as' : List Av) × (old.top ≡ list as')
    × Closes old (av.L (elements_of as')) new
Takes old (map_begins n) new = (old.at_key ≡ false)
    × (((old.flattens ≡ true) × (f : Frame) × (share_in old.top ≡ Some f)
    × (new ≡ record old { top = f; flattens = false }))
    ⊎ ((old.flattens ≡ false) × Opens old (table [] None 0) new))
Takes old map_ends new = ((f : Frame) × (share_in f ≡ Some old.top)
    × (new ≡ record old { top = f }))
    ⊎ Ends old new
Takes old (field_key name case) new = Keys old (spelled case Field name) new
Takes old (variant_key name case) new = Turns
    (λ f. variant_in f (named name) (spelled case Variant name)) old new
Takes old key_begins new = new ≡ record old { at_key = true }
Takes old key_ends new = new ≡ record old { at_key = false }
Takes old flattens new = new ≡ record old { flattens = true }

abbrev pub TakesAll : State → List Event → State → Type 0
TakesAll old [] new = new ≡ old
TakesAll old (e ∷ es) new = (mid : State) × Takes old e mid × TakesAll mid es new

-- where the events are known, they lead from old to new
abbrev pub Follows : State → Log → State → Type 0
Follows old log new = ∥ IfSome log (λ es. TakesAll old es new) ∥₁

-- where the events are known, they stand for this attribute value
abbrev pub IsValueOf : Log → Av → Type 0
IsValueOf log a = (last : State) × Follows start log last × (last.below ≡ [])
    × (last.top ≡ whole (Some a))
