-- What a visitor answers to what it is shown.
use Rattle.std.specs.Prelude.{◌≡◌, ◌⊎◌, ℕ, ℤ, Bool, true, false, List, [], ◌∷◌, Result, Ok, Err}
use Rattle.std.specs.Char.{encode_utf8}
use Rattle.dynamo_value.specs.Fault.{Fault, expected_char}
use Rattle.dynamo_value.specs.Integer as integers
use Rattle.dynamo_value.specs.Integer.{i8, i16, i32, i64, i128, u8, u16, u32, u64, u128}
use Rattle.dynamo_value.specs.Refusal as refusal
use Rattle.dynamo_de.specs.Meets.{Fails, IsMessage, Meets}
use Rattle.dynamo_de.specs.Shown.{Shown, shown}
use Rattle.dynamo_de.specs.Showing as showing
use Rattle.dynamo_de.specs.Showing.{Showing}
use Rattle.dynamo_de.specs.Source.{Source}
use Rattle.dynamo_value.specs.declared.integer.IntegerKind.{IntegerKind}
use Rattle.dynamo_value.specs.declared.integer.IntegerKind.TheVariants as types
use Rattle.dynamo_de.specs.declared.kind.Kind.{Kind}
use Rattle.dynamo_de.specs.declared.kind.Kind.TheVariants as kind
use Rattle.dynamo_de.specs.declared.request.Request.{Request}

-- P where b, else Q
abbrev pub Where : Bool → Type 0 → Type 0 → Type 0
Where true P Q = P
Where false P Q = Q

-- a message where the kind isn't claimed
abbrev pub Refuses : {V : Type 0} → Bool → Result V Fault → Type 0
Refuses claimed r = Where claimed ⊥ (IsMessage r)

-- A kind that a visitor may claim, and what it is shown where it does.
abbrev pub Way : Type 0
Way = Kind × Showing

abbrev pub way : IntegerKind → Showing → Way
way k s = (kind.Integer k, s)

-- A narrow integer is shown as one of 64 bits to a visitor that doesn't claim its kind.
abbrev pub integer_ways : integers.IntegerKind → ℤ → List Way
integer_ways i8 z = way types.I8 (showing.integer i8 z) ∷ way types.I64 (showing.integer i64 z) ∷ []
integer_ways i16 z = way types.I16 (showing.integer i16 z) ∷ way types.I64 (showing.integer i64 z) ∷ []
integer_ways i32 z = way types.I32 (showing.integer i32 z) ∷ way types.I64 (showing.integer i64 z) ∷ []
integer_ways i64 z = way types.I64 (showing.integer i64 z) ∷ []
integer_ways i128 z = way types.I128 (showing.integer i128 z) ∷ []
integer_ways u8 z = way types.U8 (showing.integer u8 z) ∷ way types.U64 (showing.integer u64 z) ∷ []
integer_ways u16 z = way types.U16 (showing.integer u16 z) ∷ way types.U64 (showing.integer u64 z) ∷ []
integer_ways u32 z = way types.U32 (showing.integer u32 z) ∷ way types.U64 (showing.integer u64 z) ∷ []
integer_ways u64 z = way types.U64 (showing.integer u64 z) ∷ []
integer_ways u128 z = way types.U128 (showing.integer u128 z) ∷ []

-- A character is shown as its text to a visitor that doesn't claim characters.
abbrev pub char_ways : ℕ → List Way
char_ways c = (kind.Char, showing.char c) ∷ (kind.Str, showing.text (encode_utf8 c)) ∷ []

-- the ways to show a showing, the first that a visitor claims before the others
abbrev pub ways : Showing → List Way
ways (showing.boolean b) = (kind.Bool, showing.boolean b) ∷ []
ways (showing.integer k z) = integer_ways k z
ways (showing.number_text t) = (kind.NumberText, showing.number_text t) ∷ []
ways (showing.char c) = char_ways c
ways (showing.first_char c) = char_ways c
ways (showing.text t) = (kind.Str, showing.text t) ∷ []
ways (showing.bytes bytes) = (kind.Bytes, showing.bytes bytes) ∷ []
ways showing.none = (kind.None, showing.none) ∷ []
ways showing.unit = (kind.Unit, showing.unit) ∷ []
ways (showing.some s) = (kind.Some, showing.some s) ∷ []
ways (showing.newtype s) = (kind.NewtypeStruct, showing.newtype s) ∷ []
ways (showing.sequence ss) = (kind.Seq, showing.sequence ss) ∷ []
ways (showing.entries es) = (kind.Map, showing.entries es) ∷ []
ways (showing.variant v) = (kind.Enum, showing.variant v) ∷ []

-- A visitor answers by its relation to what it claims. Where it claims nothing it refuses by a message.
abbrev pub Claims : {V : Type 0} → (Kind → Bool) → (Showing → Result V Fault → Type 0) → List Way → Result V Fault → Type 0
Claims claimed takes [] r = IsMessage r
Claims claimed takes (w ∷ ws) r = Where (claimed w.0) (takes w.1 r) (Claims claimed takes ws r)

-- the fault on the first of several characters, else `ExpectedChar`
abbrev pub TakesFirst : {V : Type 0} → (Result V Fault → Type 0) → Result V Fault → Type 0
TakesFirst first (Ok v) = ⊥
TakesFirst {V} first (Err f) = first (Err f) ⊎ (((v : V) × first (Ok v)) × (f ≡ expected_char))

abbrev pub Takes : {V : Type 0} → (Kind → Bool) → (Showing → Result V Fault → Type 0) → Showing → Result V Fault → Type 0
Takes claimed takes (showing.first_char c) r = TakesFirst (Claims claimed takes (char_ways c)) r
Takes claimed takes s r = Claims claimed takes (ways s) r

-- a visitor's answer to what is shown, or the fault that comes in its place
abbrev pub Visited : {V : Type 0} → (Showing → Result V Fault → Type 0) → Shown → Result V Fault → Type 0
Visited takes (Ok s) r = takes s r
Visited takes (Err f) r = Fails (refusal.fault f) r

-- a visit with a showing
abbrev pub Visits : {V E : Type 0} → (E → Fault) → (Kind → Bool) → (Showing → Result V Fault → Type 0) → Showing → Result V E → Type 0
Visits fault claimed takes s r = Meets fault (Takes claimed takes s) r

-- a request of a source, with a visitor
abbrev pub Asks : {V E : Type 0} → (E → Fault) → (Kind → Bool) → (Showing → Result V Fault → Type 0) → Request → Source → Result V E → Type 0
Asks fault claimed takes request s r = Meets fault (Visited (Takes claimed takes) (shown request s)) r
