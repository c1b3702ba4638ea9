-- What the accesses answer, and what they leave.
use Rattle.std.specs.Prelude.{◌≡◌, ◌⊎◌, ℕ, Bool, true, false, length, List, [], ◌∷◌, Option, Some, None, Result, Ok, Err}
use Rattle.dynamo_value.specs.Fault.{Fault, out_of_memory, map_value_before_key}
use Rattle.dynamo_de.specs.Meets.{Meets, IsMessage}
use Rattle.dynamo_de.specs.Source.{Source, Entry, attribute, key_text, plain_text}

-- an answer to an element that was there
abbrev pub Element : {V E : Type 0} → (E → Fault) → (Result V Fault → Type 0) → Result (Option V) E → Type 0
Element fault permits (Ok None) = ⊥
Element fault permits (Ok (Some v)) = permits (Ok v)
Element fault permits (Err e) = (fault e ≡ out_of_memory) ⊎ permits (Err (fault e))

-- The next of the sources that were left is taken and then read, so that a failing one is gone. At the end there is none.
abbrev pub NextElement : {V E : Type 0} → (E → Fault) → (Source → Result V Fault → Type 0) → List Source → List Source → Result (Option V) E → Type 0
NextElement fault reads [] new r = (new ≡ []) × (r ≡ Ok None)
NextElement fault reads (s ∷ ss) new r = (new ≡ ss) × Element fault (reads s) r

-- The next element where one is required: where none is left, a message.
abbrev pub RequiredElement : {V E : Type 0} → (E → Fault) → (Source → Result V Fault → Type 0) → List Source → List Source → Result V E → Type 0
RequiredElement fault reads [] new r = Meets fault IsMessage r
RequiredElement fault reads (s ∷ ss) new r = (new ≡ ss) × Meets fault (reads s) r

-- What a map access has left: the entries that aren't read yet, and the source of a value whose key was read.
pub record MapLeft : Type 0 where
  pub entries : List Entry
  pub pending : Option Source

-- The next key is read. Its value is then pending, also where the key fails, in the place of one that was pending before.
-- Where no entry is left, a pending value stays.
abbrev pub KeyOf : {V E : Type 0} → (E → Fault) → (Source → Result V Fault → Type 0) → List Entry → MapLeft → MapLeft → Result (Option V) E → Type 0
KeyOf fault reads [] old new r = (new.entries ≡ []) × (new.pending ≡ old.pending) × (r ≡ Ok None)
KeyOf fault reads (e ∷ es) old new r = (new.entries ≡ es) × (new.pending ≡ Some (attribute e.1)) × Element fault (reads (key_text e.0)) r

abbrev pub NextKey : {V E : Type 0} → (E → Fault) → (Source → Result V Fault → Type 0) → MapLeft → MapLeft → Result (Option V) E → Type 0
NextKey fault reads old new r = KeyOf fault reads old.entries old new r

-- Refused by this very fault, and never by out of memory in its place.
abbrev pub RefusedBy : {V E : Type 0} → (E → Fault) → Fault → Result V E → Type 0
RefusedBy fault f (Ok v) = ⊥
RefusedBy fault f (Err e) = fault e ≡ f

-- The pending value is taken and then read, so that a failing one is gone. With none pending nothing changes.
abbrev pub ValueOf : {V E : Type 0} → (E → Fault) → (Source → Result V Fault → Type 0) → Option Source → MapLeft → MapLeft → Result V E → Type 0
ValueOf fault reads None old new r = (new.entries ≡ old.entries) × (new.pending ≡ None) × RefusedBy fault map_value_before_key r
ValueOf fault reads (Some s) old new r = (new.entries ≡ old.entries) × (new.pending ≡ None) × Meets fault (reads s) r

abbrev pub NextValue : {V E : Type 0} → (E → Fault) → (Source → Result V Fault → Type 0) → MapLeft → MapLeft → Result V E → Type 0
NextValue fault reads old new r = ValueOf fault reads old.pending old new r

-- a key, and then its value
abbrev pub ReadsPair : {K V : Type 0} → (Source → Result K Fault → Type 0) → (Source → Result V Fault → Type 0) → Entry → Result (K × V) Fault → Type 0
ReadsPair keys values e (Ok p) = keys (key_text e.0) (Ok p.0) × values (attribute e.1) (Ok p.1)
ReadsPair {K} keys values e (Err f) = keys (key_text e.0) (Err f) ⊎ ((k : K) × keys (key_text e.0) (Ok k) × values (attribute e.1) (Err f))

-- the key fails, and its value is pending
abbrev pub KeyFails : {K E : Type 0} → (E → Fault) → (Source → Result K Fault → Type 0) → Entry → Option Source → E → Type 0
KeyFails fault keys e waits x = (waits ≡ Some (attribute e.1)) × Meets fault (keys (key_text e.0)) (Err x)

-- a key is read and its value fails, and none is pending
abbrev pub ValueFails : {K V E : Type 0} → (E → Fault) → (Source → Result K Fault → Type 0) → (Source → Result V Fault → Type 0) → Entry → Option Source → E → Type 0
ValueFails {K} fault keys values e waits x = (waits ≡ None) × ((k : K) × keys (key_text e.0) (Ok k) × Meets fault (values (attribute e.1)) (Err x))

-- The next key with its value. Where an entry is left, both are read, and none is pending; or its key fails, or its value does.
-- Where none is left, a pending value stays.
abbrev pub EntryOf : {K V E : Type 0} → (E → Fault) → (Source → Result K Fault → Type 0) → (Source → Result V Fault → Type 0) → List Entry → MapLeft → MapLeft → Result (Option (K × V)) E → Type 0
EntryOf fault keys values [] old new r = (new.entries ≡ []) × (new.pending ≡ old.pending) × (r ≡ Ok None)
EntryOf fault keys values (e ∷ es) old new (Ok None) = ⊥
EntryOf fault keys values (e ∷ es) old new (Ok (Some p)) = (new.entries ≡ es) × (new.pending ≡ None) × ReadsPair keys values e (Ok p)
EntryOf fault keys values (e ∷ es) old new (Err x) = (new.entries ≡ es) × (KeyFails fault keys e new.pending x ⊎ ValueFails fault keys values e new.pending x)

abbrev pub NextEntry : {K V E : Type 0} → (E → Fault) → (Source → Result K Fault → Type 0) → (Source → Result V Fault → Type 0) → MapLeft → MapLeft → Result (Option (K × V)) E → Type 0
NextEntry fault keys values old new r = EntryOf fault keys values old.entries old new r

-- The name is read, and the content is left; or the fault that asking for the variant meets.
abbrev pub ReadsVariant : {T C E : Type 0} → (E → Fault) → (Source → Result T Fault → Type 0) → (C → Option Source) → Result (List ℕ × Option Source) Fault → Result (T × C) E → Type 0
ReadsVariant fault reads content (Ok p) (Ok r) = reads (plain_text p.0) (Ok r.0) × (content r.1 ≡ p.1)
ReadsVariant fault reads content (Ok p) (Err e) = (fault e ≡ out_of_memory) ⊎ reads (plain_text p.0) (Err (fault e))
ReadsVariant fault reads content (Err f) (Ok r) = ⊥
ReadsVariant fault reads content (Err f) (Err e) = (fault e ≡ out_of_memory) ⊎ (fault e ≡ f)

-- what the content is read as; a message where a variant has none
abbrev pub OfContent : {T : Type 0} → (Source → Result T Fault → Type 0) → Option Source → Result T Fault → Type 0
OfContent reads None r = IsMessage r
OfContent reads (Some s) r = reads s r

-- a hint is the number of what is left, or none is given
abbrev pub Hints : {X : Type 0} → List X → Option ℕ → Type 0
Hints left None = Unit {0}
Hints left (Some n) = n ≡ length left

-- the number of what is left where it is counted, and else none
abbrev pub hint_of : {X : Type 0} → Bool → List X → Option ℕ
hint_of true left = Some (length left)
hint_of false left = None
