-- What a reader shows, as contracts see it.
use Rattle.std.specs.Prelude.{◌≡◌, ◌⊎◌, ℕ, List, [], ◌∷◌, Option, Some, None, Result, Ok, Err, string_bytes}
use Rattle.dynamo_value.specs.Fault.{Fault, out_of_memory}
use Rattle.dynamo_de.specs.Shown.{Shown}
use Rattle.dynamo_de.specs.Showing as showing
use Rattle.dynamo_de.specs.Showing.{Showing, integer_showing}
use Rattle.dynamo_de.specs.Source.{Source, Entry, attribute, key_text, plain_text}
use Rattle.dynamo_de.specs.declared.showing.Showing.{Showing as ShowingOf}
use Rattle.dynamo_de.specs.declared.showing.Showing.TheVariants as showing_of

-- by what the reader tells of the readers inside, of elements, entries and variants
abbrev pub seen : {D L M C : Type 0} → (D → Source) → (L → List Source) → (M → List Entry) → (C → Result (List ℕ × Option Source) Fault) → ShowingOf D L M C → Showing
seen source elements entries variants (showing_of.Bool b) = showing.boolean b
seen source elements entries variants (showing_of.Integer n) = integer_showing n
seen source elements entries variants (showing_of.NumberText t) = showing.number_text (string_bytes t)
seen source elements entries variants (showing_of.Char c) = showing.char c
seen source elements entries variants (showing_of.FirstChar c) = showing.first_char c
seen source elements entries variants (showing_of.Text t) = showing.text (string_bytes t)
seen source elements entries variants (showing_of.Bytes v) = showing.bytes v.items
seen source elements entries variants showing_of.None = showing.none
seen source elements entries variants showing_of.Unit = showing.unit
seen source elements entries variants (showing_of.Some d) = showing.some (source d)
seen source elements entries variants (showing_of.Newtype d) = showing.newtype (source d)
seen source elements entries variants (showing_of.Sequence l) = showing.sequence (elements l)
seen source elements entries variants (showing_of.Map m) = showing.entries (entries m)
seen source elements entries variants (showing_of.Enum c) = showing.variant (variants c)

-- it shows exactly this, or refuses by exactly this fault
abbrev pub Shows : {D L M C E : Type 0} → (E → Fault) → (D → Source) → (L → List Source) → (M → List Entry) → (C → Result (List ℕ × Option Source) Fault) → Shown → Result (ShowingOf D L M C) E → Type 0
Shows fault source elements entries variants shown (Ok s) = shown ≡ Ok (seen source elements entries variants s)
Shows fault source elements entries variants shown (Err e) = (fault e ≡ out_of_memory) ⊎ (shown ≡ Err (fault e))

-- The surface of a showing: what lies inside may be anything.
abbrev pub IsSurface : {D L M C : Type 0} → ShowingOf D L M C → Showing → Type 0
IsSurface (showing_of.Some _) s = (inside : Source) × (s ≡ showing.some inside)
IsSurface (showing_of.Newtype _) s = (inside : Source) × (s ≡ showing.newtype inside)
IsSurface (showing_of.Sequence _) s = (inside : List Source) × (s ≡ showing.sequence inside)
IsSurface (showing_of.Map _) s = (inside : List Entry) × (s ≡ showing.entries inside)
IsSurface (showing_of.Enum _) s = (inside : Result (List ℕ × Option Source) Fault) × (s ≡ showing.variant inside)
IsSurface scalar s = s ≡ seen (λ _. plain_text []) (λ _. []) (λ _. []) (λ _. Err out_of_memory) scalar

-- it shows exactly what has this surface, or refuses by exactly this fault
abbrev pub ShowsSurface : {D L M C E : Type 0} → (E → Fault) → Shown → Result (ShowingOf D L M C) E → Type 0
ShowsSurface fault shown (Ok s) = (whole : Showing) × (shown ≡ Ok whole) × IsSurface s whole
ShowsSurface fault shown (Err e) = (fault e ≡ out_of_memory) ⊎ (shown ≡ Err (fault e))

-- the reader of the next source, which is gone
abbrev pub TakesElement : {D : Type 0} → (D → Source) → List Source → List Source → Option D → Type 0
TakesElement source [] new r = (new ≡ []) × (r ≡ None)
TakesElement source (s ∷ ss) new None = ⊥
TakesElement source (s ∷ ss) new (Some d) = (new ≡ ss) × (source d ≡ s)

-- the readers of the next entry's key and value
abbrev pub TakesEntry : {D : Type 0} → (D → Source) → List Entry → List Entry → Option (D × D) → Type 0
TakesEntry source [] new r = (new ≡ []) × (r ≡ None)
TakesEntry source (e ∷ es) new None = ⊥
TakesEntry source (e ∷ es) new (Some d) = (new ≡ es) × (source d.0 ≡ key_text e.0) × (source d.1 ≡ attribute e.1)

-- the content that a reader has
abbrev pub content_of : {D : Type 0} → (D → Source) → Option D → Option Source
content_of source None = None
content_of source (Some d) = Some (source d)

-- the readers of a variant's name and of its content
abbrev pub Names : {D E : Type 0} → (E → Fault) → (D → Source) → Result (List ℕ × Option Source) Fault → Result (D × Option D) E → Type 0
Names fault source (Ok p) (Ok r) = (source r.0 ≡ plain_text p.0) × (content_of source r.1 ≡ p.1)
Names fault source (Ok p) (Err e) = fault e ≡ out_of_memory
Names fault source (Err f) (Ok r) = ⊥
Names fault source (Err f) (Err e) = (fault e ≡ out_of_memory) ⊎ (fault e ≡ f)

-- a reader of the source
abbrev pub IsReaderOf : {D : Type 0} → (D → Source) → Source → Result D Fault → Type 0
IsReaderOf source s (Ok d) = source d ≡ s
IsReaderOf source s (Err f) = ⊥
