-- What the types with content read, by what the types inside may answer on each source.
use Rattle.std.specs.List.{list_any}
use Rattle.std.specs.Map.{update_all}
use Rattle.std.specs.Prelude.{◌≡◌, ◌⊎◌, Bool, List, [], ◌∷◌, Option, Some, None, Result, Ok, Err}
use Rattle.std.specs.declared.alloc.Global.{Global}
use Rattle.std.specs.declared.vec.Vec.{Vec}
use Rattle.dynamo_value.specs.Fault.{Fault}
use Rattle.dynamo_de.specs.Access.{ReadsPair}
use Rattle.dynamo_de.specs.Meets.{IsMessage}
use Rattle.dynamo_de.specs.Source.{Source, Entry}

-- what is permitted of a part
abbrev pub Through : {A B : Type 0} → (B → A) → (Result A Fault → Type 0) → Result B Fault → Type 0
Through part permits (Ok b) = permits (Ok (part b))
Through part permits (Err f) = permits (Err f)

-- none, or some of what the content is read as
abbrev pub ReadsOption : {T : Type 0} → (Source → Result T Fault → Type 0) → Option Source → Result (Option T) Fault → Type 0
ReadsOption reads None r = r ≡ Ok None
ReadsOption reads (Some s) (Ok None) = ⊥
ReadsOption reads (Some s) (Ok (Some v)) = reads s (Ok v)
ReadsOption reads (Some s) (Err f) = reads s (Err f)

-- Each is read in order. The first fault is the fault.
abbrev pub ReadsEach : {X T : Type 0} → (X → Result T Fault → Type 0) → List X → Result (List T) Fault → Type 0
ReadsEach reads [] (Ok vs) = vs ≡ []
ReadsEach reads [] (Err f) = ⊥
ReadsEach {X} {T} reads (s ∷ ss) (Ok vs) = (v : T) × (ws : List T) × (vs ≡ v ∷ ws) × reads s (Ok v) × ReadsEach reads ss (Ok ws)
ReadsEach {X} {T} reads (s ∷ ss) (Err f) = reads s (Err f) ⊎ ((v : T) × reads s (Ok v) × ReadsEach reads ss (Err f))

-- a list is its elements
abbrev pub ReadsList : {T : Type 0} → (Source → Result T Fault → Type 0) → List Source → Result (Vec T Global) Fault → Type 0
ReadsList reads ss (Ok v) = ReadsEach reads ss (Ok v.items)
ReadsList reads ss (Err f) = ReadsEach reads ss (Err f)

-- these are read so far, and this is left
abbrev pub ReadsSoFar : {X T : Type 0} → (X → Result T Fault → Type 0) → List X → List T → List X → Type 0
ReadsSoFar reads ss [] left = ss ≡ left
ReadsSoFar reads [] (v ∷ vs) left = ⊥
ReadsSoFar reads (s ∷ ss) (v ∷ vs) left = reads s (Ok v) × ReadsSoFar reads ss vs left

-- The entries are read in order, a key before its value; the first fault is the fault. Of equal keys the last value
-- stays. `get` tells what a map has at a key, `eq` which keys are equal.
unfoldable pub ReadsMap : {K V M : Type 0} → (M → K → Option V) → (K → K → Bool) → (Source → Result K Fault → Type 0) → (Source → Result V Fault → Type 0) → List Entry → Result M Fault → Type 0
ReadsMap {K} {V} get eq keys values es (Ok m) = (ps : List (K × V)) × ReadsEach (ReadsPair keys values) es (Ok ps) × ((q : K) → get m q ≡ update_all eq (λ _. None) ps q)
ReadsMap {K} {V} get eq keys values es (Err f) = ReadsEach {T = K × V} (ReadsPair keys values) es (Err f)

-- what a map has while these entries are left
unfoldable pub MapSoFar : {K V M : Type 0} → (M → K → Option V) → (K → K → Bool) → (Source → Result K Fault → Type 0) → (Source → Result V Fault → Type 0) → List Entry → M → List Entry → Type 0
MapSoFar {K} {V} get eq keys values es m left = (ps : List (K × V)) × ReadsSoFar (ReadsPair keys values) es ps left × ((q : K) → get m q ≡ update_all eq (λ _. None) ps q)

-- The elements are read in order; the first fault is the fault. A set has what is equal to one of them: `has` tells what a
-- set has, `eq` which values are equal.
unfoldable pub ReadsSet : {T M : Type 0} → (M → T → Bool) → (T → T → Bool) → (Source → Result T Fault → Type 0) → List Source → Result M Fault → Type 0
ReadsSet {T} has eq reads ss (Ok m) = (vs : List T) × ReadsEach reads ss (Ok vs) × ((q : T) → has m q ≡ list_any (λ v. eq v q) vs)
ReadsSet {T} has eq reads ss (Err f) = ReadsEach {T = T} reads ss (Err f)

-- what a set has while these sources are left
unfoldable pub SetSoFar : {T M : Type 0} → (M → T → Bool) → (T → T → Bool) → (Source → Result T Fault → Type 0) → List Source → M → List Source → Type 0
SetSoFar {T} has eq reads ss m left = (vs : List T) × ReadsSoFar reads ss vs left × ((q : T) → has m q ≡ list_any (λ v. eq v q) vs)

-- The first source is read, and then the rest is gone on with; where there is none, a message.
unfoldable pub ReadsFirst : {T V : Type 0} → (Source → Result T Fault → Type 0) → (T → List Source → Result V Fault → Type 0) → List Source → Result V Fault → Type 0
ReadsFirst reads next [] r = IsMessage r
ReadsFirst {T} reads next (s ∷ ss) (Ok w) = (v : T) × reads s (Ok v) × next v ss (Ok w)
ReadsFirst {T} reads next (s ∷ ss) (Err f) = reads s (Err f) ⊎ ((v : T) × reads s (Ok v) × next v ss (Err f))

-- Tuples read their first sources. More are let go unread.
abbrev pub ReadsTwo : {A B : Type 0} → (Source → Result A Fault → Type 0) → (Source → Result B Fault → Type 0) → List Source → Result (A × B) Fault → Type 0
ReadsTwo a b ss r = ReadsFirst a (λ x. ReadsFirst b (λ y _ r. r ≡ Ok (x, y))) ss r

abbrev pub ReadsThree : {A B C : Type 0} → (Source → Result A Fault → Type 0) → (Source → Result B Fault → Type 0) → (Source → Result C Fault → Type 0) → List Source → Result (A × B × C) Fault → Type 0
ReadsThree a b c ss r = ReadsFirst a (λ x. ReadsFirst b (λ y. ReadsFirst c (λ z _ r. r ≡ Ok (x, y, z)))) ss r

abbrev pub ReadsFour : {A B C D : Type 0} → (Source → Result A Fault → Type 0) → (Source → Result B Fault → Type 0) → (Source → Result C Fault → Type 0) → (Source → Result D Fault → Type 0) → List Source → Result (A × B × C × D) Fault → Type 0
ReadsFour a b c d ss r = ReadsFirst a (λ x. ReadsFirst b (λ y. ReadsFirst c (λ z. ReadsFirst d (λ w _ r. r ≡ Ok (x, y, z, w))))) ss r
