-- Reading the fields of a struct, in order and by their names: words for types that are read by hand.
use Rattle.std.specs.Prelude.{◌≡◌, ℕ, List, [], ◌∷◌, Result, Ok}
use Rattle.dynamo_value.specs.Av.{Av}
use Rattle.dynamo_value.specs.Fault.{Fault}
use Rattle.dynamo_de.specs.Answer as answer
use Rattle.dynamo_de.specs.Answer.{Answer, After}
use Rattle.dynamo_value.specs.Steps.{◌>>=◌}
use Rattle.dynamo_de.specs.Reading.{read_identifier}
use Rattle.dynamo_de.specs.Source.{Source, Entry}

-- an identifier is read as the one that it names
abbrev pub NamesOne : {F : Type 0} → (List ℕ → F) → Source → Result F Fault → Type 0
NamesOne named s r = After (read_identifier s) (λ t r. r ≡ Ok (named t)) r

-- The first source is read, and then the rest is gone on with; where there is none, a message.
unfoldable pub read_first : {A B : Type 0} → (Source → Answer A) → List Source → (A → List Source → Answer B) → Answer B
read_first reads [] next = answer.refused
read_first reads (s ∷ ss) next = reads s >>= λ x. next x ss

-- The entries are read in order, each by the field that its key names, and then the struct is made of what was read.
unfoldable pub read_fields : {F S A : Type 0} → (List ℕ → F) → (F → S → Av → Answer S) → (S → Answer A) → S → List Entry → Answer A
read_fields named entry finish so_far [] = finish so_far
read_fields named entry finish so_far (e ∷ es) = entry (named e.0) so_far e.1 >>= λ new. read_fields named entry finish new es

-- each source is read, and the first fault is the fault
abbrev pub read_all : {A : Type 0} → (Source → Answer A) → List Source → Answer (List A)
read_all reads [] = answer.value []
read_all reads (s ∷ ss) = reads s >>= λ x. read_all reads ss >>= λ xs. answer.value (x ∷ xs)

-- what is answered on what is left is answered on the whole
unfoldable pub LeadsTo : {A V : Type 0} → (A → Result V Fault → Type 0) → Answer A → Answer A → Type 0
LeadsTo {A} {V} next left whole = (r : Result V Fault) → After left next r → After whole next r
