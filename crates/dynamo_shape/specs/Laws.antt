-- What a type with a shape promises.
use Rattle.std.specs.Prelude.{◌≡◌, ◌↔◌, Bool, true, Result, Ok, Err}
use Rattle.std.specs.Ordering.{is_lt}
use Rattle.std.specs.declared.cmp.Ordering.{Ordering}
use Rattle.dynamo_value.specs.Fault.{Fault}
use Rattle.dynamo_ser.specs.Datum.{Datum}
use Rattle.dynamo_de.specs.Answer.{Answer, value}
use Rattle.dynamo_de.specs.Source.{Source}
use Rattle.dynamo_shape.specs.Conforms.{conforms}
use Rattle.dynamo_shape.specs.Order.{is_below}
use Rattle.dynamo_shape.specs.Permits.{Permits}
use Rattle.dynamo_shape.specs.Read.{read}
use Rattle.dynamo_shape.specs.Same.{Same}
use Rattle.dynamo_shape.specs.Shape.{Shape}

-- An answer that reading gives: the value, so far as it tells what conforms; the fault; a message where reading refuses.
abbrev pub AnswersByShape : {D V : Type 0} → (D → Type 0) → (D → D → Type 0) → (V → D) → Answer D → Result V Fault → Type 0
AnswersByShape {D} Conforms Alike tells answer (Ok v) = (d : D) × (answer ≡ value d) × (Conforms (tells v) → Alike d (tells v))
AnswersByShape Conforms Alike tells answer (Err f) = Permits Alike answer (Err f)

-- what is read from a source is what reading at the shape gives
abbrev pub ReadsByShape : {T : Type 0} → Shape → (T → Datum) → (Source → Result T Fault → Type 0) → Type 0
ReadsByShape {T} s tells reads = (source : Source) (r : Result T Fault) → reads source r → AnswersByShape (conforms s) Same tells (read s source) r

-- two values that tell the same data, which conform to the shape, are the same by value
abbrev pub IsToldByValue : {T : Type 0} → Shape → (T → Datum) → (T → T → Type 0) → Type 0
IsToldByValue {T} s tells same = (v w : T) → conforms s (tells v) → conforms s (tells w) → Same (tells v) (tells w) → same v w

-- two values that are the same by value, which conform to the shape, tell the same data
abbrev pub ToldAlike : {T : Type 0} → Shape → (T → Datum) → (T → T → Type 0) → Type 0
ToldAlike {T} s tells same = (v w : T) → conforms s (tells v) → conforms s (tells w) → same v w → Same (tells v) (tells w)

-- two keys are equal exactly where they tell the same datum
abbrev pub EqualAsTold : {K : Type 0} → (K → Datum) → (K → K → Bool) → Type 0
EqualAsTold {K} tells eq = (k l : K) → ((eq k l ≡ true) ↔ (tells k ≡ tells l))

-- what a key tells holds no map, whose order could differ
abbrev pub ToldApart : {K : Type 0} → (K → Datum) → Type 0
ToldApart {K} tells = (k l : K) → Same (tells k) (tells l) → tells k ≡ tells l

-- one key is below another in their order exactly where what it tells is below
abbrev pub BelowAsTold : {K : Type 0} → (K → Datum) → (K → K → Ordering) → Type 0
BelowAsTold {K} tells cmp = (k l : K) → is_lt (cmp k l) ≡ is_below (tells k) (tells l)
