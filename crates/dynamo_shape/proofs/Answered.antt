-- Answers of one step after another.
use Rattle.std.proofs.Common.{Result, Ok, Err, refl}
use Rattle.dynamo_shape.proofs.Common.{Fault, Answer, After, ◌>>=◌, AnswersByShape, Permits, into}
use Rattle.dynamo_de.specs.Answer as answer

-- a fault of the first step is the fault of all
pub stops : {A B : Type 0} (R : A → A → Type 0) (Q : B → B → Type 0) (a : Answer A) (next : A → Answer B) (f : Fault) → Permits R a (Err f) → Permits Q (a >>= next) (Err f)
stops R Q (Ok x) next f h = absurd h
stops R Q (Err g) next f h = h

-- f of the value
pub made : {A B V : Type 0} (C : A → Type 0) (R : A → A → Type 0) (D : B → Type 0) (Q : B → B → Type 0) (tells : V → A) (f : A → B) → ((x : A) → D (f x) → C x) → ((x y : A) → R x y → Q (f x) (f y)) → (a : Answer A) (r : Result V Fault) → AnswersByShape C R tells a r → AnswersByShape D Q (λ v. f (tells v)) (into f a) r
made C R D Q tells f inner outer a (Ok v) h = (f h.0, rw h.1 refl, λ c. outer h.0 (tells v) (h.2 (inner (tells v) c)))
made C R D Q tells f inner outer a (Err g) h = stops R Q a (λ x. answer.value (f x)) g h

-- what is answered after a step
pub after : {X A V : Type 0} (C : A → Type 0) (R : A → A → Type 0) (tells : V → A) (next : X → Result V Fault → Type 0) (f : X → Answer A) → ((x : X) (r : Result V Fault) → next x r → AnswersByShape C R tells (f x) r) → (a : Answer X) (r : Result V Fault) → After a next r → AnswersByShape C R tells (a >>= f) r
after C R tells next f each (Ok x) r h = each x r h
after C R tells next f each (Err g) (Ok v) h = absurd h
after C R tells next f each (Err g) (Err e) h = h
