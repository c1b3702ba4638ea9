-- Answers, and what comes after them.
use Rattle.std.proofs.Common.{◌≡◌, Result, Ok, Err, refl, sym, subst}
use Rattle.dynamo_record.proofs.Common.{Fault, Datum, Answer, After, Gives, Meets, AnswersByShape}
use Rattle.dynamo_record.proofs.Common.{Same, IfRead}
use Rattle.dynamo_de.specs.Answer as answer
use Rattle.dynamo_shape.proofs.Results.{value_same}

abbrev given : {A : Type 0} → Answer A → Type 0
given (Ok x) = Unit {0}
given _ = ⊥

pub after_read : {V : Type 0} (C : Datum → Type 0) (tells : V → Datum) (a : Answer Datum) (r : Result V Fault) → AnswersByShape C Same tells a r → After a (λ d. IfRead (λ v. C (tells v) → Same d (tells v))) r
after_read C tells (Ok x) (Ok v) h = λ c. subst (λ d. Same d (tells v)) (sym (value_same h.1)) (h.2 c)
after_read C tells (Ok x) (Err f) h = h
after_read C tells (Err g) (Ok v) h = absurd (subst given (sym h.1) tt)
after_read C tells (Err g) (Err f) h = h

pub answers_after : {V : Type 0} (C : Datum → Type 0) (tells : V → Datum) (a : Answer Datum) (r : Result V Fault) → After a (λ d. IfRead (λ v. C (tells v) → Same d (tells v))) r → AnswersByShape C Same tells a r
answers_after C tells (Ok x) (Ok v) h = (x, refl, h)
answers_after C tells (Ok x) (Err f) h = h
answers_after C tells (Err g) (Ok v) h = absurd h
answers_after C tells (Err g) (Err f) h = h

pub after_ok : {A V : Type 0} (a : Answer A) (P : A → V → Type 0) (v : V) → After a (λ d. IfRead (P d)) (Ok v) → (d : A) × (a ≡ answer.value d) × P d v
after_ok (Ok x) P v h = (x, refl, h)
after_ok (Err g) P v h = absurd h

pub after_more : {A V W : Type 0} (a : Answer A) (P : A → V → Type 0) (Q : A → W → Type 0) (v : V) (w : W) → ((d : A) → P d v → Q d w) → After a (λ d. IfRead (P d)) (Ok v) → After a (λ d. IfRead (Q d)) (Ok w)
after_more (Ok x) P Q v w more h = more x h
after_more (Err g) P Q v w more h = absurd h

pub after_err : {A V W : Type 0} (a : Answer A) (P : A → V → Type 0) (Q : A → W → Type 0) (f : Fault) → After a (λ d. IfRead (P d)) (Err f) → After a (λ d. IfRead (Q d)) (Err f)
after_err (Ok x) P Q f h = h
after_err (Err g) P Q f h = h

-- what comes after what is read
pub goes_on : {A T V E : Type 0} (fault : E → Fault) (seen : T → A) (a : Answer A) (next : A → Result V Fault → Type 0) (t : T) (r : Result V E) → Gives seen a (Ok t) → Meets fault (next (seen t)) r → Meets fault (After a next) r
goes_on fault seen (Ok x) next t r is h = subst (λ y. Meets fault (next y) r) is h
goes_on fault seen (Err g) next t r is h = absurd is
