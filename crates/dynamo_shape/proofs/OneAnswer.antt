-- Two permitted results are one answer.
use Rattle.std.proofs.Common.{◌++◌, Result, Ok, Err, sym, subst, ◌∙◌, inl, inr}
use Rattle.dynamo_shape.proofs.Common.{IfOk, Answer, Source, Datum, conforms, AnswersByShape}
use Rattle.dynamo_shape.proofs.Common.{IsToldByValue, Permits, SameAnswer, FaultsOrSame, read}
use Rattle.dynamo_shape.proofs.Common.{IsDetermined, WalksAgree, Same, Shape, Fault}
use Rattle.dynamo_shape.proofs.Equivalence.{same_sym, same_trans}
use Rattle.dynamo_value.specs.Refusal.{fault, begins, contains, any_message}

one : (x : Answer Datum) (r q : Result Datum Fault) → Permits Same x r → Permits Same x q → SameAnswer Same r q
one (Ok d) (Ok x) (Ok y) h k = same_trans x d y (same_sym d x h) k
one (Ok d) (Err f) q h k = absurd h
one (Ok d) (Ok x) (Err g) h k = absurd k
one (Err r) (Ok x) q h k = absurd h
one (Err r) (Err g) (Ok y) h k = absurd k
one (Err (fault f)) (Err g) (Err e) h k = inl (h ∙ sym k)
one (Err (begins text)) (Err g) (Err e) h k = inr ((text ++ h.0, h.1), (text ++ k.0, k.1))
one (Err (contains text)) (Err g) (Err e) h k = inr ((h.0 ++ (text ++ h.1), h.2), (k.0 ++ (text ++ k.1), k.2))
one (Err any_message) (Err g) (Err e) h k = inr (h, k)

pub determined : (s : Shape) (src : Source) → IsDetermined s src
determined s src r q h k = one (read s src) r q h k

weaker : (r q : Result Datum Fault) → SameAnswer Same r q → FaultsOrSame Same r q
weaker (Ok x) (Ok y) h = h
weaker (Err f) (Err g) h = tt
weaker (Ok x) (Err g) h = absurd h
weaker (Err f) (Ok y) h = absurd h

pub walks : (s : Shape) (src : Source) → WalksAgree s src
walks s src r q h k = weaker r q (determined s src r q h k)

-- ---- answers of a type that reads by its shape

permitted : {T : Type 0} (C : Datum → Type 0) (tells : T → Datum) (x : Answer Datum) (v : T) → C (tells v) → AnswersByShape C Same tells x (Ok v) → Permits Same x (Ok (tells v))
permitted C tells x v c (d, is, h) = subst (λ y. Permits Same y (Ok (tells v))) (sym is) (h c)

-- two of them are one answer: the values are the same by value
pub one_by_value : {T : Type 0} (s : Shape) (tells : T → Datum) (same : T → T → Type 0) → IsToldByValue s tells same → (x : Answer Datum) (r q : Result T Fault) → IfOk r (λ v. conforms s (tells v)) → IfOk q (λ w. conforms s (tells w)) → AnswersByShape (conforms s) Same tells x r → AnswersByShape (conforms s) Same tells x q → SameAnswer same r q
one_by_value s tells same told x (Ok v) (Ok w) c d h k = told v w c d (one x (Ok (tells v)) (Ok (tells w)) (permitted (conforms s) tells x v c h) (permitted (conforms s) tells x w d k))
one_by_value s tells same told x (Ok v) (Err g) c d h k = one x (Ok (tells v)) (Err g) (permitted (conforms s) tells x v c h) k
one_by_value s tells same told x (Err f) (Ok w) c d h k = one x (Err f) (Ok (tells w)) h (permitted (conforms s) tells x w d k)
one_by_value s tells same told x (Err f) (Err g) c d h k = one x (Err f) (Err g) h k
