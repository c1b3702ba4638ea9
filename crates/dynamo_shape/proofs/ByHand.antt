-- Reading by hand as a shape says: answers in step.
use Rattle.std.proofs.Common.{◌≡◌, Option, Some, None, Result, Ok, Err, refl, sym, ap, subst}
use Rattle.dynamo_shape.proofs.Common.{Fault, Datum, option_tells, Answer, After, Gives, Is, ◌>>=◌}
use Rattle.dynamo_shape.proofs.Common.{read_content, ReadsOption, Source, AnswersByShape, read}
use Rattle.dynamo_shape.proofs.Common.{into, read_some, Same, Shape, option}
use Rattle.dynamo_ser.specs.Datum as datum
use Rattle.dynamo_shape.proofs.Alike.{same_refl}

-- reading at the shape is this reading, made into data
abbrev pub IsReadAs : {A : Type 0} → Shape → (Source → Answer A) → (A → Datum) → Type 0
IsReadAs s reads make = (source : Source) → read s source ≡ into make (reads source)

pub into_into : {A B C : Type 0} (f : A → B) (g : B → C) (a : Answer A) → into g (into f a) ≡ into (λ x. g (f x)) a
into_into f g (Ok x) = refl
into_into f g (Err e) = refl

pub same_next : {X A B : Type 0} (K : A → B) (a : Answer X) (f : X → Answer B) (g : X → Answer A) → ((x : X) → f x ≡ into K (g x)) → a >>= f ≡ into K (a >>= g)
same_next K (Ok x) f g h = h x
same_next K (Err e) f g h = refl

-- two values that are so, or the same promise of the fault
abbrev pub Both : {A B : Type 0} → (A → B → Type 0) → Answer A → Answer B → Type 0
Both Q (Ok x) (Ok y) = Q x y
Both Q (Err r) (Err p) = r ≡ p
Both Q _ _ = ⊥

pub both_made : {X A B : Type 0} (Q : A → B → Type 0) (f : X → A) (g : X → B) (r : Answer X) → ((x : X) → Q (f x) (g x)) → Both Q (into f r) (into g r)
both_made Q f g (Ok x) h = h x
both_made Q f g (Err r) h = refl

pub both_weaker : {A B : Type 0} (P Q : A → B → Type 0) → ((x : A) (y : B) → P x y → Q x y) → (a : Answer A) (b : Answer B) → Both P a b → Both Q a b
both_weaker P Q f (Ok x) (Ok y) h = f x y h
both_weaker P Q f (Err r) (Err p) h = h
both_weaker P Q f (Ok x) (Err p) h = absurd h
both_weaker P Q f (Err r) (Ok y) h = absurd h

-- what comes after both is the same
pub both_next : {A B C : Type 0} (Q : A → B → Type 0) (f : A → Answer C) (g : B → Answer C) → ((x : A) (y : B) → Q x y → f x ≡ g y) → (a : Answer A) (b : Answer B) → Both Q a b → a >>= f ≡ b >>= g
both_next Q f g h (Ok x) (Ok y) k = h x y k
both_next Q f g h (Err r) (Err p) k = ap Err k
both_next Q f g h (Ok x) (Err p) k = absurd k
both_next Q f g h (Err r) (Ok y) k = absurd k

-- a call that gives what is read, told as data
pub told : {V : Type 0} (C : Datum → Type 0) (tells : V → Datum) (a : Answer Datum) (r : Result V Fault) → Gives tells a r → AnswersByShape C Same tells a r
told C tells (Ok d) (Ok v) h = (d, refl, λ _. subst (Same d) (sym h) (same_refl d))
told C tells (Ok d) (Err f) h = absurd h
told C tells (Err f) (Ok v) h = absurd h
told C tells (Err f) (Err g) h = h

pub gives_after : {X V : Type 0} (tells : V → Datum) (a : Answer X) (f : X → Answer Datum) (r : Result V Fault) → After a (λ x. Gives tells (f x)) r → Gives tells (a >>= f) r
gives_after tells (Ok x) f r h = h
gives_after tells (Err e) f r h = h

-- what is told of each step is what reading at the shape gives
pub by_steps : {X V : Type 0} (s : Shape) (C : Datum → Type 0) (tells : V → Datum) (source : Source) (a : Answer X) (f : X → Answer Datum) → a >>= f ≡ read s source → (r : Result V Fault) → After a (λ x. Gives tells (f x)) r → AnswersByShape C Same tells (read s source) r
by_steps s C tells source a f same r h = told C tells (read s source) r (subst (λ x. Gives tells x r) same (gives_after tells a f r h))

-- ---- types whose values tell the very data that reading at their shape gives

abbrev pub ReadsTold : {T : Type 0} → Shape → (T → Datum) → (Source → Result T Fault → Type 0) → Type 0
ReadsTold {T} s tells reads = (source : Source) (r : Result T Fault) → reads source r → Gives tells (read s source) r

pub read_itself : (s : Shape) → IsReadAs s (read s) (λ d. d)
read_itself s source = itself (read s source)
  where
    itself : (a : Answer Datum) → a ≡ into (λ d. d) a
    itself (Ok d) = refl
    itself (Err e) = refl

-- what is made of one scalar
pub scalar_told : {T A : Type 0} (s : Shape) (seen : T → A) (make : A → Datum) (reads : Source → Answer A) → IsReadAs s reads make → ReadsTold s (λ v. make (seen v)) (λ source. Gives seen (reads source))
scalar_told {T} {A} s seen make reads same source r h = subst (λ a. Gives (λ v. make (seen v)) a r) (sym (same source)) (along (reads source) r h)
  where
    along : (a : Answer A) (r : Result T Fault) → Gives seen a r → Gives (λ v. make (seen v)) (into make a) r
    along (Ok x) (Ok v) h = ap make h
    along (Ok x) (Err f) h = absurd h
    along (Err e) r h = h

pub option_told : {T : Type 0} (s : Shape) (tells : T → Datum) (reads : Source → Result T Fault → Type 0) → ReadsTold s tells reads → ReadsTold (option s) (option_tells tells) (λ source. After (read_content source) (ReadsOption reads))
option_told {T} s tells reads h source r a = along (read_content source) r a
  where
    some_told : (d : Answer Datum) (v : T) → Gives tells d (Ok v) → Gives (option_tells tells) (into datum.some d) (Ok (Some v))
    some_told (Ok e) v h = ap datum.some h
    some_told (Err f) v h = absurd h

    fault_told : (d : Answer Datum) (f : Fault) → Gives tells d (Err f) → Gives (option_tells tells) (into datum.some d) (Err f)
    fault_told (Ok e) f h = absurd h
    fault_told (Err g) f h = h

    along : (c : Answer (Option Source)) (r : Result (Option T) Fault) → After c (ReadsOption reads) r → Gives (option_tells tells) (c >>= read_some (read s)) r
    along (Ok None) r a = subst (λ x. Is (option_tells tells) datum.none x) (sym a) refl
    along (Ok (Some x)) (Ok None) a = absurd a
    along (Ok (Some x)) (Ok (Some v)) a = some_told (read s x) v (h x (Ok v) a)
    along (Ok (Some x)) (Err f) a = fault_told (read s x) f (h x (Err f) a)
    along (Err e) r a = a
