-- What lists, options, boxes and tuples read, by what is inside of them.
use Rattle.std.proofs.lemmas.List.{take_more}
use Rattle.std.proofs.Common.{◌≡◌, ◌∙◌, ℕ, ◌+◌, ◌<◌, List, [], ◌∷◌, ◌++◌, length, take, get_or, map, Option, Some, None, Result, Ok, Err, refl, sym, ap, subst, inl, inr}
use Rattle.dynamo_shape.proofs.Common.{⊤, Global, Vec, Fault, Datum, Elements, elements_of}
use Rattle.dynamo_shape.proofs.Common.{option_tells, After, ◌>>=◌, read_content, read_elements}
use Rattle.dynamo_shape.proofs.Common.{Through, ReadsOption, ReadsEach, ReadsList, Source, conforms}
use Rattle.dynamo_shape.proofs.Common.{AllElements, AnswersByShape, ReadsByShape, read, read_list}
use Rattle.dynamo_shape.proofs.Common.{read_some, Same, SameElements, Shape}
use Rattle.dynamo_ser.specs.Datum as datum
use Rattle.dynamo_de.specs.Answer as answer
use Rattle.dynamo_shape.specs.Shape as shape
use Rattle.dynamo_ser.specs.Parts.{content_in, elements_in}
use Rattle.dynamo_shape.proofs.Answered.{stops, made, after}
use Rattle.dynamo_shape.proofs.Scalars.{no_fault}

-- ---- lists

abbrev pub told_each : {T : Type 0} → (T → Datum) → List T → Elements
told_each tells vs = elements_of (map tells vs)

pub each_answered : {T : Type 0} (s : Shape) (tells : T → Datum) (reads : Source → Result T Fault → Type 0) → ReadsByShape s tells reads → (ss : List Source) (r : Result (List T) Fault) → ReadsEach reads ss r → AnswersByShape (AllElements (conforms s)) SameElements (told_each tells) (read_list (read s) ss) r
each_answered s tells reads h [] (Ok vs) e = (datum.no_elements, refl, λ c. subst (λ ws. SameElements datum.no_elements (told_each tells ws)) (sym e) refl)
each_answered s tells reads h [] (Err f) e = absurd e
each_answered s tells reads h (x ∷ ss) (Ok vs) (v, ws, e, a, b) =
    let p = h x (Ok v) a in
    let q = each_answered s tells reads h ss (Ok ws) b in (
      datum.element p.0 q.0,
      rw (p.1, q.1) refl,
      λ c.
          let d : AllElements (conforms s) (told_each tells (v ∷ ws)) = subst (λ us. AllElements (conforms s) (told_each tells us)) e c in
          subst (λ us. SameElements (datum.element p.0 q.0) (told_each tells us)) (sym e) (tells v, told_each tells ws, refl, p.2 d.0, q.2 d.1),
    )
each_answered s tells reads h (x ∷ ss) (Err f) (inl a) = stops Same SameElements (read s x) _ f (h x (Err f) a)
each_answered s tells reads h (x ∷ ss) (Err f) (inr (v, a, b)) =
    let p = h x (Ok v) a in
    let q = each_answered s tells reads h ss (Err f) b in
    rw p.1 (stops SameElements SameElements (read_list (read s) ss) (λ ds. answer.value (datum.element p.0 ds)) f q)

list_answered : {T : Type 0} (s : Shape) (tells : T → Datum) (reads : Source → Result T Fault → Type 0) → ReadsByShape s tells reads → (ss : List Source) (r : Result (Vec T Global) Fault) → ReadsList reads ss r → AnswersByShape (AllElements (conforms s)) SameElements (λ v. told_each tells v.items) (read_list (read s) ss) r
list_answered s tells reads h ss (Ok v) a = each_answered s tells reads h ss (Ok v.items) a
list_answered s tells reads h ss (Err f) a = each_answered s tells reads h ss (Err f) a

pub list_permitted : {T : Type 0} (s : Shape) (tells : T → Datum) (reads : Source → Result T Fault → Type 0) → ReadsByShape s tells reads → ReadsByShape {T = Vec T Global} (shape.list s) (λ v. datum.seq (told_each tells v.items)) (λ source. After (read_elements source) (ReadsList reads))
list_permitted {T} s tells reads h source r a =
    made (AllElements (conforms s)) SameElements (conforms (shape.list s)) Same (λ v. told_each tells v.items) datum.seq
    (λ ds c. subst (AllElements (conforms s)) (sym (ap elements_in c.1)) c.2)
    (λ ds es same. (es, refl, same))
    (read_elements source >>= read_list (read s)) r
    (after (AllElements (conforms s)) SameElements (λ v. told_each tells v.items) (ReadsList reads) (read_list (read s)) (list_answered s tells reads h) (read_elements source) r a)

-- ---- a walk over a list whose elements conform one after another

all_append : {T : Type 0} (P : Datum → Type 0) (tells : T → Datum) (vs : List T) (x : T) → AllElements P (told_each tells vs) → P (tells x) → AllElements P (told_each tells (vs ++ x ∷ []))
all_append P tells [] x h p = (p, tt)
all_append P tells (v ∷ vs) x h p = (h.0, all_append P tells vs x h.1 p)

pub one_more : {T : Type 0} (P : Datum → Type 0) (tells : T → Datum) (vs : List T) (i : ℕ) (x : T) → i < length vs → x ≡ get_or vs i x → AllElements P (told_each tells (take i vs)) → P (tells x) → AllElements P (told_each tells (take (i + 1) vs))
one_more P tells vs i x lt at h p = subst (λ us. AllElements P (told_each tells us)) (sym (take_more vs i x lt ∙ ap (λ y. take i vs ++ y ∷ []) (sym at))) (all_append P tells (take i vs) x h p)

-- ---- options

abbrev IsSome : Datum → Type 0
IsSome (datum.some d) = ⊤
IsSome _ = ⊥

abbrev value_or : {A : Type 0} → Result A Fault → A → A
value_or (Ok x) y = x
value_or (Err f) y = y

pub some_conforms : (s : Shape) (d : Datum) → conforms (shape.option s) (datum.some d) → conforms s d
some_conforms s d (inl n) = absurd (subst IsSome n tt)
some_conforms s d (inr (e, same, c)) = subst (conforms s) (sym (ap content_in same)) c

option_answered : {T : Type 0} (s : Shape) (tells : T → Datum) (reads : Source → Result T Fault → Type 0) → ReadsByShape s tells reads → (o : Option Source) (r : Result (Option T) Fault) → ReadsOption reads o r → AnswersByShape (conforms (shape.option s)) Same (option_tells tells) (read_some (read s) o) r
option_answered s tells reads h None (Ok v) e = (datum.none, refl, λ c. subst (λ o. Same datum.none (option_tells tells o)) (sym (ap (λ r. value_or r v) e)) refl)
option_answered s tells reads h None (Err f) e = absurd (no_fault (sym e))
option_answered s tells reads h (Some x) (Ok None) e = absurd e
option_answered s tells reads h (Some x) (Ok (Some v)) e = let p = h x (Ok v) e in (datum.some p.0, rw p.1 refl, λ c. (tells v, refl, p.2 (some_conforms s (tells v) c)))
option_answered s tells reads h (Some x) (Err f) e = stops Same Same (read s x) (λ d. answer.value (datum.some d)) f (h x (Err f) e)

pub option_permitted : {T : Type 0} (s : Shape) (tells : T → Datum) (reads : Source → Result T Fault → Type 0) → ReadsByShape s tells reads → ReadsByShape (shape.option s) (option_tells tells) (λ source. After (read_content source) (ReadsOption reads))
option_permitted s tells reads h source r a = after (conforms (shape.option s)) Same (option_tells tells) (ReadsOption reads) (read_some (read s)) (option_answered s tells reads h) (read_content source) r a

-- ---- what is made of one part

pub through_permitted : {A B : Type 0} (s : Shape) (tells : A → Datum) (reads : Source → Result A Fault → Type 0) (part : B → A) → ReadsByShape s tells reads → ReadsByShape s (λ b. tells (part b)) (λ source. Through part (reads source))
through_permitted s tells reads part h source (Ok b) a = h source (Ok (part b)) a
through_permitted s tells reads part h source (Err f) a = h source (Err f) a
