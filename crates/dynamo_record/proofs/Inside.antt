-- What is read of the content of a variant.
use Rattle.std.proofs.Common.{◌≡◌, ◌⊎◌, ◌<◌, ℕ, zero, List, [], Option, Some, None, Result, Ok, Err, refl, sym, ap, subst, inl, inr, arith}
use Rattle.dynamo_record.proofs.Common.{Fault, message, out_of_memory, Datum, Elements, Variant}
use Rattle.dynamo_record.proofs.Common.{elements_of, OfContent, Answer, After, ◌>>=◌, read_elements}
use Rattle.dynamo_record.proofs.Common.{Meets, Source, Text, conforms, conform_each}
use Rattle.dynamo_record.proofs.Common.{conforms_content, AnswersByShape, ReadsByShape, Permits}
use Rattle.dynamo_record.proofs.Common.{read, into, read_each, Same, SameElements, stops}
use Rattle.dynamo_record.proofs.Common.{content_in, elements_in, about_one, about_several, SameData}
use Rattle.dynamo_record.proofs.Common.{shapes_of, read_fields}
use Rattle.dynamo_record.proofs.Common.{ReadsInOrder, AboutList, Makes, Data, Names}
use Rattle.dynamo_record.proofs.Common.{AboutContent, Contents, ReadsInside, ReadsAt, tag}
use Rattle.dynamo_record.proofs.Common.{first_conforms, one_contents, elements_in_order}
use Rattle.dynamo_ser.specs.Datum as datum
use Rattle.dynamo_de.specs.Answer as answer
use Rattle.dynamo_shape.specs.Shape as shape
use Rattle.dynamo_record.specs.About.{About}
use Rattle.dynamo_record.specs.Variants.{one_told as told_at}

-- ---- the variant at place 0

module _ {C E : Type 0} (fault : E → Fault) (a : AboutContent C) (name : Text) (ns : Names) (i : ℕ) (cs : Contents) (place : ℕ) (inside : place < 1) (s : Option Source) where
  here : zero ≡ place
  here = let at : 0 ≡ place = omega arith in at

  pub content_read : (r : Result C E) → Meets fault (ReadsInside a.shape a.told (tag name ns i) s) r → Meets fault (ReadsAt (one_contents a) (told_at a) name ns i cs place s) r
  content_read (Ok x) h = subst (λ n. ReadsAt (one_contents a) (told_at a) name ns i cs n s (Ok x)) here (h.0, h.1, λ c. h.2 (first_conforms a name ns i cs x c))
  content_read (Err e) h = elim h [ inl lacks ↦ inl lacks | inr failed ↦ inr (subst (λ n. ReadsAt {L = C} (one_contents a) (told_at a) name ns i cs n s (Err (fault e))) here failed) ]

-- ---- one value

module _ {A X W : Type 0} (C : A → Type 0) (R : A → A → Type 0) (D : Datum → Type 0) (told : X → A) (tells : W → Datum) (f : A → Datum) (inner : (y : A) → D (f y) → C y) (outer : (y z : A) → R y z → Same (f y) (f z)) where
  made_of : (a : Answer A) (x : X) (w : W) → tells w ≡ f (told x) → AnswersByShape C R told a (Ok x) → AnswersByShape D Same tells (into f a) (Ok w)
  made_of a x w e h = (f h.0, rw h.1 refl, λ k. subst (Same (f h.0)) (sym e) (outer h.0 (told x) (h.2 (inner (told x) (subst D e k)))))

module _ {C T E : Type 0} (fault : E → Fault) (part : C → T) (a : About T) (reads : Source → Result T Fault → Type 0) (by_shape : ReadsByShape a.shape a.tells reads) (v : Variant) where
  abbrev Inside : Option Source → Result C E → Type 0
  Inside s = Meets fault (ReadsInside (about_one part a).shape (about_one part a).told v s)

  pub value_read : (s : Option Source) (x : T) (w : C) → part w ≡ x → Meets fault (OfContent reads s) (Ok x) → Inside s (Ok w)
  value_read None x w e h = absurd h
  value_read (Some y) x w e h =
      made_of (conforms a.shape) Same (conforms_content (shape.one a.shape) v) a.tells ((about_one part a).told v) (datum.newtype_variant v)
      (λ d k. subst (conforms a.shape) (sym (ap content_in k.1)) k.2) (λ d d2 same. (d2, refl, same)) (read a.shape y) x w (ap (λ t. datum.newtype_variant v (a.tells t)) e) (by_shape y (Ok x) h)

  pub value_fails : (s : Option Source) (e : E) → Meets fault (OfContent reads s) (Err e) → Inside s (Err e)
  value_fails None e h = h
  value_fails (Some y) e h = elim h [ inl lacks ↦ inl lacks | inr failed ↦ inr (stops Same Same (read a.shape y) (λ d. answer.value (datum.newtype_variant v d)) (fault e) (by_shape y (Err (fault e)) failed)) ]

-- ---- several

module _ {L E : Type 0} (fault : E → Fault) (a : AboutList L) (xs : List Source) where
  abbrev All : Answer Data
  All = read_fields (a.shapes []) xs

  pub all_made : (v : L) → Makes a.shapes a.told All (answer.value []) (Some v) → Meets fault (ReadsInOrder a xs) (Ok v)
  all_made v h = (h.0 [], h.1, λ c. h.2 [] [] [] c (λ _. tt))

  pub too_few : (e : E) (text : List ℕ) → All ≡ answer.refused → (fault e ≡ message text) ⊎ (fault e ≡ out_of_memory) → Meets {V = L} fault (ReadsInOrder a xs) (Err e)
  too_few e text h m = elim m [ inl says ↦ inr (subst (λ q. Permits SameData q (Err (fault e))) (sym h) (text, says)) | inr lacks ↦ inl lacks ]

module _ {C L E : Type 0} (fault : E → Fault) (part : C → L) (a : AboutList L) (v : Variant) where
  abbrev OfElements : Option Source → Result L E → Type 0
  OfElements s r = Meets fault (OfContent (λ s. After (read_elements s) (ReadsInOrder a)) s) r

  abbrev Tuple : Option Source → Result C E → Type 0
  Tuple s = Meets fault (ReadsInside (about_several part a).shape (about_several part a).told v s)

  abbrev Told : L → Elements
  Told x = elements_of (a.told x [])

  abbrev Shapes_ : shape.Shapes
  Shapes_ = shapes_of (a.shapes [])

  pub values_read : (s : Option Source) (x : L) (w : C) → part w ≡ x → OfElements s (Ok x) → Tuple s (Ok w)
  values_read None x w e h = absurd h
  values_read (Some y) x w e h =
      made_of (conform_each Shapes_) SameElements (conforms_content (shape.several Shapes_) v) Told ((about_several part a).told v) (datum.tuple_variant v)
      (λ d k. subst (conform_each Shapes_) (sym (ap elements_in k.1)) k.2) (λ d d2 same. (d2, refl, same)) (read_elements y >>= read_each Shapes_) x w (ap (λ l. datum.tuple_variant v (Told l)) e)
      (elements_in_order a y (Ok x) h)

  pub values_fail : (s : Option Source) (e : E) → OfElements s (Err e) → Tuple s (Err e)
  values_fail None e h = h
  values_fail (Some y) e h = elim h [
    | inl lacks ↦ inl lacks
    | inr failed ↦ inr (stops SameElements Same (read_elements y >>= read_each Shapes_) (λ ds. answer.value (datum.tuple_variant v ds)) (fault e) (elements_in_order a y (Err (fault e)) failed))
  ]
