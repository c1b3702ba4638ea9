-- A struct that is read by hand, entry by entry, each field by its name, reads as its shape says.
use Rattle.std.proofs.Common.{◌≡◌, ℕ, zero, suc, true, false, cond, List, [], ◌∷◌, Option, Some, None, refl, sym, ap, ◌∙◌, Ok, Err}
use Rattle.dynamo_value.proofs.Steps.{bind_in_turn}
use Rattle.dynamo_shape.proofs.Common.{⊤, if◌then◌else◌, bytes_eq, bytes_eq-Decides, Av, Datum}
use Rattle.dynamo_shape.proofs.Common.{Fields, Answer, value_or, ◌>>=◌, Source, Text, Entry}
use Rattle.dynamo_shape.proofs.Common.{attribute, Absence, put_field, is_field, read, into}
use Rattle.dynamo_shape.proofs.Common.{read_field, read_each_entry, last_of, missing, fields_among}
use Rattle.dynamo_shape.proofs.Common.{fields_by_name, Shape, FieldShapes, no_field_shapes}
use Rattle.dynamo_shape.proofs.Common.{field_shape}
use Rattle.dynamo_ser.specs.Datum as datum
use Rattle.dynamo_de.specs.Answer as answer
use Rattle.dynamo_de.specs.Fields.{read_fields}
use Rattle.dynamo_de.specs.Ignored.{ignore}
use Rattle.dynamo_shape.proofs.ByHand.{IsReadAs, Both, both_made, both_weaker, both_next}
use Rattle.dynamo_shape.proofs.Found.{Unseen, unseen_none, unseen_more, or_false}

-- no two fields have one name
abbrev pub NamesDiffer : FieldShapes → Type 0
NamesDiffer no_field_shapes = ⊤
NamesDiffer (field_shape name s default fs) = (is_field fs name ≡ false) × NamesDiffer fs

-- ---- what was read of each field so far, in the order of the fields

abbrev pub Slots : Type 0
Slots = List (Option Datum)

abbrev pub first_slot : Slots → Option Datum
first_slot [] = None
first_slot (o ∷ os) = o

abbrev pub other_slots : Slots → Slots
other_slots [] = []
other_slots (o ∷ os) = os

-- after the first so many slots
abbrev pub behind : ℕ → (Slots → Slots) → Slots → Slots
behind zero f os = f os
behind (suc i) f os = first_slot os ∷ behind i f (other_slots os)

abbrev pub fill : Datum → Slots → Slots
fill d os = Some d ∷ other_slots os

abbrev pub fill_slot : ℕ → Datum → Slots → Slots
fill_slot i d os = behind i (fill d) os

-- the slot of the first field of this name
abbrev pub fill_named : FieldShapes → Text → Datum → Slots → Slots
fill_named no_field_shapes t d os = os
fill_named (field_shape own s default fs) t d os = if bytes_eq t own then fill d os else behind 1 (fill_named fs t d) os

abbrev pub empty : FieldShapes → Slots
empty no_field_shapes = []
empty (field_shape name s default fs) = None ∷ empty fs

-- where nothing was read for a field, it is its default, or else an option is none, and any other field is missed
abbrev pub close : FieldShapes → Slots → Answer Fields
close no_field_shapes os = answer.value datum.no_fields
close (field_shape name s default fs) os = do
  d ← value_or (first_slot os) (missing s default)
  gs ← close fs (other_slots os)
  answer.value (put_field name default d gs)

behind_behind : (i : ℕ) (f : Slots → Slots) (os : Slots) → behind i (behind 1 f) os ≡ behind (suc i) f os
behind_behind zero f os = refl
behind_behind (suc i) f os = ap (λ more. first_slot os ∷ more) (behind_behind i f (other_slots os))

-- ---- what one entry does

module _ {F S : Type 0} (entry : F → S → Av → Answer S) (slots : S → Slots) where
  -- an entry is read as by its field's shape, and fills the field's slot; so far as these fields go, the first of which has slot i
  unfoldable pub Reads : ℕ → FieldShapes → (Text → F) → Type 0
  Reads i fs named = (t : Text) (u : S) (a : Av) → Both (λ new d. slots new ≡ behind i (fill_named fs t d) (slots u)) (entry (named t) u a) (read_field fs t a)

  -- a field: what is read of it is kept in its slot
  pub known : {A : Type 0} (i : ℕ) (own : Text) (s : Shape) (default : Absence) (fs : FieldShapes) (f : F) (others : Text → F) (reads : Source → Answer A) (make : A → Datum) (keep : A → S → S) → IsReadAs s reads make → ((u : S) (a : Av) → entry f u a ≡ into (λ x. keep x u) (reads (attribute a))) → ((x : A) (u : S) → slots (keep x u) ≡ fill_slot i (make x) (slots u)) → Reads (suc i) fs others → Reads i (field_shape own s default fs) (λ t. if bytes_eq t own then f else others t)
  unfolding Reads
  known i own s default fs f others reads make keep same takes fills more t u a =
      elim (bytes_eq t own) as (λ b. Both (λ new d. slots new ≡ behind i (λ os. if b then fill d os else behind 1 (fill_named fs t d) os) (slots u)) (entry (if b then f else others t) u a) (if b then read s (attribute a) else read_field fs t a)) [
        | true ↦ rw (takes u a, same (attribute a)) (both_made (λ new d. slots new ≡ fill_slot i d (slots u)) (λ x. keep x u) make (reads (attribute a)) (λ x. fills x u))
        | false ↦
            both_weaker (λ new d. slots new ≡ behind (suc i) (fill_named fs t d) (slots u)) (λ new d. slots new ≡ behind i (behind 1 (fill_named fs t d)) (slots u))
            (λ new d h. h ∙ sym (behind_behind i (fill_named fs t d) (slots u)))
            (entry (others t) u a) (read_field fs t a) (more t u a)
      ]

  -- any other entry is ignored
  pub unknown : (i : ℕ) (f : F) → ((u : S) (a : Av) → entry f u a ≡ into (λ _. u) (ignore a)) → ((u : S) → slots u ≡ behind i (λ os. os) (slots u)) → Reads i no_field_shapes (λ _. f)
  unfolding Reads
  unknown i f takes stays t u a = rw (takes u a) (both_made (λ new d. slots new ≡ behind i (λ os. os) (slots u)) (λ _. u) (λ _. datum.unit) (ignore a) (λ _. stays u))

-- ---- what all entries do

abbrev after : FieldShapes → List (Text × Datum) → Slots → Slots
after no_field_shapes l os = []
after (field_shape name s default fs) l os = last_of name l (first_slot os) ∷ after fs l (other_slots os)

pub turned : (t u : Text) → bytes_eq t u ≡ true → bytes_eq u t ≡ true
turned t u e = (bytes_eq-Decides u t).1 (sym ((bytes_eq-Decides t u).0 e))

pub not_turned : (t u : Text) → bytes_eq t u ≡ false → bytes_eq u t ≡ false
not_turned t u e = elim (bytes_eq u t) as (λ b. bytes_eq u t ≡ b → b ≡ false) [
  | true ↦ λ q. sym (turned u t q) ∙ e
  | false ↦ λ q. refl
] refl

after_other : (fs : FieldShapes) (t : Text) (d : Datum) (l : List (Text × Datum)) (os : Slots) → is_field fs t ≡ false → after fs ((t, d) ∷ l) os ≡ after fs l os
after_other no_field_shapes t d l os h = refl
after_other (field_shape own s default fs) t d l os h =
    let p = or_false (bytes_eq t own) (is_field fs t) h in
    let q = not_turned t own p.0 in
    let r = after_other fs t d l (other_slots os) p.1 in
    λ i. last_of own l (cond (q i) (Some d) (first_slot os)) ∷ r i

after_filled : (fs : FieldShapes) (t : Text) (d : Datum) (l : List (Text × Datum)) (os : Slots) → NamesDiffer fs → after fs l (fill_named fs t d os) ≡ after fs ((t, d) ∷ l) os
after_filled no_field_shapes t d l os n = refl
after_filled (field_shape own s default fs) t d l os n =
    elim (bytes_eq t own) as (λ b. bytes_eq t own ≡ b → after (field_shape own s default fs) l (if b then fill d os else behind 1 (fill_named fs t d) os) ≡ after (field_shape own s default fs) ((t, d) ∷ l) os) [
      | true ↦ λ q.
          let here = sym (turned t own q) in
          let others = sym (after_other fs t d l (other_slots os) (ap (is_field fs) ((bytes_eq-Decides t own).0 q) ∙ n.0)) in
          λ i. last_of own l (cond (here i) (Some d) (first_slot os)) ∷ others i
      | false ↦ λ q.
          let here = sym (not_turned t own q) in
          let others = after_filled fs t d l (other_slots os) n.1 in
          λ i. last_of own l (cond (here i) (Some d) (first_slot os)) ∷ others i
    ] refl

close_none : (fs : FieldShapes) (os : Slots) → close fs (after fs [] os) ≡ close fs os
close_none no_field_shapes os = refl
close_none (field_shape name s default fs) os = ap (λ more. value_or (first_slot os) (missing s default) >>= λ d. more >>= λ gs. answer.value (put_field name default d gs)) (close_none fs (other_slots os))

-- the slots hold the last entry of each name
close_among : (fs : FieldShapes) (taken : List Text) (l : List (Text × Datum)) → NamesDiffer fs → Unseen fs taken → close fs (after fs l (empty fs)) ≡ fields_among fs taken l
close_among no_field_shapes taken l n u = refl
close_among (field_shape name s default fs) taken l n u =
    rw u.0 (ap (λ more. value_or (last_of name l None) (missing s default) >>= λ d. more >>= λ gs. answer.value (put_field name default d gs)) (close_among fs (name ∷ taken) l n.1 (unseen_more fs taken name n.0 u.1)))

module _ {F S B : Type 0} (entry : F → S → Av → Answer S) (slots : S → Slots) (named : Text → F) (fs : FieldShapes) (finish : S → Answer B) (make : Fields → B) (differ : NamesDiffer fs) (reads : Reads entry slots 0 fs named) (finishes : (u : S) → finish u ≡ into make (close fs (slots u))) where
  abbrev closed : List (Text × Datum) → Slots → Answer B
  closed l os = into make (close fs (after fs l os))

  pushed : (t : Text) (d : Datum) (rest : Answer (List (Text × Datum))) (os : Slots) → (rest >>= λ l. closed l (fill_named fs t d os)) ≡ ((rest >>= λ l. answer.value ((t, d) ∷ l)) >>= λ l. closed l os)
  pushed t d (Ok l) os = ap (λ x. into make (close fs x)) (after_filled fs t d l os differ)
  pushed t d (Err f) os = refl

  from_here : (es : List Entry) (u : S) → read_fields named entry finish u es ≡ (read_each_entry (read_field fs) es >>= λ l. closed l (slots u))
  unfolding read_fields Reads
  from_here [] u = finishes u ∙ ap (into make) (sym (close_none fs (slots u)))
  from_here (e ∷ es) u =
      both_next (λ new d. slots new ≡ fill_named fs e.0 d (slots u)) (λ new. read_fields named entry finish new es) (λ d. (read_each_entry (read_field fs) es >>= λ l. answer.value ((e.0, d) ∷ l)) >>= λ l. closed l (slots u))
      (λ new d h. from_here es new ∙ ap (λ os. read_each_entry (read_field fs) es >>= λ l. closed l os) h ∙ pushed e.0 d (read_each_entry (read_field fs) es) (slots u))
      (entry (named e.0) u e.1) (read_field fs e.0 e.1) (reads e.0 u e.1)
      ∙ sym (bind_in_turn (read_field fs e.0 e.1) (λ d. read_each_entry (read_field fs) es >>= λ l. answer.value ((e.0, d) ∷ l)) (λ l. closed l (slots u)))

  among : (rest : Answer (List (Text × Datum))) → (rest >>= λ l. closed l (empty fs)) ≡ into make (rest >>= fields_among fs [])
  among (Ok l) = ap (into make) (close_among fs [] l differ (unseen_none fs))
  among (Err f) = refl

  -- all entries, from a start at which nothing was read
  pub all_named : (start : S) → slots start ≡ empty fs → (es : List Entry) → read_fields named entry finish start es ≡ into make (fields_by_name fs (read_field fs) es)
  all_named start none es = from_here es start ∙ ap (λ os. read_each_entry (read_field fs) es >>= λ l. closed l os) none ∙ among (read_each_entry (read_field fs) es)
