-- One field: what is read of it, and what it is made of.
use Rattle.std.proofs.Common.{◌≡◌, ◌⊎◌, List, [], ◌∷◌, Option, Some, None, Result, Ok, Err, refl, subst, inl, inr}
use Rattle.dynamo_record.proofs.Common.{Fault, message, out_of_memory, Datum, value_or}
use Rattle.dynamo_record.proofs.Common.{TakesElement, Source, Absence, conforms, ReadsByShape}
use Rattle.dynamo_record.proofs.Common.{missing, Same, Shape, Slots, first_slot, other_slots}
use Rattle.dynamo_record.proofs.Common.{Defaults, complete, missed_name, read_fields, Shapes, Data}
use Rattle.dynamo_record.proofs.Common.{AlikeFront, Makes, Completes, IsRead, HoldsField, is_there}
use Rattle.dynamo_record.proofs.Common.{Names, first_name, other_names, missing_text}
use Rattle.dynamo_de.specs.Answer as answer
use Rattle.dynamo_shape.proofs.Alike.{same_refl}
use Rattle.std.specs.Option.{is_some}

-- a datum in front of what follows
abbrev pub front_of : Datum → Data → Data
front_of d ds = d ∷ ds

-- a field was read where its slot is filled
pub there_alike : {T : Type 0} (s : Shape) (tells : T → Datum) (x : Option T) (os : Slots) → IsRead s tells x (first_slot os) → is_some x ≡ is_there (first_slot os)
there_alike {T} s tells x os h = along x (first_slot os) h
  where
    along : (x : Option T) (o : Option Datum) → IsRead s tells x o → is_some x ≡ is_there o
    along None None h = refl
    along (Some v) (Some d) h = refl
    along None (Some d) h = absurd h
    along (Some v) None h = absurd h

module _ {T : Type 0} (s : Shape) (tells : T → Datum) where
  abbrev shapes : Shapes → Shapes
  shapes ss = s ∷ ss

  abbrev told : T → Data → Data
  told v ds = tells v ∷ ds

  alike : (v : T) (d : Datum) → (conforms s (tells v) → Same d (tells v)) → AlikeFront shapes told (front_of d) v
  alike v d h ss ds es c others = (h c.0, others c.1)

  -- ---- the field of what was read so far

  module _ {N E : Type 0} (fault : E → Fault) (default : Absence) (ns : Names) (named : N → Names) (ss : Shapes) (gs : Defaults) (os more : Slots) where
    abbrev All : Result (T × N) E → Type 0
    All = Completes fault shapes told (complete (s ∷ ss) (default ∷ gs) os) (complete ss gs more) (missed_name ns (s ∷ ss) (default ∷ gs) os) (λ others. missed_name (named others) ss gs more)

    module _ (others : N) (behind : named others ≡ other_names ns) where
      made : (v : T) (d : Datum) → value_or (first_slot os) (missing s default) ≡ answer.value d → (conforms s (tells v) → Same d (tells v)) → more ≡ other_slots os → All (Ok (v, others))
      made v d is same at = ((front_of d, rw (is, at) refl, alike v d same), rw (is, at, behind) refl)

      pub field_there : (v : T) → HoldsField s tells (Some v) os more → All (Ok (v, others))
      field_there v h = along (first_slot os) refl h.0
        where
          along : (o : Option Datum) → first_slot os ≡ o → IsRead s tells (Some v) o → All (Ok (v, others))
          along None is r = absurd r
          along (Some d) is r = made v d (rw is refl) r h.1

      pub field_absent : (v : T) → missing s default ≡ answer.value (tells v) → HoldsField s tells None os more → All (Ok (v, others))
      field_absent v is h = along (first_slot os) refl h.0
        where
          along : (o : Option Datum) → first_slot os ≡ o → IsRead s tells None o → All (Ok (v, others))
          along None at r = made v (tells v) (rw at is) (λ _. same_refl (tells v)) h.1
          along (Some d) at r = absurd r

    pub field_missed : (e : E) → missing s default ≡ answer.refused → HoldsField s tells None os more → (fault e ≡ message (missing_text (first_name ns))) ⊎ (fault e ≡ out_of_memory) → All (Err e)
    field_missed e is h (inr lacks) = inl lacks
    field_missed e is h (inl told) = along (first_slot os) refl h.0
      where
        along : (o : Option Datum) → first_slot os ≡ o → IsRead s tells None o → All (Err e)
        along None at r = inr (first_name ns, rw (at, is) refl, rw (at, is) refl, told)
        along (Some d) at r = absurd r

  -- ---- the field in order

  pub element_read : {D : Type 0} (source : D → Source) (reads : Source → Result T Fault → Type 0) (by_shape : ReadsByShape s tells reads) (ss : Shapes) (left new : List Source) (d : D) (v : T) → TakesElement source left new (Some d)
      → reads (source d) (Ok v) → Makes shapes told (read_fields (s ∷ ss) left) (read_fields ss new) (Some v)
  element_read source reads by_shape ss [] new d v taken h = cc
  element_read source reads by_shape ss (x ∷ xs) new d v taken h =
      let a = by_shape x (Ok v) (subst (λ s. reads s (Ok v)) taken.1 h) in
      (front_of a.0, rw (a.1, taken.0) refl, alike v a.0 a.2)
