-- The fields of a struct by their places: reading each entry by the field of its name's place is reading by names.
use Rattle.std.proofs.Common.{◌≡◌, ℕ, zero, suc, List, ◌∷◌, None, refl, ap, subst}
use Rattle.dynamo_record.proofs.Common.{Datum, Fields, value_or, ◌>>=◌, ignore, Text, Entry}
use Rattle.dynamo_record.proofs.Common.{Absence, put_field, read, into, missing, read_field}
use Rattle.dynamo_record.proofs.Common.{fields_by_name, Shape, FieldShapes, no_field_shapes}
use Rattle.dynamo_record.proofs.Common.{field_shape, into_into, read_itself, Slots, first_slot}
use Rattle.dynamo_record.proofs.Common.{other_slots, behind, fill, fill_slot, empty, close}
use Rattle.dynamo_record.proofs.Common.{NamesDiffer, Reads, all_named, pad, fields_from, entry_at}
use Rattle.dynamo_record.proofs.Common.{finish, reads_on, place_in}
use Rattle.dynamo_ser.specs.Datum as datum
use Rattle.dynamo_de.specs.Answer as answer
use Rattle.dynamo_shape.proofs.FieldsByName as slots

abbrev Tail : ℕ → FieldShapes → FieldShapes → Type 0
Tail zero fs all = all ≡ fs
Tail (suc i) fs no_field_shapes = ⊥
Tail (suc i) fs (field_shape n s d gs) = Tail i fs gs

abbrev others_of : FieldShapes → FieldShapes
others_of no_field_shapes = no_field_shapes
others_of (field_shape n s d fs) = fs

abbrev IsField : FieldShapes → Type 0
IsField no_field_shapes = ⊥
IsField (field_shape n s d fs) = Unit {0}

abbrev IsNone : FieldShapes → Type 0
IsNone no_field_shapes = Unit {0}
IsNone (field_shape n s d fs) = ⊥

tail_more : (i : ℕ) (own : Text) (s : Shape) (e : Absence) (fs all : FieldShapes) → Tail i (field_shape own s e fs) all → Tail (suc i) fs all
tail_more zero own s x fs no_field_shapes h = absurd (subst IsNone h tt)
tail_more zero own s x fs (field_shape n t e gs) h = ap others_of h
tail_more (suc i) own s x fs no_field_shapes h = absurd h
tail_more (suc i) own s x fs (field_shape n t e gs) h = tail_more i own s x fs gs h

from_tail : (i : ℕ) (fs all : FieldShapes) → Tail i fs all → fields_from i all ≡ fs
from_tail zero fs all h = h
from_tail (suc i) fs no_field_shapes h = absurd h
from_tail (suc i) fs (field_shape n s d gs) h = from_tail i fs gs h

pad_fill : (i : ℕ) (own : Text) (s : Shape) (e : Absence) (fs all : FieldShapes) (d : Datum) (os : Slots) → Tail i (field_shape own s e fs) all → pad all (behind i (fill d) os) ≡ behind i (fill d) (pad all os)
pad_fill zero own s x fs no_field_shapes d os h = absurd (subst IsNone h tt)
pad_fill zero own s x fs (field_shape n t e gs) d os h = refl
pad_fill (suc i) own s x fs no_field_shapes d os h = absurd h
pad_fill (suc i) own s x fs (field_shape n t e gs) d os h = ap (λ more. first_slot os ∷ more) (pad_fill i own s x fs gs d (other_slots os) h)

pad_end : (i : ℕ) (all : FieldShapes) (os : Slots) → Tail i no_field_shapes all → pad all os ≡ behind i (λ os. os) (pad all os)
pad_end zero no_field_shapes os h = refl
pad_end zero (field_shape n t e gs) os h = refl
pad_end (suc i) no_field_shapes os h = absurd h
pad_end (suc i) (field_shape n t e gs) os h = ap (λ more. first_slot os ∷ more) (pad_end i gs (other_slots os) h)

pub pad_empty : (fs : FieldShapes) → pad fs (empty fs) ≡ empty fs
pad_empty no_field_shapes = refl
pad_empty (field_shape n s d fs) = ap (λ more. None ∷ more) (pad_empty fs)

pub close_pad : (fs : FieldShapes) (os : Slots) → close fs os ≡ close fs (pad fs os)
close_pad no_field_shapes os = refl
close_pad (field_shape name s e fs) os = ap (λ more. value_or (first_slot os) (missing s e) >>= λ d. more >>= λ gs. answer.value (put_field name e d gs)) (close_pad fs (other_slots os))

module _ (all : FieldShapes) where
  pub reads_from : (i : ℕ) (fs : FieldShapes) → Tail i fs all → Reads (entry_at all) (pad all) i fs (place_in i fs)
  reads_from i no_field_shapes h = slots.unknown (entry_at all) (pad all) i i (λ u a. rw (from_tail i no_field_shapes all h) (into_into (λ _. datum.unit) (λ d. u) (ignore a))) (λ u. pad_end i all u h)
  reads_from i (field_shape own s e fs) h =
      slots.known (entry_at all) (pad all) i own s e fs i (place_in (suc i) fs) (read s) (λ d. d) (λ d u. fill_slot i d u) (read_itself s)
      (λ u a. rw (from_tail i (field_shape own s e fs) all h) refl) (λ d u. pad_fill i own s e fs all d u h)
      (reads_from (suc i) fs (tail_more i own s e fs all h))

pub whole : (make : Fields → Datum) (fs : FieldShapes) → NamesDiffer fs → (es : List Entry) → reads_on make fs (empty fs) es ≡ into make (fields_by_name fs (read_field fs) es)
whole make fs h = all_named (entry_at fs) (pad fs) (place_in 0 fs) fs (finish make fs) make h (reads_from fs 0 fs refl) (λ u. ap (into make) (close_pad fs u)) (empty fs) (pad_empty fs)
