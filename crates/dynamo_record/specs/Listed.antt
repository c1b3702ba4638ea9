-- Lists of fields by their types, each put in front of whatever follows, so that two lists are one
-- list by going on with the second after the first.
use Rattle.std.specs.Prelude.{◌≡◌, ◌⊎◌, ◌+◌, ℕ, suc, Bool, true, false, List, ◌∷◌, Option, Some}
use Rattle.std.specs.Prelude.{None, Result, Ok, Err, length, ⊤}
use Rattle.std.proofs.Common.{zero}
use Rattle.dynamo_value.specs.Fault.{Fault, message, out_of_memory}
use Rattle.dynamo_ser.specs.Datum.{Datum}
use Rattle.dynamo_de.specs.Answer.{Answer, refused, After}
use Rattle.dynamo_de.specs.Source.{Source, Text}
use Rattle.dynamo_shape.specs.Absence.{Absence}
use Rattle.dynamo_shape.specs.Conforms.{conforms}
use Rattle.dynamo_shape.specs.Permits.{Permits}
use Rattle.dynamo_shape.specs.Read.{into}
use Rattle.dynamo_shape.specs.Same.{Same}
use Rattle.dynamo_shape.specs.Shape.{Shape}
use Rattle.dynamo_shape.proofs.FieldsByName.{Slots, first_slot, other_slots, fill_slot}
use Rattle.dynamo_record.specs.About.{About}
use Rattle.dynamo_record.specs.Names.{missing_text}
use Rattle.dynamo_record.specs.Fields.{ConformEach, SameData, AsMany, Defaults, read_nth}

abbrev pub Shapes : Type 0
Shapes = List Shape

abbrev pub Data : Type 0
Data = List Datum

-- values whose data are the same, in front of others, are the same by value, and what follows is
-- the same
abbrev pub FrontTold : {L : Type 0} → (Shapes → Shapes) → (L → Data → Data) → (L → L → Type 0)
    → Type 0
FrontTold {L} shapes told same = (v w : L) (ss : Shapes) (ds es : Data)
    → ConformEach (shapes ss) (told v ds)
    → ConformEach (shapes ss) (told w es)
    → SameData (told v ds) (told w es)
    → same v w × ConformEach ss ds × ConformEach ss es × SameData ds es

-- values that are the same by value tell the same data, where what follows is the same
abbrev pub FrontAlike : {L : Type 0} → (Shapes → Shapes) → (L → Data → Data) → (L → L → Type 0)
    → Type 0
FrontAlike {L} shapes told same = (v w : L) (ss : Shapes) (ds es : Data)
    → ConformEach (shapes ss) (told v ds)
    → ConformEach (shapes ss) (told w es)
    → same v w
    → (ConformEach ss ds → ConformEach ss es → SameData ds es)
    → SameData (told v ds) (told w es)

-- as many data are told as there are shapes, where so many follow
abbrev pub FrontMany : {L : Type 0} → (Shapes → Shapes) → (L → Data → Data) → Type 0
FrontMany {L} shapes told = (v : L) (ss : Shapes) (ds : Data) → AsMany ss ds
    → AsMany (shapes ss) (told v ds)

-- What is known of a list of fields: how many they are; their shapes, defaults and data in front of
-- others; when two values are the same, field by field; and that they are so exactly where they
-- tell the same data.
pub record AboutList (L : Type 0) : Type 1 where
  pub count : ℕ
  pub shapes : Shapes → Shapes
  pub defaults : Defaults → Defaults
  pub told : L → Data → Data
  pub same : L → L → Type 0
  pub told_by_value : FrontTold shapes told same
  pub told_alike : FrontAlike shapes told same
  pub many : FrontMany shapes told

abbrev pub about_field : {V L : Type 0} → (L → V) → About V → Absence → AboutList L
about_field value a default = record {
  count = 1;
  shapes = λ ss. a.shape ∷ ss;
  defaults = λ gs. default ∷ gs;
  told = λ f ds. a.tells (value f) ∷ ds;
  same = λ f g. a.same (value f) (value g);
  told_by_value = λ f g ss ds es c d h. (a.told_by_value (value f) (value g) c.0 d.0 h.0, c.1, d.1, h.1);
  told_alike = λ f g ss ds es c d h others. (a.told_alike (value f) (value g) c.0 d.0 h, others c.1 d.1);
  many = λ f ss ds m. m;
}

module _ {L R : Type 0} (l : AboutList L) (r : AboutList R) where
  abbrev pub both_shapes : Shapes → Shapes
  both_shapes ss = l.shapes (r.shapes ss)

  abbrev pub both_told : L × R → Data → Data
  both_told p ds = l.told p.0 (r.told p.1 ds)

  abbrev pub both_same : L × R → L × R → Type 0
  both_same p q = l.same p.0 q.0 × r.same p.1 q.1

  pub both_by_value : FrontTold both_shapes both_told both_same
  both_by_value p q ss ds es c d h =
      let left = l.told_by_value p.0 q.0 (r.shapes ss) (r.told p.1 ds) (r.told q.1 es) c d h in
      let right = r.told_by_value p.1 q.1 ss ds es left.1 left.2 left.3 in
      ((left.0, right.0), right.1, right.2, right.3)

  pub both_alike : FrontAlike both_shapes both_told both_same
  both_alike p q ss ds es c d h others = l.told_alike p.0 q.0 (r.shapes ss) (r.told p.1 ds)
      (r.told q.1 es) c d h.0 (λ x y. r.told_alike p.1 q.1 ss ds es x y h.1 others)

  abbrev pub about_both : AboutList (L × R)
  about_both = record {
    count = l.count + r.count;
    shapes = both_shapes;
    defaults = λ gs. l.defaults (r.defaults gs);
    told = both_told;
    same = both_same;
    told_by_value = both_by_value;
    told_alike = both_alike;
    many = λ p ss ds m. l.many p.0 (r.shapes ss) (r.told p.1 ds) (r.many p.1 ss ds m);
  }

-- ---- what is read

-- The slots of data in front of others are those that were read so far.
abbrev pub Holds : Type 0 → Type 1
Holds X = X → Slots → Slots → Type 0

-- the value that was read tells the datum, so far as it conforms
abbrev pub IsRead : {T : Type 0} → Shape → (T → Datum) → Option T → Option Datum → Type 0
IsRead s tells None None = ⊤
IsRead s tells (Some v) (Some d) = conforms s (tells v) → Same d (tells v)
IsRead s tells _ _ = ⊥

abbrev pub HoldsField : {T : Type 0} → Shape → (T → Datum) → Holds (Option T)
HoldsField s tells x os more = IsRead s tells x (first_slot os) × (more ≡ other_slots os)

abbrev pub HoldsBoth : {X Y : Type 0} → Holds X → Holds Y → Holds (X × Y)
HoldsBoth left right x os more = (rest : Slots) × left x.0 os rest × right x.1 rest more

-- a slot after these may be filled
abbrev pub HoldsBehind : {X : Type 0} → ℕ → Holds X → Type 0
HoldsBehind {X} count holds = (x : X) (os more : Slots) (i : ℕ) (d : Datum) → holds x os more
    → holds x (fill_slot (count + i) d os) (fill_slot i d more)

abbrev pub is_there : Option Datum → Bool
is_there None = false
is_there (Some d) = true

-- whether the field of a number was read
abbrev pub is_filled : ℕ → Slots → Bool
is_filled zero os = is_there (first_slot os)
is_filled (suc i) os = is_filled i (other_slots os)

-- a slot after these is filled where it is among those that follow
abbrev pub FilledBehind : {X : Type 0} → ℕ → Holds X → Type 0
FilledBehind {X} count holds = (x : X) (os more : Slots) (i : ℕ) → holds x os more
    → is_filled (count + i) os ≡ is_filled i more

-- the fields after these are those that follow
abbrev pub ReadBehind : ℕ → (Shapes → Shapes) → Type 0
ReadBehind count shapes = (ss : Shapes) (i : ℕ) (source : Source)
    → read_nth (count + i) (shapes ss) source ≡ read_nth i ss source

abbrev pub Counts : ℕ → (Shapes → Shapes) → Type 0
Counts count shapes = (ss : Shapes) → length (shapes ss) ≡ count + length ss

-- so for a value, and not for a fault
abbrev pub IfRead : {X : Type 0} → (X → Type 0) → Result X Fault → Type 0
IfRead P (Ok x) = P x
IfRead P (Err f) = ⊥

-- a source is read by the field of a number, which is then held
abbrev pub Fills : {X : Type 0} → Holds X → Shapes → ℕ → Slots → Slots → X → Source
    → Result (Unit {0}) Fault → Type 0
Fills holds ss i os more new source r = After (read_nth i ss source)
    (λ d. IfRead (λ _. holds new (fill_slot i d os) more)) r

-- what is told is the data in front, so far as it conforms
abbrev pub AlikeFront : {L : Type 0} → (Shapes → Shapes) → (L → Data → Data) → (Data → Data) → L
    → Type 0
AlikeFront shapes told front v = (ss : Shapes) (ds es : Data) → ConformEach (shapes ss) (told v es)
    → (ConformEach ss es → SameData ds es)
    → SameData (front ds) (told v es)

-- a field is missed, and the fault names it
abbrev pub IsMissed : Answer Data → Option Text → Fault → Type 0
IsMissed all missed f = (name : Text) × (all ≡ refused) × (missed ≡ Some name)
    × (f ≡ message (missing_text name))

-- the fields are made of what is read first, and the others are what is read then; where a field is
-- missed all is refused
abbrev pub Makes : {L : Type 0} → (Shapes → Shapes) → (L → Data → Data) → Answer Data → Answer Data
    → Option L → Type 0
Makes shapes told all others None = all ≡ refused
Makes shapes told all others (Some v) = (front : Data → Data) × (all ≡ into front others)
    × AlikeFront shapes told front v

-- the same where no field of the list is missed, so that the first which is missed comes after;
-- one that is missed is refused by its name
abbrev pub Completes : {L N E : Type 0} → (E → Fault) → (Shapes → Shapes) → (L → Data → Data)
    → Answer Data → Answer Data → Option Text → (N → Option Text) → Result (L × N) E → Type 0
Completes fault shapes told all others missed behind (Ok p) = Makes shapes told all others
    (Some p.0)
    × (missed ≡ behind p.1)
Completes fault shapes told all others missed behind (Err e) = (fault e ≡ out_of_memory)
    ⊎ IsMissed all missed (fault e)

-- the same of a call that reads, and so may meet a fault
abbrev pub MakesOrFails : {L E : Type 0} → (E → Fault) → (Shapes → Shapes) → (L → Data → Data)
    → Answer Data → Answer Data → Result (Option L) E → Type 0
MakesOrFails fault shapes told all others (Ok o) = Makes shapes told all others o
MakesOrFails fault shapes told all others (Err e) = (fault e ≡ out_of_memory)
    ⊎ Permits SameData all (Err (fault e))
