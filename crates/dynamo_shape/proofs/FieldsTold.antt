-- Structs, sets and newtypes that tell the same data are the same by value, part by part, and the other way round.
use Rattle.std.proofs.Common.{◌≡◌, Bool, true, false, cond, refl, sym, ap, subst, ◌∙◌}
use Rattle.dynamo_shape.proofs.Common.{⊤, true≢false, Global, Vec, Datum, Elements, Fields, SetKind}
use Rattle.dynamo_shape.proofs.Common.{symbol, Text, Absence, is_left_out, put_field, SameEach}
use Rattle.dynamo_shape.proofs.Common.{is_field, conforms, conform_fields, AllElements}
use Rattle.dynamo_shape.proofs.Common.{IsToldByValue, ToldAlike, Same, SameFields, Shape}
use Rattle.dynamo_shape.proofs.Common.{FieldShapes, no_field_shapes, field_shape}
use Rattle.dynamo_ser.specs.Datum as datum
use Rattle.dynamo_shape.specs.Shape as shape
use Rattle.dynamo_ser.specs.Parts.{content_in, elements_in, fields_in, first_in, others_in}
use Rattle.dynamo_shape.proofs.Alike.{same_refl}
use Rattle.dynamo_shape.proofs.Found.{is_first, is_later}
use Rattle.dynamo_shape.proofs.LeftOut.{left_alike, one_left}
use Rattle.dynamo_shape.proofs.ByValue.{list_told, list_alike}
use Rattle.dynamo_shape.proofs.Lists.{told_each}

-- ---- a field in front, unless it is left out

-- the first of these has a name of the shapes'
abbrev pub FirstNamed : FieldShapes → Fields → Type 0
FirstNamed fs datum.no_fields = ⊤
FirstNamed fs (datum.field name d gs) = is_field fs name ≡ true

pub put_named : (name : Text) (s : Shape) (default : Absence) (fs : FieldShapes) (d : Datum) (gs : Fields) → FirstNamed fs gs → FirstNamed (field_shape name s default fs) (put_field name default d gs)
put_named name s default fs d gs h = elim (is_left_out default d) as (λ b. FirstNamed (field_shape name s default fs) (cond b gs (datum.field name d gs))) [ true ↦ later gs h | false ↦ is_first name s default fs ]
  where
    later : (hs : Fields) → FirstNamed fs hs → FirstNamed (field_shape name s default fs) hs
    later datum.no_fields k = tt
    later (datum.field own e hs) k = is_later name s default fs own k

conform_named : (fs : FieldShapes) (gs : Fields) → conform_fields fs gs → FirstNamed fs gs
conform_named no_field_shapes gs c = subst (FirstNamed no_field_shapes) (sym c) tt
conform_named (field_shape name s default fs) gs c = subst (FirstNamed (field_shape name s default fs)) (sym c.2) (put_named name s default fs c.0 c.1 (conform_named fs c.1 c.4))

same_named : (fs : FieldShapes) (gs hs : Fields) → SameFields gs hs → FirstNamed fs gs → FirstNamed fs hs
same_named fs datum.no_fields hs h k = subst (FirstNamed fs) (sym h) tt
same_named fs (datum.field name d gs) hs h k = subst (FirstNamed fs) (sym h.2) k

named_same : (fs : FieldShapes) (gs hs : Fields) → SameFields gs hs → FirstNamed fs hs → FirstNamed fs gs
named_same fs datum.no_fields hs h k = tt
named_same fs (datum.field name d gs) hs h k = subst (FirstNamed fs) h.2 k

module _ (name : Text) (s : Shape) (default : Absence) (fs : FieldShapes) (n : is_field fs name ≡ false) where
  not_first : (d : Datum) (gs : Fields) → ¬ (FirstNamed fs (datum.field name d gs))
  not_first d gs h = true≢false (sym h ∙ n)

  conforms_at : (d e : Datum) (gs hs : Fields) (b c : Bool) → is_left_out default d ≡ b → is_left_out default e ≡ c → cond b gs (datum.field name d gs) ≡ cond c hs (datum.field name e hs) → FirstNamed fs gs → conforms s e → conform_fields fs hs → conforms s d × conform_fields fs gs
  conforms_at d e gs hs true true p q h f c r = (subst (conforms s) (sym (one_left default d e p q)) c, subst (conform_fields fs) (sym h) r)
  conforms_at d e gs hs true false p q h f c r = absurd (not_first e hs (subst (FirstNamed fs) h f))
  conforms_at d e gs hs false true p q h f c r = absurd (not_first d gs (conform_named fs (datum.field name d gs) (subst (conform_fields fs) (sym h) r)))
  conforms_at d e gs hs false false p q h f c r = (subst (conforms s) (sym (ap first_in h)) c, subst (conform_fields fs) (sym (ap others_in h)) r)

  pub first_conforms : (d : Datum) (gs : Fields) → FirstNamed fs gs → conform_fields (field_shape name s default fs) (put_field name default d gs) → conforms s d × conform_fields fs gs
  first_conforms d gs f c = conforms_at d c.0 gs c.1 (is_left_out default d) (is_left_out default c.0) refl refl c.2 f c.3 c.4

  told_at : (d e : Datum) (gs hs : Fields) (c : Bool) → is_left_out default e ≡ c → datum.field name d gs ≡ cond c hs (datum.field name e hs) → conform_fields fs hs → is_left_out default d ≡ false
  told_at d e gs hs true p h r = absurd (not_first d gs (conform_named fs (datum.field name d gs) (subst (conform_fields fs) (sym h) r)))
  told_at d e gs hs false p h r = ap (is_left_out default) (ap first_in h) ∙ p

  -- a field that is told is not to be left out
  pub told_alone : (d : Datum) (gs : Fields) → conform_fields (field_shape name s default fs) (datum.field name d gs) → is_left_out default d ≡ false
  told_alone d gs c = told_at d c.0 gs c.1 (is_left_out default c.0) refl c.2 c.4

  same_at : (d e : Datum) (gs hs : Fields) (b c : Bool) → is_left_out default d ≡ b → is_left_out default e ≡ c → SameFields (cond b gs (datum.field name d gs)) (cond c hs (datum.field name e hs)) → FirstNamed fs gs → FirstNamed fs hs → Same d e × SameFields gs hs
  same_at d e gs hs true true p q h f g = (subst (Same d) (one_left default d e p q) (same_refl d), h)
  same_at d e gs hs true false p q h f g = absurd (not_first e hs (same_named fs gs (datum.field name e hs) h f))
  same_at d e gs hs false true p q h f g = absurd (not_first d gs (named_same fs (datum.field name d gs) hs h g))
  same_at d e gs hs false false p q h f g = (subst (Same d) (sym (ap first_in h.2)) h.3, subst (SameFields gs) (sym (ap others_in h.2)) h.4)

  pub first_same : (d e : Datum) (gs hs : Fields) → FirstNamed fs gs → FirstNamed fs hs → SameFields (put_field name default d gs) (put_field name default e hs) → Same d e × SameFields gs hs
  first_same d e gs hs f g h = same_at d e gs hs (is_left_out default d) (is_left_out default e) refl refl h f g

pub put_same : (name : Text) (default : Absence) (d e : Datum) (gs hs : Fields) → Same d e → SameFields gs hs → SameFields (put_field name default d gs) (put_field name default e hs)
put_same name default d e gs hs h k =
    subst (λ b. SameFields (put_field name default d gs) (cond b hs (datum.field name e hs))) (left_alike default d e h)
    (elim (is_left_out default d) as (λ b. SameFields (cond b gs (datum.field name d gs)) (cond b hs (datum.field name e hs))) [ true ↦ k | false ↦ (e, hs, refl, h, k) ])

-- ---- fields that tell the same data

-- the first is named by the shapes, and values whose fields tell the same data are the same
pub AreTold : {V : Type 0} → FieldShapes → (V → Fields) → (V → V → Type 0) → Type 0
AreTold {V} fs tells same = ((v : V) → FirstNamed fs (tells v)) × ((v w : V) → conform_fields fs (tells v) → conform_fields fs (tells w) → SameFields (tells v) (tells w) → same v w)

-- the first field, and then the others
pub first_told : {V A : Type 0} (name : Text) (s : Shape) (default : Absence) (fs : FieldShapes) (part : V → A) (tells : A → Datum) (same : A → A → Type 0) (others : V → Fields) (same_others : V → V → Type 0) → is_field fs name ≡ false → IsToldByValue s tells same → AreTold fs others same_others → AreTold (field_shape name s default fs) (λ v. put_field name default (tells (part v)) (others v)) (λ v w. same (part v) (part w) × same_others v w)
unfolding AreTold
first_told name s default fs part tells same others same_others n here more = (
  λ v. put_named name s default fs (tells (part v)) (others v) (more.0 v),
  λ v w c d h.
      let p = first_conforms name s default fs n (tells (part v)) (others v) (more.0 v) c in
      let q = first_conforms name s default fs n (tells (part w)) (others w) (more.0 w) d in
      let r = first_same name s default fs n (tells (part v)) (tells (part w)) (others v) (others w) (more.0 v) (more.0 w) h in
      (here (part v) (part w) p.0 q.0 r.0, more.1 v w p.1 q.1 r.1),
)

no_more_told : (V : Type 0) → AreTold {V = V} no_field_shapes (λ v. datum.no_fields) (λ v w. ⊤)
unfolding AreTold
no_more_told V = (λ v. tt, λ v w c d h. tt)

-- the last field
pub last_told : {V A : Type 0} (name : Text) (s : Shape) (default : Absence) (part : V → A) (tells : A → Datum) (same : A → A → Type 0) → IsToldByValue s tells same → AreTold (field_shape name s default no_field_shapes) (λ v. put_field name default (tells (part v)) datum.no_fields) (λ v w. same (part v) (part w))
unfolding AreTold
last_told name s default part tells same here =
    let r = first_told name s default no_field_shapes part tells same (λ v. datum.no_fields) (λ v w. ⊤) refl here (no_more_told _) in
    (r.0, λ v w c d h. (r.1 v w c d h).0)

pub struct_told : {V : Type 0} (name : Text) (fs : FieldShapes) (fields : V → Fields) (same : V → V → Type 0) → AreTold fs fields same → IsToldByValue (shape.struct name fs) (λ v. datum.struct name (fields v)) same
unfolding AreTold
struct_told name fs fields same h v w c d e =
    h.1 v w (subst (conform_fields fs) (sym (ap fields_in c.1)) c.2) (subst (conform_fields fs) (sym (ap fields_in d.1)) d.2) (subst (SameFields (fields v)) (sym (ap fields_in e.1)) e.2)

-- ---- fields that are the same by value

-- the first is named by the shapes, and values that are the same tell the same data in their fields
pub AreToldAlike : {V : Type 0} → FieldShapes → (V → Fields) → (V → V → Type 0) → Type 0
AreToldAlike {V} fs tells same = ((v : V) → FirstNamed fs (tells v)) × ((v w : V) → conform_fields fs (tells v) → conform_fields fs (tells w) → same v w → SameFields (tells v) (tells w))

-- the first field, and then the others
pub first_alike : {V A : Type 0} (name : Text) (s : Shape) (default : Absence) (fs : FieldShapes) (part : V → A) (tells : A → Datum) (same : A → A → Type 0) (others : V → Fields) (same_others : V → V → Type 0) → is_field fs name ≡ false → ToldAlike s tells same → AreToldAlike fs others same_others → AreToldAlike (field_shape name s default fs) (λ v. put_field name default (tells (part v)) (others v)) (λ v w. same (part v) (part w) × same_others v w)
unfolding AreToldAlike
first_alike name s default fs part tells same others same_others n here more = (
  λ v. put_named name s default fs (tells (part v)) (others v) (more.0 v),
  λ v w c d h.
      let p = first_conforms name s default fs n (tells (part v)) (others v) (more.0 v) c in
      let q = first_conforms name s default fs n (tells (part w)) (others w) (more.0 w) d in
      put_same name default (tells (part v)) (tells (part w)) (others v) (others w) (here (part v) (part w) p.0 q.0 h.0) (more.1 v w p.1 q.1 h.1),
)

no_more_alike : (V : Type 0) → AreToldAlike {V = V} no_field_shapes (λ v. datum.no_fields) (λ v w. ⊤)
unfolding AreToldAlike
no_more_alike V = (λ v. tt, λ v w c d h. refl)

-- the last field
pub last_alike : {V A : Type 0} (name : Text) (s : Shape) (default : Absence) (part : V → A) (tells : A → Datum) (same : A → A → Type 0) → ToldAlike s tells same → AreToldAlike (field_shape name s default no_field_shapes) (λ v. put_field name default (tells (part v)) datum.no_fields) (λ v w. same (part v) (part w))
unfolding AreToldAlike
last_alike name s default part tells same here =
    let r = first_alike name s default no_field_shapes part tells same (λ v. datum.no_fields) (λ v w. ⊤) refl here (no_more_alike _) in
    (r.0, λ v w c d h. r.1 v w c d (h, tt))

pub struct_alike : {V : Type 0} (name : Text) (fs : FieldShapes) (fields : V → Fields) (same : V → V → Type 0) → AreToldAlike fs fields same → ToldAlike (shape.struct name fs) (λ v. datum.struct name (fields v)) same
unfolding AreToldAlike
struct_alike name fs fields same h v w c d e = (fields w, refl, h.1 v w (subst (conform_fields fs) (sym (ap fields_in c.1)) c.2) (subst (conform_fields fs) (sym (ap fields_in d.1)) d.2) e)

-- ---- sets

in_set : (k : SetKind) (s : Shape) (ds : Elements) → conforms (shape.set k s) (datum.newtype_struct (symbol k) (datum.seq ds)) → conforms (shape.list s) (datum.seq ds)
in_set k s ds c = (ds, refl, subst (AllElements (conforms s)) (sym (ap elements_in c.1)) c.2)

-- a list that is written as a set
pub set_told : {T : Type 0} (k : SetKind) (s : Shape) (tells : T → Datum) (same : T → T → Type 0) → IsToldByValue s tells same → IsToldByValue {T = Vec T Global} (shape.set k s) (λ v. datum.newtype_struct (symbol k) (datum.seq (told_each tells v.items))) (λ v w. SameEach same v.items w.items)
set_told k s tells same h v w c d e =
    list_told s tells same h v w (in_set k s (told_each tells v.items) c) (in_set k s (told_each tells w.items) d) (subst (Same (datum.seq (told_each tells v.items))) (sym (ap content_in e.1)) e.2)

pub set_alike : {T : Type 0} (k : SetKind) (s : Shape) (tells : T → Datum) (same : T → T → Type 0) → ToldAlike s tells same → ToldAlike {T = Vec T Global} (shape.set k s) (λ v. datum.newtype_struct (symbol k) (datum.seq (told_each tells v.items))) (λ v w. SameEach same v.items w.items)
set_alike k s tells same h v w c d e = (datum.seq (told_each tells w.items), refl, list_alike s tells same h v w (in_set k s (told_each tells v.items) c) (in_set k s (told_each tells w.items) d) e)

-- ---- newtypes

pub newtype_told : {V : Type 0} (name : Text) (s : Shape) (tells : V → Datum) (same : V → V → Type 0) → IsToldByValue s tells same → IsToldByValue (shape.newtype name s) (λ v. datum.newtype_struct name (tells v)) same
newtype_told name s tells same h v w c d e =
    h v w (subst (conforms s) (sym (ap content_in c.1)) c.2) (subst (conforms s) (sym (ap content_in d.1)) d.2) (subst (Same (tells v)) (sym (ap content_in e.1)) e.2)

pub newtype_alike : {V : Type 0} (name : Text) (s : Shape) (tells : V → Datum) (same : V → V → Type 0) → ToldAlike s tells same → ToldAlike (shape.newtype name s) (λ v. datum.newtype_struct name (tells v)) same
newtype_alike name s tells same h v w c d e = (tells w, refl, h v w (subst (conforms s) (sym (ap content_in c.1)) c.2) (subst (conforms s) (sym (ap content_in d.1)) d.2) e)
