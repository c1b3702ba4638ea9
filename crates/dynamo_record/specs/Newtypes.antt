-- Structs of one field without a name, also those that are as their field is, and structs without
-- fields.
use Rattle.std.specs.Prelude.{◌≡◌, Bool, Result, ⊤}
use Rattle.std.proofs.Common.{refl, sym, ap, subst}
use Rattle.std.specs.Ordering.{eq_by_cmp}
use Rattle.std.specs.declared.cmp.Ordering.{Ordering}
use Rattle.dynamo_value.specs.Fault.{Fault}
use Rattle.dynamo_ser.specs.Datum as datum
use Rattle.dynamo_ser.specs.Datum.{Datum}
use Rattle.dynamo_ser.specs.Parts.{content_in}
use Rattle.dynamo_de.specs.Reads.{Through}
use Rattle.dynamo_de.specs.Source.{Source, Text}
use Rattle.dynamo_shape.specs.Conforms.{conforms}
use Rattle.dynamo_shape.specs.Laws.{AnswersByShape, EqualAsTold, ReadsByShape, ToldApart}
use Rattle.dynamo_shape.specs.Read.{read}
use Rattle.dynamo_shape.specs.Same.{Same}
use Rattle.dynamo_shape.specs.Shape as shape
use Rattle.dynamo_shape.specs.Shape.{Shape}
use Rattle.dynamo_shape.proofs.FieldsTold.{newtype_told, newtype_alike}
use Rattle.dynamo_shape.proofs.Lists.{through_permitted}
use Rattle.dynamo_record.specs.About.{About, about_part}
use Rattle.dynamo_record.specs.Keys.{AboutKey, IsKeyOf}

-- what may be answered on a source: what reading at the shape gives
unfoldable pub ReadsAs : {T : Type 0} → About T → Source → Result T Fault → Type 0
ReadsAs a source r = AnswersByShape (conforms a.shape) Same a.tells (read a.shape source) r

pub as_shape : {T : Type 0} (a : About T) → ReadsByShape a.shape a.tells (ReadsAs a)
unfolding ReadsAs
as_shape a source r h = h

-- ---- a transparent struct: its field, and what is known of the field's values

-- what may be answered on a source: a struct round what is read of the field
abbrev pub part_reads : {B V : Type 0} → (B → V) → About V → Source → Result B Fault → Type 0
part_reads field a source r = Through field (ReadsAs a source) r

pub part_by_shape : {B V : Type 0} (field : B → V) (a : About V)
    → ReadsByShape a.shape (λ b. a.tells (field b)) (part_reads field a)
part_by_shape field a = through_permitted a.shape a.tells (ReadsAs a) field (as_shape a)

module _ {B V : Type 0} (field : B → V) (key : AboutKey V) where
  -- equal, and in order, as the fields are
  abbrev pub key_part : AboutKey B
  key_part = record {
    about = about_part field key.about;
    eq = λ b c. key.eq (field b) (field c);
    cmp = λ b c. key.cmp (field b) (field c);
    equal_as_told = λ b c. key.equal_as_told (field b) (field c);
    ordered_as_told = λ b c. key.ordered_as_told (field b) (field c);
    below_as_told = λ b c. key.below_as_told (field b) (field c);
    told_apart = λ b c. key.told_apart (field b) (field c);
  }

  -- where the fields are keys, so are the structs
  pub part_is_key : (own : Shape) (tells : V → Datum) (equal : V → V → Bool)
      (order : V → V → Ordering)
      → IsKeyOf key own tells equal order
      → IsKeyOf key_part own (λ b. tells (field b)) (λ b c. equal (field b) (field c))
      (λ b c. order (field b) (field c))
  part_is_key own tells equal order is = record {
    shape = is.shape;
    tells = λ i b. is.tells i (field b);
    eq = λ i b c. is.eq i (field b) (field c);
    cmp = λ i b c. is.cmp i (field b) (field c);
  }

-- ---- a newtype: its name, its field, and what is known of the field's values

abbrev pub named_newtype : {V : Type 0} → Text → About V → About V
named_newtype name a = record {
  shape = shape.newtype name a.shape;
  tells = λ v. datum.newtype_struct name (a.tells v);
  same = a.same;
  told_by_value = newtype_told name a.shape a.tells a.same a.told_by_value;
  told_alike = newtype_alike name a.shape a.tells a.same a.told_alike;
}

abbrev pub about_newtype : {B V : Type 0} → Text → (B → V) → About V → About B
about_newtype name field a = about_part field (named_newtype name a)

-- what may be answered on a source: a newtype round what is read of the field
abbrev pub newtype_reads : {B V : Type 0} → Text → (B → V) → About V → Source → Result B Fault
    → Type 0
newtype_reads name field a = part_reads field (named_newtype name a)

pub newtype_by_shape : {B V : Type 0} (name : Text) (field : B → V) (a : About V)
    → ReadsByShape (shape.newtype name a.shape) (λ b. datum.newtype_struct name (a.tells (field b)))
    (newtype_reads name field a)
newtype_by_shape name field a = part_by_shape field (named_newtype name a)

module _ {B V : Type 0} (name : Text) (field : B → V) (key : AboutKey V) where
  abbrev told : B → Datum
  told b = datum.newtype_struct name (key.about.tells (field b))

  pub newtype_equal : (eq : V → V → Bool) → EqualAsTold key.about.tells eq
      → EqualAsTold told (λ b c. eq (field b) (field c))
  newtype_equal eq equal b c = let inner = equal (field b) (field c) in (λ t. ap (datum.newtype_struct name) (inner.0 t), λ e. inner.1 (ap content_in e))

  pub newtype_apart : ToldApart told
  newtype_apart b c same = ap (datum.newtype_struct name)
      (key.told_apart (field b) (field c)
      (subst (Same (key.about.tells (field b))) (sym (ap content_in same.1)) same.2))

  -- equal, and in order, as the fields are
  abbrev pub key_newtype : AboutKey B
  key_newtype = record {
    about = about_newtype name field key.about;
    eq = λ b c. key.eq (field b) (field c);
    cmp = λ b c. key.cmp (field b) (field c);
    equal_as_told = newtype_equal key.eq key.equal_as_told;
    ordered_as_told = newtype_equal (eq_by_cmp key.cmp) key.ordered_as_told;
    below_as_told = λ b c. key.below_as_told (field b) (field c);
    told_apart = newtype_apart;
  }

  -- where the fields are keys, so are the newtypes
  pub newtype_is_key : (own : Shape) (tells : V → Datum) (equal : V → V → Bool)
      (order : V → V → Ordering)
      → IsKeyOf key own tells equal order
      → IsKeyOf key_newtype (shape.newtype name own)
      (λ b. datum.newtype_struct name (tells (field b))) (λ b c. equal (field b) (field c))
      (λ b c. order (field b) (field c))
  newtype_is_key own tells equal order is = record {
    shape = ap (shape.newtype name) is.shape;
    tells = λ i b. datum.newtype_struct name (is.tells i (field b));
    eq = λ i b c. is.eq i (field b) (field c);
    cmp = λ i b c. is.cmp i (field b) (field c);
  }

-- ---- a unit struct: its name, and that it has one value alone

abbrev pub about_unit_struct : {T : Type 0} → Text → ((v w : T) → v ≡ w) → About T
about_unit_struct name one = record {
  shape = shape.unit_struct name;
  tells = λ _. datum.unit_struct name;
  same = λ v w. v ≡ w;
  told_by_value = λ v w _ _ _. one v w;
  told_alike = λ _ _ _ _ _. refl;
}

-- what may be answered on a source: the one value, where reading at the shape gives it
unfoldable pub ReadsUnitStruct : Text → Source → Result ⊤ Fault → Type 0
ReadsUnitStruct name source r = AnswersByShape (conforms (shape.unit_struct name)) Same
    (λ _. datum.unit_struct name) (read (shape.unit_struct name) source) r

abbrev pub unit_struct_reads : {T : Type 0} → Text → Source → Result T Fault → Type 0
unit_struct_reads name source r = Through (λ _. tt) (ReadsUnitStruct name source) r

unit_as_shape : (name : Text)
    → ReadsByShape (shape.unit_struct name) (λ _. datum.unit_struct name) (ReadsUnitStruct name)
unfolding ReadsUnitStruct
unit_as_shape name source r h = h

pub unit_struct_by_shape : {T : Type 0} (name : Text)
    → ReadsByShape {T = T} (shape.unit_struct name) (λ _. datum.unit_struct name)
    (unit_struct_reads name)
unit_struct_by_shape name = through_permitted (shape.unit_struct name) (λ _. datum.unit_struct name)
    (ReadsUnitStruct name) (λ _. tt) (unit_as_shape name)
