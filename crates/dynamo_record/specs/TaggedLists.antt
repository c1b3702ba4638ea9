-- The variants of an internally tagged enum by the fields after the tag, each put in front of
-- whatever follows, so that two lists are one list by going on with the second after the first.
use Rattle.std.specs.Prelude.{◌≡◌, ◌<◌, ◌+◌, ℕ, suc, true, false, List, [], ◌∷◌, length, ⊤}
use Rattle.std.proofs.Common.{zero, refl, sym, ap, subst, ◌∙◌, arith}
use Rattle.dynamo_ser.specs.Datum.{Fields, no_fields}
use Rattle.dynamo_de.specs.Source.{Text}
use Rattle.dynamo_shape.specs.Absence.{required}
use Rattle.dynamo_shape.specs.Clear.{is_field}
use Rattle.dynamo_shape.specs.Conforms.{conform_fields}
use Rattle.dynamo_shape.specs.Same.{SameFields}
use Rattle.dynamo_shape.specs.Shape as shape
use Rattle.dynamo_shape.specs.Shape.{FieldShapes, no_field_shapes}
use Rattle.dynamo_shape.proofs.FieldsByName.{NamesDiffer}
use Rattle.dynamo_record.specs.Apart.{names_differ}
use Rattle.dynamo_record.specs.Fields.{AsMany, ConformEach, field_shapes, named_fields}
use Rattle.dynamo_record.specs.Listed.{AboutList}
use Rattle.dynamo_record.specs.Names.{Names, differ}
use Rattle.dynamo_record.specs.Records.{AboutRecord}
use Rattle.dynamo_record.specs.Told.{each_field, data_same, fields_same}
use Rattle.dynamo_record.specs.declared.variant_list.Choice.{Choice}
use Rattle.dynamo_record.specs.declared.variant_list.Choice.TheVariants.{Left, Right}

-- of each variant the name of its struct, and the shapes of the fields after the tag
abbrev pub Structs : Type 0
Structs = List (Text × FieldShapes)

-- the struct of the variant with this number, or one without a name and fields after the last
abbrev pub struct_at : ℕ → Structs → Text × FieldShapes
struct_at i [] = ([], no_field_shapes)
struct_at zero (s ∷ ss) = s
struct_at (suc i) (s ∷ ss) = struct_at i ss

-- No two fields have the same name, and none has the tag's.
abbrev pub AreBehind : Text → FieldShapes → Type 0
AreBehind tag fs = (is_field fs tag ≡ false) × NamesDiffer fs

abbrev pub AllBehind : Text → Structs → Type 0
AllBehind tag [] = ⊤
AllBehind tag (s ∷ ss) = AreBehind tag s.1 × AllBehind tag ss

-- ---- one variant

-- What is known of a variant: the name of its struct, by that of the enum; the shapes of its
-- fields; the fields of a value; and when two values are the same, which is exactly if their fields
-- are. The latter if it fits the tag.
pub record AboutStruct (C : Type 0) : Type 1 where
  pub name : Text → Text
  pub fields : FieldShapes
  pub told : C → Fields
  pub same : C → C → Type 0
  pub fit : Text → Type 0
  pub are_behind : (tag : Text) → fit tag → AreBehind tag fields
  pub told_by_value : (tag : Text) → fit tag → (x y : C) → conform_fields fields (told x)
      → conform_fields fields (told y) → SameFields (told x) (told y) → same x y
  pub told_alike : (tag : Text) → fit tag → (x y : C) → conform_fields fields (told x)
      → conform_fields fields (told y) → same x y → SameFields (told x) (told y)

-- a unit variant: no field, under the name of the enum
abbrev pub about_bare : {C : Type 0} → AboutStruct C
about_bare = record {
  name = λ n. n;
  fields = no_field_shapes;
  told = λ _. no_fields;
  same = λ _ _. ⊤;
  fit = λ _. ⊤;
  are_behind = λ _ _. (refl, tt);
  told_by_value = λ _ _ _ _ _ _ _. tt;
  told_alike = λ _ _ _ _ _ _ _. refl;
}

module _ {C L : Type 0} (own : Text → Text) (names : Names) (list : C → L) (a : AboutList L) where
  -- No two fields have the same name, none has the tag's, and each has one.
  abbrev pub FitsTag : Text → Type 0
  FitsTag tag = (differ (tag ∷ names) ≡ true) × (length names ≡ length (a.shapes []))

  abbrev pub behind_fields : FieldShapes
  behind_fields = field_shapes names (a.shapes []) (a.defaults [])

  abbrev pub behind_told : C → Fields
  behind_told x = named_fields names (a.defaults []) (a.told (list x) [])

  pub fields_behind : (tag : Text) → FitsTag tag → AreBehind tag behind_fields
  fields_behind tag fit = names_differ (tag ∷ names) (shape.string ∷ a.shapes [])
      (required ∷ a.defaults []) fit.0 (ap suc fit.1)

  many : (x : C) → AsMany (a.shapes []) (a.told (list x) [])
  many x = a.many (list x) [] [] tt

  each : NamesDiffer behind_fields → (x : C) → conform_fields behind_fields (behind_told x)
      → ConformEach (a.shapes []) (a.told (list x) [])
  each apart x c = each_field names (a.shapes []) (a.defaults []) (a.told (list x) []) apart
      (many x) c

  pub behind_by_value : (tag : Text) → FitsTag tag → (x y : C)
      → conform_fields behind_fields (behind_told x)
      → conform_fields behind_fields (behind_told y)
      → SameFields (behind_told x) (behind_told y)
      → a.same (list x) (list y)
  behind_by_value tag fit x y c d h =
      let apart = (fields_behind tag fit).1 in
      let alike = data_same names (a.shapes []) (a.defaults []) (a.told (list x) []) (a.told (list y) []) apart (many x) (many y) h in
      (a.told_by_value (list x) (list y) [] [] [] (each apart x c) (each apart y d) alike).0

  pub behind_alike : (tag : Text) → FitsTag tag → (x y : C)
      → conform_fields behind_fields (behind_told x)
      → conform_fields behind_fields (behind_told y)
      → a.same (list x) (list y)
      → SameFields (behind_told x) (behind_told y)
  behind_alike tag fit x y c d h =
      let apart = (fields_behind tag fit).1 in
      fields_same names (a.defaults []) (a.told (list x) []) (a.told (list y) []) (a.told_alike (list x) (list y) [] [] [] (each apart x c) (each apart y d) h (λ _ _. tt))

  -- the fields of these names
  abbrev pub about_behind : AboutStruct C
  about_behind = record {
    name = own;
    fields = behind_fields;
    told = behind_told;
    same = λ x y. a.same (list x) (list y);
    fit = FitsTag;
    are_behind = fields_behind;
    told_by_value = behind_by_value;
    told_alike = behind_alike;
  }

-- a struct variant: its fields, under the name of the enum
abbrev pub about_struct_variant : {C L : Type 0} → Names → (C → L) → AboutList L → AboutStruct C
about_struct_variant names list a = about_behind (λ n. n) names list a

-- a newtype variant over a struct: the fields of that struct, under its own name
abbrev pub about_inner : {C V L : Type 0} → (C → V) → AboutRecord V L → AboutList L → AboutStruct C
about_inner value a list = about_behind (λ _. a.name) a.names (λ x. a.parts (value x)) list

-- ---- all variants

-- values of the same variant whose fields are the same are the same
abbrev pub StructTold : {L : Type 0} → (Text → Structs → Structs) → (L → ℕ) → (L → Fields)
    → (L → L → Type 0) → Type 0
StructTold {L} structs place told same = (name : Text) (ss : Structs) (v w : L)
    → conform_fields (struct_at (place v) (structs name ss)).1 (told v)
    → conform_fields (struct_at (place w) (structs name ss)).1 (told w)
    → place v ≡ place w → SameFields (told v) (told w) → same v w

-- and the other way round
abbrev pub StructAlike : {L : Type 0} → (Text → Structs → Structs) → (L → ℕ) → (L → Fields)
    → (L → L → Type 0) → Type 0
StructAlike {L} structs place told same = (name : Text) (ss : Structs) (v w : L)
    → conform_fields (struct_at (place v) (structs name ss)).1 (told v)
    → conform_fields (struct_at (place w) (structs name ss)).1 (told w)
    → same v w
    → (place v ≡ place w) × SameFields (told v) (told w)

-- What is known of a list of variants: how many they are; their structs in front of others, by the
-- name of the enum; the number of a value's variant, and its fields; and when two values are the
-- same, which is exactly if they are the same variant and their fields are. The latter if the
-- variants fit the tag.
pub record AboutTaggedList (L : Type 0) : Type 1 where
  pub count : ℕ
  pub structs : Text → Structs → Structs
  pub place : L → ℕ
  pub told : L → Fields
  pub same : L → L → Type 0
  pub fit : Text → Type 0
  pub are_behind : (tag : Text) → fit tag → (name : Text) (ss : Structs) → AllBehind tag ss
      → AllBehind tag (structs name ss)
  pub told_by_value : (tag : Text) → fit tag → StructTold structs place told same
  pub told_alike : (tag : Text) → fit tag → StructAlike structs place told same
  pub within : (v : L) → place v < count
  pub behind : (name : Text) (ss : Structs) (i : ℕ)
      → struct_at (count + i) (structs name ss) ≡ struct_at i ss
  pub counted : (name : Text) (ss : Structs) → length (structs name ss) ≡ count + length ss

module _ {C : Type 0} (a : AboutStruct C) where
  abbrev pub one_structs : Text → Structs → Structs
  one_structs name ss = (a.name name, a.fields) ∷ ss

  next : (i : ℕ) → suc i ≡ 1 + i
  next i = omega arith

  pub one_behind : (name : Text) (ss : Structs) (i : ℕ)
      → struct_at (1 + i) (one_structs name ss) ≡ struct_at i ss
  one_behind name ss i = subst (λ n. struct_at n (one_structs name ss) ≡ struct_at i ss) (next i)
      refl

  pub one_counted : (name : Text) (ss : Structs) → length (one_structs name ss) ≡ 1 + length ss
  one_counted name ss = omega arith

  abbrev pub about_tagged_one : AboutTaggedList C
  about_tagged_one = record {
    count = 1;
    structs = one_structs;
    place = λ _. 0;
    told = a.told;
    same = a.same;
    fit = a.fit;
    are_behind = λ tag fit name ss h. (a.are_behind tag fit, h);
    told_by_value = λ tag fit name ss v w c d p h. a.told_by_value tag fit v w c d h;
    told_alike = λ tag fit name ss v w c d h. (refl, a.told_alike tag fit v w c d h);
    within = λ v. omega arith;
    behind = one_behind;
    counted = one_counted;
  }

-- ---- two lists of variants

apart : (k m n : ℕ) → m < k → m ≡ k + n → ⊥
apart k m n h e = omega arith

cut : (k m n : ℕ) → k + m ≡ k + n → m ≡ n
cut k m n e = omega arith

grouped : (a b i : ℕ) → a + (b + i) ≡ (a + b) + i
grouped a b i = omega arith

left_within : (a b i : ℕ) → i < a → i < a + b
left_within a b i h = omega arith

right_within : (a b i : ℕ) → i < b → a + i < a + b
right_within a b i h = omega arith

module _ {L R : Type 0} (l : AboutTaggedList L) (r : AboutTaggedList R) where
  abbrev pub either_structs : Text → Structs → Structs
  either_structs name ss = l.structs name (r.structs name ss)

  abbrev pub either_place : Choice L R → ℕ
  either_place (Left v) = l.place v
  either_place (Right w) = l.count + r.place w

  abbrev pub either_told : Choice L R → Fields
  either_told (Left v) = l.told v
  either_told (Right w) = r.told w

  abbrev pub either_same : Choice L R → Choice L R → Type 0
  either_same (Left v) (Left w) = l.same v w
  either_same (Right v) (Right w) = r.same v w
  either_same _ _ = ⊥

  pub right_conforms : (name : Text) (ss : Structs) (w : R)
      → conform_fields (struct_at (l.count + r.place w) (either_structs name ss)).1 (r.told w)
      → conform_fields (struct_at (r.place w) (r.structs name ss)).1 (r.told w)
  right_conforms name ss w c = subst (λ s. conform_fields s.1 (r.told w))
      (l.behind name (r.structs name ss) (r.place w)) c

  pub either_by_value : (tag : Text) → l.fit tag × r.fit tag
      → StructTold either_structs either_place either_told either_same
  either_by_value tag fit name ss (Left v) (Left w) c d p h = l.told_by_value tag fit.0 name
      (r.structs name ss) v w c d p h
  either_by_value tag fit name ss (Left v) (Right w) c d p h = absurd
      (apart l.count (l.place v) (r.place w) (l.within v) p)
  either_by_value tag fit name ss (Right v) (Left w) c d p h = absurd
      (apart l.count (l.place w) (r.place v) (l.within w) (sym p))
  either_by_value tag fit name ss (Right v) (Right w) c d p h =
      r.told_by_value tag fit.1 name ss v w (right_conforms name ss v c) (right_conforms name ss w d) (cut l.count (r.place v) (r.place w) p) h

  pub either_alike : (tag : Text) → l.fit tag × r.fit tag
      → StructAlike either_structs either_place either_told either_same
  either_alike tag fit name ss (Left v) (Left w) c d h = l.told_alike tag fit.0 name
      (r.structs name ss) v w c d h
  either_alike tag fit name ss (Left v) (Right w) c d h = absurd h
  either_alike tag fit name ss (Right v) (Left w) c d h = absurd h
  either_alike tag fit name ss (Right v) (Right w) c d h =
      let p = r.told_alike tag fit.1 name ss v w (right_conforms name ss v c) (right_conforms name ss w d) h in
      (ap (λ n. l.count + n) p.0, p.1)

  pub either_within : (v : Choice L R) → either_place v < l.count + r.count
  either_within (Left v) = left_within l.count r.count (l.place v) (l.within v)
  either_within (Right w) = right_within l.count r.count (r.place w) (r.within w)

  pub either_behind : (name : Text) (ss : Structs) (i : ℕ)
      → struct_at ((l.count + r.count) + i) (either_structs name ss) ≡ struct_at i ss
  either_behind name ss i = ap (λ n. struct_at n (either_structs name ss))
      (sym (grouped l.count r.count i))
      ∙ (l.behind name (r.structs name ss) (r.count + i) ∙ r.behind name ss i)

  pub either_counted : (name : Text) (ss : Structs)
      → length (either_structs name ss) ≡ (l.count + r.count) + length ss
  either_counted name ss = l.counted name (r.structs name ss)
      ∙ (ap (λ n. l.count + n) (r.counted name ss) ∙ grouped l.count r.count (length ss))

  abbrev pub about_tagged_choice : AboutTaggedList (Choice L R)
  about_tagged_choice = record {
    count = l.count + r.count;
    structs = either_structs;
    place = either_place;
    told = either_told;
    same = either_same;
    fit = λ tag. l.fit tag × r.fit tag;
    are_behind = λ tag fit name ss h. l.are_behind tag fit.0 name (r.structs name ss) (r.are_behind tag fit.1 name ss h);
    told_by_value = either_by_value;
    told_alike = either_alike;
    within = either_within;
    behind = either_behind;
    counted = either_counted;
  }
