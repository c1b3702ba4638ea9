-- What a variant can hold: nothing, one value, several, or several under names.
use Rattle.std.specs.Prelude.{◌≡◌, true, length, [], ⊤}
use Rattle.std.proofs.Common.{refl, sym, ap, subst}
use Rattle.dynamo_ser.specs.Datum as datum
use Rattle.dynamo_ser.specs.Datum.{Datum, Variant, elements_of}
use Rattle.dynamo_ser.specs.Parts.{content_in, elements_in, fields_in}
use Rattle.dynamo_shape.specs.Conforms.{conforms, conform_each, conform_fields, conforms_content}
use Rattle.dynamo_shape.specs.Same.{Same, SameElements, SameFields}
use Rattle.dynamo_shape.specs.Shape as shape
use Rattle.dynamo_shape.specs.Shape.{FieldShapes}
use Rattle.dynamo_record.specs.About.{About}
use Rattle.dynamo_record.specs.Fields.{ConformEach, AsMany, shapes_of, field_shapes, named_fields}
use Rattle.dynamo_record.specs.InOrder.{each_element, elements_same, same_each}
use Rattle.dynamo_record.specs.Listed.{AboutList}
use Rattle.dynamo_record.specs.Names.{Names, differ}
use Rattle.dynamo_record.specs.Apart.{names_differ}
use Rattle.dynamo_shape.proofs.FieldsByName.{NamesDiffer}
use Rattle.dynamo_record.specs.Told.{each_field, fields_same, data_same}
use Rattle.dynamo_record.specs.Variants.{AboutContent}

-- ---- nothing

abbrev pub about_nothing : {C : Type 0} → AboutContent C
about_nothing = record {
  shape = shape.nothing;
  told = λ v _. datum.unit_variant v;
  same = λ _ _. ⊤;
  told_index = λ _ _. refl;
  fit = ⊤;
  told_by_value = λ _ _ _ _ _ _ _. tt;
  told_alike = λ _ _ _ _ _ _ _. refl;
}

-- ---- one value

module _ {C T : Type 0} (value : C → T) (a : About T) where
  abbrev pub one_told : Variant → C → Datum
  one_told v x = datum.newtype_variant v (a.tells (value x))

  value_conforms : (v : Variant) (x : C) → conforms_content (shape.one a.shape) v (one_told v x)
      → conforms a.shape (a.tells (value x))
  value_conforms v x c = subst (conforms a.shape) (sym (ap content_in c.1)) c.2

  pub one_by_value : (v : Variant) (x y : C) → conforms_content (shape.one a.shape) v (one_told v x)
      → conforms_content (shape.one a.shape) v (one_told v y)
      → Same (one_told v x) (one_told v y)
      → a.same (value x) (value y)
  one_by_value v x y c d h = a.told_by_value (value x) (value y) (value_conforms v x c)
      (value_conforms v y d) (subst (Same (a.tells (value x))) (sym (ap content_in h.1)) h.2)

  pub one_alike : (v : Variant) (x y : C) → conforms_content (shape.one a.shape) v (one_told v x)
      → conforms_content (shape.one a.shape) v (one_told v y)
      → a.same (value x) (value y)
      → Same (one_told v x) (one_told v y)
  one_alike v x y c d h = (
    a.tells (value y),
    refl,
    a.told_alike (value x) (value y)
        (value_conforms v x c) (value_conforms v y d) h,
  )

  abbrev pub about_one : AboutContent C
  about_one = record {
    shape = shape.one a.shape;
    told = one_told;
    same = λ x y. a.same (value x) (value y);
    told_index = λ _ _. refl;
    fit = ⊤;
    told_by_value = λ _. one_by_value;
    told_alike = λ _. one_alike;
  }

-- ---- several

module _ {C L : Type 0} (list : C → L) (a : AboutList L) where
  abbrev pub several_told : Variant → C → Datum
  several_told v x = datum.tuple_variant v (elements_of (a.told (list x) []))

  values_conform : (v : Variant) (x : C)
      → conforms_content (shape.several (shapes_of (a.shapes []))) v (several_told v x)
      → ConformEach (a.shapes []) (a.told (list x) [])
  values_conform v x c = each_element (a.shapes []) (a.told (list x) [])
      (subst (conform_each (shapes_of (a.shapes []))) (sym (ap elements_in c.1)) c.2)

  pub several_by_value : (v : Variant) (x y : C)
      → conforms_content (shape.several (shapes_of (a.shapes []))) v (several_told v x)
      → conforms_content (shape.several (shapes_of (a.shapes []))) v (several_told v y)
      → Same (several_told v x) (several_told v y)
      → a.same (list x) (list y)
  several_by_value v x y c d h =
      let alike = same_each (a.told (list x) []) (a.told (list y) []) (subst (SameElements (elements_of (a.told (list x) []))) (sym (ap elements_in h.1)) h.2) in
      (a.told_by_value (list x) (list y) [] [] [] (values_conform v x c) (values_conform v y d) alike).0

  pub several_alike : (v : Variant) (x y : C)
      → conforms_content (shape.several (shapes_of (a.shapes []))) v (several_told v x)
      → conforms_content (shape.several (shapes_of (a.shapes []))) v (several_told v y)
      → a.same (list x) (list y)
      → Same (several_told v x) (several_told v y)
  several_alike v x y c d h = (
    elements_of (a.told (list y) []),
    refl,
    elements_same (a.told (list x) []) (a.told (list y) []) (a.told_alike (list x) (list y) [] [] [] (values_conform v x c) (values_conform v y d) h (λ _ _. tt)),
  )

  abbrev pub about_several : AboutContent C
  about_several = record {
    shape = shape.several (shapes_of (a.shapes []));
    told = several_told;
    same = λ x y. a.same (list x) (list y);
    told_index = λ _ _. refl;
    fit = ⊤;
    told_by_value = λ _. several_by_value;
    told_alike = λ _. several_alike;
  }

-- ---- several under names

module _ {C L : Type 0} (names : Names) (list : C → L) (a : AboutList L) where
  -- no two fields have one name, and each has one
  abbrev pub AreApart : Type 0
  AreApart = (differ names ≡ true) × (length names ≡ length (a.shapes []))

  abbrev pub variant_fields : FieldShapes
  variant_fields = field_shapes names (a.shapes []) (a.defaults [])

  abbrev pub named_told : Variant → C → Datum
  named_told v x = datum.struct_variant v (named_fields names (a.defaults []) (a.told (list x) []))

  apart : AreApart → NamesDiffer variant_fields
  apart named = names_differ names (a.shapes []) (a.defaults []) named.0 named.1

  many : (x : C) → AsMany (a.shapes []) (a.told (list x) [])
  many x = a.many (list x) [] [] tt

  each_conforms : AreApart → (v : Variant) (x : C)
      → conforms_content (shape.named variant_fields) v (named_told v x)
      → ConformEach (a.shapes []) (a.told (list x) [])
  each_conforms named v x c = each_field names (a.shapes []) (a.defaults []) (a.told (list x) [])
      (apart named) (many x) (subst (conform_fields variant_fields) (sym (ap fields_in c.1)) c.2)

  pub named_by_value : AreApart → (v : Variant) (x y : C)
      → conforms_content (shape.named variant_fields) v (named_told v x)
      → conforms_content (shape.named variant_fields) v (named_told v y)
      → Same (named_told v x) (named_told v y)
      → a.same (list x) (list y)
  named_by_value named v x y c d h =
      let alike = data_same names (a.shapes []) (a.defaults []) (a.told (list x) []) (a.told (list y) []) (apart named) (many x) (many y) (subst (SameFields (named_fields names (a.defaults []) (a.told (list x) []))) (sym (ap fields_in h.1)) h.2) in
      (a.told_by_value (list x) (list y) [] [] [] (each_conforms named v x c) (each_conforms named v y d) alike).0

  pub named_alike : AreApart → (v : Variant) (x y : C)
      → conforms_content (shape.named variant_fields) v (named_told v x)
      → conforms_content (shape.named variant_fields) v (named_told v y)
      → a.same (list x) (list y)
      → Same (named_told v x) (named_told v y)
  named_alike named v x y c d h = (
    named_fields names (a.defaults []) (a.told (list y) []),
    refl,
    fields_same names (a.defaults []) (a.told (list x) []) (a.told (list y) []) (a.told_alike (list x) (list y) [] [] [] (each_conforms named v x c) (each_conforms named v y d) h (λ _ _. tt)),
  )

  abbrev pub about_named : AboutContent C
  about_named = record {
    shape = shape.named variant_fields;
    told = named_told;
    same = λ x y. a.same (list x) (list y);
    told_index = λ _ _. refl;
    fit = AreApart;
    told_by_value = named_by_value;
    told_alike = named_alike;
  }
