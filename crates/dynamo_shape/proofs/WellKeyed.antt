-- Conforming data write the same exactly where they are the same but for what is lost.
use Rattle.std.proofs.Common.{◌≡◌, ◌↔◌, ℕ, suc, Bool, true, false, cond, List, [], ◌∷◌, sym, ap, subst, ◌∙◌, inl, inr}
use Rattle.dynamo_shape.proofs.Common.{is_eq-slice_cmp, Text, attribute, Datum, Pairs, no_pairs}
use Rattle.dynamo_shape.proofs.Common.{pair, Fields, Variant, SetKind, strings, numbers, blobs}
use Rattle.dynamo_shape.proofs.Common.{is_left_out, IsElement, AreUnits, NearlyClear}
use Rattle.dynamo_shape.proofs.Common.{NearlyClearAll, NearlyClearFields, NearlyClearContent}
use Rattle.dynamo_shape.proofs.Common.{NearlyClearVariants, NearlyClearTagged, AllElements}
use Rattle.dynamo_shape.proofs.Common.{AllPairs, conforms, conform_each, conform_fields}
use Rattle.dynamo_shape.proofs.Common.{conforms_content, conforms_variant, conforms_tagged, kept}
use Rattle.dynamo_shape.proofs.Common.{kept_elements, kept_pairs, kept_fields, is_written_null}
use Rattle.dynamo_shape.proofs.Common.{read, Same, Shape, boolean, char, string, bytes, unit}
use Rattle.dynamo_shape.proofs.Common.{integer, unit_struct, option, newtype, list, set, struct}
use Rattle.dynamo_shape.proofs.Common.{struct_by, enum, tagged, ordered, Shapes, no_shapes}
use Rattle.dynamo_shape.proofs.Common.{FieldShapes, no_field_shapes, field_shape, Content, nothing}
use Rattle.dynamo_shape.proofs.Common.{one, several, named, Variants, no_variants, variant, Tagged}
use Rattle.dynamo_shape.proofs.Common.{no_tagged, tagged_variant, Av, written, shape}
use Rattle.dynamo_ser.specs.Datum as datum
use Rattle.dynamo_value.proofs.Steps.{ok_same}
use Rattle.dynamo_shape.proofs.Results.{value_same}
use Rattle.dynamo_write.proofs.Orders as any
use Rattle.dynamo_shape.proofs.Maps as own
use Rattle.dynamo_shape.proofs.Maps.{pairs_back, pairs_weaker, distinct_back}
use Rattle.dynamo_shape.proofs.Keys.{key_back}
use Rattle.dynamo_shape.proofs.Back.{back}
use Rattle.dynamo_shape.proofs.Flat.{shape_clear}
use Rattle.dynamo_shape.proofs.Equivalence.{same_sym, same_trans}
use Rattle.dynamo_shape.proofs.Same.{Distinct, WellKeyed, WellKeyedAll, WellKeyedPairs, WellKeyedFields, enc_flat, pairs_flat, same_enc}
use Rattle.dynamo_shape.specs.Shape.{tuple, tuple_struct, map}

fresh : (t : Text) (es : List (Text × Av)) → own.Fresh t es → any.Fresh t es
fresh t [] h = tt
fresh t (e ∷ es) h = (is_eq-slice_cmp t e.0 ∙ h.0, fresh t es h.1)

distinct : (es : List (Text × Av)) → own.Distinct es → Distinct es
distinct [] h = tt
distinct (e ∷ es) h = (fresh e.0 es h.0, distinct es h.1)

moved : (d e : Datum) → d ≡ e → WellKeyed (kept e) → WellKeyed (kept d)
moved d e p h = subst (λ x. WellKeyed (kept x)) (sym p) h

optional : (b : Bool) (x : Datum) → WellKeyed x → WellKeyed (cond b datum.none (datum.some x))
optional true x h = tt
optional false x h = h

all_keyed : (s : Shape) → ((d : Datum) → conforms s d → WellKeyed (kept d)) → (ds : datum.Elements) → AllElements (conforms s) ds → WellKeyedAll (kept_elements ds)
all_keyed s f datum.no_elements c = tt
all_keyed s f (datum.element d ds) c = (f d c.0, all_keyed s f ds c.1)

pairs_keyed : (P : Datum → Datum → Type 0) → ((l e : Datum) → P l e → WellKeyed (kept e)) → (ps : Pairs) → AllPairs P ps → WellKeyedPairs (kept_pairs ps)
pairs_keyed P f no_pairs c = tt
pairs_keyed P f (pair l e ps) c = (f l e c.0, pairs_keyed P f ps c.1)

unit_keyed : (name : Text) (i : ℕ) (vs : Variants) (d : Datum) → AreUnits vs → conforms_variant name i vs d → WellKeyed (kept d)
unit_keyed name i no_variants d n c = absurd c
unit_keyed name i (variant v nothing vs) d n c = elim c [ inl x ↦ moved _ _ x tt | inr y ↦ unit_keyed name (suc i) vs d n.1 y ]
unit_keyed name i (variant v k vs) d n c = absurd n

element_keyed : (k : SetKind) (s : Shape) (d : Datum) → IsElement k s → conforms s d → WellKeyed (kept d)
element_keyed strings string d n c = moved _ _ c.1 tt
element_keyed strings char d n c = moved _ _ c.1 tt
element_keyed strings (enum name vs) d n c = unit_keyed name 0 vs d n c
element_keyed numbers (integer k) d n c = moved _ _ c.1 tt
element_keyed blobs bytes d n c = moved _ _ c.1 tt
element_keyed _ _ d n c = absurd n

put_keyed : (name : Text) (b : Bool) (d : Datum) (gs : Fields) → WellKeyed (kept d) → WellKeyedFields (kept_fields gs) → WellKeyedFields (kept_fields (cond b gs (datum.field name d gs)))
put_keyed name true d gs h k = k
put_keyed name false d gs h k = (h, k)

mutual
  pub well_keyed : (s : Shape) (d : Datum) → NearlyClear s → conforms s d → WellKeyed (kept d)
  well_keyed boolean d n c = moved _ _ c.1 tt
  well_keyed char d n c = moved _ _ c.1 tt
  well_keyed string d n c = moved _ _ c.1 tt
  well_keyed bytes d n c = moved _ _ c.1 tt
  well_keyed unit d n c = moved _ _ c tt
  well_keyed (integer k) d n c = moved _ _ c.1 tt
  well_keyed (unit_struct name) d n c = moved _ _ c tt
  well_keyed (option s) d n c = elim c [
    | inl p ↦ moved _ _ p tt
    | inr q ↦ moved _ _ q.1 (optional (is_written_null (written q.0)) (kept q.0) (well_keyed s q.0 n q.2))
  ]
  well_keyed (newtype name s) d n c = moved _ _ c.1 (well_keyed s c.0 n.1 c.2)
  well_keyed (list s) d n c = moved _ _ c.1 (all_keyed s (λ e k. well_keyed s e n k) c.0 c.2)
  well_keyed (set k s) d n c = moved _ _ c.1 (all_keyed s (λ e h. element_keyed k s e n h) c.0 c.2)
  well_keyed (tuple ss) d n c = moved _ _ c.1 (each_keyed ss c.0 n c.2)
  well_keyed (tuple_struct name ss) d n c = moved _ _ c.1 (each_keyed ss c.0 n c.2)
  well_keyed (map k s) d n c =
      let r = distinct_back k s c.0 c.3 (pairs_back k s c.0 (pairs_weaker _ _ (λ l e h. (key_back k l n.0 h.0, back s e n.1 h.1)) c.0 c.2)) in
      moved _ _ c.1 (λ es h. subst Distinct (ok_same (sym r.1 ∙ sym (pairs_flat c.0) ∙ h)) (distinct r.0 r.2), pairs_keyed _ (λ l e h. well_keyed s e n.1 h.1) c.0 c.2)
  well_keyed (struct name fs) d n c = moved _ _ c.1 (fields_keyed fs c.0 n c.2)
  well_keyed (struct_by rules name fs) d n c = moved _ _ c.1 (fields_keyed fs c.0 n.1 c.2)
  well_keyed (enum name vs) d n c = variant_keyed vs name 0 d n c
  well_keyed (tagged tag vs) d n c = tagged_keyed vs tag d n c
  well_keyed (ordered s) d n c = well_keyed s d n c.0

  each_keyed : (ss : Shapes) (ds : datum.Elements) → NearlyClearAll ss → conform_each ss ds → WellKeyedAll (kept_elements ds)
  each_keyed no_shapes ds n c = subst (λ x. WellKeyedAll (kept_elements x)) (sym c) tt
  each_keyed (shape s ss) ds n c = subst (λ x. WellKeyedAll (kept_elements x)) (sym c.2) (well_keyed s c.0 n.0 c.3, each_keyed ss c.1 n.1 c.4)

  fields_keyed : (fs : FieldShapes) (gs : Fields) → NearlyClearFields fs → conform_fields fs gs → WellKeyedFields (kept_fields gs)
  fields_keyed no_field_shapes gs n c = subst (λ x. WellKeyedFields (kept_fields x)) (sym c) tt
  fields_keyed (field_shape name s default fs) gs n c = subst (λ x. WellKeyedFields (kept_fields x)) (sym c.2) (put_keyed name (is_left_out default c.0) c.0 c.1 (well_keyed s c.0 (shape_clear s default n.1) c.3) (fields_keyed fs c.1 n.2 c.4))

  content_keyed : (k : Content) (v : Variant) (d : Datum) → NearlyClearContent k → conforms_content k v d → WellKeyed (kept d)
  content_keyed nothing v d n c = moved _ _ c tt
  content_keyed (one s) v d n c = moved _ _ c.1 (well_keyed s c.0 n c.2)
  content_keyed (several ss) v d n c = moved _ _ c.1 (each_keyed ss c.0 n c.2)
  content_keyed (named fs) v d n c = moved _ _ c.1 (fields_keyed fs c.0 n c.2)

  variant_keyed : (vs : Variants) (name : Text) (i : ℕ) (d : Datum) → NearlyClearVariants vs → conforms_variant name i vs d → WellKeyed (kept d)
  variant_keyed no_variants name i d n c = absurd c
  variant_keyed (variant v k vs) name i d n c = elim c [ inl x ↦ content_keyed k _ d n.1 x | inr y ↦ variant_keyed vs name (suc i) d n.2 y ]

  tagged_keyed : (vs : Tagged) (tag : Text) (d : Datum) → NearlyClearTagged tag vs → conforms_tagged tag vs d → WellKeyed (kept d)
  tagged_keyed no_tagged tag d n c = absurd c
  tagged_keyed (tagged_variant v name fs vs) tag d n c = elim c [ inl x ↦ moved _ _ x.1 (tt, fields_keyed fs x.0 n.2 x.2) | inr y ↦ tagged_keyed vs tag d n.3 y ]

pub writes_same : (s : Shape) (d e : Datum) → NearlyClear s → conforms s d → conforms s e → (written d ≡ written e ↔ Same (kept d) (kept e))
writes_same s d e n c k =
    let a = back s d n c in
    let b = back s e n k in (
      (λ p.
          let same : a.0 ≡ b.0 = ok_same (sym a.2 ∙ p ∙ b.2) in
          let read_same : a.1 ≡ b.1 = value_same (sym a.3 ∙ ap (λ v. read s (attribute v)) same ∙ b.3) in
          same_trans (kept d) b.1 (kept e) (subst (Same (kept d)) read_same a.4) (same_sym (kept e) b.1 b.4)),
      λ h. a.2 ∙ sym (same_enc (kept d) (kept e) h (well_keyed s d n c) a.0 (enc_flat d ∙ a.2)) ∙ enc_flat e,
    )
