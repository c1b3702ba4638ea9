-- At a clear shape nothing is lost.
use Rattle.std.proofs.Common.{◌≡◌, ℕ, suc, Bool, true, false, cond, List, Result, Ok, Err, Option, Some, None, refl, sym, ap, ◌∙◌, inl, inr}
use Rattle.dynamo_shape.proofs.Keys.{key_back, units_back}
use Rattle.dynamo_shape.proofs.Sets.{symbol_kind}
use Rattle.dynamo_shape.proofs.Common.{Text, Datum, Pairs, no_pairs, pair, Fields, field, Variant}
use Rattle.dynamo_shape.proofs.Common.{SetKind, strings, numbers, blobs, symbol, Absence, required}
use Rattle.dynamo_shape.proofs.Common.{read_as, left_out, is_left_out, IsElement, AndLeftOut}
use Rattle.dynamo_shape.proofs.Common.{NearlyClear, NearlyClearAll, NearlyClearFields}
use Rattle.dynamo_shape.proofs.Common.{NearlyClearContent, NearlyClearVariants, NearlyClearTagged}
use Rattle.dynamo_shape.proofs.Common.{NoneNested, NoneNestedAll, NoneNestedFields}
use Rattle.dynamo_shape.proofs.Common.{NoneNestedContent, NoneNestedVariants, NoneNestedTagged}
use Rattle.dynamo_shape.proofs.Common.{Nullable, Clear, AllElements, AllPairs, conforms}
use Rattle.dynamo_shape.proofs.Common.{conform_each, conform_fields, conforms_content}
use Rattle.dynamo_shape.proofs.Common.{conforms_variant, conforms_tagged, tagged_struct, is_null}
use Rattle.dynamo_shape.proofs.Common.{kept, kept_elements, kept_pairs, kept_fields}
use Rattle.dynamo_shape.proofs.Common.{is_written_null, Shape, boolean, char, string, bytes, unit}
use Rattle.dynamo_shape.proofs.Common.{integer, unit_struct, option, newtype, list, set, struct}
use Rattle.dynamo_shape.proofs.Common.{struct_by, enum, tagged, ordered, Shapes, no_shapes}
use Rattle.dynamo_shape.proofs.Common.{FieldShapes, no_field_shapes, field_shape, Content, nothing}
use Rattle.dynamo_shape.proofs.Common.{one, several, named, Variants, no_variants, variant, Tagged}
use Rattle.dynamo_shape.proofs.Common.{no_tagged, tagged_variant, Av, L, Fault, ◌>>=◌, set_of}
use Rattle.dynamo_shape.proofs.Common.{set_elements, written, written_elements, written_pairs}
use Rattle.dynamo_shape.proofs.Common.{written_fields, shape}
use Rattle.dynamo_ser.specs.Datum as datum
use Rattle.dynamo_write.specs.Set as sets
use Rattle.dynamo_shape.specs.Shape.{tuple, tuple_struct, map}

some_null : {A : Type 0} (r : Result A Fault) (f : A → Av) → ((x : A) → is_null (f x) ≡ false) → is_written_null (r >>= λ x. Ok (f x)) ≡ false
some_null (Ok x) f h = h x
some_null (Err e) f h = refl

same_null : (r : Result Av Fault) (o : Option SetKind) → o ≡ None → is_written_null (r >>= sets.named o) ≡ is_written_null r
same_null (Ok a) o h = rw h refl
same_null (Err e) o h = refl

elements_null : (k : SetKind) (r : Result (List Text) Fault) → is_written_null (r >>= λ ts. Ok (set_of k ts)) ≡ false
elements_null strings (Ok ts) = refl
elements_null numbers (Ok ts) = refl
elements_null blobs (Ok ts) = refl
elements_null k (Err e) = refl

set_null : (k : SetKind) (r : Result Av Fault) (o : Option SetKind) → o ≡ Some k → is_written_null (r >>= sets.named o) ≡ false
set_null k (Err e) o h = refl
set_null k (Ok (L as')) o h = rw h (elements_null k (set_elements k as'))
set_null k (Ok a) o h = rw h refl

variant_null : (name : Text) (i : ℕ) (vs : Variants) (d : Datum) → conforms_variant name i vs d → is_written_null (written d) ≡ false
variant_null name i no_variants d c = absurd c
variant_null name i (variant v nothing vs) d c = elim c [ inl x ↦ rw x refl | inr y ↦ variant_null name (suc i) vs d y ]
variant_null name i (variant v (one s) vs) d c = elim c [ inl x ↦ rw x.1 (some_null (written x.0) _ (λ a. refl)) | inr y ↦ variant_null name (suc i) vs d y ]
variant_null name i (variant v (several ss) vs) d c = elim c [ inl x ↦ rw x.1 (some_null (written_elements x.0) _ (λ a. refl)) | inr y ↦ variant_null name (suc i) vs d y ]
variant_null name i (variant v (named fs) vs) d c = elim c [ inl x ↦ rw x.1 (some_null (written_fields x.0) _ (λ a. refl)) | inr y ↦ variant_null name (suc i) vs d y ]

tagged_null : (tag : Text) (vs : Tagged) (d : Datum) → conforms_tagged tag vs d → is_written_null (written d) ≡ false
tagged_null tag no_tagged d c = absurd c
tagged_null tag (tagged_variant v name fs vs) d c = elim c [ inl x ↦ rw x.1 (some_null (written_fields (field tag (datum.string v) x.0)) _ (λ a. refl)) | inr y ↦ tagged_null tag vs d y ]

pub shape_clear : (s : Shape) (absence : Absence) → AndLeftOut absence s (NearlyClear s) → NearlyClear s
shape_clear s required n = n
shape_clear s (read_as d) n = n
shape_clear s (left_out d) n = n.0

-- only what is nullable writes null
pub not_null : (s : Shape) (d : Datum) → NearlyClear s → conforms s d → ¬ (Nullable s) → is_written_null (written d) ≡ false
not_null boolean d n c h = rw c.1 refl
not_null char d n c h = rw c.1 refl
not_null string d n c h = rw c.1 refl
not_null bytes d n c h = rw c.1 refl
not_null unit d n c h = absurd (h tt)
not_null (integer k) d n c h = rw c.1 refl
not_null (unit_struct name) d n c h = absurd (h tt)
not_null (option s) d n c h = absurd (h tt)
not_null (newtype name s) d n c h = rw c.1 (same_null (written c.0) _ n.0 ∙ not_null s c.0 n.1 c.2 h)
not_null (list s) d n c h = rw c.1 (some_null (written_elements c.0) L (λ a. refl))
not_null (set k s) d n c h = rw c.1 (set_null k (written (datum.seq c.0)) _ (symbol_kind k))
not_null (tuple ss) d n c h = rw c.1 (some_null (written_elements c.0) L (λ a. refl))
not_null (tuple_struct name ss) d n c h = rw c.1 (some_null (written_elements c.0) L (λ a. refl))
not_null (map k s) d n c h = rw c.1 (some_null (written_pairs c.0) _ (λ a. refl))
not_null (struct name fs) d n c h = rw c.1 (some_null (written_fields c.0) _ (λ a. refl))
not_null (struct_by rules name fs) d n c h = rw c.1 (some_null (written_fields c.0) _ (λ a. refl))
not_null (enum name vs) d n c h = variant_null name 0 vs d c
not_null (tagged tag vs) d n c h = tagged_null tag vs d c
not_null (ordered s) d n c h = not_null s d n c.0 h

flat_all : (s : Shape) → ((d : Datum) → conforms s d → kept d ≡ d) → (ds : datum.Elements) → AllElements (conforms s) ds → kept_elements ds ≡ ds
flat_all s f datum.no_elements c = refl
flat_all s f (datum.element d ds) c = let p = f d c.0 in let q = flat_all s f ds c.1 in λ i. datum.element (p i) (q i)

flat_map : (P : Datum → Datum → Type 0) → ((l e : Datum) → P l e → (kept l ≡ l) × (kept e ≡ e)) → (ps : Pairs) → AllPairs P ps → kept_pairs ps ≡ ps
flat_map P f no_pairs c = refl
flat_map P f (pair l e ps) c = let p = f l e c.0 in let q = flat_map P f ps c.1 in λ i. pair (p.0 i) (p.1 i) (q i)

moved : (d e : Datum) → d ≡ e → kept e ≡ e → kept d ≡ d
moved d e p h = ap kept p ∙ h ∙ sym p

element_flat : (k : SetKind) (s : Shape) (d : Datum) → IsElement k s → conforms s d → kept d ≡ d
element_flat strings string d n c = moved _ _ c.1 refl
element_flat strings char d n c = moved _ _ c.1 refl
element_flat strings (enum name vs) d n c = (units_back vs name 0 d n c).3
element_flat numbers (integer k) d n c = moved _ _ c.1 refl
element_flat blobs bytes d n c = moved _ _ c.1 refl
element_flat _ _ d n c = absurd n

flat_put : (name : Text) (b : Bool) (d : Datum) (gs : Fields) → kept d ≡ d → kept_fields gs ≡ gs → kept_fields (cond b gs (field name d gs)) ≡ cond b gs (field name d gs)
flat_put name true d gs p q = q
flat_put name false d gs p q = λ i. field name (p i) (q i)

mutual
  flat_at : (s : Shape) (d : Datum) → NearlyClear s → NoneNested s → conforms s d → kept d ≡ d
  flat_at boolean d n m c = moved _ _ c.1 refl
  flat_at char d n m c = moved _ _ c.1 refl
  flat_at string d n m c = moved _ _ c.1 refl
  flat_at bytes d n m c = moved _ _ c.1 refl
  flat_at unit d n m c = moved _ _ c refl
  flat_at (integer k) d n m c = moved _ _ c.1 refl
  flat_at (unit_struct name) d n m c = moved _ _ c refl
  flat_at (option s) d n m c = elim c [
    | inl p ↦ moved _ _ p refl
    | inr q ↦ moved _ _ q.1 (rw (not_null s q.0 n q.2 m.0) (ap datum.some (flat_at s q.0 n m.1 q.2)))
  ]
  flat_at (newtype name s) d n m c = moved _ _ c.1 (ap (datum.newtype_struct name) (flat_at s c.0 n.1 m c.2))
  flat_at (list s) d n m c = moved _ _ c.1 (ap datum.seq (flat_all s (λ e k. flat_at s e n m k) c.0 c.2))
  flat_at (set k s) d n m c = moved _ _ c.1 (ap (λ xs. datum.newtype_struct (symbol k) (datum.seq xs)) (flat_all s (λ e h. element_flat k s e n h) c.0 c.2))
  flat_at (tuple ss) d n m c = moved _ _ c.1 (ap datum.tuple (flat_each ss c.0 n m c.2))
  flat_at (tuple_struct name ss) d n m c = moved _ _ c.1 (ap (datum.tuple_struct name) (flat_each ss c.0 n m c.2))
  flat_at (map k s) d n m c = moved _ _ c.1 (ap datum.map (flat_map _ (λ l e h. ((key_back k l n.0 h.0).2, flat_at s e n.1 m.1 h.1)) c.0 c.2))
  flat_at (struct name fs) d n m c = moved _ _ c.1 (ap (datum.struct name) (flat_named fs c.0 n m c.2))
  flat_at (struct_by rules name fs) d n m c = moved _ _ c.1 (ap (datum.struct name) (flat_named fs c.0 n.1 m c.2))
  flat_at (enum name vs) d n m c = flat_variant vs name 0 d n m c
  flat_at (tagged tag vs) d n m c = flat_tagged vs tag d n m c
  flat_at (ordered s) d n m c = flat_at s d n m c.0

  flat_each : (ss : Shapes) (ds : datum.Elements) → NearlyClearAll ss → NoneNestedAll ss → conform_each ss ds → kept_elements ds ≡ ds
  flat_each no_shapes ds n m c = rw c refl
  flat_each (shape s ss) ds n m c = let p = flat_at s c.0 n.0 m.0 c.3 in let q = flat_each ss c.1 n.1 m.1 c.4 in ap kept_elements c.2 ∙ (λ i. datum.element (p i) (q i)) ∙ sym c.2

  flat_named : (fs : FieldShapes) (gs : Fields) → NearlyClearFields fs → NoneNestedFields fs → conform_fields fs gs → kept_fields gs ≡ gs
  flat_named no_field_shapes gs n m c = rw c refl
  flat_named (field_shape name s default fs) gs n m c = let p = flat_at s c.0 (shape_clear s default n.1) m.0 c.3 in let q = flat_named fs c.1 n.2 m.1 c.4 in ap kept_fields c.2 ∙ flat_put name (is_left_out default c.0) c.0 c.1 p q ∙ sym c.2

  flat_content : (k : Content) (v : Variant) (d : Datum) → NearlyClearContent k → NoneNestedContent k → conforms_content k v d → kept d ≡ d
  flat_content nothing v d n m c = moved _ _ c refl
  flat_content (one s) v d n m c = moved _ _ c.1 (ap (datum.newtype_variant v) (flat_at s c.0 n m c.2))
  flat_content (several ss) v d n m c = moved _ _ c.1 (ap (datum.tuple_variant v) (flat_each ss c.0 n m c.2))
  flat_content (named fs) v d n m c = moved _ _ c.1 (ap (datum.struct_variant v) (flat_named fs c.0 n m c.2))

  flat_variant : (vs : Variants) (name : Text) (i : ℕ) (d : Datum) → NearlyClearVariants vs → NoneNestedVariants vs → conforms_variant name i vs d → kept d ≡ d
  flat_variant no_variants name i d n m c = absurd c
  flat_variant (variant v k vs) name i d n m c = elim c [ inl x ↦ flat_content k _ d n.1 m.0 x | inr y ↦ flat_variant vs name (suc i) d n.2 m.1 y ]

  flat_tagged : (vs : Tagged) (tag : Text) (d : Datum) → NearlyClearTagged tag vs → NoneNestedTagged vs → conforms_tagged tag vs d → kept d ≡ d
  flat_tagged no_tagged tag d n m c = absurd c
  flat_tagged (tagged_variant v name fs vs) tag d n m c = elim c [ inl x ↦ moved _ _ x.1 (ap (tagged_struct tag v name) (flat_named fs x.0 n.2 m.0 x.2)) | inr y ↦ flat_tagged vs tag d n.3 m.1 y ]

pub flat_clear : (s : Shape) (d : Datum) → Clear s → conforms s d → kept d ≡ d
flat_clear s d n c = flat_at s d n.nearly n.none_nested c
