-- What is written at a nearly clear shape reads back.
use Rattle.std.proofs.Common.{◌≡◌, ◌⊎◌, ℕ, suc, true, false, cond, List, Ok, Some, None, refl, sym, subst, inl, inr}
use Rattle.dynamo_shape.proofs.Common.{bytes_eq, encode_utf8, signed_decimal, parse_back, Answer}
use Rattle.dynamo_shape.proofs.Common.{value, attribute, Text, Source, values_of, entries_of}
use Rattle.dynamo_shape.proofs.Common.{Variant, Datum, Fields, AliasesApart, is_variant, is_tagged}
use Rattle.dynamo_shape.proofs.Common.{is_field, NearlyClear, NearlyClearAll, NearlyClearFields}
use Rattle.dynamo_shape.proofs.Common.{NearlyClearContent, NearlyClearVariants, NearlyClearTagged}
use Rattle.dynamo_shape.proofs.Common.{AllElements, conforms, conform_each, conform_fields}
use Rattle.dynamo_shape.proofs.Common.{conforms_content, conforms_variant, conforms_tagged}
use Rattle.dynamo_shape.proofs.Common.{tagged_struct, is_null, kept, kept_elements, IsAscending}
use Rattle.dynamo_shape.proofs.Common.{sorted, read_list, read_each, read, read_one_of, read_inside}
use Rattle.dynamo_shape.proofs.Common.{read_tag, read_tagged, ReadsBack, Same, SameElements, Shape}
use Rattle.dynamo_shape.proofs.Common.{boolean, char, string, bytes, unit, integer, unit_struct}
use Rattle.dynamo_shape.proofs.Common.{option, newtype, list, set, struct, struct_by, enum, tagged}
use Rattle.dynamo_shape.proofs.Common.{ordered, Shapes, no_shapes, FieldShapes, no_field_shapes}
use Rattle.dynamo_shape.proofs.Common.{field_shape, Content, nothing, one, several, named, Variants}
use Rattle.dynamo_shape.proofs.Common.{no_variants, variant, Tagged, no_tagged, tagged_variant, Av}
use Rattle.dynamo_shape.proofs.Common.{N, S, B, Boolean, Null, L, M, Members, members_of, collect}
use Rattle.dynamo_shape.proofs.Common.{set_kind, one_member, written, written_elements, shape}
use Rattle.dynamo_value.specs.Av as av
use Rattle.dynamo_ser.specs.Datum as datum
use Rattle.dynamo_shape.proofs.Keys.{key_back}
use Rattle.dynamo_shape.proofs.Flat.{shape_clear}
use Rattle.dynamo_shape.proofs.LeftOut.{left_back, default_back}
use Rattle.dynamo_shape.proofs.Ordered.{kept_sorted, sorted_same}
use Rattle.dynamo_shape.proofs.Sets.{set_back}
use Rattle.dynamo_shape.proofs.Maps.{map_back, pairs_back, pairs_weaker}
use Rattle.dynamo_shape.proofs.Rules.{named_by_rules}
use Rattle.dynamo_shape.proofs.Structs.{FieldsBack, no_fields_back, field_back, all_named, behind_tag}
use Rattle.dynamo_shape.proofs.Found.{or_false, same_bytes}
use Rattle.dynamo_shape.proofs.Results.{chars-encode}
use Rattle.dynamo_shape.specs.NameRules.{NameRules}
use Rattle.dynamo_shape.specs.Shape.{tuple, tuple_struct, map}

-- some of what is read, unless it is null
option_at : (s : Shape) (x y : Datum) (a : Av) → read s (attribute a) ≡ value y → Same x y → (e : Datum) × (read (option s) (attribute a) ≡ value e) × Same (cond (is_null a) datum.none (datum.some x)) e
option_at s x y (Null true) p h = (datum.none, refl, refl)
option_at s x y a p h = (datum.some y, rw p refl, (y, refl, h))

option_back : (s : Shape) (e : Datum) → ReadsBack s e → ReadsBack (option s) (datum.some e)
option_back s e h = let r = option_at s (kept e) h.1 h.0 h.3 h.4 in (h.0, r.0, h.2, r.1, rw h.2 r.2)

newtype_back : (name : Text) (s : Shape) (e : Datum) → set_kind name ≡ None → ReadsBack s e → ReadsBack (newtype name s) (datum.newtype_struct name e)
newtype_back name s e n h = (h.0, datum.newtype_struct name h.1, rw (n, h.2) refl, rw h.3 refl, (h.1, refl, h.4))

-- the elements of a list
abbrev ItemsBack : (List Source → Answer datum.Elements) → datum.Elements → Type 0
ItemsBack P ds = (as' : av.Elements) × (es : datum.Elements) × (written_elements ds ≡ Ok as') × (P (values_of as') ≡ value es) × SameElements (kept_elements ds) es

items_back : (s : Shape) → ((d : Datum) → conforms s d → ReadsBack s d) → (ds : datum.Elements) → AllElements (conforms s) ds → ItemsBack (read_list (read s)) ds
items_back s rec datum.no_elements c = (av.no_elements, datum.no_elements, refl, refl, refl)
items_back s rec (datum.element d ds) c =
    let h = rec d c.0 in
    let t = items_back s rec ds c.1 in
    (av.element h.0 t.0, datum.element h.1 t.1, rw (h.2, t.2) refl, rw (h.3, t.3) refl, (h.1, t.1, refl, h.4, t.4))

list_back : (s : Shape) (ds : datum.Elements) → ItemsBack (read_list (read s)) ds → ReadsBack (list s) (datum.seq ds)
list_back s ds t = (L t.0, datum.seq t.1, rw t.2 refl, rw t.3 refl, (t.1, refl, t.4))

tuple_back : (ss : Shapes) (ds : datum.Elements) → ItemsBack (read_each ss) ds → ReadsBack (tuple ss) (datum.tuple ds)
tuple_back ss ds t = (L t.0, datum.tuple t.1, rw t.2 refl, rw t.3 refl, (t.1, refl, t.4))

tuple_struct_back : (name : Text) (ss : Shapes) (ds : datum.Elements) → ItemsBack (read_each ss) ds → ReadsBack (tuple_struct name ss) (datum.tuple_struct name ds)
tuple_struct_back name ss ds t = (L t.0, datum.tuple_struct name t.1, rw t.2 refl, rw t.3 refl, (t.1, refl, t.4))

struct_back : (name : Text) (fs : FieldShapes) (gs : Fields) → NearlyClearFields fs → FieldsBack fs gs → ReadsBack (struct name fs) (datum.struct name gs)
struct_back name fs gs n t = let r = all_named fs gs n t in (M (members_of (collect r.0)), datum.struct name r.1, rw r.2 refl, rw r.3 refl, (r.1, refl, r.4))

-- of what is written nothing is refused by the rules
rules_back : (rules : NameRules) (name : Text) (fs : FieldShapes) (gs : Fields) → AliasesApart fs rules.aliases → NearlyClearFields fs → FieldsBack fs gs → ReadsBack (struct_by rules name fs) (datum.struct name gs)
rules_back rules name fs gs a n t = let r = named_by_rules rules fs gs a n t in (M (members_of (collect r.0)), datum.struct name r.1, rw r.2 refl, rw r.3 refl, (r.1, refl, r.4))

-- ---- enums

-- written as the name alone, or as a member under it
abbrev Enumerated : (Text → Answer Datum) → (Text → Av → Answer Datum) → Text → Datum → Type 0
Enumerated U V t d = (e : Datum) × Same (kept d) e × (((written d ≡ Ok (S t)) × (U t ≡ value e)) ⊎ ((b : Av) × (written d ≡ Ok (one_member t b)) × (V t b ≡ value e)))

abbrev ContentBack : Content → Variant → Datum → Type 0
ContentBack c v d = Enumerated (λ t. read_inside c v None) (λ t b. read_inside c v (Some (attribute b))) v.name d

-- a name that is none of the others
abbrev Apart : Variants → Text → Type 0
Apart vs t = (u : Text) → is_variant vs u ≡ false → bytes_eq t u ≡ false

abbrev VariantsBack : Variants → Text → ℕ → Datum → Type 0
VariantsBack vs name i d = (t : Text) × Apart vs t × Enumerated (λ t. read_one_of vs name i t None) (λ t b. read_one_of vs name i t (Some (attribute b))) t d

first_variant : (v : Text) (c : Content) (vs : Variants) (name : Text) (i : ℕ) (d : Datum) → ContentBack c (record { enum = name; index = i; name = v }) d → VariantsBack (variant v c vs) name i d
first_variant v c vs name i d h = (
  v,
  λ u k. (or_false (bytes_eq v u) (is_variant vs u) k).0,
  (
    h.0,
    h.1,
    elim h.2 [
      | inl x ↦ inl (x.0, rw (same_bytes v) x.1)
      | inr y ↦ inr (y.0, y.1, rw (same_bytes v) y.2)
    ],
  ),
)

later_variant : (v : Text) (c : Content) (vs : Variants) (name : Text) (i : ℕ) (d : Datum) → is_variant vs v ≡ false → VariantsBack vs name (suc i) d → VariantsBack (variant v c vs) name i d
later_variant v c vs name i d n h =
    let other : bytes_eq h.0 v ≡ false = h.1 v n in (
      h.0,
      λ u k. h.1 u (or_false (bytes_eq v u) (is_variant vs u) k).1,
      (
        h.2.0,
        h.2.1,
        elim h.2.2 [
          | inl x ↦ inl (x.0, rw other x.1)
          | inr y ↦ inr (y.0, y.1, rw other y.2)
        ],
      ),
    )

enum_back : (name : Text) (vs : Variants) (d : Datum) → VariantsBack vs name 0 d → ReadsBack (enum name vs) d
enum_back name vs d h = elim h.2.2 [ inl x ↦ (S h.0, h.2.0, x.0, x.1, h.2.1) | inr y ↦ (one_member h.0 y.0, h.2.0, y.1, y.2, h.2.1) ]

one_back : (s : Shape) (v : Variant) (e : Datum) → ReadsBack s e → ContentBack (one s) v (datum.newtype_variant v e)
one_back s v e h = (datum.newtype_variant v h.1, (h.1, refl, h.4), inr (h.0, rw h.2 refl, rw h.3 refl))

several_back : (ss : Shapes) (v : Variant) (ds : datum.Elements) → ItemsBack (read_each ss) ds → ContentBack (several ss) v (datum.tuple_variant v ds)
several_back ss v ds t = (datum.tuple_variant v t.1, (t.1, refl, t.4), inr (L t.0, rw t.2 refl, rw t.3 refl))

named_back : (fs : FieldShapes) (v : Variant) (gs : Fields) → NearlyClearFields fs → FieldsBack fs gs → ContentBack (named fs) v (datum.struct_variant v gs)
named_back fs v gs n t = let r = all_named fs gs n t in (datum.struct_variant v r.1, (r.1, refl, r.4), inr (M (members_of (collect r.0)), rw r.2 refl, rw r.3 refl))

-- ---- tagged enums

-- written as a map, whose tag is the name; and read by that name
record IsTaggedBack (vs : Tagged) (tag : Text) (d : Datum) (t : Text) (ms : Members) (e : Datum) : Type 0 where
  apart : (u : Text) → is_tagged vs u ≡ false → bytes_eq t u ≡ false
  wrote : written d ≡ Ok (M ms)
  named : read_tag tag (entries_of ms) ≡ value t
  reads : read_tagged vs tag t (entries_of ms) ≡ value e
  alike : Same (kept d) e

abbrev TaggedBack : Tagged → Text → Datum → Type 0
TaggedBack vs tag d = (t : Text) × (ms : Members) × (e : Datum) × IsTaggedBack vs tag d t ms e

first_tagged : (v name : Text) (fs : FieldShapes) (vs : Tagged) (tag : Text) (gs : Fields) → NearlyClearFields fs → is_field fs tag ≡ false → FieldsBack fs gs → TaggedBack (tagged_variant v name fs vs) tag (tagged_struct tag v name gs)
first_tagged v name fs vs tag gs n m t =
    let r = behind_tag fs tag v gs n m t in (
      v,
      r.0,
      tagged_struct tag v name r.1,
      record {
        apart = λ u k. (or_false (bytes_eq v u) (is_tagged vs u) k).0;
        wrote = r.2;
        named = r.3;
        reads = rw (same_bytes v, r.4) refl;
        alike = (datum.field tag (datum.string v) r.1, refl, (datum.string v, r.1, refl, refl, r.5));
      },
    )

later_tagged : (v name : Text) (fs : FieldShapes) (vs : Tagged) (tag : Text) (d : Datum) → is_tagged vs v ≡ false → TaggedBack vs tag d → TaggedBack (tagged_variant v name fs vs) tag d
later_tagged v name fs vs tag d n (t, ms, e, h) = (
  t,
  ms,
  e,
  record {
    apart = λ u k. h.apart u (or_false (bytes_eq v u) (is_tagged vs u) k).1;
    wrote = h.wrote;
    named = h.named;
    reads = rw (h.apart v n) h.reads;
    alike = h.alike;
  },
)

tagged_back : (tag : Text) (vs : Tagged) (d : Datum) → TaggedBack vs tag d → ReadsBack (tagged tag vs) d
tagged_back tag vs d (t, ms, e, h) = (M ms, e, h.wrote, rw h.named h.reads, h.alike)

-- ---- lists and sets in order

ordered_back : (s : Shape) (d : Datum) → ReadsBack s d → IsAscending d → ReadsBack (ordered s) d
ordered_back s d (a, e, p, q, h) c = (a, sorted e, p, rw q refl, subst (λ x. Same x (sorted e)) (kept_sorted d c) (sorted_same (kept d) e h))

-- ---- every shape

moved : (s : Shape) (d e : Datum) → d ≡ e → ReadsBack s e → ReadsBack s d
moved s d e p h = subst (ReadsBack s) (sym p) h

moved_content : (c : Content) (v : Variant) (d e : Datum) → d ≡ e → ContentBack c v e → ContentBack c v d
moved_content c v d e p h = subst (ContentBack c v) (sym p) h

mutual
  pub back : (s : Shape) (d : Datum) → NearlyClear s → conforms s d → ReadsBack s d
  back boolean d n c = moved boolean _ _ c.1 (Boolean c.0, datum.boolean c.0, refl, refl, refl)
  back char d n c = moved char _ _ c.1 (S (encode_utf8 c.0), datum.char c.0, refl, rw (chars-encode c.0 c.2) refl, refl)
  back string d n c = moved string _ _ c.1 (S c.0, datum.string c.0, refl, refl, refl)
  back bytes d n c = moved bytes _ _ c.1 (B c.0, datum.bytes c.0, refl, refl, refl)
  back unit d n c = moved unit _ _ c (Null true, datum.unit, refl, refl, refl)
  back (integer k) d n c = moved (integer k) _ _ c.1 (N (signed_decimal c.0), datum.integer k c.0, refl, rw (parse_back k c.0 c.2) refl, refl)
  back (unit_struct name) d n c = moved (unit_struct name) _ _ c (Null true, datum.unit_struct name, refl, refl, refl)
  back (option s) d n c = elim c [
    | inl p ↦ moved (option s) _ _ p (Null true, datum.none, refl, refl, refl)
    | inr q ↦ moved (option s) _ _ q.1 (option_back s q.0 (back s q.0 n q.2))
  ]
  back (newtype name s) d n c = moved (newtype name s) _ _ c.1 (newtype_back name s c.0 n.0 (back s c.0 n.1 c.2))
  back (list s) d n c = moved (list s) _ _ c.1 (list_back s c.0 (items_back s (λ e k. back s e n k) c.0 c.2))
  back (set k s) d n c = moved (set k s) _ _ c.1 (set_back k s c.0 n c.2)
  back (tuple ss) d n c = moved (tuple ss) _ _ c.1 (tuple_back ss c.0 (back_each ss c.0 n c.2))
  back (tuple_struct name ss) d n c = moved (tuple_struct name ss) _ _ c.1 (tuple_struct_back name ss c.0 (back_each ss c.0 n c.2))
  back (map k s) d n c = moved (map k s) _ _ c.1 (map_back k s c.0 c.3 (pairs_back k s c.0 (pairs_weaker _ _ (λ l e h. (key_back k l n.0 h.0, back s e n.1 h.1)) c.0 c.2)))
  back (struct name fs) d n c = moved (struct name fs) _ _ c.1 (struct_back name fs c.0 n (back_fields fs c.0 n c.2))
  back (struct_by rules name fs) d n c = moved (struct_by rules name fs) _ _ c.1 (rules_back rules name fs c.0 n.0 n.1 (back_fields fs c.0 n.1 c.2))
  back (enum name vs) d n c = enum_back name vs d (back_variants vs name 0 d n c)
  back (tagged tag vs) d n c = tagged_back tag vs d (back_tagged vs tag d n c)
  back (ordered s) d n c = ordered_back s d (back s d n c.0) c.1

  back_each : (ss : Shapes) (ds : datum.Elements) → NearlyClearAll ss → conform_each ss ds → ItemsBack (read_each ss) ds
  back_each no_shapes ds n c = subst (ItemsBack (read_each no_shapes)) (sym c) (av.no_elements, datum.no_elements, refl, refl, refl)
  back_each (shape s ss) ds n c =
      let h = back s c.0 n.0 c.3 in
      let t = back_each ss c.1 n.1 c.4 in
      subst (ItemsBack (read_each (shape s ss))) (sym c.2) (av.element h.0 t.0, datum.element h.1 t.1, rw (h.2, t.2) refl, rw (h.3, t.3) refl, (h.1, t.1, refl, h.4, t.4))

  back_fields : (fs : FieldShapes) (gs : Fields) → NearlyClearFields fs → conform_fields fs gs → FieldsBack fs gs
  back_fields no_field_shapes gs n c = subst (FieldsBack no_field_shapes) (sym c) no_fields_back
  back_fields (field_shape name s default fs) gs n c =
      let clear = shape_clear s default n.1 in
      let h = back s c.0 clear c.3 in
      let same = left_back s default c.0 h.1 n.1 c.3 h.4 in
      subst (FieldsBack (field_shape name s default fs)) (sym c.2) (field_back name s default fs c.0 c.1 n.0 h same (default_back s default c.0 n.1) (back_fields fs c.1 n.2 c.4))

  back_content : (c : Content) (v : Variant) (d : Datum) → NearlyClearContent c → conforms_content c v d → ContentBack c v d
  back_content nothing v d n c = moved_content nothing v _ _ c (datum.unit_variant v, refl, inl (refl, refl))
  back_content (one s) v d n c = moved_content (one s) v _ _ c.1 (one_back s v c.0 (back s c.0 n c.2))
  back_content (several ss) v d n c = moved_content (several ss) v _ _ c.1 (several_back ss v c.0 (back_each ss c.0 n c.2))
  back_content (named fs) v d n c = moved_content (named fs) v _ _ c.1 (named_back fs v c.0 n (back_fields fs c.0 n c.2))

  back_variants : (vs : Variants) (name : Text) (i : ℕ) (d : Datum) → NearlyClearVariants vs → conforms_variant name i vs d → VariantsBack vs name i d
  back_variants no_variants name i d n c = absurd c
  back_variants (variant v k vs) name i d n c = elim c [
    | inl x ↦ first_variant v k vs name i d (back_content k (record { enum = name; index = i; name = v }) d n.1 x)
    | inr y ↦ later_variant v k vs name i d n.0 (back_variants vs name (suc i) d n.2 y)
  ]

  back_tagged : (vs : Tagged) (tag : Text) (d : Datum) → NearlyClearTagged tag vs → conforms_tagged tag vs d → TaggedBack vs tag d
  back_tagged no_tagged tag d n c = absurd c
  back_tagged (tagged_variant v name fs vs) tag d n c = elim c [
    | inl x ↦ subst (TaggedBack (tagged_variant v name fs vs) tag) (sym x.1) (first_tagged v name fs vs tag x.0 n.2 n.1 (back_fields fs x.0 n.2 x.2))
    | inr y ↦ later_tagged v name fs vs tag d n.0 (back_tagged vs tag d n.3 y)
  ]
