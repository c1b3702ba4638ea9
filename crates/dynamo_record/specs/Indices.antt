-- The number of the variant that a datum is of.
use Rattle.std.proofs.Common.{◌≡◌, ◌≤◌, ℕ, suc, sym, ap, inl, inr, arith}
use Rattle.dynamo_ser.specs.Datum as datum
use Rattle.dynamo_ser.specs.Datum.{Datum, Variant}
use Rattle.dynamo_de.specs.Source.{Text}
use Rattle.dynamo_shape.specs.Conforms.{conforms_content, conforms_variant}
use Rattle.dynamo_shape.specs.Same.{Same}
use Rattle.dynamo_shape.specs.Shape as shape
use Rattle.dynamo_shape.specs.Shape.{Content, Variants, no_variants, variant}

abbrev pub index_of : Datum → ℕ
index_of (datum.unit_variant v) = v.index
index_of (datum.newtype_variant v d) = v.index
index_of (datum.tuple_variant v ds) = v.index
index_of (datum.struct_variant v fs) = v.index
index_of _ = 0

at_first : (i n : ℕ) → n ≡ i → i ≤ n
at_first i n h = omega arith

at_others : (i n : ℕ) → suc i ≤ n → i ≤ n
at_others i n h = omega arith

not_both : (i n : ℕ) → n ≡ i → suc i ≤ n → ⊥
not_both i n h k = omega arith

pub content_index : (c : Content) (v : Variant) (d : Datum) → conforms_content c v d
    → index_of d ≡ v.index
content_index shape.nothing v d h = ap index_of h
content_index (shape.one s) v d h = ap index_of h.1
content_index (shape.several ss) v d h = ap index_of h.1
content_index (shape.named fs) v d h = ap index_of h.1

variant_index : (vs : Variants) (name : Text) (i : ℕ) (d : Datum) → conforms_variant name i vs d
    → i ≤ index_of d
variant_index no_variants name i d h = absurd h
variant_index (variant own c vs) name i d h = elim h [
  | inl here ↦ at_first i (index_of d) (content_index c (datum.variant name i own) d here)
  | inr others ↦ at_others i (index_of d) (variant_index vs name (suc i) d others)
]

-- a datum of the first variant's number conforms to the first, and one of a number after it to the
-- others
pub in_first : (name own : Text) (i : ℕ) (c : Content) (vs : Variants) (d : Datum) → index_of d ≡ i
    → conforms_variant name i (variant own c vs) d
    → conforms_content c (datum.variant name i own) d
in_first name own i c vs d at h = elim h [
  | inl here ↦ here
  | inr others ↦ absurd (not_both i (index_of d) at (variant_index vs name (suc i) d others))
]

pub in_others : (name own : Text) (i : ℕ) (c : Content) (vs : Variants) (d : Datum)
    → suc i ≤ index_of d
    → conforms_variant name i (variant own c vs) d
    → conforms_variant name (suc i) vs d
in_others name own i c vs d behind h = elim h [
  | inl here
      ↦ absurd (not_both i (index_of d) (content_index c (datum.variant name i own) d here) behind)
  | inr others ↦ others
]

-- the same data are of one variant
pub same_index : (d e : Datum) → Same d e → index_of d ≡ index_of e
same_index (datum.some d) x h = sym (ap index_of h.1)
same_index (datum.newtype_struct name d) x h = sym (ap index_of h.1)
same_index (datum.newtype_variant v d) x h = sym (ap index_of h.1)
same_index (datum.seq ds) x h = sym (ap index_of h.1)
same_index (datum.tuple ds) x h = sym (ap index_of h.1)
same_index (datum.tuple_struct name ds) x h = sym (ap index_of h.1)
same_index (datum.tuple_variant v ds) x h = sym (ap index_of h.1)
same_index (datum.map ps) x h = sym (ap index_of h.1)
same_index (datum.struct name fs) x h = sym (ap index_of h.1)
same_index (datum.struct_variant v fs) x h = sym (ap index_of h.1)
same_index d x h = ap index_of h
