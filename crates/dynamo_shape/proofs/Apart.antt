-- Data that hold no map are the same only where they are equal.
use Rattle.std.proofs.Common.{◌≡◌, Bool, true, false, sym, ap, ◌∙◌}
use Rattle.dynamo_shape.proofs.Common.{true≢false, and_parts, Datum, Elements, Fields, ToldApart}
use Rattle.dynamo_shape.proofs.Common.{Same, SameElements, SameFields}
use Rattle.dynamo_ser.specs.Datum as datum
use Rattle.std.specs.Prelude.{◌&&◌}

abbrev mutual
  pub holds_no_map : Datum → Bool
  holds_no_map (datum.some d) = holds_no_map d
  holds_no_map (datum.newtype_struct name d) = holds_no_map d
  holds_no_map (datum.newtype_variant v d) = holds_no_map d
  holds_no_map (datum.seq ds) = hold_no_map ds
  holds_no_map (datum.tuple ds) = hold_no_map ds
  holds_no_map (datum.tuple_struct name ds) = hold_no_map ds
  holds_no_map (datum.tuple_variant v ds) = hold_no_map ds
  holds_no_map (datum.map ps) = false
  holds_no_map (datum.struct name fs) = fields_hold_no_map fs
  holds_no_map (datum.struct_variant v fs) = fields_hold_no_map fs
  holds_no_map d = true

  hold_no_map : Elements → Bool
  hold_no_map datum.no_elements = true
  hold_no_map (datum.element d ds) = holds_no_map d && hold_no_map ds

  fields_hold_no_map : Fields → Bool
  fields_hold_no_map datum.no_fields = true
  fields_hold_no_map (datum.field name d fs) = holds_no_map d && fields_hold_no_map fs

mutual
  pub equal : (d e : Datum) → holds_no_map d ≡ true → Same d e → d ≡ e
  equal (datum.some d) x n h = ap datum.some (equal d h.0 n h.2) ∙ sym h.1
  equal (datum.newtype_struct name d) x n h = ap (datum.newtype_struct name) (equal d h.0 n h.2) ∙ sym h.1
  equal (datum.newtype_variant v d) x n h = ap (datum.newtype_variant v) (equal d h.0 n h.2) ∙ sym h.1
  equal (datum.seq ds) x n h = ap datum.seq (elements_equal ds h.0 n h.2) ∙ sym h.1
  equal (datum.tuple ds) x n h = ap datum.tuple (elements_equal ds h.0 n h.2) ∙ sym h.1
  equal (datum.tuple_struct name ds) x n h = ap (datum.tuple_struct name) (elements_equal ds h.0 n h.2) ∙ sym h.1
  equal (datum.tuple_variant v ds) x n h = ap (datum.tuple_variant v) (elements_equal ds h.0 n h.2) ∙ sym h.1
  equal (datum.map ps) x n h = absurd (true≢false (sym n))
  equal (datum.struct name fs) x n h = ap (datum.struct name) (fields_equal fs h.0 n h.2) ∙ sym h.1
  equal (datum.struct_variant v fs) x n h = ap (datum.struct_variant v) (fields_equal fs h.0 n h.2) ∙ sym h.1
  equal d x n h = h

  elements_equal : (ds es : Elements) → hold_no_map ds ≡ true → SameElements ds es → ds ≡ es
  elements_equal datum.no_elements xs n h = sym h
  elements_equal (datum.element d ds) xs n h =
      let p = and_parts (holds_no_map d) (hold_no_map ds) n in
      let a = equal d h.0 p.0 h.3 in
      let b = elements_equal ds h.1 p.1 h.4 in
      (λ i. datum.element (a i) (b i)) ∙ sym h.2

  fields_equal : (fs gs : Fields) → fields_hold_no_map fs ≡ true → SameFields fs gs → fs ≡ gs
  fields_equal datum.no_fields xs n h = sym h
  fields_equal (datum.field name d fs) xs n h =
      let p = and_parts (holds_no_map d) (fields_hold_no_map fs) n in
      let a = equal d h.0 p.0 h.3 in
      let b = fields_equal fs h.1 p.1 h.4 in
      (λ i. datum.field name (a i) (b i)) ∙ sym h.2

pub told_apart : {V : Type 0} (tells : V → Datum) → ((v : V) → holds_no_map (tells v) ≡ true) → ToldApart tells
told_apart tells none v w h = equal (tells v) (tells w) (none v) h
