-- What a struct tells by its fields' data: values are the same where their data are.
use Rattle.std.specs.Prelude.{[], ◌∷◌}
use Rattle.std.proofs.Common.{refl, sym, ap, subst}
use Rattle.dynamo_ser.specs.Datum as datum
use Rattle.dynamo_ser.specs.Datum.{Datum}
use Rattle.dynamo_ser.specs.Parts.{fields_in}
use Rattle.dynamo_de.specs.Source.{Text}
use Rattle.dynamo_shape.specs.Conforms.{conforms, conform_fields}
use Rattle.dynamo_shape.specs.Laws.{IsToldByValue, ToldAlike}
use Rattle.dynamo_shape.specs.Same.{SameFields}
use Rattle.dynamo_shape.specs.Shape as shape
use Rattle.dynamo_shape.proofs.FieldsByName.{NamesDiffer}
use Rattle.dynamo_shape.proofs.FieldsTold.{FirstNamed, put_named, put_same, first_conforms}
use Rattle.dynamo_shape.proofs.FieldsTold.{first_same}
use Rattle.dynamo_record.specs.Fields.{ConformEach, SameData, AsMany, Defaults, first_default}
use Rattle.dynamo_record.specs.Fields.{other_defaults, field_shapes, named_fields}
use Rattle.dynamo_record.specs.Listed.{Shapes, Data}
use Rattle.dynamo_record.specs.Names.{Names, first_name, other_names}

-- ---- under names

named_first : (ns : Names) (ss : Shapes) (gs : Defaults) (ds : Data) → AsMany ss ds
    → FirstNamed (field_shapes ns ss gs) (named_fields ns gs ds)
named_first ns [] gs [] m = tt
named_first ns [] gs (d ∷ ds) m = absurd m
named_first ns (s ∷ ss) gs [] m = absurd m
named_first ns (s ∷ ss) gs (d ∷ ds) m =
    put_named (first_name ns) s (first_default gs) (field_shapes (other_names ns) ss (other_defaults gs)) d (named_fields (other_names ns) (other_defaults gs) ds) (named_first (other_names ns) ss (other_defaults gs) ds m)

pub each_field : (ns : Names) (ss : Shapes) (gs : Defaults) (ds : Data)
    → NamesDiffer (field_shapes ns ss gs)
    → AsMany ss ds
    → conform_fields (field_shapes ns ss gs) (named_fields ns gs ds)
    → ConformEach ss ds
each_field ns [] gs [] n m c = tt
each_field ns [] gs (d ∷ ds) n m c = absurd m
each_field ns (s ∷ ss) gs [] n m c = absurd m
each_field ns (s ∷ ss) gs (d ∷ ds) n m c =
    let ms = other_names ns in
    let hs = other_defaults gs in
    let p = first_conforms (first_name ns) s (first_default gs) (field_shapes ms ss hs) n.0 d (named_fields ms hs ds) (named_first ms ss hs ds m) c in
    (p.0, each_field ms ss hs ds n.1 m p.1)

pub fields_conform : (ns : Names) (ss : Shapes) (gs : Defaults) (ds : Data) → ConformEach ss ds
    → conform_fields (field_shapes ns ss gs) (named_fields ns gs ds)
fields_conform ns [] gs [] c = refl
fields_conform ns [] gs (d ∷ ds) c = absurd c
fields_conform ns (s ∷ ss) gs [] c = absurd c
fields_conform ns (s ∷ ss) gs (d ∷ ds) c = (
  d,
  named_fields (other_names ns) (other_defaults gs) ds,
  refl,
  c.0,
  fields_conform (other_names ns) ss (other_defaults gs) ds c.1,
)

pub fields_same : (ns : Names) (gs : Defaults) (ds es : Data) → SameData ds es
    → SameFields (named_fields ns gs ds) (named_fields ns gs es)
fields_same ns gs [] [] h = refl
fields_same ns gs [] (e ∷ es) h = absurd h
fields_same ns gs (d ∷ ds) [] h = absurd h
fields_same ns gs (d ∷ ds) (e ∷ es) h =
    put_same (first_name ns) (first_default gs) d e (named_fields (other_names ns) (other_defaults gs) ds) (named_fields (other_names ns) (other_defaults gs) es) h.0 (fields_same (other_names ns) (other_defaults gs) ds es h.1)

pub data_same : (ns : Names) (ss : Shapes) (gs : Defaults) (ds es : Data)
    → NamesDiffer (field_shapes ns ss gs)
    → AsMany ss ds → AsMany ss es
    → SameFields (named_fields ns gs ds) (named_fields ns gs es)
    → SameData ds es
data_same ns [] gs [] [] n m k h = tt
data_same ns [] gs [] (e ∷ es) n m k h = absurd k
data_same ns [] gs (d ∷ ds) es n m k h = absurd m
data_same ns (s ∷ ss) gs [] es n m k h = absurd m
data_same ns (s ∷ ss) gs (d ∷ ds) [] n m k h = absurd k
data_same ns (s ∷ ss) gs (d ∷ ds) (e ∷ es) n m k h =
    let ms = other_names ns in
    let hs = other_defaults gs in
    let p = first_same (first_name ns) s (first_default gs) (field_shapes ms ss hs) n.0 d e (named_fields ms hs ds) (named_fields ms hs es) (named_first ms ss hs ds m) (named_first ms ss hs es k) h in
    (p.0, data_same ms ss hs ds es n.1 m k p.1)

-- values that are the same where their data are, and the other way round
module _ {V : Type 0} (name : Text) (ns : Names) (ss : Shapes) (gs : Defaults) (told : V → Data)
    (same : V → V → Type 0) (differ : NamesDiffer (field_shapes ns ss gs))
    (many : (v : V) → AsMany ss (told v)) where
  abbrev pub tells : V → Datum
  tells v = datum.struct name (named_fields ns gs (told v))

  pub each : (v : V) → conforms (shape.struct name (field_shapes ns ss gs)) (tells v)
      → ConformEach ss (told v)
  each v c = each_field ns ss gs (told v) differ (many v)
      (subst (conform_fields (field_shapes ns ss gs)) (sym (ap fields_in c.1)) c.2)

  pub struct_told : ((v w : V) → ConformEach ss (told v) → ConformEach ss (told w)
      → SameData (told v) (told w) → same v w)
      → IsToldByValue (shape.struct name (field_shapes ns ss gs)) tells same
  struct_told by_value v w c d h =
      let alike : SameFields (named_fields ns gs (told v)) (named_fields ns gs (told w)) = subst (SameFields (named_fields ns gs (told v))) (sym (ap fields_in h.1)) h.2 in
      by_value v w (each v c) (each w d) (data_same ns ss gs (told v) (told w) differ (many v) (many w) alike)

  pub struct_alike : ((v w : V) → ConformEach ss (told v) → ConformEach ss (told w) → same v w
      → SameData (told v) (told w))
      → ToldAlike (shape.struct name (field_shapes ns ss gs)) tells same
  struct_alike alike v w c d h = (
    named_fields ns gs (told w),
    refl,
    fields_same ns gs (told v)
        (told w) (alike v w (each v c) (each w d) h),
  )
