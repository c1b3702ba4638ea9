-- What is read of the content of a struct variant.
use Rattle.std.proofs.Common.{[], Option, Some, None, Result, Ok, Err, refl, sym, ap, subst}
use Rattle.dynamo_record.proofs.Common.{Fault, Fields, Variant, OfContent, Answer, After, ◌>>=◌}
use Rattle.dynamo_record.proofs.Common.{read_entries, Meets, Source, Text, by_name, meets_more}
use Rattle.dynamo_record.proofs.Common.{conform_fields, conforms_content, AnswersByShape, into}
use Rattle.dynamo_record.proofs.Common.{read_field, fields_by_name, Same, SameFields, FieldShapes}
use Rattle.dynamo_record.proofs.Common.{after, stops, fields_in, about_named, named_fields}
use Rattle.dynamo_record.proofs.Common.{AboutList, Names, AboutRecord, record_of, record_fields}
use Rattle.dynamo_record.proofs.Common.{FromParts, RecordAnswers, ReadsInside}
use Rattle.dynamo_ser.specs.Datum as datum
use Rattle.dynamo_de.specs.Answer as answer
use Rattle.dynamo_shape.specs.Shape as shape
use Rattle.dynamo_shape.proofs.Results.{value_same}

-- The fields are those of the struct that they would be.
module _ {C L : Type 0} (own : Text) (names : Names) (list : C → L) (l : AboutList L) (v : Variant) where
  abbrev Struct : AboutRecord C L
  Struct = record_of own names list l

  abbrev Told : C → Fields
  Told w = named_fields names (l.defaults []) (l.told (list w) [])

  abbrev FieldAnswers : Answer Fields → Result C Fault → Type 0
  FieldAnswers = AnswersByShape (conform_fields (record_fields Struct)) SameFields Told

  abbrev by_names : FieldShapes → Source → Answer Fields
  by_names fs s = read_entries s >>= fields_by_name fs (read_field fs)

  fields_answered : (a : Answer Fields) (r : Result C Fault) → RecordAnswers Struct (into (datum.struct own) a) r → FieldAnswers a r
  fields_answered (Ok gs) (Ok w) h = (
    gs,
    refl,
    λ c.
        let e = h.2 (Told w, refl, c) in
        let k = subst (λ d. Same d (datum.struct own (Told w))) (sym (value_same h.1)) e in
        subst (SameFields gs) (sym (ap fields_in k.1)) k.2,
  )
  fields_answered (Ok gs) (Err f) h = h
  fields_answered (Err g) (Ok w) h = cc
  fields_answered (Err g) (Err f) h = h

  entries_answered : (s : Source) (r : Result C Fault) → After (read_entries s) (λ es. FromParts Struct (by_name es)) r → FieldAnswers (by_names (record_fields Struct) s) r
  entries_answered s r h =
      after (conform_fields (record_fields Struct)) SameFields Told (λ es. FromParts Struct (by_name es)) (fields_by_name (record_fields Struct) (read_field (record_fields Struct)))
      (λ es r k. fields_answered (fields_by_name (record_fields Struct) (read_field (record_fields Struct)) es) r k) (read_entries s) r h

  in_variant : (a : Answer Fields) (r : Result C Fault) → FieldAnswers a r → AnswersByShape (conforms_content (shape.named (record_fields Struct)) v) Same (λ w. datum.struct_variant v (Told w)) (into (datum.struct_variant v) a) r
  in_variant a (Ok w) h = (
    datum.struct_variant v h.0,
    ap (into (datum.struct_variant v)) h.1,
    λ c. (Told w, refl, h.2 (subst (conform_fields (record_fields Struct)) (sym (ap fields_in c.1)) c.2)),
  )
  in_variant a (Err f) h = stops SameFields Same a (λ gs. answer.value (datum.struct_variant v gs)) f h

  inside : (c : Option Source) (r : Result C Fault) → OfContent (λ s. After (read_entries s) (λ es. FromParts Struct (by_name es))) c r → ReadsInside (about_named names list l).shape (about_named names list l).told v c r
  inside None (Ok w) h = absurd h
  inside None (Err f) h = h
  inside (Some s) r h = in_variant (by_names (record_fields Struct) s) r (entries_answered s r h)

  pub named_read : {E : Type 0} (fault : E → Fault) (c : Option Source) (r : Result C E) → Meets fault (OfContent (λ s. After (read_entries s) (λ es. FromParts Struct (by_name es))) c) r → Meets fault (ReadsInside (about_named names list l).shape (about_named names list l).told v c) r
  named_read fault c r h = meets_more fault (OfContent (λ s. After (read_entries s) (λ es. FromParts Struct (by_name es))) c) (ReadsInside (about_named names list l).shape (about_named names list l).told v c) (inside c) r h
