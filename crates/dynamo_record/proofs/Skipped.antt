-- Reading the fields of a struct without an entry that is ignored.
use Rattle.std.proofs.Common.{◌≡◌, ◌++◌, ℕ, suc, true, false, List, [], ◌∷◌, Ok, Err, refl, sym, ap, subst, ◌∙◌}
use Rattle.dynamo_record.proofs.Common.{if◌then◌else◌, bytes_eq, ◌>>=◌, Datum, Fields, Answer}
use Rattle.dynamo_record.proofs.Common.{ignore, ignore_entries, read_string, Text, Entry, attribute}
use Rattle.dynamo_record.proofs.Common.{into, read_field, read_each_entry, fields_among}
use Rattle.dynamo_record.proofs.Common.{fields_by_name, FieldShapes, no_field_shapes, field_shape}
use Rattle.dynamo_record.proofs.Common.{Slots, empty, fields_from, read_one, fill_one, entry_at}
use Rattle.dynamo_record.proofs.Common.{reads_on, place_in, AreBehind}
use Rattle.dynamo_ser.specs.Datum as datum
use Rattle.dynamo_de.specs.Answer as answer
use Rattle.dynamo_value.specs.Av as av
use Rattle.dynamo_value.specs.Av.{Av}
use Rattle.dynamo_de.specs.Fields.{read_fields}
use Rattle.dynamo_shape.specs.Clear.{is_field}
use Rattle.dynamo_shape.proofs.Found.{or_false}
use Rattle.dynamo_record.proofs.Places.{whole}

-- ---- a text is ignored

abbrev given : {A : Type 0} → Answer A → Type 0
given (Ok x) = Unit {0}
given _ = ⊥

-- what reads as a text meets no fault
pub text_ignored : (a : Av) (t : Text) → read_string (attribute a) ≡ answer.value t → ignore a ≡ answer.value tt
text_ignored (av.S s) t h = refl
text_ignored (av.N s) t h = absurd (subst given (sym h) tt)
text_ignored (av.B s) t h = refl
text_ignored (av.Boolean b) t h = refl
text_ignored (av.Null true) t h = refl
text_ignored (av.Null false) t h = absurd (subst given (sym h) tt)
text_ignored (av.M ms) t h = absurd (subst given (sym h) tt)
text_ignored (av.L as') t h = absurd (subst given (sym h) tt)
text_ignored (av.Ss ts) t h = refl
text_ignored (av.Ns ts) t h = absurd (subst given (sym h) tt)
text_ignored (av.Bs ts) t h = refl

-- ---- an entry of another name than the fields have

shift : (i : ℕ) (fs : FieldShapes) (t : Text) → place_in (suc i) fs t ≡ suc (place_in i fs t)
shift i no_field_shapes t = refl
shift i (field_shape own s d fs) t = elim (bytes_eq t own) as (λ b. (if b then suc i else place_in (suc (suc i)) fs t) ≡ suc (if b then i else place_in (suc i) fs t)) [
  | true ↦ refl
  | false ↦ shift (suc i) fs t
]

no_field : (fs : FieldShapes) (t : Text) → is_field fs t ≡ false → fields_from (place_in 0 fs t) fs ≡ no_field_shapes
no_field no_field_shapes t h = refl
no_field (field_shape own s d fs) t h =
    let p = or_false (bytes_eq t own) (is_field fs t) h in
    ap (λ b. fields_from (if b then 0 else place_in 1 fs t) (field_shape own s d fs)) p.0
    ∙ (ap (λ i. fields_from i (field_shape own s d fs)) (shift 0 fs t) ∙ no_field fs t p.1)

module _ (make : Fields → Datum) (fs : FieldShapes) (t : Text) (a : Av) (other : is_field fs t ≡ false) (ignored : ignore a ≡ answer.value tt) where
  passed : (os : Slots) → entry_at fs (place_in 0 fs t) os a ≡ answer.value os
  passed os =
      ap (λ gs. into (λ d. fill_one gs (place_in 0 fs t) d os) (read_one gs (attribute a))) (no_field fs t other)
      ∙ ap (λ q. into (λ d. os) (into (λ _. datum.unit) q)) ignored

  skipped : (front back : List Entry) (os : Slots) → reads_on make fs os (front ++ ((t, a) ∷ back)) ≡ reads_on make fs os (front ++ back)
  unfolding read_fields
  skipped [] back os = ap (λ q. q >>= λ new. reads_on make fs new back) (passed os)
  skipped (e ∷ front) back os = along (entry_at fs (place_in 0 fs e.0) os e.1) (skipped front back)
    where
      along : (q : Answer Slots) → ((new : Slots) → reads_on make fs new (front ++ ((t, a) ∷ back)) ≡ reads_on make fs new (front ++ back))
          → (q >>= λ new. reads_on make fs new (front ++ ((t, a) ∷ back))) ≡ (q >>= λ new. reads_on make fs new (front ++ back))
      along (Ok new) more = more new
      along (Err f) more = refl

-- the fields are the same without the tag
pub without_tag : (make : Fields → Datum) (fs : FieldShapes) (tag : Text) (a : Av) → AreBehind tag fs → ignore a ≡ answer.value tt → (front back : List Entry) → into make (fields_by_name fs (read_field fs) (front ++ ((tag, a) ∷ back))) ≡ into make (fields_by_name fs (read_field fs) (front ++ back))
without_tag make fs tag a behind ignored front back =
    sym (whole make fs behind.1 (front ++ ((tag, a) ∷ back)))
    ∙ (skipped make fs tag a behind.0 ignored front back (empty fs) ∙ whole make fs behind.1 (front ++ back))

-- ---- no fields

pub none_by_name : (es : List Entry) → fields_by_name no_field_shapes (read_field no_field_shapes) es ≡ into (λ _. datum.no_fields) (ignore_entries es)
none_by_name [] = refl
none_by_name (e ∷ es) = along (ignore e.1) (read_each_entry (read_field no_field_shapes) es) (ignore_entries es) (none_by_name es)
  where
    along : (q : Answer (Unit {0})) (xs : Answer (List (Text × Datum))) (u : Answer (Unit {0})) → (xs >>= fields_among no_field_shapes []) ≡ into (λ _. datum.no_fields) u
        → ((into (λ _. datum.unit) q >>= λ d. xs >>= λ l. answer.value ((e.0, d) ∷ l)) >>= fields_among no_field_shapes []) ≡ into (λ _. datum.no_fields) (q >>= λ _. u)
    along (Ok x) (Ok l) u h = h
    along (Ok x) (Err f) u h = h
    along (Err f) xs u h = refl
