-- The fields of a struct that are read from held entries.
use Rattle.std.proofs.Common.{◌≡◌, List, [], ◌∷◌, Option, None, Result, Ok, Err, length, refl, sym, ap, subst, ◌∙◌, inl, inr, arith}
use Rattle.dynamo_record.proofs.Common.{String, string_bytes, Fault, ◌>>=◌, Fields, fields_in}
use Rattle.dynamo_record.proofs.Common.{Answer, Gives, ignore_entries, ignore, read_ignored, Meets}
use Rattle.dynamo_record.proofs.Common.{Source, Text, Entry, attribute, key_text, by_name}
use Rattle.dynamo_record.proofs.Common.{conform_fields, AnswersByShape, into, fields_by_name}
use Rattle.dynamo_record.proofs.Common.{read_field, Same, SameFields, Slots, Enters, StructSoFar}
use Rattle.dynamo_record.proofs.Common.{complete, FieldAnswers, Holds, Completes, AboutRecord}
use Rattle.dynamo_record.proofs.Common.{AreNamed, FromParts, RecordAnswers, record_fields}
use Rattle.dynamo_record.proofs.Common.{record_told}
use Rattle.dynamo_ser.specs.Datum as datum
use Rattle.dynamo_de.specs.Answer as answer
use Rattle.std.specs.declared.alloc.Global.{Global}
use Rattle.dynamo_shape.proofs.Results.{value_same}
use Rattle.dynamo_record.specs.Held as held
use Rattle.dynamo_record.proofs.Structs as structs

-- ---- the fields of a struct

module _ {V L : Type 0} (a : AboutRecord V L) where
  along : (q : Answer Fields) (r : Result V Fault) → RecordAnswers a (into (datum.struct a.name) q) r → AnswersByShape (conform_fields (record_fields a)) SameFields (record_told a) q r
  along (Ok gs) (Ok w) h = (
    gs,
    refl,
    λ c.
        let e = h.2 (record_told a w, refl, c) in
        let k = subst (λ d. Same d (datum.struct a.name (record_told a w))) (sym (value_same h.1)) e in
        subst (SameFields gs) (sym (ap fields_in k.1)) k.2,
  )
  along (Ok gs) (Err f) h = h
  along (Err g) (Ok w) h = cc
  along (Err g) (Err f) h = h

  -- what reads as the struct reads as its fields
  pub fields_answered : (es : List Entry) (r : Result V Fault) → FromParts a (by_name es) r → FieldAnswers (record_told a) (record_fields a) es r
  fields_answered es r h = along (fields_by_name (record_fields a) (read_field (record_fields a)) es) r h

  module _ {X D : Type 0} (named : AreNamed a) (holds : Holds X) (source : D → Source) (es : List Entry) where
    -- what is left is held
    abbrev pub HeldSoFar : X → List (String Global × D) → Type 0
    HeldSoFar x ps = (left : List Entry) × held.Holds source ps left × StructSoFar a holds x left es

    module _ {E : Type 0} (fault : E → Fault) (p : String Global × D) (ps : List (String Global × D)) (x y : X) where
      abbrev pub Reads : Result (Unit {0}) E → Type 0
      Reads r = (e : Entry) (os : Slots) → string_bytes p.0 ≡ e.0 → source p.1 ≡ attribute e.1 → holds x os [] → Meets fault (Enters (λ x os. holds x os []) (record_fields a) os y e) r

      abbrev text_in : Source → Text
      text_in (key_text t) = t
      text_in _ = []

      abbrev Seen : Entry → Result (Unit {0}) E → Type 0
      Seen d r = (e : Entry) (os : Slots) → (key_text d.0 ≡ key_text e.0) × (attribute d.1 ≡ attribute e.1) → holds x os [] → Meets fault (Enters (λ x os. holds x os []) (record_fields a) os y e) r

      seen : (d : Entry) (r : Result (Unit {0}) E) → string_bytes p.0 ≡ d.0 → source p.1 ≡ attribute d.1 → Reads r → Seen d r
      seen d r n s h = λ e os is k. h e os (n ∙ ap text_in is.0) (s ∙ is.1) k

      pub held_read : HeldSoFar x (p ∷ ps) → Reads (Ok tt) → HeldSoFar y ps
      held_read ([], h, so_far) reads = absurd h
      held_read (d ∷ left, h, so_far) reads = (
        left,
        h.2,
        structs.entry_read a named holds es (λ s. s) fault (d ∷ left) left x so_far (key_text d.0, attribute d.1) (refl, refl, refl) y (seen d (Ok tt) h.0 h.1 reads),
      )

      pub held_fails : (e : E) → HeldSoFar x (p ∷ ps) → Reads (Err e) → Meets {V = V} fault (FromParts a (by_name es)) (Err e)
      held_fails e ([], h, so_far) reads = absurd h
      held_fails e (d ∷ left, h, so_far) reads = structs.entry_fails a named holds es (λ s. s) fault (d ∷ left) left x so_far (key_text d.0, attribute d.1) (refl, refl, refl) y e (seen d (Err e) h.0 h.1 reads)

    -- after the last entry
    module _ {E : Type 0} (fault : E → Fault) (x : X) (N : Type 0) (missed : Slots → Option Text) where
      abbrev Ends : Result (L × N) E → Type 0
      Ends r = (os : Slots) → holds x os [] → Completes fault a.list.shapes a.list.told (complete (a.list.shapes []) (a.list.defaults []) os) (answer.value []) (missed os) (λ _. None) r

      pub held_made : (m : L) (others : N) (v : V) → a.parts v ≡ m → HeldSoFar x [] → Ends (Ok (m, others)) → FromParts a (by_name es) (Ok v)
      held_made m others v e ([], h, so_far) ends = structs.all_made a named holds es (λ s. s) fault [] [] x so_far (refl, refl) N missed m others v e ends
      held_made m others v e (d ∷ left, h, so_far) ends = absurd h

      pub held_missed : (e : E) → HeldSoFar x [] → Ends (Err e) → Meets {V = V} fault (FromParts a (by_name es)) (Err e)
      held_missed e ([], h, so_far) ends = structs.one_missed a named holds es (λ s. s) fault [] [] x so_far (refl, refl) N missed e ends
      held_missed e (d ∷ left, h, so_far) ends = absurd h

-- ---- no fields

-- what is met on what is left is met on the whole
abbrev pub Leads : {D : Type 0} → (D → Source) → List (String Global × D) → List Entry → Type 0
Leads source ps es = (left : List Entry) × held.Holds source ps left × (ignore_entries left ≡ ignore_entries es)

module _ {D : Type 0} (source : D → Source) (p : String Global × D) (ps : List (String Global × D)) (es : List Entry) (T : Type 0) where
  abbrev pub Ignores : Result T Fault → Type 0
  Ignores = Gives (λ (_ : T). tt) (read_ignored (source p.1))

  pub leads_on : (v : T) → Leads source (p ∷ ps) es → Ignores (Ok v) → Leads source ps es
  leads_on v ([], h, e) k = absurd h
  leads_on v (d ∷ left, h, e) k = (left, h.2, sym (past (ignore d.1) (subst (λ s. Gives (λ (_ : T). tt) (read_ignored s) (Ok v)) h.1 k)) ∙ e)
    where
      past : (q : Answer (Unit {0})) → Gives (λ (_ : T). tt) q (Ok v) → (q >>= λ _. ignore_entries left) ≡ ignore_entries left
      past (Ok x) g = refl
      past (Err f) g = absurd g

  pub leads_fails : {E : Type 0} (fault : E → Fault) (e : E) → Leads source (p ∷ ps) es → Meets fault Ignores (Err e) → Meets {V = Unit {0}} fault (Gives (λ u. u) (ignore_entries es)) (Err e)
  leads_fails fault e ([], h, is) k = absurd h
  leads_fails fault e (d ∷ left, h, is) (inl lacks) = inl lacks
  leads_fails fault e (d ∷ left, h, is) (inr k) =
      inr (subst (λ q. Gives {V = Unit {0}} (λ u. u) q (Err (fault e))) is (stopped (ignore d.1) (subst (λ s. Gives (λ (_ : T). tt) (read_ignored s) (Err (fault e))) h.1 k)))
    where
      stopped : (q : Answer (Unit {0})) → Gives (λ (_ : T). tt) q (Err (fault e)) → Gives {V = Unit {0}} (λ u. u) (q >>= λ _. ignore_entries left) (Err (fault e))
      stopped (Ok x) g = absurd g
      stopped (Err f) g = g

pub leads_end : {D : Type 0} (source : D → Source) (es : List Entry) → Leads source [] es → Gives {V = Unit {0}} (λ u. u) (ignore_entries es) (Ok tt)
leads_end source es ([], h, is) = subst (λ q. Gives {V = Unit {0}} (λ u. u) q (Ok tt)) is refl
leads_end source es (d ∷ left, h, is) = absurd h

-- nothing is left
pub none_left : {A : Type 0} (xs : List A) → length xs ≡ 0 → xs ≡ []
none_left [] h = refl
none_left (x ∷ xs) h = absurd (let k : ⊥ = omega arith in k)
