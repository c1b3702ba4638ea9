-- The variants of an internally tagged enum: what is read of one, alone or in a list.
use Rattle.std.proofs.Common.{◌≡◌, ◌+◌, ◌<◌, ℕ, zero, true, List, [], ◌∷◌, length, Result, Ok, Err, refl, sym, ap, subst, ◌∙◌, inl, inr, arith}
use Rattle.dynamo_record.proofs.Common.{not, Fault, Fields, no_fields, Answer, Gives}
use Rattle.dynamo_record.proofs.Common.{ignore_entries, Meets, Text, Entry, by_name, meets_more}
use Rattle.dynamo_record.proofs.Common.{into, SameFields, Permits, FieldShapes, no_field_shapes}
use Rattle.dynamo_record.proofs.Common.{both_true, FieldAnswers, ReadsFields, differ, is_named}
use Rattle.dynamo_record.proofs.Common.{AboutRecord, AreNamed, FromParts, record_fields}
use Rattle.dynamo_record.proofs.Common.{record_told, AboutTaggedList, Structs, struct_at}
use Rattle.dynamo_record.proofs.Common.{either_place, either_structs, either_told}
use Rattle.dynamo_de.specs.Answer as answer
use Rattle.dynamo_record.specs.declared.variant_list.Choice.{Choice}
use Rattle.dynamo_record.specs.declared.variant_list.Choice.TheVariants.{Right}
use Rattle.dynamo_record.proofs.HeldStructs.{fields_answered}
use Rattle.dynamo_record.proofs.Skipped.{none_by_name}

-- ---- the second of two lists

module _ {L R : Type 0} (l : AboutTaggedList L) (r : AboutTaggedList R) (name : Text) (ss : Structs) (es : List Entry) (place j : ℕ) (at : l.count + j ≡ place) where
  abbrev Here : FieldShapes
  Here = (struct_at place (either_structs l r name ss)).1

  abbrev There : FieldShapes
  There = (struct_at j (r.structs name ss)).1

  same_fields : There ≡ Here
  same_fields = ap (λ s. s.1) (sym (ap (λ n. struct_at n (either_structs l r name ss)) (sym at) ∙ l.behind name (r.structs name ss) j))

  pub right_read : (w : R) → ReadsFields r.place r.told j There es (Ok w) → ReadsFields (either_place l r) (either_told l r) place Here es (Ok (Right w))
  right_read w h = (ap (λ n. l.count + n) h.0 ∙ at, subst (λ fs. FieldAnswers r.told fs es (Ok w)) same_fields h.1)

  pub right_fails : {E : Type 0} (fault : E → Fault) (e : E) → Meets {V = R} fault (ReadsFields r.place r.told j There es) (Err e) → Meets {V = Choice L R} fault (ReadsFields (either_place l r) (either_told l r) place Here es) (Err e)
  right_fails fault e h = subst (λ fs. Meets {V = Choice L R} fault (ReadsFields (either_place l r) (either_told l r) place fs es) (Err e)) same_fields h

-- ---- a variant alone

module _ (name : Text) (fs : FieldShapes) (ss : Structs) (es : List Entry) (place : ℕ) (inside : place < 1) where
  here : zero ≡ place
  here = let at : 0 ≡ place = omega arith in at

  pub alone : {V E : Type 0} (told : V → Fields) (fault : E → Fault) (r : Result V E) → Meets fault (FieldAnswers told fs es) r → Meets fault (ReadsFields (λ _. 0) told place (struct_at place ((name, fs) ∷ ss)).1 es) r
  alone told fault (Ok v) h = subst (λ n. ReadsFields (λ _. 0) told n (struct_at n ((name, fs) ∷ ss)).1 es (Ok v)) here (refl, h)
  alone {V} told fault (Err e) (inl lacks) = inl lacks
  alone {V} told fault (Err e) (inr failed) = inr (subst (λ n. ReadsFields {L = V} (λ _. 0) told n (struct_at n ((name, fs) ∷ ss)).1 es (Err (fault e))) here failed)

-- the fields of a struct
pub fields_read : {V L E : Type 0} (a : AboutRecord V L) (own : Text) (ss : Structs) (es : List Entry) (place : ℕ) → place < 1 → (fault : E → Fault) (r : Result V E) → Meets fault (FromParts a (by_name es)) r → Meets fault (ReadsFields (λ _. 0) (record_told a) place (struct_at place ((own, record_fields a) ∷ ss)).1 es) r
fields_read a own ss es place inside fault r h =
    alone own (record_fields a) ss es place inside (record_told a) fault r (meets_more fault (FromParts a (by_name es)) (FieldAnswers (record_told a) (record_fields a) es) (λ r k. fields_answered a es r k) r h)

-- fields whose names differ from the tag have names that differ
pub fit_named : {V L : Type 0} (a : AboutRecord V L) (tag : Text) → (differ (tag ∷ a.names) ≡ true) × (length a.names ≡ length (a.list.shapes [])) → AreNamed a
fit_named a tag fit = ((both_true (not (is_named a.names tag)) (differ a.names) fit.0).1, fit.1)

-- ---- no fields

ignored : (q : Answer (Unit {0})) → Gives {V = Unit {0}} (λ u. u) q (Ok tt) → q ≡ answer.value tt
ignored (Ok x) h = refl
ignored (Err f) h = absurd h

not_ignored : (q : Answer (Unit {0})) (f : Fault) → Gives {V = Unit {0}} (λ u. u) q (Err f) → Permits SameFields (into (λ _. no_fields) q) (Err f)
not_ignored (Ok x) f h = absurd h
not_ignored (Err g) f h = h

module _ (C : Type 0) (name : Text) (ss : Structs) (es : List Entry) (place : ℕ) (inside : place < 1) where
  abbrev Reads : {E : Type 0} → (E → Fault) → Result C E → Type 0
  Reads fault = Meets fault (ReadsFields (λ (_ : C). 0) (λ (_ : C). no_fields) place (struct_at place ((name, no_field_shapes) ∷ ss)).1 es)

  pub nothing_read : {E : Type 0} (fault : E → Fault) (x : C) → Gives {V = Unit {0}} (λ u. u) (ignore_entries es) (Ok tt) → Reads fault (Ok x)
  nothing_read fault x h =
      alone name no_field_shapes ss es place inside (λ (_ : C). no_fields) fault (Ok x) (no_fields, none_by_name es ∙ ap (into (λ _. no_fields)) (ignored (ignore_entries es) h), λ c. refl)

  pub nothing_fails : {E : Type 0} (fault : E → Fault) (e : E) → Meets {V = Unit {0}} fault (Gives (λ u. u) (ignore_entries es)) (Err e) → Reads fault (Err e)
  nothing_fails fault e (inl lacks) = inl lacks
  nothing_fails fault e (inr failed) =
      alone name no_field_shapes ss es place inside (λ (_ : C). no_fields) fault (Err e)
      (inr (subst (λ q. Permits SameFields q (Err (fault e))) (sym (none_by_name es)) (not_ignored (ignore_entries es) (fault e) failed)))
