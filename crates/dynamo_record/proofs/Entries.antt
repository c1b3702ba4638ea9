-- A struct's entries, one after another.
use Rattle.std.proofs.Common.{List, [], ◌∷◌, Some, None, Result, Ok, Err, sym, subst, inl, inr}
use Rattle.dynamo_record.proofs.Common.{Fault, Datum, Fields, Answer, After, ◌>>=◌, Meets}
use Rattle.dynamo_record.proofs.Common.{TakesEntry, Source, Entry, attribute, into, FieldShapes}
use Rattle.dynamo_record.proofs.Common.{Slots, empty, read_at, fill_at, IsEntry, Enters, finish}
use Rattle.dynamo_record.proofs.Common.{reads_on, SoFar, IfRead, place_in}
use Rattle.dynamo_de.specs.Fields.{read_fields, LeadsTo}
use Rattle.dynamo_de.proofs.Fields.{fields_start}
use Rattle.dynamo_record.proofs.Answering.{after_ok}

-- what reading all entries gives
abbrev pub answered : (Fields → Datum) → FieldShapes → List Entry → Answer Datum
answered make fs es = reads_on make fs (empty fs) es

module _ {X V : Type 0} (make : Fields → Datum) (fs : FieldShapes) (answers : Datum → Result V Fault → Type 0) (holds : X → Slots → Type 0) (es : List Entry) where
  pub starts : (x : X) → holds x (empty fs) → SoFar make fs answers holds x es es
  starts x h = (empty fs, h, fields_start answers (answered make fs es))

  module _ {D : Type 0} (source : D → Source) (l new : List Entry) (x : X) (so_far : SoFar make fs answers holds x l es) where
    -- the next entry
    module _ {E : Type 0} (fault : E → Fault) (d : D × D) (taken : TakesEntry source l new (Some d)) (y : X) where
      abbrev pub Reads : Result (Unit {0}) E → Type 0
      Reads r = (e : Entry) (os : Slots) → IsEntry source d e → holds x os → Meets fault (Enters holds fs os y e) r

      pub entry_read : Reads (Ok tt) → SoFar make fs answers holds y new es
      unfolding LeadsTo read_fields
      entry_read h = along l so_far taken
        where
          along : (k : List Entry) → SoFar make fs answers holds x k es → TakesEntry source k new (Some d) → SoFar make fs answers holds y new es
          along [] before t = cc
          along (e ∷ k) before t =
              let i = place_in 0 fs e.0 in
              let os = before.0 in
              let q = after_ok (read_at i fs (attribute e.1)) (λ d (_ : Unit {0}). holds y (fill_at i fs d os)) tt (h e os (t.1, t.2) before.1) in (
                fill_at i fs q.0 os,
                q.2,
                λ r rest. before.2 r (subst (λ a. After (into (λ d. fill_at i fs d os) a >>= λ new. reads_on make fs new k) answers r) (sym q.1)
                    (subst (λ j. After (reads_on make fs (fill_at i fs q.0 os) j) answers r) t.0 rest)),
              )

      -- its fault is the struct's
      pub entry_fails : (f : E) → Reads (Err f) → Meets fault (After (answered make fs es) answers) (Err f)
      unfolding LeadsTo read_fields
      entry_fails f h = along l so_far taken
        where
          failed : (a : Answer Datum) (next : Datum → Slots) (k : List Entry) → After a (λ d. IfRead (λ (_ : Unit {0}). holds y (next d))) (Err (fault f)) → After (into next a >>= λ new. reads_on make fs new k) answers (Err (fault f))
          failed (Ok d) next k h = absurd h
          failed (Err g) next k h = h

          along : (k : List Entry) → SoFar make fs answers holds x k es → TakesEntry source k new (Some d) → Meets fault (After (answered make fs es) answers) (Err f)
          along [] before t = cc
          along (e ∷ k) before t =
              let i = place_in 0 fs e.0 in
              elim (h e before.0 (t.1, t.2) before.1) [
                | inl lacks ↦ inl lacks
                | inr refused ↦ inr (before.2 (Err (fault f)) (failed (read_at i fs (attribute e.1)) (λ d. fill_at i fs d before.0) k refused))
              ]

    -- after the last entry
    pub ends : TakesEntry source l new None → (os : Slots) × holds x os × ((r : Result V Fault) → After (finish make fs os) answers r → After (answered make fs es) answers r)
    unfolding LeadsTo read_fields
    ends taken = along l so_far taken
      where
        along : (k : List Entry) → SoFar make fs answers holds x k es → TakesEntry source k new None → (os : Slots) × holds x os × ((r : Result V Fault) → After (finish make fs os) answers r → After (answered make fs es) answers r)
        along [] before t = (before.0, before.1, before.2)
        along (e ∷ k) before t = absurd t
