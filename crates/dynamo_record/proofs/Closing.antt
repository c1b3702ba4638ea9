-- A described struct after its last entry: all fields are there, or one is missed.
use Rattle.std.proofs.Common.{◌≡◌, [], Option, None, Result, Ok, Err, sym, subst, inl, inr}
use Rattle.dynamo_record.proofs.Common.{Fault, Datum, Answer, After, Meets, Text, into, Slots}
use Rattle.dynamo_record.proofs.Common.{finish, complete, Holds, Completes, missing_text}
use Rattle.dynamo_record.proofs.Common.{AboutRecord, AreNamed, record_fields, RecordAnswers}
use Rattle.dynamo_record.proofs.Common.{IsAlike}
use Rattle.dynamo_ser.specs.Datum as datum
use Rattle.dynamo_de.specs.Answer as answer
use Rattle.dynamo_record.proofs.Described.{close_complete, answer_of, struct_made, struct_missed, after_struct}

-- what is answered on the struct of what is held is answered on the whole
abbrev pub Last : {V L X : Type 0} → AboutRecord V L → Holds X → X → Answer Datum → Type 0
Last {V} a holds x read = (os : Slots) × holds x os [] × ((r : Result V Fault) → After (finish (datum.struct a.name) (record_fields a) os) (IsAlike a) r → After read (IsAlike a) r)

module _ {V L X : Type 0} (a : AboutRecord V L) (named : AreNamed a) (holds : Holds X) (x : X) (read : Answer Datum) (Struct : Result V Fault → Type 0) (whole : (r : Result V Fault) → After read (IsAlike a) r → Struct r) (last : Last a holds x read) where
  closed : (r : Result V Fault) → RecordAnswers a (answer_of a (complete (a.list.shapes []) (a.list.defaults []) last.0)) r → Struct r
  closed r h =
      let shut = subst (λ fs. RecordAnswers a (into (datum.struct a.name) fs) r) (sym (close_complete a.names (a.list.shapes []) (a.list.defaults []) last.0)) h in
      whole r (last.2 r (after_struct a (finish (datum.struct a.name) (record_fields a) last.0) r shut))

  module _ {E : Type 0} (fault : E → Fault) (N : Type 0) (missed : Slots → Option Text) where
    abbrev Ends : Result (L × N) E → Type 0
    Ends r = (os : Slots) → holds x os [] → Completes fault a.list.shapes a.list.told (complete (a.list.shapes []) (a.list.defaults []) os) (answer.value []) (missed os) (λ _. None) r

    pub all_made : (m : L) (others : N) (v : V) → a.parts v ≡ m → Ends (Ok (m, others)) → Struct (Ok v)
    all_made m others v e h = closed (Ok v) (struct_made a named (complete (a.list.shapes []) (a.list.defaults []) last.0) m v e (h last.0 last.1).0)

    pub one_missed : (e : E) → Ends (Err e) → Meets {V = V} fault Struct (Err e)
    one_missed e h = elim (h last.0 last.1) [
      | inl lacks ↦ inl lacks
      | inr told ↦ inr (closed (Err (fault e)) (struct_missed a (complete (a.list.shapes []) (a.list.defaults []) last.0) (fault e) told.1 (missing_text told.0, told.3)))
    ]
