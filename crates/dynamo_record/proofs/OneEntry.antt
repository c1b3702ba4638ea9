-- One entry of a struct: it fills the field of its name, or is ignored.
use Rattle.std.proofs.Common.{◌≡◌, ℕ, [], Result, Ok, Err, String, Global, string_bytes, length, ◌<◌, ◌≤◌, sym, subst, inl, inr}
use Rattle.dynamo_record.proofs.Common.{Fault, Datum, Answer, After, Gives, read_ignored, Meets}
use Rattle.dynamo_record.proofs.Common.{read_identifier, Source, Text, key_text, into, Slots}
use Rattle.dynamo_record.proofs.Common.{fill_slot, read_one, fill_one, read_at, FillsAt, Defaults}
use Rattle.dynamo_record.proofs.Common.{field_shapes, Shapes, Holds, Fills, IfRead, Names}
use Rattle.dynamo_ser.specs.Datum as datum
use Rattle.dynamo_record.proofs.Described.{read_there, filled_there, past}

-- a key is read as its text
pub key_read : (s : Source) (t : Text) (name : String Global) → s ≡ key_text t → Gives string_bytes (read_identifier s) (Ok name) → string_bytes name ≡ t
key_read s t name is given = subst (λ s. Gives string_bytes (read_identifier s) (Ok name)) is given

module _ {X : Type 0} (holds : Holds X) (ns : Names) (ss : Shapes) (gs : Defaults) (os : Slots) (new : X) (i : ℕ) where
  abbrev pub front : X → Slots → Type 0
  front x os = holds x os []

  pub fills_there : i < length ss → (s : Source) (r : Result (Unit {0}) Fault) → Fills holds ss i os [] new s r → FillsAt front i (field_shapes ns ss gs) os new s r
  fills_there h s r k =
      subst (λ (f : Datum → Slots). After {V = Unit {0}} (read_at i (field_shapes ns ss gs) s) (λ d. IfRead (λ _. holds new (f d) [])) r) (λ j d. sym (filled_there i ns ss gs d os h) j)
      (subst (λ a. After {V = Unit {0}} a (λ d. IfRead (λ _. holds new (fill_slot i d os) [])) r) (sym (read_there i ns ss gs s h)) k)

  -- after the last field a value is ignored
  back : length ss ≤ i → (s : Source) (r : Result (Unit {0}) Fault) → After (into (λ _. datum.unit) (read_ignored s)) (λ d. IfRead (λ _. front new os)) r → FillsAt front i (field_shapes ns ss gs) os new s r
  back beyond s r k = subst (λ fs. After {V = Unit {0}} (read_one fs s) (λ d. IfRead (λ _. front new (fill_one fs i d os))) r) (sym (past i ns ss gs beyond)) k

  module _ (T : Type 0) (beyond : length ss ≤ i) (s : Source) where
    abbrev pub Ignored : Result T Fault → Type 0
    Ignored = Gives (λ (_ : T). tt) (read_ignored s)

    pub ignored : front new os → (v : T) → Ignored (Ok v) → FillsAt front i (field_shapes ns ss gs) os new s (Ok tt)
    ignored held v k = back beyond s (Ok tt) (along (read_ignored s) k)
      where
        along : (a : Answer (Unit {0})) → Gives (λ (_ : T). tt) a (Ok v) → After (into (λ _. datum.unit) a) (λ d. IfRead (λ (_ : Unit {0}). front new os)) (Ok tt)
        along (Ok x) h = held
        along (Err f) h = absurd h

    pub not_ignored : {E : Type 0} (fault : E → Fault) (e : E) → Meets fault Ignored (Err e) → Meets fault (FillsAt front i (field_shapes ns ss gs) os new s) (Err e)
    not_ignored fault e (inl lacks) = inl lacks
    not_ignored fault e (inr k) = inr (back beyond s (Err (fault e)) (along (read_ignored s) (fault e) k))
      where
        along : (a : Answer (Unit {0})) (f : Fault) → Gives (λ (_ : T). tt) a (Err f) → After (into (λ _. datum.unit) a) (λ d. IfRead (λ (_ : Unit {0}). front new os)) (Err f)
        along (Ok x) f h = absurd h
        along (Err g) f h = h
