-- A described struct, entry by entry.
use Rattle.std.proofs.Common.{◌≡◌, List, [], Option, Some, None, Result, Ok, Err, sym, subst, inl, inr}
use Rattle.dynamo_record.proofs.Common.{Fault, Answer, After, by_name, in_order, Meets, IsMessage}
use Rattle.dynamo_record.proofs.Common.{TakesEntry, Source, Entry, Text, into, Slots, IsEntry}
use Rattle.dynamo_record.proofs.Common.{Enters, StructSoFar, unread, complete, read_fields, Data}
use Rattle.dynamo_record.proofs.Common.{Holds, Completes, MakesOrFails, Names, place_of}
use Rattle.dynamo_record.proofs.Common.{AboutRecord, AreNamed, record_fields, FromParts}
use Rattle.dynamo_record.proofs.Common.{RecordAnswers, IsAlike, place_in, names_differ}
use Rattle.dynamo_ser.specs.Datum as datum
use Rattle.dynamo_de.specs.Answer as answer
use Rattle.dynamo_record.proofs.Described.{empty_unread, in_order_listed, answer_of, struct_made, struct_missed, struct_fails, by_entries}
use Rattle.dynamo_record.proofs.Described as described
use Rattle.dynamo_record.proofs.Closing as closing
use Rattle.dynamo_record.proofs.Closing.{Last}
use Rattle.dynamo_record.proofs.Entries as entries

module _ {V L : Type 0} (a : AboutRecord V L) where
  -- ---- in order

  module _ {E : Type 0} (fault : E → Fault) (xs left : List Source) where
    abbrev Listed : Result (Option L) E → Type 0
    Listed = MakesOrFails fault a.list.shapes a.list.told (read_fields (a.list.shapes []) xs) (answer.value [])

    abbrev all : Answer Data
    all = read_fields (a.list.shapes []) xs

    listed : (r : Result V Fault) → RecordAnswers a (answer_of a all) r → FromParts a (in_order xs) r
    listed r h = subst (λ fs. RecordAnswers a (into (datum.struct a.name) fs) r) (sym (in_order_listed a.names (a.list.shapes []) (a.list.defaults []) xs)) h

    pub listed_made : (l : L) (v : V) → AreNamed a → a.parts v ≡ l → Listed (Ok (Some l)) → FromParts a (in_order xs) (Ok v)
    listed_made l v named e h = listed (Ok v) (struct_made a named all l v e h)

    pub listed_short : (e : E) → Listed (Ok None) → IsMessage {V = V} (Err (fault e)) → FromParts a (in_order xs) (Err (fault e))
    listed_short e h m = listed (Err (fault e)) (struct_missed a all (fault e) h m)

    pub listed_fails : (e : E) → Listed (Err e) → Meets {V = V} fault (FromParts a (in_order xs)) (Err e)
    listed_fails e (inl lacks) = inl lacks
    listed_fails e (inr failed) = inr (listed (Err (fault e)) (struct_fails a all (fault e) failed))

  -- ---- by entries

  -- the place of a name among the names is that of its field
  pub place_named : AreNamed a → (names : Names) (key name : Text) → names ≡ a.names → key ≡ name → place_of 0 names key ≡ place_in 0 (record_fields a) name
  place_named named names key name same is = rw (same, is) (sym (described.place_named 0 a.names (a.list.shapes []) (a.list.defaults []) name named.1))

  module _ {X : Type 0} (named : AreNamed a) (holds : Holds X) (es : List Entry) where
    abbrev front : X → Slots → Type 0
    front x os = holds x os []

    whole : (r : Result V Fault) → After (entries.answered (datum.struct a.name) (record_fields a) es) (IsAlike a) r → FromParts a (by_name es) r
    whole r h = by_entries a (names_differ a.names (a.list.shapes []) (a.list.defaults []) named.0 named.1) es r h

    pub starts : (x : X) → holds x (unread (a.list.shapes [])) [] → StructSoFar a holds x es es
    starts x h = entries.starts (datum.struct a.name) (record_fields a) (IsAlike a) front es x (subst (front x) (sym (empty_unread a.names (a.list.shapes []) (a.list.defaults []))) h)

    module _ {D E : Type 0} (source : D → Source) (fault : E → Fault) (l new : List Entry) (x : X) (so_far : StructSoFar a holds x l es) where
      -- the next entry
      module _ (d : D × D) (taken : TakesEntry source l new (Some d)) (y : X) where
        abbrev Reads : Result (Unit {0}) E → Type 0
        Reads r = (e : Entry) (os : Slots) → IsEntry source d e → holds x os [] → Meets fault (Enters front (record_fields a) os y e) r

        pub entry_read : Reads (Ok tt) → StructSoFar a holds y new es
        entry_read h = entries.entry_read (datum.struct a.name) (record_fields a) (IsAlike a) front es source l new x so_far fault d taken y h

        pub entry_fails : (e : E) → Reads (Err e) → Meets {V = V} fault (FromParts a (by_name es)) (Err e)
        entry_fails e h = elim (entries.entry_fails (datum.struct a.name) (record_fields a) (IsAlike a) front es source l new x so_far fault d taken y e h) [ inl lacks ↦ inl lacks | inr failed ↦ inr (whole (Err (fault e)) failed) ]

      -- after the last entry
      module _ (taken : TakesEntry source l new None) where
        last : Last a holds x (entries.answered (datum.struct a.name) (record_fields a) es)
        last = entries.ends (datum.struct a.name) (record_fields a) (IsAlike a) front es source l new x so_far taken

        -- all fields are there, or one is missed
        module _ (N : Type 0) (missed : Slots → Option Text) where
          abbrev Ends : Result (L × N) E → Type 0
          Ends r = (os : Slots) → holds x os [] → Completes fault a.list.shapes a.list.told (complete (a.list.shapes []) (a.list.defaults []) os) (answer.value []) (missed os) (λ _. None) r

          pub all_made : (m : L) (others : N) (v : V) → a.parts v ≡ m → Ends (Ok (m, others)) → FromParts a (by_name es) (Ok v)
          all_made m others v e h = closing.all_made a named holds x (entries.answered (datum.struct a.name) (record_fields a) es) (FromParts a (by_name es)) whole last fault N missed m others v e h

          pub one_missed : (e : E) → Ends (Err e) → Meets {V = V} fault (FromParts a (by_name es)) (Err e)
          one_missed e h = closing.one_missed a named holds x (entries.answered (datum.struct a.name) (record_fields a) es) (FromParts a (by_name es)) whole last fault N missed e h
