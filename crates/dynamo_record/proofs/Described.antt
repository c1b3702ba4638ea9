-- A struct is read by the list of its fields as its shape says.
use Rattle.std.proofs.Common.{◌≡◌, ℕ, zero, suc, List, [], ◌∷◌, Some, None, Result, Ok, Err, length, ◌<◌, ◌≤◌, refl, sym, ap, subst, ◌∙◌, arith}
use Rattle.dynamo_record.proofs.Common.{bytes_eq, if◌then◌else◌, Fault, Datum, Answer, After}
use Rattle.dynamo_record.proofs.Common.{value_or, ◌>>=◌, read_parts, by_name, Meets, IsMessage}
use Rattle.dynamo_record.proofs.Common.{Source, Text, Entry, meets_more, put_field, Permits}
use Rattle.dynamo_record.proofs.Common.{conforms, read, into, missing, read_field, fields_of}
use Rattle.dynamo_record.proofs.Common.{fields_in_order, Same, Shape, FieldShapes, no_field_shapes}
use Rattle.dynamo_record.proofs.Common.{field_shape, after, same_next, Slots, first_slot}
use Rattle.dynamo_record.proofs.Common.{other_slots, fill_slot, empty, close, NamesDiffer}
use Rattle.dynamo_record.proofs.Common.{fields_from, fill_one, read_at, fill_at, reads_on}
use Rattle.dynamo_record.proofs.Common.{ConformEach, SameData, Defaults, first_default}
use Rattle.dynamo_record.proofs.Common.{other_defaults, field_shapes, named_fields, read_fields}
use Rattle.dynamo_record.proofs.Common.{read_nth, unread, complete, Shapes, Data, Makes, Names}
use Rattle.dynamo_record.proofs.Common.{first_name, other_names, differ, place_of, AboutRecord}
use Rattle.dynamo_record.proofs.Common.{record_fields, record_told, record_tells, record_shape}
use Rattle.dynamo_record.proofs.Common.{record_reads, RecordAnswers, FromParts, IsAlike, AreNamed}
use Rattle.dynamo_record.proofs.Common.{names_apart, each_many, place_in, each, fields_same}
use Rattle.dynamo_record.proofs.Common.{same_length, none_named, no_shape}
use Rattle.dynamo_ser.specs.Datum as datum
use Rattle.dynamo_de.specs.Answer as answer
use Rattle.dynamo_record.proofs.Answering.{after_read, answers_after}
use Rattle.dynamo_record.proofs.Places.{whole}

-- ---- names and places

pub place_named : (i : ℕ) (ns : Names) (ss : Shapes) (gs : Defaults) (t : Text) → length ns ≡ length ss → place_in i (field_shapes ns ss gs) t ≡ place_of i ns t
place_named i [] [] gs t h = refl
place_named i [] (s ∷ ss) gs t h = absurd (none_named s ss h)
place_named i (n ∷ ns) [] gs t h = absurd (no_shape n ns h)
place_named i (n ∷ ns) (s ∷ ss) gs t h = ap (λ r. if bytes_eq t n then i else r) (place_named (suc i) ns ss (other_defaults gs) t (same_length s n ns ss h))

-- ---- the field at a place

next : (i : ℕ) (s : Shape) (ss : Shapes) → suc i < length (s ∷ ss) → i < length ss
next i s ss h = omega arith

none_there : (i : ℕ) → i < length {A = Shape} [] → ⊥
none_there i h = omega arith

pub read_there : (i : ℕ) (ns : Names) (ss : Shapes) (gs : Defaults) (x : Source) → i < length ss → read_at i (field_shapes ns ss gs) x ≡ read_nth i ss x
read_there i ns [] gs x h = absurd (none_there i h)
read_there zero ns (s ∷ ss) gs x h = refl
read_there (suc i) ns (s ∷ ss) gs x h = read_there i (other_names ns) ss (other_defaults gs) x (next i s ss h)

abbrev IsField : FieldShapes → Type 0
IsField no_field_shapes = ⊥
IsField _ = Unit {0}

there : (i : ℕ) (ns : Names) (ss : Shapes) (gs : Defaults) → i < length ss → IsField (fields_from i (field_shapes ns ss gs))
there i ns [] gs h = absurd (none_there i h)
there zero ns (s ∷ ss) gs h = tt
there (suc i) ns (s ∷ ss) gs h = there i (other_names ns) ss (other_defaults gs) (next i s ss h)

pub filled_there : (i : ℕ) (ns : Names) (ss : Shapes) (gs : Defaults) (d : Datum) (os : Slots) → i < length ss → fill_at i (field_shapes ns ss gs) d os ≡ fill_slot i d os
filled_there i ns ss gs d os h = along (fields_from i (field_shapes ns ss gs)) (there i ns ss gs h)
  where
    along : (fs : FieldShapes) → IsField fs → fill_one fs i d os ≡ fill_slot i d os
    along no_field_shapes k = absurd k
    along (field_shape n s e fs) k = refl

some_left : (i : ℕ) (s : Shape) (ss : Shapes) → length (s ∷ ss) ≤ suc i → length ss ≤ i
some_left i s ss h = omega arith

not_past : (s : Shape) (ss : Shapes) → length (s ∷ ss) ≤ 0 → ⊥
not_past s ss h = omega arith

nothing_from : (i : ℕ) → fields_from i no_field_shapes ≡ no_field_shapes
nothing_from zero = refl
nothing_from (suc i) = refl

pub past : (i : ℕ) (ns : Names) (ss : Shapes) (gs : Defaults) → length ss ≤ i → fields_from i (field_shapes ns ss gs) ≡ no_field_shapes
past i ns [] gs h = nothing_from i
past zero ns (s ∷ ss) gs h = absurd (not_past s ss h)
past (suc i) ns (s ∷ ss) gs h = past i (other_names ns) ss (other_defaults gs) (some_left i s ss h)

-- ---- all fields

pub empty_unread : (ns : Names) (ss : Shapes) (gs : Defaults) → empty (field_shapes ns ss gs) ≡ unread ss
empty_unread ns [] gs = refl
empty_unread ns (s ∷ ss) gs = ap (λ os. None ∷ os) (empty_unread (other_names ns) ss (other_defaults gs))

-- a field and the others, under names
named_then : (ns : Names) (gs : Defaults) (a : Answer Datum) (b : Answer Data) → (a >>= λ d. into (named_fields (other_names ns) (other_defaults gs)) b >>= λ fs. answer.value (put_field (first_name ns) (first_default gs) d fs)) ≡ into (named_fields ns gs) (a >>= λ d. b >>= λ ds. answer.value (d ∷ ds))
named_then ns gs (Ok d) (Ok ds) = refl
named_then ns gs (Ok d) (Err f) = refl
named_then ns gs (Err f) b = refl

pub close_complete : (ns : Names) (ss : Shapes) (gs : Defaults) (os : Slots) → close (field_shapes ns ss gs) os ≡ into (named_fields ns gs) (complete ss gs os)
close_complete ns [] gs os = refl
close_complete ns (s ∷ ss) gs os =
    let own = value_or (first_slot os) (missing s (first_default gs)) in
    ap (λ more. own >>= λ d. more >>= λ fs. answer.value (put_field (first_name ns) (first_default gs) d fs)) (close_complete (other_names ns) ss (other_defaults gs) (other_slots os))
    ∙ named_then ns gs own (complete ss (other_defaults gs) (other_slots os))

pub in_order_listed : (ns : Names) (ss : Shapes) (gs : Defaults) (xs : List Source) → fields_in_order (field_shapes ns ss gs) xs ≡ into (named_fields ns gs) (read_fields ss xs)
in_order_listed ns [] gs xs = refl
in_order_listed ns (s ∷ ss) gs [] = refl
in_order_listed ns (s ∷ ss) gs (x ∷ xs) =
    ap (λ more. read s x >>= λ d. more >>= λ fs. answer.value (put_field (first_name ns) (first_default gs) d fs)) (in_order_listed (other_names ns) ss (other_defaults gs) xs)
    ∙ named_then ns gs (read s x) (read_fields ss xs)

-- ---- the struct of the fields

module _ {V L : Type 0} (a : AboutRecord V L) where
  abbrev pub answer_of : Answer Data → Answer Datum
  answer_of x = into (datum.struct a.name) (into (named_fields a.names (a.list.defaults [])) x)

  pub struct_made : AreNamed a → (x : Answer Data) (l : L) (v : V) → a.parts v ≡ l → Makes a.list.shapes a.list.told x (answer.value []) (Some l) → RecordAnswers a (answer_of x) (Ok v)
  struct_made named x l v e h =
      let front = h.0 [] in (
        datum.struct a.name (named_fields a.names (a.list.defaults []) front),
        rw h.1 refl,
        λ c. (
          record_told a v,
          refl,
          fields_same a.names (a.list.defaults []) front (a.list.told (a.parts v) []) (subst (λ l. ConformEach (a.list.shapes []) (a.list.told l []) → SameData front (a.list.told l [])) (sym e) (λ k. h.2 [] [] [] k (λ _. tt))
              (each a.name a.names (a.list.shapes []) (a.list.defaults []) (λ v. a.list.told (a.parts v) []) (λ _ _. Unit {0}) (names_apart a named) (each_many a) v c)),
        ),
      )

  pub struct_missed : (x : Answer Data) (f : Fault) → Makes {L = L} a.list.shapes a.list.told x (answer.value []) None → IsMessage {V = V} (Err f) → RecordAnswers a (answer_of x) (Err f)
  struct_missed x f h m = rw h m

  pub struct_fails : (x : Answer Data) (f : Fault) → Permits SameData x (Err f) → RecordAnswers a (answer_of x) (Err f)
  struct_fails (Ok ds) f h = absurd h
  struct_fails (Err g) f h = h

  -- as what comes after
  pub after_struct : (x : Answer Datum) (r : Result V Fault) → RecordAnswers a x r → After x (IsAlike a) r
  after_struct x r h = after_read (conforms (record_shape a)) (record_tells a) x r h

  pub by_entries : NamesDiffer (record_fields a) → (es : List Entry) (r : Result V Fault) → After (reads_on (datum.struct a.name) (record_fields a) (empty (record_fields a)) es) (IsAlike a) r → FromParts a (by_name es) r
  by_entries differ es r h =
      let read = reads_on (datum.struct a.name) (record_fields a) (empty (record_fields a)) es in
      subst (λ x. RecordAnswers a x r) (whole (datum.struct a.name) (record_fields a) differ es) (answers_after (conforms (record_shape a)) (record_tells a) read r h)

  -- from any source
  pub by_source : {E : Type 0} (fault : E → Fault) (s : Source) (r : Result V E) → Meets fault (After (read_parts s) (FromParts a)) r → Meets fault (record_reads a s) r
  by_source fault s r h =
      let fs = record_fields a in
      meets_more fault (After (read_parts s) (FromParts a)) (record_reads a s)
      (λ r k. subst (λ x. RecordAnswers a x r) (same_next (datum.struct a.name) (read_parts s) (λ p. into (datum.struct a.name) (fields_of fs (fields_in_order fs) (read_field fs) p)) (fields_of fs (fields_in_order fs) (read_field fs)) (λ p. refl))
      (after (conforms (record_shape a)) Same (record_tells a) (FromParts a) (λ p. into (datum.struct a.name) (fields_of fs (fields_in_order fs) (read_field fs) p)) (λ p r b. b) (read_parts s) r k)) r h
