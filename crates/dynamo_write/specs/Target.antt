-- What is known of the values that a serializer makes: how they are made of one another, and what data are written as. And what
-- the builders of a list, a map, a struct and a variant give.
use Rattle.std.specs.Prelude.{◌≡◌, ℕ, List, [], ◌∷◌, ◌++◌, Result, Ok, MatchResult}
use Rattle.dynamo_value.specs.Fault.{Fault}
use Rattle.dynamo_value.specs.Steps.{◌>>=◌}
use Rattle.dynamo_value.specs.declared.error.Error.{Error}
use Rattle.dynamo_ser.specs.Datum as datum
use Rattle.dynamo_ser.specs.Datum.{Datum}
use Rattle.dynamo_ser.specs.Key.{key_text}
use Rattle.dynamo_write.specs.Answers.{Answers}
use Rattle.dynamo_write.specs.Collect.{collect}

pub record AboutTarget (V : Type 0) : Type 1 where
  -- how contracts see a value
  pub Seen : Type 0
  pub seen : V → Seen
  -- the elements of a list, one before those that follow, and the list of them
  pub Parts : Type 0
  pub no_parts : Parts
  pub part : Seen → Parts → Parts
  pub list : Parts → Seen
  -- the map of members, in the order of their keys
  pub map : List (List ℕ × Seen) → Seen
  -- what a datum, and the pieces of one, are written as, or the fault
  pub written : Datum → Result Seen Fault
  pub elements : datum.Elements → Result Parts Fault
  pub pairs : datum.Pairs → Result (List (List ℕ × Seen)) Fault
  pub fields : datum.Fields → Result (List (List ℕ × Seen)) Fault
  -- pieces are written one after another; in a pair the key comes first
  pub no_element : elements datum.no_elements ≡ Ok no_parts
  pub an_element : (d : Datum) (ds : datum.Elements) → elements (datum.element d ds) ≡ (written d >>= λ a. elements ds >>= λ rest. Ok (part a rest))
  pub no_pair : pairs datum.no_pairs ≡ Ok []
  pub a_pair : (k d : Datum) (ps : datum.Pairs) → pairs (datum.pair k d ps) ≡ (key_text k >>= λ text. written d >>= λ a. pairs ps >>= λ rest. Ok ((text, a) ∷ rest))
  pub no_field : fields datum.no_fields ≡ Ok []
  pub a_field : (name : List ℕ) (d : Datum) (fs : datum.Fields) → fields (datum.field name d fs) ≡ (written d >>= λ a. fields fs >>= λ rest. Ok ((name, a) ∷ rest))

module _ {V : Type 0} (t : AboutTarget V) where
  -- this value or this fault, or out of memory, which is always possible inside a list or a map
  abbrev pub AnswersPart : Result t.Seen Fault → Result V Error → Type 0
  AnswersPart x r = Answers t.seen (Unit {0}) x r

  -- the values that were written so far, before those that follow
  abbrev pub parts_before : List V → t.Parts → t.Parts
  parts_before [] rest = rest
  parts_before (v ∷ vs) rest = t.part (t.seen v) (parts_before vs rest)

  -- the map of these entries, in the order in which they were written
  abbrev pub map_of : List (List ℕ × t.Seen) → t.Seen
  map_of es = t.map (collect es)

  -- the map of one member
  abbrev pub one_member : List ℕ → t.Seen → t.Seen
  one_member name a = t.map ((name, a) ∷ [])

  -- what is answered if these values are there and the elements follow
  abbrev pub GivesList : List V → (t.Parts → t.Seen) → datum.Elements → Result V Error → Type 0
  GivesList values whole ds r = AnswersPart (t.elements ds >>= λ rest. Ok (whole (parts_before values rest))) r

  -- The same of a builder of lists. If no element follows, the list is answered and nothing else: its end takes no memory.
  abbrev pub GivesWholeList : List V → (t.Parts → t.Seen) → datum.Elements → Result V Error → Type 0
  GivesWholeList values whole datum.no_elements r = MatchResult r (λ v. t.seen v ≡ whole (parts_before values t.no_parts)) (λ e. ⊥)
  GivesWholeList values whole (datum.element d ds) r = GivesList values whole (datum.element d ds) r

  -- what is answered if these entries are there and the pairs follow
  abbrev pub GivesMap : List (List ℕ × t.Seen) → datum.Pairs → Result V Error → Type 0
  GivesMap entries ps r = AnswersPart (t.pairs ps >>= λ rest. Ok (map_of (entries ++ rest))) r

  -- what is answered if these entries are there and the fields follow
  abbrev pub GivesStruct : List (List ℕ × t.Seen) → (t.Seen → t.Seen) → datum.Fields → Result V Error → Type 0
  GivesStruct entries whole fs r = AnswersPart (t.fields fs >>= λ rest. Ok (whole (map_of (entries ++ rest)))) r
