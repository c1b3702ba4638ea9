-- The events of an attribute value, as the field module `attribute_value` sends them: a string, a
-- boolean, a byte string, a list and a map have their own; a number is sent as its text under a
-- symbol, a NULL as a boolean under one, and a set as a list under its kind's.
use Rattle.std.specs.Prelude.{◌≡◌, ℕ, ◌+◌, List, [], ◌∷◌, ◌++◌, length, Some, IfSome}
use Rattle.serde.specs.Event as event
use Rattle.serde.specs.Event.{Event, Log, Logs, map_begins, map_ends, variant_key, field_key}
use Rattle.serde.specs.declared.name.Case.TheVariants.{AsIs}
use Rattle.dynamo_value.specs.Av as av
use Rattle.dynamo_value.specs.Av.{Av, Members, Elements, members_of}
use Rattle.dynamo_ser.specs.Symbols.{SetKind, strings, numbers, blobs}
use Rattle.dynamo_write.specs.Collect.{collect}
use Rattle.dynamo_serde.specs.Symbol.{word, a_set, a_number, a_null}
use Rattle.dynamo_serde.specs.Told.{in_seq, in_map, under}

abbrev pub text_events : List ℕ → List Event
text_events text = event.text text ∷ []

abbrev pub blob_events : List ℕ → List Event
blob_events blob = event.octets blob ∷ []

abbrev pub number_events : List ℕ → List Event
number_events text = under (word a_number) (text_events text)

abbrev pub each : (List ℕ → List Event) → List (List ℕ) → List Event
each send [] = []
each send (x ∷ xs) = send x ++ each send xs

abbrev pub set_events : SetKind → (List ℕ → List Event) → List (List ℕ) → List Event
set_events kind send xs = under (word (a_set kind)) (in_seq (length xs) (each send xs))

abbrev pub elements_count : Elements → ℕ
elements_count av.no_elements = 0
elements_count (av.element a as') = elements_count as' + 1

abbrev pub members_count : Members → ℕ
members_count av.no_members = 0
members_count (av.member key a ms) = members_count ms + 1

abbrev mutual
  pub value_events : Av → List Event
  value_events (av.N text) = number_events text
  value_events (av.S text) = text_events text
  value_events (av.Boolean b) = event.boolean b ∷ []
  value_events (av.B blob) = blob_events blob
  value_events (av.Null b) = under (word a_null) (event.boolean b ∷ [])
  value_events (av.M ms) = in_map (members_count ms) (members_events ms)
  value_events (av.L as') = in_seq (elements_count as') (elements_events as')
  value_events (av.Ss texts) = set_events strings text_events texts
  value_events (av.Ns texts) = set_events numbers number_events texts
  value_events (av.Bs xs) = set_events blobs blob_events xs

  pub members_events : Members → List Event
  members_events av.no_members = []
  members_events (av.member key a ms) = (field_key key AsIs ∷ value_events a) ++ members_events ms

  pub elements_events : Elements → List Event
  elements_events av.no_elements = []
  elements_events (av.element a as') = value_events a ++ elements_events as'

-- the attribute value of a tree whose members come in any order, at every depth
abbrev mutual
  pub in_order : Av → Av
  in_order (av.N text) = av.N text
  in_order (av.S text) = av.S text
  in_order (av.Boolean b) = av.Boolean b
  in_order (av.B blob) = av.B blob
  in_order (av.Null b) = av.Null b
  in_order (av.M ms) = av.M (members_of (collect (members_in_order ms)))
  in_order (av.L as') = av.L (elements_in_order as')
  in_order (av.Ss texts) = av.Ss texts
  in_order (av.Ns texts) = av.Ns texts
  in_order (av.Bs xs) = av.Bs xs

  pub members_in_order : Members → List (List ℕ × Av)
  members_in_order av.no_members = []
  members_in_order (av.member key a ms) = (key, in_order a) ∷ members_in_order ms

  pub elements_in_order : Elements → Elements
  elements_in_order av.no_elements = av.no_elements
  elements_in_order (av.element a as') = av.element (in_order a) (elements_in_order as')

-- where the events are known, these come after them
abbrev pub Logged : List Event → Log → Log → Type 0
Logged es old new = IfSome old (λ before. new ≡ Some (before ++ es))

-- what `inside` writes comes as the one member of a map, under this name
abbrev pub SendsUnder : List ℕ → (Log → Log → Type 0) → Log → Log → Type 0
SendsUnder name inside old new =
    (first named last : Log) × Logs old first (map_begins (Some 1)) × Logs first named (variant_key name AsIs) × inside named last × Logs last new map_ends

-- the events of this attribute value come, its members in the order that the hashed maps happen to
-- keep, which nobody chose
abbrev pub SendsValue : Av → Log → Log → Type 0
SendsValue a old new = (sent : Av) × (in_order sent ≡ a) × Logged (value_events sent) old new
