-- Described structs that take the entries of a map by rules: other names of fields, and unknown
-- fields that are refused.
use Rattle.std.specs.Prelude.{◌≡◌, Bool, true, false, List, [], ◌∷◌, ◌++◌, None, Result, Ok, Err}
use Rattle.std.specs.Prelude.{codes}
use Rattle.dynamo_value.specs.Fault.{Fault}
use Rattle.dynamo_ser.specs.Datum as datum
use Rattle.dynamo_ser.specs.Datum.{Datum}
use Rattle.dynamo_de.specs.Answer.{Answer, After}
use Rattle.dynamo_value.specs.Steps.{◌>>=◌}
use Rattle.dynamo_de.specs.Fields.{LeadsTo}
use Rattle.dynamo_de.specs.Source.{Source, Text, Entry}
use Rattle.dynamo_de.specs.Visitors.{Parts}
use Rattle.dynamo_shape.specs.NameRules.{NameRules}
use Rattle.dynamo_shape.specs.Permits.{IsMessageFault}
use Rattle.dynamo_shape.specs.Read.{read, into, read_field, fields_in_order, fields_among}
use Rattle.dynamo_shape.specs.Read.{fields_by_rules, entry_by_rules, read_by_rules, last_of}
use Rattle.dynamo_shape.specs.Shape as shape
use Rattle.dynamo_shape.specs.Shape.{Shape, FieldShapes, no_field_shapes, field_shape}
use Rattle.dynamo_shape.proofs.FieldsByName.{Slots, first_slot, other_slots}
use Rattle.dynamo_record.specs.About.{About}
use Rattle.dynamo_record.specs.Listed.{Holds, IfRead}
use Rattle.dynamo_record.specs.Records.{AboutRecord, record_fields, RecordAnswers, IsAlike}
use Rattle.dynamo_record.specs.Records.{AreNamed, about_record}

-- the refusal of a second entry for the field of this name
abbrev pub duplicate_text : Text → Text
duplicate_text n = codes "duplicate field `" ++ (n ++ codes "`")

module _ {V L : Type 0} (rules : NameRules) (a : AboutRecord V L) where
  abbrev pub rules_shape : Shape
  rules_shape = shape.struct_by rules a.name (record_fields a)

  -- what may be answered on a source: what reading at the shape gives
  abbrev pub rules_reads : Source → Result V Fault → Type 0
  rules_reads source r = RecordAnswers a (read rules_shape source) r

  -- what may be answered on the parts of a struct
  abbrev pub FromPartsByRules : Parts → Result V Fault → Type 0
  FromPartsByRules p r = RecordAnswers a
      (into (datum.struct a.name)
      (fields_by_rules rules (record_fields a) (fields_in_order (record_fields a))
      (read_field (record_fields a)) p)) r

  -- as what is known of the struct, but for its shape
  abbrev pub about_by_rules : AreNamed a → About V
  about_by_rules named = record {
    shape = rules_shape;
    tells = (about_record a named).tells;
    same = (about_record a named).same;
    told_by_value = (about_record a named).told_by_value;
    told_alike = (about_record a named).told_alike;
  }

-- ---- entry by entry

-- a message exactly where an entry is refused
abbrev pub Admits : {V : Type 0} → Bool → Result V Fault → Type 0
Admits refused (Ok v) = refused ≡ false
Admits refused (Err f) = (refused ≡ true) × IsMessageFault f

-- what was read before, each under the own name of its field
abbrev pub Before : Type 0
Before = List (Text × Datum)

-- the last datum of each field
abbrev pub slots_of : FieldShapes → Before → Slots
slots_of no_field_shapes before = []
slots_of (field_shape name s d fs) before = last_of name before None ∷ slots_of fs before

-- the slots of all fields, and no more
abbrev pub pad : FieldShapes → Slots → Slots
pad no_field_shapes os = []
pad (field_shape name s e fs) os = first_slot os ∷ pad fs (other_slots os)

-- what is held tells what was read before
abbrev pub Held : {X : Type 0} → FieldShapes → Holds X → X → Before → Type 0
Held fs holds x before = (os : Slots) × holds x os [] × (pad fs os ≡ slots_of fs before)

-- The entry is read after what was read before, and then held too.
abbrev pub EntersByRules : {X : Type 0} → NameRules → FieldShapes → Holds X → Before → X → Entry
    → Result (Unit {0}) Fault → Type 0
EntersByRules rules fs holds before new e r = After
    (entry_by_rules rules fs (read_field fs) before e)
    (λ x. IfRead (λ _. Held fs holds new (before ++ x ∷ []))) r

-- the struct of what was read before, and of the entries that are left
abbrev pub struct_left : {V L : Type 0} → NameRules → AboutRecord V L → Before → List Entry
    → Answer Datum
struct_left rules a before es = into (datum.struct a.name)
    (read_by_rules rules (record_fields a) (read_field (record_fields a)) before es
    >>= fields_among (record_fields a) [])

-- what is held tells what was read, and what is answered on what is left is answered on the whole
abbrev pub RulesSoFar : {V L X : Type 0} → NameRules → AboutRecord V L → Holds X → X → List Entry
    → List Entry → Type 0
RulesSoFar rules a holds x left es = (before : Before) × Held (record_fields a) holds x before
    × LeadsTo (IsAlike a) (struct_left rules a before left) (struct_left rules a [] es)
