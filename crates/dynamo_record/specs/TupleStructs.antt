-- Structs of several fields in order, without names.
use Rattle.std.specs.Prelude.{Result}
use Rattle.dynamo_value.specs.Fault.{Fault}
use Rattle.dynamo_ser.specs.Datum.{Datum}
use Rattle.dynamo_de.specs.Reads.{Through}
use Rattle.dynamo_de.specs.Source.{Source, Text}
use Rattle.dynamo_shape.specs.Laws.{ReadsByShape}
use Rattle.dynamo_shape.proofs.Lists.{through_permitted}
use Rattle.dynamo_record.specs.About.{About, about_part}
use Rattle.dynamo_record.specs.Listed.{AboutList}
use Rattle.dynamo_record.specs.Newtypes.{ReadsAs, as_shape}
use Rattle.dynamo_record.specs.Tuples.{named_tuple}

-- The name of a tuple struct, its fields, and what is known of these.
pub record AboutTupleStruct (V L : Type 0) : Type 1 where
  pub name : Text
  pub parts : V → L
  pub list : AboutList L

abbrev pub tuple_struct_of : {V L : Type 0} → Text → (V → L) → AboutList L → AboutTupleStruct V L
tuple_struct_of name parts list = record { name = name; parts = parts; list = list }

-- the same description, by this list of the fields
abbrev pub with_fields : {V L : Type 0} → AboutTupleStruct V L → AboutList L → AboutTupleStruct V L
with_fields a list = tuple_struct_of a.name a.parts list

module _ {V L : Type 0} (a : AboutTupleStruct V L) where
  -- the tuple struct of its name, and of its fields in order
  abbrev pub of_fields : About L
  of_fields = named_tuple a.name a.list

  abbrev pub about_tuple_struct : About V
  about_tuple_struct = about_part a.parts of_fields

  abbrev pub tuple_struct_tells : V → Datum
  tuple_struct_tells = about_tuple_struct.tells

  -- what may be answered on a source: the struct of the fields that are read
  abbrev pub tuple_struct_reads : Source → Result V Fault → Type 0
  tuple_struct_reads source r = Through a.parts (ReadsAs of_fields source) r

  pub tuple_struct_by_shape : ReadsByShape about_tuple_struct.shape tuple_struct_tells
      tuple_struct_reads
  tuple_struct_by_shape = through_permitted of_fields.shape of_fields.tells (ReadsAs of_fields)
      a.parts (as_shape of_fields)
