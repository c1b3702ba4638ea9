-- Enums that are described by the list of their variants.
use Rattle.std.specs.Prelude.{◌≡◌, ◌<◌, ◌+◌, ◌^◌, ℕ, true, [], Option, Result, Ok, Err, length}
use Rattle.dynamo_value.specs.Fault.{Fault}
use Rattle.dynamo_ser.specs.Datum.{Datum}
use Rattle.dynamo_de.specs.Answer.{Answer}
use Rattle.dynamo_de.specs.Source.{Source, Text}
use Rattle.dynamo_shape.specs.Conforms.{conforms}
use Rattle.dynamo_shape.specs.Laws.{AnswersByShape}
use Rattle.dynamo_shape.specs.Permits.{IsMessageFault}
use Rattle.dynamo_shape.specs.Read.{read, read_one_of}
use Rattle.dynamo_shape.specs.Same.{Same}
use Rattle.dynamo_shape.specs.Shape as shape
use Rattle.dynamo_shape.specs.Shape.{Shape, Variants}
use Rattle.dynamo_record.specs.About.{About}
use Rattle.dynamo_record.specs.Names.{Names, differ, place_of}
use Rattle.dynamo_record.specs.Variants.{AboutVariants, variants_of}

-- The name of an enum, those of its variants in order, the variant of a value, and what is known of
-- the variants.
pub record AboutEnum (V L : Type 0) : Type 1 where
  pub name : Text
  pub names : Names
  pub parts : V → L
  pub list : AboutVariants L

abbrev pub enum_of : {V L : Type 0} → Text → Names → (V → L) → AboutVariants L → AboutEnum V L
enum_of name names parts list = record { name = name; names = names; parts = parts; list = list }

-- the same description, by this list of the variants
abbrev pub of_variants : {V L : Type 0} → AboutEnum V L → AboutVariants L → AboutEnum V L
of_variants a list = enum_of a.name a.names a.parts list

-- the name of a variant is its number among those from 0 on, and any other text is refused by a
-- message
abbrev pub NamesVariant : Names → Text → Result ℕ Fault → Type 0
NamesVariant ns t (Ok i) = (i ≡ place_of 0 ns t) × (i < length ns) × (i + 1 < 2 ^ 64)
NamesVariant ns t (Err f) = (place_of 0 ns t ≡ length ns) × IsMessageFault f

module _ {V L : Type 0} (a : AboutEnum V L) where
  abbrev pub enum_variants : Variants
  enum_variants = variants_of a.names (a.list.contents [])

  abbrev pub enum_shape : Shape
  enum_shape = shape.enum a.name enum_variants

  -- the variant of a value, under its name and number
  abbrev pub enum_tells : V → Datum
  enum_tells v = a.list.told a.name a.names 0 (a.parts v)

  -- the same variant with the same content
  abbrev pub enum_same : V → V → Type 0
  enum_same v w = a.list.same (a.parts v) (a.parts w)

  abbrev pub EnumAnswers : Answer Datum → Result V Fault → Type 0
  EnumAnswers = AnswersByShape (conforms enum_shape) Same enum_tells

  -- what may be answered on a source: what reading at the shape gives
  abbrev pub enum_reads : Source → Result V Fault → Type 0
  enum_reads source r = EnumAnswers (read enum_shape source) r

  -- what may be answered on the name of a variant and its content
  abbrev pub FromVariant : Text × Option Source → Result V Fault → Type 0
  FromVariant p r = EnumAnswers (read_one_of enum_variants a.name 0 p.0 p.1) r

  abbrev pub about_enum : a.list.fit → About V
  about_enum fit = record {
    shape = enum_shape;
    tells = enum_tells;
    same = enum_same;
    told_by_value = λ v w c d h. a.list.told_by_value fit a.name a.names 0 [] (a.parts v) (a.parts w) c d h;
    told_alike = λ v w c d h. a.list.told_alike fit a.name a.names 0 [] (a.parts v) (a.parts w) c d h;
  }

  -- the list that is read is as long
  abbrev pub AsMany : AboutVariants L → Type 0
  AsMany list = a.list.count ≡ list.count

  -- No two variants have one name, and each has one.
  abbrev pub VariantsNamed : Type 0
  VariantsNamed = (differ a.names ≡ true) × (length a.names ≡ a.list.count)
