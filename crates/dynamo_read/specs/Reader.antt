-- What the reader of attribute values reads from, and what it shows.
use Rattle.std.specs.Prelude.{◌≡◌, Bool, true, false, Result, Ok, string_bytes}
use Rattle.dynamo_value.specs.Av as av
use Rattle.dynamo_value.specs.Kind.{fault_of}
use Rattle.dynamo_value.specs.View.{view}
use Rattle.dynamo_value.specs.declared.error.ErrorImpl.{ErrorImpl}
use Rattle.dynamo_de.specs.Shown.{Shown}
use Rattle.dynamo_de.specs.Shows.{Shows}
use Rattle.dynamo_de.specs.Source as of
use Rattle.dynamo_de.specs.declared.request.Request.{Request}
use Rattle.dynamo_de.specs.declared.request.Request.TheVariants as request
use Rattle.dynamo_de.specs.declared.showing.Showing.{Showing as ShowingOf}
use Rattle.dynamo_de.specs.declared.showing.Showing.TheVariants as showing_of
use Rattle.dynamo_read.specs.Unread.{elements_left, elements_counted, entries_left, chosen_of}
use Rattle.dynamo_read.specs.declared.deserializer.Deserializer.{Deserializer}
use Rattle.dynamo_read.specs.declared.deserializer.Source.{Source}
use Rattle.dynamo_read.specs.declared.deserializer.Source.TheVariants as source
use Rattle.dynamo_read.specs.declared.unread.Elements.{Elements}
use Rattle.dynamo_read.specs.declared.unread.Entries.{Entries}
use Rattle.dynamo_read.specs.declared.unread.Choice.{Choice}

abbrev pub seen_source : Source → of.Source
seen_source (source.AttributeValue a) = of.attribute (view a)
seen_source (source.KeyText t) = of.key_text (string_bytes t)
seen_source (source.NumberText t) = of.number_text (string_bytes t)
seen_source (source.ByteString bytes) = of.byte_string bytes.items
seen_source (source.PlainText t) = of.plain_text (string_bytes t)

-- what the reader reads from
abbrev pub source_of : Deserializer → of.Source
source_of d = seen_source d.source

-- it shows exactly this, or refuses by exactly this fault, unless memory runs out
abbrev pub IsShown : Shown → Result (ShowingOf Deserializer Elements Entries Choice) ErrorImpl
    → Type 0
IsShown shown r = Shows fault_of source_of elements_left entries_left chosen_of shown r

-- the requests at which elements are shown
abbrev pub asks_elements : Request → Bool
asks_elements request.Any = true
asks_elements request.IgnoredAny = true
asks_elements request.Seq = true
asks_elements request.Tuple = true
asks_elements request.TupleStruct = true
asks_elements request.Struct = true
asks_elements _ = false

-- whether the elements of a source are counted: those of a list are, those of a set are not
abbrev pub IsCounted : of.Source → Bool → Type 0
IsCounted (of.attribute (av.L as')) counted = counted ≡ true
IsCounted (of.attribute (av.Ss ts)) counted = counted ≡ false
IsCounted (of.attribute (av.Ns ts)) counted = counted ≡ false
IsCounted (of.attribute (av.Bs ts)) counted = counted ≡ false
IsCounted _ counted = Unit {0}

abbrev pub Counted : of.Source → Elements → Type 0
Counted s e = IsCounted s (elements_counted e)

-- where elements are shown, P holds of them
abbrev pub IfElements : {D L M C E : Type 0} → (L → Type 0) → Result (ShowingOf D L M C) E → Type 0
IfElements P (Ok (showing_of.Sequence e)) = P e
IfElements P _ = Unit {0}
