-- What the accesses to lists, items and variants have left.
use Rattle.std.specs.Prelude.{ℕ, List, Option, Some, Result}
use Rattle.std.specs.Vec.Iter.{into_iter_items}
use Rattle.dynamo_value.specs.Fault.{Fault}
use Rattle.dynamo_value.specs.View.{elements_view, members_view}
use Rattle.dynamo_de.specs.Access.{MapLeft}
use Rattle.dynamo_de.specs.Shows.{content_of}
use Rattle.dynamo_de.specs.Showing.{only_entry}
use Rattle.dynamo_de.specs.Source.{Source, values_of}
use Rattle.dynamo_read.specs.Reader.{source_of}
use Rattle.dynamo_read.specs.Unread.{entries_left}
use Rattle.dynamo_read.specs.declared.deserializer_seq.DeserializerSeq.{DeserializerSeq}
use Rattle.dynamo_read.specs.declared.deserializer_map.DeserializerMap.{DeserializerMap}
use Rattle.dynamo_read.specs.declared.deserializer_enum.DeserializerEnum.{DeserializerEnum}
use Rattle.dynamo_read.specs.declared.deserializer_enum.DeserializerVariant.{DeserializerVariant}

-- the sources of the elements of a list that are left
abbrev pub seq_left : DeserializerSeq → List Source
seq_left a = values_of (elements_view (into_iter_items a.values))

-- the entries of an item that are left, and the source of a value whose key was read
abbrev pub map_left : DeserializerMap → MapLeft
map_left a = record
    { entries = entries_left a.access.entries; pending = content_of source_of a.access.pending }

-- the variant's name and the source of its content, or the fault of asking for it
abbrev pub enum_chosen : DeserializerEnum → Result (List ℕ × Option Source) Fault
enum_chosen a = only_entry (members_view a.item.entries)

-- the source of the variant's content
abbrev pub variant_content : DeserializerVariant → Option Source
variant_content a = Some (source_of a.content)
