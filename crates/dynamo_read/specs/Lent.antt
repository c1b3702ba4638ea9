-- What a reader of lent attribute values reads from, what it has not read yet, and what it shows.
use Rattle.std.specs.Prelude.{ℕ, Bool, true, false, List, map, ◌≡◌, Option, Some, None, Result, Ok}
use Rattle.std.specs.Prelude.{Err, String, string_bytes}
use Rattle.std.specs.Borrow.{Bor}
use Rattle.std.specs.Slice.Iter.{iter_rest}
use Rattle.std.specs.Vec.Iter.{into_iter_items}
use Rattle.std.specs.declared.alloc.Global.{Global}
use Rattle.dynamo_value.specs.Av as av
use Rattle.dynamo_value.specs.Entries.{entry_of, seen_entries}
use Rattle.dynamo_value.specs.Fault.{Fault}
use Rattle.dynamo_value.specs.Kind.{fault_of}
use Rattle.dynamo_value.specs.View.{view, elements_view, members_view}
use Rattle.dynamo_value.specs.declared.attribute_value.AttributeValue.{AttributeValue}
use Rattle.dynamo_value.specs.declared.error.ErrorImpl.{ErrorImpl}
use Rattle.dynamo_de.specs.Shown.{Shown}
use Rattle.dynamo_de.specs.Shows.{Shows}
use Rattle.dynamo_de.specs.Showing.{only_entry}
use Rattle.dynamo_de.specs.Source as of
use Rattle.dynamo_de.specs.Source.{Entry, attribute, values_of, each, plain_text, number_text}
use Rattle.dynamo_de.specs.Source.{byte_string}
use Rattle.dynamo_de.specs.declared.showing.Showing.{Showing as ShowingOf}
use Rattle.dynamo_read.specs.Reader.{IsCounted}
use Rattle.dynamo_read.specs.declared.lent_deserializer.LentDeserializer.{LentDeserializer}
use Rattle.dynamo_read.specs.declared.lent_deserializer.LentSource.{LentSource}
use Rattle.dynamo_read.specs.declared.lent_deserializer.LentSource.TheVariants as source
use Rattle.dynamo_read.specs.declared.lent_unread.LentElements.{LentElements}
use Rattle.dynamo_read.specs.declared.lent_unread.LentEntries.{LentEntries}
use Rattle.dynamo_read.specs.declared.lent_unread.LentChoice.{LentChoice}
use Rattle.dynamo_read.specs.declared.lent_unread.LentRest.{LentRest}
use Rattle.dynamo_read.specs.declared.lent_unread.LentRest.TheVariants as rest
use Rattle.dynamo_read.specs.declared.lent_unread.LentForm.{LentForm}
use Rattle.dynamo_read.specs.declared.lent_unread.LentForm.TheVariants as form

abbrev pub seen_lent : LentSource → of.Source
seen_lent (source.AttributeValue a) = of.attribute (view a.now)
seen_lent (source.Map m) = of.attribute (av.M (members_view m.now.entries))
seen_lent (source.KeyText t) = of.key_text (string_bytes t.now)
seen_lent (source.NumberText t) = of.number_text (string_bytes t.now)
seen_lent (source.ByteString bytes) = of.byte_string bytes.now.items
seen_lent (source.PlainText t) = of.plain_text (string_bytes t.now)

-- what the reader reads from
abbrev pub lent_source : LentDeserializer → of.Source
lent_source d = seen_lent d.source

abbrev pub rest_lent : LentRest → List of.Source
rest_lent (rest.Values i) = values_of (elements_view (iter_rest i))
rest_lent (rest.Texts i) = each plain_text (map string_bytes (iter_rest i))
rest_lent (rest.Numbers i) = each number_text (map string_bytes (iter_rest i))
rest_lent (rest.ByteStrings i) = each byte_string (map (λ b. b.items) (iter_rest i))

-- the sources of the elements that are left
abbrev pub lent_elements : LentElements → List of.Source
lent_elements e = rest_lent e.rest

abbrev pub is_lent_list : LentRest → Bool
is_lent_list (rest.Values i) = true
is_lent_list _ = false

-- whether the elements are counted: those of a list are, those of a set are not
abbrev pub lent_counted : LentElements → Bool
lent_counted e = is_lent_list e.rest

-- the entries that are left
abbrev pub lent_entries : LentEntries → List Entry
lent_entries e = seen_entries (map entry_of (into_iter_items e.rest))

abbrev pub form_lent : LentForm → Result (List ℕ × Option of.Source) Fault
form_lent (form.Name t) = Ok (string_bytes t.now, None)
form_lent (form.Map m) = only_entry (members_view m.now.entries)

-- the variant's name and the source of its content, or the fault of asking for it
abbrev pub lent_chosen : LentChoice → Result (List ℕ × Option of.Source) Fault
lent_chosen c = form_lent c.form

-- it shows exactly this, or refuses by exactly this fault, unless memory runs out
abbrev pub IsLentShown : Shown
    → Result (ShowingOf LentDeserializer LentElements LentEntries LentChoice) ErrorImpl
    → Type 0
IsLentShown shown r = Shows fault_of lent_source lent_elements lent_entries lent_chosen shown r

-- the elements of a list are counted, those of a set are not
abbrev pub LentCounted : of.Source → LentElements → Type 0
LentCounted s e = IsCounted s (lent_counted e)
