-- What a reader has not read yet: elements, entries and a variant.
use Rattle.std.specs.Prelude.{ℕ, Bool, true, false, List, map, Option, None, Result, Ok}
use Rattle.std.specs.Prelude.{string_bytes}
use Rattle.std.specs.Vec.Iter.{into_iter_items}
use Rattle.dynamo_value.specs.Entries.{seen_entries}
use Rattle.dynamo_value.specs.Fault.{Fault}
use Rattle.dynamo_value.specs.View.{elements_view, members_view}
use Rattle.dynamo_de.specs.Showing.{only_entry}
use Rattle.dynamo_de.specs.Source.{Source, Entry, values_of, each, plain_text, number_text}
use Rattle.dynamo_de.specs.Source.{byte_string}
use Rattle.dynamo_read.specs.declared.unread.Elements.{Elements}
use Rattle.dynamo_read.specs.declared.unread.Rest.{Rest}
use Rattle.dynamo_read.specs.declared.unread.Rest.TheVariants as rest
use Rattle.dynamo_read.specs.declared.unread.Entries.{Entries}
use Rattle.dynamo_read.specs.declared.unread.Choice.{Choice}
use Rattle.dynamo_read.specs.declared.unread.Form.{Form}
use Rattle.dynamo_read.specs.declared.unread.Form.TheVariants as form

abbrev pub rest_left : Rest → List Source
rest_left (rest.Values i) = values_of (elements_view (into_iter_items i))
rest_left (rest.Texts i) = each plain_text (map string_bytes (into_iter_items i))
rest_left (rest.Numbers i) = each number_text (map string_bytes (into_iter_items i))
rest_left (rest.ByteStrings i) = each byte_string (map (λ b. b.items) (into_iter_items i))

-- the sources of the elements that are left
abbrev pub elements_left : Elements → List Source
elements_left e = rest_left e.rest

abbrev pub is_list : Rest → Bool
is_list (rest.Values i) = true
is_list _ = false

-- whether the elements are counted: those of a list are, those of a set are not
abbrev pub elements_counted : Elements → Bool
elements_counted e = is_list e.rest

-- the entries that are left
abbrev pub entries_left : Entries → List Entry
entries_left e = seen_entries (into_iter_items e.rest)

abbrev pub form_chosen : Form → Result (List ℕ × Option Source) Fault
form_chosen (form.Name t) = Ok (string_bytes t, None)
form_chosen (form.Map m) = only_entry (members_view m.entries)

-- the variant's name and the source of its content, or the fault of asking for it
abbrev pub chosen_of : Choice → Result (List ℕ × Option Source) Fault
chosen_of c = form_chosen c.form
