-- The names that most proofs here cite, passed on from one place. Declares nothing.
pub use Rattle.dynamo_de.proofs.Meets.{meets_more, stops_before}
pub use Rattle.dynamo_de.specs.Access.{OfContent, ReadsVariant}
pub use Rattle.dynamo_de.specs.Answer.{Answer, After, value_or, Gives}
pub use Rattle.dynamo_de.specs.Ignored.{read_ignored, ignore_entries, ignore}
pub use Rattle.dynamo_de.specs.Meets.{Meets, IsMessage, Fails}
pub use Rattle.dynamo_de.specs.Reading.{read_parts, read_entries, read_identifier, read_variant}
pub use Rattle.dynamo_de.specs.Reading.{read_string, read_elements, taken_from, read_unit_struct}
pub use Rattle.dynamo_de.specs.Reading.{read_newtype}
pub use Rattle.dynamo_de.specs.Shows.{TakesEntry, TakesElement}
pub use Rattle.dynamo_de.specs.Source.{Source, Text, Entry, key_text, attribute}
pub use Rattle.dynamo_de.specs.Visitors.{by_name, or_its_fault, in_order, claims_seq, take_elements}
pub use Rattle.dynamo_record.specs.Apart.{same_length, none_named, no_shape, names_differ}
pub use Rattle.dynamo_record.specs.Apart.{both_true, field_named}
pub use Rattle.dynamo_record.specs.ByRules.{pad, Before, slots_of, Held, EntersByRules, struct_left}
pub use Rattle.dynamo_record.specs.ByRules.{RulesSoFar, FromPartsByRules, rules_reads}
pub use Rattle.dynamo_record.specs.ByRules.{duplicate_text}
pub use Rattle.dynamo_record.specs.Contents.{about_named, about_one, about_several, about_nothing}
pub use Rattle.dynamo_record.specs.Entries.{fields_from, fill_one, read_at, fill_at, reads_on}
pub use Rattle.dynamo_record.specs.Entries.{read_one, FillsAt, Enters, StructSoFar, IsEntry}
pub use Rattle.dynamo_record.specs.Entries.{entry_at, finish, SoFar}
pub use Rattle.dynamo_record.specs.Enums.{AboutEnum, enum_shape, NamesVariant, AsMany, of_variants}
pub use Rattle.dynamo_record.specs.Enums.{VariantsNamed, enum_reads, enum_tells, enum_variants}
pub use Rattle.dynamo_record.specs.Fields.{ConformEach, SameData, Defaults, first_default}
pub use Rattle.dynamo_record.specs.Fields.{other_defaults, field_shapes, named_fields, read_fields}
pub use Rattle.dynamo_record.specs.Fields.{read_nth, unread, complete, shapes_of, missed_name}
pub use Rattle.dynamo_record.specs.Held.{FieldAnswers, IsLast, ReadsFields}
pub use Rattle.dynamo_record.specs.InOrder.{ReadsInOrder}
pub use Rattle.dynamo_record.specs.InOrder.{elements_conform, elements_in_order}
pub use Rattle.dynamo_record.specs.Listed.{Shapes, Data, Makes, AboutList, Holds, Fills, IfRead}
pub use Rattle.dynamo_record.specs.Listed.{Completes, MakesOrFails, both_shapes, both_told}
pub use Rattle.dynamo_record.specs.Listed.{HoldsBoth, HoldsBehind, ReadBehind, is_there, is_filled}
pub use Rattle.dynamo_record.specs.Listed.{AlikeFront, IsRead, HoldsField, about_both}
pub use Rattle.dynamo_record.specs.Names.{Names, first_name, other_names, differ, place_of}
pub use Rattle.dynamo_record.specs.Names.{names_from, missing_text, is_named, too_few_text}
pub use Rattle.dynamo_record.specs.Newtypes.{ReadsAs, named_newtype}
pub use Rattle.dynamo_record.specs.Records.{AboutRecord, record_fields, record_told, record_tells}
pub use Rattle.dynamo_record.specs.Records.{record_shape, record_reads, RecordAnswers, FromParts}
pub use Rattle.dynamo_record.specs.Records.{IsAlike, AreNamed, names_apart, each_many, place_in}
pub use Rattle.dynamo_record.specs.Records.{record_of, listed}
pub use Rattle.dynamo_record.specs.TaggedEnums.{AboutTagged, all_counted, at_its_place}
pub use Rattle.dynamo_record.specs.TaggedEnums.{tagged_shape, tagged_structs, IsFit, FromEntries}
pub use Rattle.dynamo_record.specs.TaggedEnums.{all_tagged, alike_at, as_many, own, struct_of}
pub use Rattle.dynamo_record.specs.TaggedEnums.{tagged_reads, tagged_tells, tagged_variants}
pub use Rattle.dynamo_record.specs.TaggedEnums.{of_tagged}
pub use Rattle.dynamo_record.specs.TaggedLists.{struct_at, Structs, AreBehind, AllBehind}
pub use Rattle.dynamo_record.specs.TaggedLists.{AboutTaggedList, either_place, either_structs}
pub use Rattle.dynamo_record.specs.TaggedLists.{either_told}
pub use Rattle.dynamo_record.specs.Told.{each, fields_same, fields_conform}
pub use Rattle.dynamo_record.specs.UnitEnums.{name_at, AboutUnits, unit_variants, unit_enum_shape}
pub use Rattle.dynamo_record.specs.UnitEnums.{unit_enum_tells, unit_enum_reads, FromName}
pub use Rattle.dynamo_record.specs.UnitEnums.{FromVariant}
pub use Rattle.dynamo_record.specs.Variants.{ReadsInside, Contents, ConformsToOne, content_at, tag}
pub use Rattle.dynamo_record.specs.Variants.{AboutVariants, ReadsAt, variants_of, AboutContent}
pub use Rattle.dynamo_record.specs.Variants.{first_conforms, one_contents, choice_contents}
pub use Rattle.dynamo_record.specs.Variants.{choice_told, right_conforms}
pub use Rattle.dynamo_ser.specs.Datum.{Datum, Fields, Variant, elements_of, no_fields, Elements}
pub use Rattle.dynamo_ser.specs.Datum.{Pairs, pairs_of}
pub use Rattle.dynamo_ser.specs.Parts.{fields_in, content_in, elements_in}
pub use Rattle.dynamo_shape.proofs.Answered.{after, stops}
pub use Rattle.dynamo_shape.proofs.ByHand.{same_next, into_into, read_itself, Both}
pub use Rattle.dynamo_shape.proofs.FieldsByName.{Slots, first_slot, other_slots, fill_slot, empty}
pub use Rattle.dynamo_shape.proofs.FieldsByName.{close, NamesDiffer, behind, fill, Reads, all_named}
pub use Rattle.dynamo_shape.proofs.FieldsByName.{fill_named, turned, not_turned}
pub use Rattle.dynamo_shape.proofs.Lists.{told_each, one_more}
pub use Rattle.dynamo_shape.specs.Absence.{put_field, same_default, Absence}
pub use Rattle.dynamo_shape.specs.Conforms.{conforms, conform_fields, tagged_struct}
pub use Rattle.dynamo_shape.specs.Conforms.{conforms_content, conforms_variant, conform_each}
pub use Rattle.dynamo_shape.specs.Conforms.{AllElements, AllPairs}
pub use Rattle.dynamo_shape.specs.Laws.{AnswersByShape, ReadsByShape}
pub use Rattle.dynamo_shape.specs.NameRules.{own_name, NameRules}
pub use Rattle.dynamo_shape.specs.Permits.{Permits}
pub use Rattle.dynamo_shape.specs.Read.{read, into, missing, read_field, fields_of, fields_in_order}
pub use Rattle.dynamo_shape.specs.Read.{fields_by_name, read_one_of, read_tag, read_tag_of}
pub use Rattle.dynamo_shape.specs.Read.{read_tagged, read_each_entry, fields_among, read_inside}
pub use Rattle.dynamo_shape.specs.Read.{read_each, last_of, fields_by_rules, entry_by_rules}
pub use Rattle.dynamo_shape.specs.Read.{read_by_rules, is_refused}
pub use Rattle.dynamo_shape.specs.Same.{Same, SameFields, SameElements}
pub use Rattle.dynamo_shape.specs.Shape.{Shape, FieldShapes, no_field_shapes, field_shape, Content}
pub use Rattle.dynamo_shape.specs.Shape.{nothing}
pub use Rattle.dynamo_value.specs.Fault.{Fault, message, out_of_memory}
pub use Rattle.dynamo_value.specs.Steps.{◌>>=◌}
pub use Rattle.std.proofs.lemmas.List.{length-map}
pub use Rattle.std.proofs.lemmas.Result.{err_from_is_err_and}
pub use Rattle.std.specs.List.{range_with_len, remove, slice_index_or, list_any, IsDistinct}
pub use Rattle.std.specs.Prelude.{bytes_eq, if◌then◌else◌, ⊤, String, string_bytes, not, codes}
pub use Rattle.std.specs.Vec.Iter.{into_iter_items}
