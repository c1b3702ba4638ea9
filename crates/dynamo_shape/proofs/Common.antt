-- The names that most proofs here cite, passed on from one place. Declares nothing.
pub use Rattle.dynamo_de.proofs.Decimals.{parse_back}
pub use Rattle.dynamo_de.specs.Answer.{Answer, value, fault, refused, value_or, After, Gives, Is}
pub use Rattle.dynamo_de.specs.Reading.{taken, read_content, read_elements, read_bool, read_integer}
pub use Rattle.dynamo_de.specs.Reading.{read_char, read_string, read_bytes, read_unit, read_entries}
pub use Rattle.dynamo_de.specs.Reading.{read_newtype, read_parts}
pub use Rattle.dynamo_de.specs.Reads.{ReadsOption, Through}
pub use Rattle.dynamo_de.specs.Reads.{ReadsEach, ReadsList}
pub use Rattle.dynamo_de.specs.Source.{Text, key_text, attribute, Source, plain_text, number_text}
pub use Rattle.dynamo_de.specs.Source.{byte_string, each, entries_of, Entry, values_of}
pub use Rattle.dynamo_ser.specs.Datum.{Datum, some, newtype_struct, newtype_variant, seq, tuple}
pub use Rattle.dynamo_ser.specs.Datum.{tuple_struct, tuple_variant, map, struct_variant, Pairs}
pub use Rattle.dynamo_ser.specs.Datum.{no_pairs, pair, Variant, no_fields, field, Elements, Fields}
pub use Rattle.dynamo_ser.specs.Datum.{no_elements, element, elements_of, unit_variant, none}
pub use Rattle.dynamo_ser.specs.Datum.{pairs_of}
pub use Rattle.dynamo_ser.specs.Key.{bool_text}
pub use Rattle.dynamo_ser.specs.Options.{option_tells}
pub use Rattle.dynamo_ser.specs.Symbols.{SetKind, symbol, strings, numbers, blobs}
pub use Rattle.dynamo_ser.specs.Without.{Without}
pub use Rattle.dynamo_shape.specs.Absence.{required, read_as, left_out, Absence, is_left_out}
pub use Rattle.dynamo_shape.specs.Absence.{put_field, same_default}
pub use Rattle.dynamo_shape.specs.ByValue.{SameEach, SameSet, SameMap, SameOption}
pub use Rattle.dynamo_shape.specs.Clear.{is_field, NearlyClear, IsElement, AndLeftOut}
pub use Rattle.dynamo_shape.specs.Clear.{NearlyClearAll, NearlyClearFields, NearlyClearContent}
pub use Rattle.dynamo_shape.specs.Clear.{NearlyClearVariants, NearlyClearTagged, NoneNested}
pub use Rattle.dynamo_shape.specs.Clear.{NoneNestedAll, NoneNestedFields, NoneNestedContent}
pub use Rattle.dynamo_shape.specs.Clear.{NoneNestedVariants, NoneNestedTagged, Nullable, Clear}
pub use Rattle.dynamo_shape.specs.Clear.{AreUnits, AliasesApart, is_variant, is_tagged}
pub use Rattle.dynamo_shape.specs.Clear.{MayBeLeftOut, IsKey}
pub use Rattle.dynamo_shape.specs.Conforms.{AllPairs, HasKey, PairsDiffer, conforms, conform_fields}
pub use Rattle.dynamo_shape.specs.Conforms.{AllElements, conform_each, conforms_content}
pub use Rattle.dynamo_shape.specs.Conforms.{conforms_variant, conforms_tagged, tagged_struct}
pub use Rattle.dynamo_shape.specs.Kept.{kept, kept_elements, is_null, kept_pairs, kept_fields}
pub use Rattle.dynamo_shape.specs.Kept.{is_written_null}
pub use Rattle.dynamo_shape.specs.Laws.{IsToldByValue, ToldAlike, BelowAsTold, EqualAsTold}
pub use Rattle.dynamo_shape.specs.Laws.{ToldApart, AnswersByShape, ReadsByShape}
pub use Rattle.dynamo_shape.specs.Order.{sorted, IsBelowEach, AreAscending, IsAscending, is_below}
pub use Rattle.dynamo_shape.specs.Order.{put_element, sorted_elements}
pub use Rattle.dynamo_shape.specs.Permits.{Permits, SameAnswer, FaultsOrSame}
pub use Rattle.dynamo_shape.specs.Read.{into, read, read_inside, read_one_of, read_some, read_list}
pub use Rattle.dynamo_shape.specs.Read.{read_each, fields_in_order, missing, read_field}
pub use Rattle.dynamo_shape.specs.Read.{read_each_entry, last_of, read_tag, read_tag_of}
pub use Rattle.dynamo_shape.specs.Read.{fields_among, fields_by_name, read_tagged, read_pairs}
pub use Rattle.dynamo_shape.specs.Read.{entry_by_rules, read_by_rules, fields_of}
pub use Rattle.dynamo_shape.specs.ReadsBack.{ReadsExactly, ReadsBack, IsDetermined, WalksAgree}
pub use Rattle.dynamo_shape.specs.ReadsBack.{count, count_pairs, KeepsCount}
pub use Rattle.dynamo_shape.specs.Same.{Same, SamePairs, SameFields, SameElements}
pub use Rattle.dynamo_shape.specs.SameKey.{same_key, put_pair, same_kind, same_integer, same_bool}
pub use Rattle.dynamo_shape.specs.SameKey.{same_variant}
pub use Rattle.dynamo_shape.specs.Shape.{Shape, boolean, char, string, bytes, integer, newtype}
pub use Rattle.dynamo_shape.specs.Shape.{enum, ordered, Content, nothing, one, several, named}
pub use Rattle.dynamo_shape.specs.Shape.{Variants, no_variants, variant, unit, option, list, struct}
pub use Rattle.dynamo_shape.specs.Shape.{no_shapes, no_field_shapes, field_shape, tagged, no_tagged}
pub use Rattle.dynamo_shape.specs.Shape.{tagged_variant, FieldShapes, set, unit_struct, struct_by}
pub use Rattle.dynamo_shape.specs.Shape.{Shapes, Tagged, shape}
pub use Rattle.dynamo_value.specs.Av.{Av, N, S, Null, Ss, Ns, L, M, no_members, member, Members}
pub use Rattle.dynamo_value.specs.Av.{members_of, B, Boolean}
pub use Rattle.dynamo_value.specs.Fault.{expected_string, expected_num, failed_to_parse_int}
pub use Rattle.dynamo_value.specs.Fault.{failed_to_parse_float, expected_map, expected_unit}
pub use Rattle.dynamo_value.specs.Fault.{expected_enum, expected_char, expected_seq}
pub use Rattle.dynamo_value.specs.Fault.{expected_single_key, Fault}
pub use Rattle.dynamo_value.specs.Integer.{IntegerKind, i64, i128, u8, u64, u128}
pub use Rattle.dynamo_value.specs.Steps.{◌>>=◌}
pub use Rattle.dynamo_value.specs.View.{text_cmp}
pub use Rattle.dynamo_write.proofs.Collected.{collect_twice, less, halves, nothing_more}
pub use Rattle.dynamo_write.proofs.Collected.{sorted-collect}
pub use Rattle.dynamo_write.specs.Collect.{collect, collect_onto}
pub use Rattle.dynamo_write.specs.Set.{set_kind, set_of, set_element, set_elements}
pub use Rattle.dynamo_write.specs.Written.{written, written_elements, written_pairs, written_fields}
pub use Rattle.dynamo_write.specs.Written.{map_of_entries, one_member}
pub use Rattle.std.proofs.lemmas.Bool.{true≢false, and_parts, cases_Bool}
pub use Rattle.std.proofs.lemmas.Map.Text.{is_eq-slice_cmp}
pub use Rattle.std.proofs.lemmas.Option.{none-some, same_Some}
pub use Rattle.std.proofs.lemmas.Slice.Eq.{bytes_eq-Decides}
pub use Rattle.std.specs.Cmp.{booleans_Decides, IsTotalOrder, nat_cmp_total, int_cmp_total}
pub use Rattle.std.specs.Cmp.{bool_cmp_total}
pub use Rattle.std.specs.Cmp.Derive.{one_truth}
pub use Rattle.std.specs.Cmp.Lexicographic.{pointwise, bytes_decides, slice_cmp, nat_list_cmp_total}
pub use Rattle.std.specs.FinMap.Entries.{put, find, by_order, find-put, is_sorted, below_all}
pub use Rattle.std.specs.FinMap.Entries.{same_entries}
pub use Rattle.std.specs.Fmt.{signed_decimal}
pub use Rattle.std.specs.List.{AllByRecursion, list_any}
pub use Rattle.std.specs.Ordering.{is_lt, eq_by_cmp, int_eq, is_eq, nat_cmp, ordering_reverse}
pub use Rattle.std.specs.Ordering.{int_cmp, bool_cmp, match_ordering}
pub use Rattle.std.specs.Prelude.{bytes_eq, ⊤, codes, encode_utf8, nat_eq, nat_lt, if◌then◌else◌, T}
pub use Rattle.std.specs.Prelude.{is_ok, IfOk, chars}
pub use Rattle.std.specs.declared.alloc.Global.{Global}
pub use Rattle.std.specs.declared.cmp.Ordering.{Ordering}
pub use Rattle.std.specs.declared.cmp.Ordering.TheVariants.{Less, Equal, Greater}
pub use Rattle.std.specs.declared.vec.Vec.{Vec}
