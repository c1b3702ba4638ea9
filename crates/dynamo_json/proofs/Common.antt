-- The names that most proofs here cite, passed on from one place. Declares nothing.
pub use Rattle.base64.specs.GeneralPurpose.{IsBytes, decode_of}
pub use Rattle.dynamo_json.specs.AttributeBack.{ItemTellsSome, EachDatumBack, EachItemDatumBack}
pub use Rattle.dynamo_json.specs.AttributeBack.{TellsItsDatum, TellsItsItem, ViewsInOrder}
pub use Rattle.dynamo_json.specs.AttributeBack.{ItemViewsInOrder}
pub use Rattle.dynamo_json.specs.AttributeTells.{Tells, ElementsTell, MembersTell, strings}
pub use Rattle.dynamo_json.specs.AttributeTells.{ItemTells}
pub use Rattle.dynamo_json.specs.Followed.{IsWritable, SpellsItem, ValueIsNext, ContentIsNext}
pub use Rattle.dynamo_json.specs.Followed.{ElementsAreNext, MembersAreNext, TextsAreNext}
pub use Rattle.dynamo_json.specs.Followed.{BlobsAreNext, prefix_in, content_in}
pub use Rattle.dynamo_json.specs.Json.{json_of, elements_json, members_json, item_json, under}
pub use Rattle.dynamo_json.specs.JsonBack.{entries, IsWhole, IsJson, AreJson, MembersAreJson}
pub use Rattle.dynamo_json.specs.JsonBack.{JsonBack}
pub use Rattle.dynamo_json.specs.KeysDiffer.{all_differ, keys_differ, KeysDiffer, ElementsDiffer}
pub use Rattle.dynamo_json.specs.KeysDiffer.{EntriesDiffer, differ_step}
pub use Rattle.dynamo_json.specs.Laws.{WritesNoFloat, WritesItemsWithoutFloat, ReadsItsJson}
pub use Rattle.dynamo_json.specs.Laws.{StandsForOne, ReadsItemsExactly, StandsForOneItem}
pub use Rattle.dynamo_json.specs.Laws.{HoldsTexts, SaysMessage, RefusesByMessage}
pub use Rattle.dynamo_json.specs.Laws.{RefusesItemsByMessage}
pub use Rattle.dynamo_json.specs.Parsed.{parsed, parsed_content, parsed_elements, parsed_members}
pub use Rattle.dynamo_json.specs.Parsed.{each_in, unknown_key, known, string_in, blob_in}
pub use Rattle.dynamo_json.specs.Parsed.{parsed_item, no_key, several_keys, not_an_object}
pub use Rattle.dynamo_json.specs.Plain.{plain, in_64_bits, byte_number, object_of_entries}
pub use Rattle.dynamo_json.specs.Plain.{plain_elements, plain_pairs, plain_fields}
pub use Rattle.dynamo_json.specs.StoredText.{Prints, behind, stored, stored_members, tokens_within}
pub use Rattle.dynamo_json.specs.StoredText.{plain_members, plain_number, plain_numbers, tokens_in}
pub use Rattle.dynamo_json.specs.StoredText.{stored_items}
pub use Rattle.dynamo_json.specs.Tokens.{lent_view, tokens_of}
pub use Rattle.dynamo_ser.specs.Datum.{Datum, variant}
pub use Rattle.dynamo_ser.specs.JsonValue.{json_datum, json_elements, json_pairs}
pub use Rattle.dynamo_value.proofs.Members.{Entry, entries-push, apart}
pub use Rattle.dynamo_value.proofs.Members.{view_sorted, inserted, copied}
pub use Rattle.dynamo_value.proofs.Steps.{ok_same, err_ok, bind_ok}
pub use Rattle.dynamo_value.specs.Av.{Av, members_of, elements_of, element, member, Members}
pub use Rattle.dynamo_value.specs.Base64.{base64_text, bytes_of_base64, not_base64}
pub use Rattle.dynamo_value.specs.Entries.{Lent}
pub use Rattle.dynamo_value.specs.Fault.{Fault, failed_to_parse_float, out_of_memory, message}
pub use Rattle.dynamo_value.specs.Fault.{key_must_be_a_string}
pub use Rattle.dynamo_value.specs.HasBytes.{HasBytes, ElementsHaveBytes, MembersHaveBytes}
pub use Rattle.dynamo_value.specs.Kind.{fault_of}
pub use Rattle.dynamo_value.specs.Prefix.{Prefix, prefix_text, prefix_of, M, prefixes, prefix_among}
pub use Rattle.dynamo_value.specs.Refusal.{Refusal, Refused, refusal_in, or_refuse, any_message}
pub use Rattle.dynamo_value.specs.Steps.{◌>>=◌}
pub use Rattle.dynamo_value.specs.View.{view, elements_view, text_cmp, entries_view, members_view}
pub use Rattle.dynamo_value.specs.View.{view_step}
pub use Rattle.dynamo_value.specs.declared.attribute_value.AttributeValue.{AttributeValue, N, S, B}
pub use Rattle.dynamo_value.specs.declared.attribute_value.AttributeValue.{Null, L, Ss, Ns, Bs}
pub use Rattle.dynamo_value.specs.declared.attribute_value.AttributeValue.{the_lemmas}
pub use Rattle.dynamo_write.proofs.Collected.{Alike, sorted_alike, collect-sorted, EachValue}
pub use Rattle.dynamo_write.proofs.Collected.{collect_each, collect_alike, collect_twice}
pub use Rattle.dynamo_write.specs.Collect.{collect, collect_onto}
pub use Rattle.dynamo_write.specs.Written.{one_member, written, written_elements, written_pairs}
pub use Rattle.dynamo_write.specs.Written.{map_of_entries, written_fields}
pub use Rattle.json.specs.Json.{parse_map, after_end_array, read_key, items, members}
pub use Rattle.json.specs.Lex.{tokens}
pub use Rattle.json.specs.Token.{Token, key}
pub use Rattle.serde_json.proofs.Views.{view-Object, view-Array}
pub use Rattle.serde_json.specs.Data.{Data, string, boolean, array, object, Items, no_items, item}
pub use Rattle.serde_json.specs.Data.{no_members, Num, depth, items_depth, members_depth}
pub use Rattle.serde_json.specs.View.{items_of, items_view}
pub use Rattle.serde_json.specs.Written.{compact_text, has_float, items_have_float}
pub use Rattle.serde_json.specs.Written.{members_have_float, outline, items_outline}
pub use Rattle.serde_json.specs.Written.{members_outline}
pub use Rattle.serde_json.specs.declared.value.Value.{Value, Object, Array}
pub use Rattle.std.proofs.lemmas.List.{take-append-drop, take_more, take_all, drop_more}
pub use Rattle.std.proofs.lemmas.List.{at_drop_more, map-append, drop_all}
pub use Rattle.std.proofs.lemmas.Result.{err_from_is_err_and}
pub use Rattle.std.specs.FinMap.Entries.{is_sorted, put, by_order, below_all}
pub use Rattle.std.specs.Fmt.{decimal, signed_decimal}
pub use Rattle.std.specs.List.{AllByRecursion, IsDistinct, list_all, list_any}
pub use Rattle.std.specs.List.Sorted.{IsStrictlySortedBy, IsPermutation}
pub use Rattle.std.specs.Map.{keys_of}
pub use Rattle.std.specs.Ordering.{match_ordering, is_eq, ordering_reverse, is_lt}
pub use Rattle.std.specs.Prelude.{T, codes}
pub use Rattle.std.specs.String.{string_eq, string_cmp}
