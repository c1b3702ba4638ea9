-- A tuple struct is read by its fields in order.
use Rattle.std.proofs.Common.{Result}
use Rattle.dynamo_record.proofs.Common.{Fault, After, taken_from, read_elements, Meets, Source, Text}
use Rattle.dynamo_record.proofs.Common.{claims_seq, take_elements, meets_more, ReadsInOrder, AboutList}
use Rattle.dynamo_record.specs.Newtypes.{ReadsAs}
use Rattle.dynamo_ser.specs.Datum as datum
use Rattle.dynamo_de.specs.declared.request.Request.TheVariants as request
use Rattle.dynamo_shape.specs.Shape as shape
use Rattle.dynamo_record.specs.Tuples.{struct_of_elements, named_tuple, read_in_order}

module _ {L E : Type 0} (name : Text) (a : AboutList L) (fault : E → Fault) (s : Source) where
  as_tuple : (r : Result L Fault) → After (read_elements s) (ReadsInOrder a) r → ReadsAs (named_tuple name a) s r
  unfolding ReadsAs
  as_tuple = read_in_order (shape.tuple_struct name) (datum.tuple_struct name) (struct_of_elements name) a s

  pub tuple_read : (r : Result L E) → Meets fault (After (taken_from claims_seq take_elements request.TupleStruct s) (ReadsInOrder a)) r → Meets fault (ReadsAs (named_tuple name a) s) r
  tuple_read r h = meets_more fault (After (read_elements s) (ReadsInOrder a)) (ReadsAs (named_tuple name a) s) as_tuple r h
