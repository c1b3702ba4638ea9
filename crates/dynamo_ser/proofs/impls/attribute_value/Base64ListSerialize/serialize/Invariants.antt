use Rattle.std.proofs.Common.{drop, map, Result}
use Rattle.dynamo_ser.specs.AttributeDatum.{bytes_datum, seq_of}
use Rattle.dynamo_ser.specs.Datum as datum
use Rattle.dynamo_ser.proofs.impls.attribute_value.Base64ListSerialize.serialize.Given as goal

-- what is given where the texts that are left follow is an answer to the whole list
abbrev pub invariant-loop-bytes : goal.invariant-loop-bytes
invariant-loop-bytes g l =
    (answer : Result _ _) →
    g.S.SerializeSeq.ListBuilder.gives l.elements (datum.elements_of (map bytes_datum (drop l.bytes-index l.bytes-items))) answer →
    g.S.Outcomes.outcome l.fn.serializer (seq_of (map bytes_datum l.bytes-items)) answer
