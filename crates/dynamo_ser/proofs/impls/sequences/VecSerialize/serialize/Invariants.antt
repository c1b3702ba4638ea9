use Rattle.std.proofs.Common.{drop, map, Result}
use Rattle.dynamo_ser.specs.Datum as datum
use Rattle.dynamo_ser.proofs.impls.sequences.VecSerialize.serialize.Given as goal

-- what is given where the elements that are left follow is an answer to the whole list
abbrev pub invariant-loop-element : goal.invariant-loop-element
invariant-loop-element g l =
    (answer : Result _ _) →
    g.S.SerializeSeq.ListBuilder.gives l.elements (datum.elements_of (map g.T.Serialize.tells (drop l.element-index l.element-items))) answer →
    g.S.Outcomes.outcome l.fn.serializer (datum.seq (datum.elements_of (map g.T.Serialize.tells l.element-items))) answer
