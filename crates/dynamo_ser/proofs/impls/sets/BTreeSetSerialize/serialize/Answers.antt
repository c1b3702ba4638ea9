use Rattle.std.proofs.Common.{inl}
use Rattle.std.proofs.lemmas.Result.{err_from_is_err_and}
use Rattle.dynamo_ser.proofs.impls.sets.BTreeSetSerialize.serialize.Goals as goal

-- the fault of a member is an answer to that member with those after it, and so to the whole list
pub returns-in_err-serialize_element : goal.returns-in_err-serialize_element
returns-in_err-serialize_element g c =
    let handed_on = err_from_is_err_and c.from_residual-in_err-serialize_element.result c.from_residual-in_err-serialize_element.ensures.1 in
    let answers_whole = rw c.in-Some.ensures.steps at c.loop-member.invariant in
    rw (handed_on.1, handed_on.2) (inl (answers_whole _ (c.in_err-serialize_element.ensures.0 _)))
