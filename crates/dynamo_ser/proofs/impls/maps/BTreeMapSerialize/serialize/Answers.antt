use Rattle.std.proofs.Common.{inl}
use Rattle.std.proofs.lemmas.Result.{err_from_is_err_and}
use Rattle.dynamo_ser.proofs.impls.maps.BTreeMapSerialize.serialize.Goals as goal

-- the fault of an entry is an answer to that entry with those after it, and so to the whole map
pub returns-in_err-serialize_entry : goal.returns-in_err-serialize_entry
returns-in_err-serialize_entry g c =
    let handed_on = err_from_is_err_and c.from_residual-in_err-serialize_entry.result c.from_residual-in_err-serialize_entry.ensures.1 in
    let answers_whole = rw c.in-Some.ensures.steps at c.loop-key.invariant in
    rw (handed_on.1, handed_on.2) (inl (answers_whole _ (c.in_err-serialize_entry.ensures.takes.0 _)))
