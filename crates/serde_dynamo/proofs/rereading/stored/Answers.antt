use Rattle.std.proofs.Common.{inl, inr}
use Rattle.std.proofs.lemmas.Result.{err_from_is_err_and}
use Rattle.dynamo_value.specs.Item.{item_view}
use Rattle.dynamo_value.specs.Kind.{fault_of}
use Rattle.serde_dynamo.proofs.ItemBack.{got, never_refused}
use Rattle.serde_dynamo.proofs.rereading.stored.Goals as goal

pub returns-in_err-back-clause-clear : goal.returns-in_err-back-clause-clear
returns-in_err-back-clause-clear g c clear =
    let handed_on = err_from_is_err_and c.from_residual-in_err-back.result c.from_residual-in_err-back.ensures.1 in
    let f = fault_of c.in_err-back.field-0.0 in
    rw (handed_on.1, handed_on.2) (elim c.in_err-back.ensures [
      | inl lacks ↦ inl lacks
      | inr reads ↦ absurd (never_refused g.T.Shaped.about g.T.Serialize.tells g.met.T.Shaped.as_told
          g.T.Deserialize.reads g.met.T.Shaped.reads_by_shape c.args.value.now f (item_view c.in_ok-item.item)
          clear c.conforms.ensures c.in_ok-item.ensures reads)
    ])

pub returns-clause-clear : goal.returns-clause-clear
returns-clause-clear g c clear =
    got g.T.Shaped.about g.T.Serialize.tells g.met.T.Shaped.as_told g.T.Deserialize.reads
    g.met.T.Shaped.reads_by_shape c.args.value.now c.in_ok-back.back (item_view c.in_ok-item.item) clear
    c.conforms.ensures c.in_ok-item.ensures c.conforms-2.ensures c.in_ok-back.ensures
