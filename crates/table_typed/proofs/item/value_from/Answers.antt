use Rattle.std.proofs.Common.{inl, inr}
use Rattle.std.proofs.lemmas.Result.{err_from_is_err_and}
use Rattle.dynamo_value.specs.Kind.{fault_of}
use Rattle.table_typed.proofs.Stored.{got, never_refused}
use Rattle.table_typed.proofs.item.value_from.Goals as goal

pub returns-in_err-value-clause-clear : goal.returns-in_err-value-clause-clear
returns-in_err-value-clause-clear g c clear value is =
    let handed_on = err_from_is_err_and c.from_residual.result c.from_residual.ensures.1 in
    let f = fault_of c.in_err-value.field-0.0 in
    rw (handed_on.1, handed_on.2) (elim c.in_err-value.ensures [
      | inl lacks ↦ lacks
      | inr reads ↦ absurd (never_refused g.T.Shaped.about g.T.Serialize.tells g.met.T.Shaped.as_told
          g.T.Deserialize.reads g.met.T.Shaped.reads_by_shape value f c.args.item clear is reads)
    ])

pub returns-clause-clear : goal.returns-clause-clear
returns-clause-clear g c clear value is =
    got g.T.Shaped.about g.T.Serialize.tells g.met.T.Shaped.as_told g.T.Deserialize.reads
    g.met.T.Shaped.reads_by_shape value c.in_ok-value.value c.args.item clear is c.conforms.ensures
    c.in_ok-value.ensures
