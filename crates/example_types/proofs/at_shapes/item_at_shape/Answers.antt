use Rattle.std.proofs.Common.{inl, inr}
use Rattle.std.proofs.lemmas.Result.{err_from_is_err_and}
use Rattle.dynamo_value.specs.Av as av
use Rattle.dynamo_value.specs.Item.{item_view}
use Rattle.dynamo_value.specs.Kind.{fault_of}
use Rattle.dynamo_de.specs.Source.{attribute}
use Rattle.serde_dynamo.proofs.ReadBack.{permitted, refused}
use Rattle.example_types.proofs.at_shapes.item_at_shape.Goals as goal

pub returns-in_err-read-clause-err : goal.returns-in_err-read-clause-err
returns-in_err-read-clause-err g c =
    let handed_on = err_from_is_err_and c.from_residual.result c.from_residual.ensures.1 in
    rw (handed_on.1, handed_on.2) (elim c.in_err-read.ensures [
      | inl lacks ↦ inl lacks
      | inr reads ↦ inr (refused g.T.Shaped.about g.T.Serialize.tells g.met.T.Shaped.as_told g.T.Deserialize.reads g.met.T.Shaped.reads_by_shape (attribute (av.M (item_view c.args.item))) (fault_of c.in_err-read.field-0.0) reads)
    ])

pub returns-clause-ok : goal.returns-clause-ok
returns-clause-ok g c = permitted g.T.Shaped.about g.T.Serialize.tells g.met.T.Shaped.as_told g.T.Deserialize.reads g.met.T.Shaped.reads_by_shape (attribute (av.M (item_view c.args.item))) c.in_ok-read.read c.conforms.ensures c.in_ok-read.ensures
