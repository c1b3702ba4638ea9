use Rattle.std.proofs.Common.{Ok, Err, inl, inr, subst}
use Rattle.std.proofs.lemmas.Result.{err_from_is_err_and}
use Rattle.dynamo_value.specs.Item.{items_view}
use Rattle.dynamo_value.specs.Kind.{fault_of}
use Rattle.dynamo_shape.specs.ReadsBack.{Permitted}
use Rattle.dynamo_shape.specs.Shape.{list}
use Rattle.serde_dynamo.specs.About.{list_tells}
use Rattle.serde_dynamo.proofs.MapsOfItems.{items_answered, whole}
use Rattle.example_types.proofs.at_shapes.items_at_shape.Goals as goal

pub returns-in_err-read-clause-err : goal.returns-in_err-read-clause-err
returns-in_err-read-clause-err g c =
    let handed_on = err_from_is_err_and c.from_residual.result c.from_residual.ensures.1 in
    rw (handed_on.1, handed_on.2) (elim c.in_err-read.ensures [
      | inl lacks ↦ inl lacks
      | inr reads ↦ inr (items_answered g.T.Shaped.about.shape g.T.Shaped.about.tells g.T.Deserialize.reads g.met.T.Shaped.reads_by_shape (items_view c.args.items) (Err (fault_of c.in_err-read.field-0.0)) reads)
    ])

pub returns-clause-ok : goal.returns-clause-ok
returns-clause-ok g c =
    let read = items_answered g.T.Shaped.about.shape g.T.Shaped.about.tells g.T.Deserialize.reads g.met.T.Shaped.reads_by_shape (items_view c.args.items) (Ok c.in_ok-read.read) c.in_ok-read.ensures in
    subst (λ tells. Permitted (list g.T.Shaped.about.shape) (whole (items_view c.args.items)) (Ok (list_tells tells c.in_ok-read.read))) g.met.T.Shaped.as_told (rw read.1 (read.2 c.conforms.ensures))
