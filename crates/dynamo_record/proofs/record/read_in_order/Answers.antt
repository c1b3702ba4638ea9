use Rattle.std.proofs.Common.{[], subst, inl, inr}
use Rattle.dynamo_record.proofs.Common.{err_from_is_err_and, read_fields, Makes, too_few_text}
use Rattle.dynamo_record.proofs.Common.{listed}
use Rattle.dynamo_de.specs.Answer as answer
use Rattle.dynamo_record.proofs.Structs.{listed_made, listed_short, listed_fails}
use Rattle.dynamo_record.proofs.record.read_in_order.Goals as goal

pub returns-in_err-fields : goal.returns-in_err-fields
returns-in_err-fields g c =
    let a = listed g.R.Record.about g.R.Fields.FieldList.about in
    let p = err_from_is_err_and c.from_residual.result c.from_residual.ensures.1 in
    rw (p.1, p.2) (listed_fails a g.D.Error.Error.fault (g.D.Reader.elements c.args.elements) (g.D.Reader.elements c.read_in_order.new.elements) c.in_err-fields.field-0.0 (c.in_err-fields.ensures []))

pub returns-in-Some : goal.returns-in-Some
returns-in-Some g c =
    let a = listed g.R.Record.about g.R.Fields.FieldList.about in
    let made = subst (λ o. Makes a.list.shapes a.list.told (read_fields (a.list.shapes []) (g.D.Reader.elements c.args.elements)) (answer.value []) o) c.in-Some.is (c.in_ok-fields.ensures []) in
    listed_made a g.D.Error.Error.fault (g.D.Reader.elements c.args.elements) (g.D.Reader.elements c.read_in_order.new.elements) c.in-Some.fields c.make.result c.requires c.make.ensures made

pub returns : goal.returns
returns g c = elim c.too_few.ensures [
  | inr lacks ↦ inl lacks
  | inl told ↦
      let a = listed g.R.Record.about g.R.Fields.FieldList.about in
      let short = subst (λ o. Makes a.list.shapes a.list.told (read_fields (a.list.shapes []) (g.D.Reader.elements c.args.elements)) (answer.value []) o) c.in-None.is (c.in_ok-fields.ensures []) in
      inr (listed_short a g.D.Error.Error.fault (g.D.Reader.elements c.args.elements) (g.D.Reader.elements c.read_in_order.new.elements) c.too_few.result short (too_few_text _, told))
]
