use Rattle.dynamo_record.proofs.OneField.{element_read}
use Rattle.dynamo_record.proofs.field_list.FieldFieldList.read_in_order.Goals as goal

pub returns-in_ok-value-in-Some : goal.returns-in_ok-value-in-Some
returns-in_ok-value-in-Some g c = λ ss.
    let a = g.F.FieldType.about in
    element_read a.shape a.tells g.D.Reader.source g.F.Value.Deserialize.reads g.met.F.FieldType.reads_by_shape ss (g.D.Reader.elements c.args.elements.now) (g.D.Reader.elements c.next_element.new.rest) c.in-Some.element c.in_ok-value-in-Some.value
    c.in-Some.ensures.taken c.in_ok-value-in-Some.ensures
