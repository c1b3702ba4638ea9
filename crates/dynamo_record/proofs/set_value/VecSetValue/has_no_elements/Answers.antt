use Rattle.dynamo_record.proofs.EmptyTold.{no_elements_told}
use Rattle.dynamo_record.proofs.set_value.VecSetValue.has_no_elements.Goals as goal

pub returns : goal.returns
returns g c = rw (c.is_empty.ensures, c.as_slice.ensures.value) (no_elements_told g.T.Shaped.about.tells c.args.self.now.items)
