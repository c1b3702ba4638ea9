use Rattle.dynamo_record.proofs.Common.{conforms, one_more}
use Rattle.dynamo_record.proofs.impls.sequences.VecShaped.conforms.Goals as goal

pub loop-value-preserved : goal.loop-value-preserved
loop-value-preserved g c = one_more (conforms g.T.Shaped.about.shape) g.T.Shaped.about.tells c.deref-value-items.result.now c.loop-value.value-index c.value-item.result c.loop-value-test.true c.value-item.is c.loop-value.invariant c.conforms.ensures
