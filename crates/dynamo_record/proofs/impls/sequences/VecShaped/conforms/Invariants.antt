use Rattle.std.proofs.Common.{take}
use Rattle.dynamo_record.proofs.Common.{AllElements, conforms, told_each}
use Rattle.dynamo_record.proofs.impls.sequences.VecShaped.conforms.Given as goal

abbrev pub invariant-loop-value : goal.invariant-loop-value
invariant-loop-value g l = AllElements (conforms g.T.Shaped.about.shape) (told_each g.T.Shaped.about.tells (take l.value-index l.value-items))
