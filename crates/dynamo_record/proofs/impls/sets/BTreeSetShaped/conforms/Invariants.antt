use Rattle.dynamo_record.proofs.Common.{AllElements, conforms, told_each}
use Rattle.dynamo_record.proofs.impls.sets.BTreeSetShaped.conforms.Given as goal

-- where the members that are left conform, all do
abbrev pub invariant-loop-member : goal.invariant-loop-member
invariant-loop-member g l =
    let key = g.T.ShapedKey.about_key in
    AllElements (conforms key.about.shape) (told_each key.about.tells l.member-iterator) → AllElements (conforms key.about.shape) (told_each key.about.tells l.self.keys)
