use Rattle.std.proofs.Common.{inl, inr, codes}
use Rattle.dynamo_value.proofs.refusal.not_an_object.Goals as goal

pub returns : goal.returns
returns c = elim c.message.ensures [
  | inl e ↦ inl e
  | inr e ↦ inr (codes "invalid type: ", codes " \"N\", \"S\", \"BOOL\", \"B\", \"NULL\", \"M\", \"L\", \"SS\", \"NS\", or \"BS\"", e)
]
