use Rattle.std.proofs.Common.{List, sym, subst}
use Rattle.dynamo_json.proofs.Common.{MembersAreJson}
use Rattle.serde_json.specs.View as sj
use Rattle.serde_json.proofs.Views.{Entry}
use Rattle.dynamo_json.proofs.WithoutFloats.{names_in_order}
use Rattle.dynamo_json.proofs.without_floats.+walk.Goals as goal

pub members-returns-clause-json : goal.members-returns-clause-json
members-returns-clause-json t c = (
  names_in_order c.args.object.now.entries c.iter-json-items.ensures.ordered,
  c.loop-json.invariant.json (subst (λ (es : List Entry). MembersAreJson (sj.members_view es)) (sym c.in-None.ensures.steps.0) tt),
)
