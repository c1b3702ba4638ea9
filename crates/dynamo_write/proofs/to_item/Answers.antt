use Rattle.std.proofs.Common.{Ok, ap, sym, ◌∙◌, inl, inr}
use Rattle.dynamo_value.specs.View.{members_view}
use Rattle.dynamo_write.proofs.Items.{item_of_map}
use Rattle.dynamo_write.proofs.to_item.Goals as goal

pub returns-in-M : goal.returns-in-M
returns-in-M g c = elim c.in_ok-_other.ensures [
  | inl is ↦ item_of_map (g.T.Serialize.tells c.args.value) c.in_ok-_other._other c.in-M.map is c.in-M.is ∙ ap (λ t. Ok (members_view t.entries)) (sym c.from.ensures)
  | inr lacks ↦ absurd lacks.1
]
