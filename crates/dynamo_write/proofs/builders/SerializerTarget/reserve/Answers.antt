use Rattle.std.proofs.Common.{ap, ◌∙◌}
use Rattle.dynamo_value.specs.View.{entries_view}
use Rattle.dynamo_value.proofs.Members.{entries_alike}
use Rattle.dynamo_value.proofs.Reordered.{same_fitted}
use Rattle.dynamo_write.proofs.builders.SerializerTarget.reserve.Goals as goal

pub returns-clause-entries : goal.returns-clause-entries
returns-clause-entries c =
    let before = c.inner_mut.result.now.entries in
    let after = c.reserve.new.self.entries in
    let said = c.reserve.ensures in
    entries_alike after before (same_fitted before after said.entries.0 said.unique) ∙ ap (λ m. entries_view m.entries) c.inner_mut.ensures.value
