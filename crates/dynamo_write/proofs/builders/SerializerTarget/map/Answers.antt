use Rattle.std.proofs.Common.{ap, ◌∙◌}
use Rattle.dynamo_value.specs.Av as av
use Rattle.dynamo_value.specs.View.{members_view}
use Rattle.dynamo_value.proofs.Views.{view_map}
use Rattle.dynamo_write.proofs.builders.SerializerTarget.map.Goals as goal

pub returns : goal.returns
returns c = view_map c.into_inner.result ∙ ap (λ m. av.M (members_view m.entries)) c.into_inner.ensures
