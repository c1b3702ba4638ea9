use Rattle.std.proofs.Common.{sym, ap, ◌∙◌}
use Rattle.dynamo_value.specs.Av as av
use Rattle.dynamo_value.proofs.Views.{view_list}
use Rattle.dynamo_write.proofs.Listed.{before_nothing}
use Rattle.dynamo_write.proofs.builders.SerializerTarget.list.Goals as goal

pub returns : goal.returns
returns c = view_list c.args.values ∙ ap av.L (sym (before_nothing c.args.values.items))
