use Rattle.std.proofs.Common.{◌∙◌}
use Rattle.tool_commands.proofs.Ages.{parsed_age}
use Rattle.tool_commands.proofs.commands.parse_age.Goals as goal

pub returns : goal.returns
returns c = c.ok.ensures.value ∙ parsed_age c.args.text.now c.parse.result c.parse.ensures.value.0
