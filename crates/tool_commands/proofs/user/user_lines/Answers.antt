use Rattle.std.proofs.Common.{string_bytes, refl, ◌∙◌}
use Rattle.tool_commands.proofs.UserItem.{user_attributes, three_lines}
use Rattle.tool_commands.proofs.user.user_lines.Goals as goal

pub returns : goal.returns
returns c =
    let id = string_bytes c.in_ok-from_str.field-0 in
    let name = string_bytes c.in_ok-from_str-2.field-0 in
    let found = user_attributes c.in_ok-item.item id name c.args.age c.in_ok-item.ensures in
    three_lines id name c.args.age (string_bytes c.new-lines.result) (string_bytes c.push_line.new.text) (string_bytes c.push_line-2.new.text) (string_bytes c.push_line-3.new.text) _ _ _
    c.new-lines.ensures.bytes c.in_ok-push_line.ensures c.in_ok-push_line-2.ensures c.in_ok-push_line-3.ensures found.0 found.1 found.2
    ∙ rw (c.in_ok-from_str.ensures.ok, c.in_ok-from_str-2.ensures.ok) refl
