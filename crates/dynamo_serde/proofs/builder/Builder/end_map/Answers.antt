use Rattle.std.proofs.Common.{rules, ◌≡◌, ◌∙◌, ap, sym, inr, Some, option_map, string_bytes}
use Rattle.dynamo_value.specs.View.{view, entries_view}
use Rattle.dynamo_value.specs.declared.attribute_value.AttributeValue.{M}
use Rattle.dynamo_value.proofs.Views.{view_map}
use Rattle.dynamo_serde.specs.Sent.{table, made}
use Rattle.dynamo_serde.specs.Building.{frame}
use Rattle.dynamo_serde.proofs.builder.Builder.end_map.Goals as goal

-- the map that ends is one of its own
pub returns-in-Map-2 : goal.returns-in-Map-2
returns-in-Map-2 c =
    let m = c.in-Map-2.map in
    let none_more : m.shared ≡ 0 = search rules in
    let top : frame c.args.self.now.top ≡ table (entries_view m.entries.entries) (option_map string_bytes m.key) m.shared = ap frame (sym c.in-Map-2.ensures.value) in
    let makes : made (frame c.args.self.now.top) ≡ Some (view (M m.entries)) =
    ap made top ∙ ap (λ n. made (table (entries_view m.entries.entries) (option_map string_bytes m.key) n)) none_more ∙ ap Some (sym (view_map m.entries)) in
    inr (view (M m.entries), makes, search rules)
