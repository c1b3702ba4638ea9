use Rattle.std.proofs.Common.{rules, ◌≡◌, List, map, ◌∙◌, ap, sym, subst}
use Rattle.std.specs.List.{IsDistinct}
use Rattle.std.specs.Map.{keys_of}
use Rattle.std.specs.String.{string_eq}
use Rattle.dynamo_value.proofs.Members.{Entry}
use Rattle.dynamo_value.proofs.Sorted.{sorted_entries}
use Rattle.dynamo_value.specs.Entries.{entry_of}
use Rattle.dynamo_value.specs.View.{entries_view}
use Rattle.dynamo_value.proofs.entries.entries_by_key.Goals as goal

pub returns : goal.returns
returns c =
    let lent = c.loop-key.entries.items in
    let sort = c.sort_unstable_by.ensures in
    let all : c.args.members.now.entries ≡ map entry_of lent = search rules in
    let distinct = subst (λ (es : List Entry). IsDistinct string_eq (keys_of es)) all c.iter-key-items.ensures.unique in
    sorted_entries entry_of lent c.sort_unstable_by.new.self.items distinct sort.permutation sort.sorted (λ f1 a r f2 call. search rules) ∙ ap entries_view (sym all)
