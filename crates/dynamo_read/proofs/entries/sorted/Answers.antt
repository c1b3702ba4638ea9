use Rattle.std.proofs.Common.{rules, ◌≡◌, ◌∙◌, List, map, ap, sym, subst}
use Rattle.std.specs.List.{IsDistinct}
use Rattle.std.specs.List.Sorted.{IsPermutation}
use Rattle.std.specs.Map.{keys_of}
use Rattle.std.specs.String.{string_eq}
use Rattle.std.proofs.lemmas.List.{map-id}
use Rattle.dynamo_value.proofs.Members.{Entry}
use Rattle.dynamo_value.proofs.Sorted.{sorted_entries}
use Rattle.dynamo_value.specs.Entries.{seen_entries}
use Rattle.dynamo_value.specs.View.{entries_view}
use Rattle.dynamo_read.proofs.entries.sorted.Goals as goal

pub returns : goal.returns
returns c =
    let sort = c.sort_unstable_by.ensures in
    let entries = c.args.map.entries in
    let list = c.sort_unstable_by.new.self.items in
    let same : map (λ (e : Entry). e) entries ≡ entries = map-id entries in
    let distinct = subst (λ (es : List Entry). IsDistinct string_eq (keys_of es)) (sym same) c.requires.distinct in
    ap seen_entries (sym (map-id list))
    ∙ sorted_entries (λ e. e) entries list distinct (subst (λ es. IsPermutation es list) (search rules) sort.permutation) sort.sorted (λ f1 a r f2 call. search rules)
    ∙ ap entries_view same
