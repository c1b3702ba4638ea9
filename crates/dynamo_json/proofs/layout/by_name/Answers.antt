use Rattle.std.proofs.Common.{◌≡◌, ◌∙◌, List, [], ◌∷◌, ◌++◌, length, refl, sym, ap, subst, rules, arith, append_assoc, append-nil}
use Rattle.dynamo_json.proofs.Common.{IsDistinct, IsPermutation, keys_of, string_eq, Entry, copied}
use Rattle.dynamo_json.proofs.Common.{members_view}
use Rattle.std.specs.Vec.Iter.{into_iter_items}
use Rattle.dynamo_value.proofs.Reordered.{distinct, same_members}
use Rattle.dynamo_json.proofs.layout.by_name.Goals as goal

none : (es : List Entry) → length es ≡ 0 → es ≡ []
none [] h = refl
none (e ∷ es) h = absurd (omega arith)

pub loop-name-init : goal.loop-name-init
loop-name-init c = ([], refl, ap members_view c.in_ok-sorted.ensures.empty)

-- one entry more was put
pub loop-name-preserved : goal.loop-name-preserved
loop-name-preserved c =
    let l = c.loop-name in
    let done = l.invariant.0 in
    let e : Entry = (c.in-Some-2.name, c.in-Some-2.value) in
    let left = into_iter_items c.next-in-loop-name.new.self in
    let sorted = c.sort_unstable_by.new.self.items in
    let all : c.loop-entry.entries.items ≡ c.args.map.entries = search rules in
    let moved : IsPermutation c.args.map.entries sorted = subst (λ es. IsPermutation es sorted) all c.sort_unstable_by.ensures.permutation in
    let whole : done ++ e ∷ left ≡ sorted =
    ap (λ (es : List Entry). done ++ es) (sym c.in-Some-2.ensures.steps.0) ∙ l.invariant.1 ∙ c.into_iter-name-iterator.ensures.into_iter_gives.0 in
    let apart : IsDistinct string_eq (keys_of (done ++ e ∷ left)) =
    subst (λ (es : List Entry). IsDistinct string_eq (keys_of es)) (sym whole) (distinct c.args.map.entries sorted moved c.len.ensures.unique) in (
      done ++ e ∷ [],
      append_assoc done (e ∷ []) left ∙ ap (λ (es : List Entry). done ++ es) (sym c.in-Some-2.ensures.steps.0) ∙ l.invariant.1,
      copied l.sorted c.insert.new.self done left e e.0 e.1 apart l.invariant.2 c.in_ok-insert.ensures.updates refl refl,
    )

pub returns : goal.returns
returns c =
    let l = c.loop-name in
    let done = l.invariant.0 in
    let left = l.name-iterator.rest in
    let sorted = c.sort_unstable_by.new.self.items in
    let all : c.loop-entry.entries.items ≡ c.args.map.entries = search rules in
    let moved : IsPermutation c.args.map.entries sorted = subst (λ es. IsPermutation es sorted) all c.sort_unstable_by.ensures.permutation in
    let whole : done ≡ sorted =
    sym (append-nil done) ∙ ap (λ (es : List Entry). done ++ es) (sym (none left.items (sym left.ok.0 ∙ c.in-None-2.ensures.steps.0)))
    ∙ l.invariant.1 ∙ c.into_iter-name-iterator.ensures.into_iter_gives.0 in
    l.invariant.2 ∙ ap members_view whole ∙ sym (same_members c.args.map.entries sorted moved c.len.ensures.unique)
