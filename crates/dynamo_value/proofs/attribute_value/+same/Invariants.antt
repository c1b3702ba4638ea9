use Rattle.std.proofs.Common.{◌≡◌, length}
use Rattle.dynamo_value.specs.View.{elements_view}
use Rattle.dynamo_value.proofs.Members.{HasAll}
use Rattle.dynamo_value.proofs.attribute_value.+same.Given as goal

-- the two lists are the same exactly where what is left of both is the same
abbrev pub invariant-same_lists-loop-value : goal.invariant-same_lists-loop-value
invariant-same_lists-loop-value l =
    let a = l.value-iterator.a.rest.now in let b = l.value-iterator.b.rest.now in
    (length a ≡ length b)
    × (elements_view a ≡ elements_view b → elements_view l.a.items ≡ elements_view l.b.items)
    × (elements_view l.a.items ≡ elements_view l.b.items → elements_view a ≡ elements_view b)

-- b has the entries of a exactly where it has those that are left
abbrev pub invariant-same_maps-loop-key : goal.invariant-same_maps-loop-key
invariant-same_maps-loop-key l =
    (HasAll l.b.entries l.key-iterator → HasAll l.b.entries l.a.entries) × (HasAll l.b.entries l.a.entries → HasAll l.b.entries l.key-iterator)
