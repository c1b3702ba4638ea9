use Rattle.std.proofs.Common.{◌≡◌, map, string_bytes}
use Rattle.dynamo_value.specs.View.{view, elements_view}
use Rattle.dynamo_write.specs.Set.{as_set}
use Rattle.dynamo_write.specs.SetKind.{kind_of}
use Rattle.dynamo_write.proofs.Sets.{set_from, taken_of}
use Rattle.dynamo_write.proofs.set.SetKind.set_of.Given as goal

abbrev pub invariant-loop-value : goal.invariant-loop-value
invariant-loop-value l = as_set (kind_of l.fn.self) (view l.fn.value) ≡ set_from (kind_of l.fn.self) (taken_of l.fn.self (map string_bytes l.texts.items) (map (λ b. b.items) l.blobs.items)) (elements_view l.value-iterator.rest.items)
