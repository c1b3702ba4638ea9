use Rattle.std.proofs.Common.{◌∙◌}
use Rattle.std.specs.Option.{option_copied}
use Rattle.table_store.proofs.Ordered.{are_behind, ends, found_behind, not_behind, one_more}
use Rattle.table_store.proofs.rows.order.in_order.Goals as goal

pub returns-then-not-is_behind-clause-exact : goal.returns-then-not-is_behind-clause-exact
returns-then-not-is_behind-clause-exact c =
    not_behind c.args.schema.now (option_copied c.args.start_after) c.args.items.items c.loop-item.item-index c.item-item.result
    (rw c.deref-item-items.ensures.value at c.loop-item-test.true) (rw c.deref-item-items.ensures.value at c.item-item.is) c.loop-item.last c.loop-item.invariant c.in_ok-key.key c.in_ok-key.ensures
    (found_behind c.loop-item.last c.args.start_after c.as_ref.result c.or.result c.in_ok-key.key c.is_behind.result
    c.as_ref.ensures.value c.or.ensures c.is_behind.ensures ∙ c.if-not-is_behind.true)

pub loop-item-preserved : goal.loop-item-preserved
loop-item-preserved c =
    one_more c.args.schema.now (option_copied c.args.start_after) c.args.items.items c.loop-item.item-index c.item-item.result
    (rw c.deref-item-items.ensures.value at c.loop-item-test.true) (rw c.deref-item-items.ensures.value at c.item-item.is) c.loop-item.last c.loop-item.invariant c.in_ok-key.key c.in_ok-key.ensures
    (found_behind c.loop-item.last c.args.start_after c.as_ref.result c.or.result c.in_ok-key.key c.is_behind.result
    c.as_ref.ensures.value c.or.ensures c.is_behind.ensures ∙ c.if-not-is_behind.false)

pub returns-clause-behind : goal.returns-clause-behind
returns-clause-behind c =
    are_behind c.args.schema.now (option_copied c.args.start_after) c.args.items.items c.args.items.items c.args.items.items
    (ends c.args.schema.now (option_copied c.args.start_after) c.args.items.items c.loop-item.item-index c.loop-item.last
    (rw c.deref-item-items.ensures.value at c.loop-item-test.false) c.loop-item.invariant)
