use Rattle.std.proofs.Common.{◌∙◌, Ok, Err, refl, sym, ap}
use Rattle.std.specs.Ordering.{is_ne}
use Rattle.table_memory.proofs.Lent.{in_place, stays}
use Rattle.table_memory.proofs.places.change.Goals as goal

pub returns-in_err-item-clause-changes : goal.returns-in_err-item-clause-changes
returns-in_err-item-clause-changes g c =
    let there = c.in-Some.ensures.value in
    let kept = stays c.args.items.now c.args.key.now _ c.get_mut.follows.lender
    c.get_mut.follows.holds there in
    rw (← there) (
      Err c.in_err-item.field-0.0,
      (_, c.in_err-item.ensures, refl),
      (c.from_residual.ensures.1, kept),
    )

pub returns-in_err-own_key-clause-changes : goal.returns-in_err-own_key-clause-changes
returns-in_err-own_key-clause-changes g c =
    let there = c.in-Some.ensures.value in
    let kept = stays c.args.items.now c.args.key.now _ c.get_mut.follows.lender
    c.get_mut.follows.holds there in
    rw (← there) (
      Ok c.in_ok-item.item,
      (_, c.in_ok-item.ensures, refl),
      (
        Err c.in_err-own_key.field-0.0,
        c.in_err-own_key.ensures.reads,
        (c.from_residual-in_err-own_key.ensures.1, kept),
      ),
    )

pub returns-then-is_ne-clause-changes : goal.returns-then-is_ne-clause-changes
returns-then-is_ne-clause-changes g c =
    let there = c.in-Some.ensures.value in
    let kept = stays c.args.items.now c.args.key.now _ c.get_mut.follows.lender
    c.get_mut.follows.holds there in
    let other = sym c.if-is_ne.true ∙ c.is_ne.ensures ∙ ap is_ne c.cmp.ensures in
    rw (← there) (
      Ok c.in_ok-item.item,
      (_, c.in_ok-item.ensures, refl),
      (
        Ok c.in_ok-own_key.own_key,
        c.in_ok-own_key.ensures.reads,
        rw (← other)
            (c.from-then-is_ne.ensures, kept),
      ),
    )

pub returns-clause-changes : goal.returns-clause-changes
returns-clause-changes g c =
    let there = c.in-Some.ensures.value in
    let same = sym c.if-is_ne.false ∙ c.is_ne.ensures ∙ ap is_ne c.cmp.ensures in
    let put = in_place c.args.items.now c.args.key.now _ c.get_mut.follows.lender
    c.get_mut.follows.holds there _ c.in_ok-item.item same in
    rw (← there) (
      Ok c.in_ok-item.item,
      (_, c.in_ok-item.ensures, refl),
      (Ok c.in_ok-own_key.own_key, c.in_ok-own_key.ensures.reads, rw (← same) put),
    )
