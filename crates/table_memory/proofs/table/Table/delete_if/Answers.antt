use Rattle.std.proofs.Common.{refl, sym, ap}
use Rattle.std.specs.BTreeMap.{keys}
use Rattle.table_memory.proofs.HeldKeys.{kept}
use Rattle.table_memory.proofs.Lent.{none_taken, stays}
use Rattle.table_memory.proofs.table.Table.delete_if.Goals as goal

pub invariant_of-self-in-Some-get_mut : goal.invariant_of-self-in-Some-get_mut
invariant_of-self-in-Some-get_mut c =
    let item = c.in-Some-get_mut.field-0.now in
    record {
      held = kept c.args.self.now.items (c.get_mut.follows.lender item)
          (c.get_mut.follows.holds item).1 c.args.self.now.held;
    }

pub invariant_of-self-in-None-get_mut : goal.invariant_of-self-in-None-get_mut
invariant_of-self-in-None-get_mut c =
    record {
      held = kept c.args.self.now.items c.get_mut.follows.lender-at-none
          (ap keys c.get_mut.follows.holds-at-none) c.args.self.now.held;
    }

pub returns-in-Some-get_mut-clause-deletes : goal.returns-in-Some-get_mut-clause-deletes
returns-in-Some-get_mut-clause-deletes c =
    let there = c.in-Some-get_mut.ensures.value in
    rw (c.in-NotExists.is, ← there) (
      refl,
      stays c.args.self.now.items c.args.key.now _ c.get_mut.follows.lender
          c.get_mut.follows.holds there,
    )

pub returns-in-None-get_mut-clause-deletes : goal.returns-in-None-get_mut-clause-deletes
returns-in-None-get_mut-clause-deletes c =
    let none = c.in-None-get_mut.ensures.value in
    rw (c.in-NotExists.is, ← none) (
      refl,
      none_taken c.args.self.now.items c.get_mut.follows.lender-at-none c.args.key.now
          c.get_mut.follows.holds-at-none (sym none),
    )
