use Rattle.std.proofs.Common.{◌∙◌, Err, Ok, refl, rules, subst}
use Rattle.table_store.specs.Calls.{PutsOver}
use Rattle.table_store.specs.Content.{HasKey, schema_of, table_of}
use Rattle.table_store.proofs.Each.{ends, one_more, stops}
use Rattle.table_store.proofs.Kept.{all_have, all_kept, one_more as one_more_has, one_more_kept}
use Rattle.table_store.proofs.store.TableStore.put_each.Goals as goal

pub loop-item-init : goal.loop-item-init
loop-item-init g c = (refl, search rules, search rules, λ clean. clean, λ clean new r puts. puts)

pub loop-item-preserved : goal.loop-item-preserved
loop-item-preserved g c =
    let was = c.loop-item.invariant in
    let items = c.args.items.now in
    let i = c.loop-item.item-index in
    let item = c.item-item.result in
    let key = subst (λ t. HasKey t.schema item) was.0 c.in_ok-put_over.ensures.key in (
      c.put_over.ensures.table ∙ was.0,
      one_more_has (schema_of c.args.self.now) items i item key.0 c.loop-item-test.true c.item-item.is was.1 key.1,
      one_more_kept items i item c.loop-item-test.true c.item-item.is was.2 c.in_ok-put_over.ensures.kept,
      λ clean. was.3 (c.put_over.ensures.clean clean),
      λ clean. one_more g.S.Store items (table_of c.args.self.now) c.args.self.now.conn i item c.loop-item-test.true c.item-item.is
          c.loop-item.self.conn c.put_over.new.self.conn (was.4 (c.put_over.ensures.clean clean))
          (subst (λ t. PutsOver g.S.Store item t c.loop-item.self.conn c.put_over.new.self.conn (Ok tt)) was.0
          (c.in_ok-put_over.ensures.ran clean)),
    )

pub returns-clause-keys : goal.returns-clause-keys
returns-clause-keys g c = all_have (schema_of c.args.self.now) c.args.items.now c.loop-item.item-index c.loop-item-test.false c.loop-item.invariant.1

pub returns-clause-kept : goal.returns-clause-kept
returns-clause-kept g c = all_kept c.args.items.now c.loop-item.item-index c.loop-item-test.false c.loop-item.invariant.2

pub returns-in_err-put_over-clause-ran : goal.returns-in_err-put_over-clause-ran
returns-in_err-put_over-clause-ran g c clean =
    let was = c.loop-item.invariant in
    stops g.S.Store c.args.items.now (table_of c.args.self.now) c.args.self.now.conn c.loop-item.item-index c.item-item.result
    c.loop-item-test.true c.item-item.is c.loop-item.self.conn c.put_over.new.self.conn (was.4 (c.put_over.ensures.clean clean))
    c.in_err-put_over.field-0.0 c.from_residual.result c.from_residual.ensures.1
    (subst (λ t. PutsOver g.S.Store c.item-item.result t c.loop-item.self.conn c.put_over.new.self.conn (Err c.in_err-put_over.field-0.0)) was.0
    (c.in_err-put_over.ensures.ran clean))

pub returns-in_err-put_over-clause-clean : goal.returns-in_err-put_over-clause-clean
returns-in_err-put_over-clause-clean g c clean = c.loop-item.invariant.3 (c.put_over.ensures.clean clean)

pub returns-clause-ran : goal.returns-clause-ran
returns-clause-ran g c clean =
    ends g.S.Store c.args.items.now (table_of c.args.self.now) c.args.self.now.conn c.loop-item.item-index c.loop-item.self.conn
    c.loop-item-test.false (c.loop-item.invariant.4 clean)
