use Rattle.std.proofs.Common.{rules, subst}
use Rattle.std.specs.BTreeMap.Entry.{IsEntryFor, map_with_value}
use Rattle.std.specs.declared.collections.btree_map.Entry.{Entry}
use Rattle.table_keys.specs.KeyOrder.{key_cmp}
use Rattle.table_memory.proofs.Puts.{same_put}
use Rattle.table_memory.proofs.places.add.Goals as goal

pub returns-in-Vacant-clause-put : goal.returns-in-Vacant-clause-put
returns-in-Vacant-clause-put c =
    let update = subst (IsEntryFor key_cmp c.args.items.now c.args.key) c.in-Vacant.is c.in-Ok.ensures.update in
    same_put c.args.items.now (map_with_value (Entry.Vacant c.in-Vacant.place) c.args.item) _ c.args.key c.args.item (search rules) (update.0 c.args.item)
