use Rattle.std.proofs.Common.{◌≡◌, ◌++◌, ◌-◌, ◌≤◌, length, take, vec_len}
use Rattle.std.specs.BTreeMap.Range.{entries_between}
use Rattle.std.specs.Range.Bound.{bound_map}
use Rattle.table_memory.specs.Content.{entries_of}
use Rattle.table_keys.specs.KeyOrder.{key_cmp}
use Rattle.table_keys.specs.Queries.{in_direction, seen}
use Rattle.table_memory.proofs.table.Table.between.Given as goal

-- what is on the page, and what comes after it up to the limit, are all
abbrev pub invariant-loop-key : goal.invariant-loop-key
invariant-loop-key l = record {
  all : seen l.page.items ++ take (l.limit - vec_len l.page) (in_direction l.backward l.left)
      ≡ take l.limit (in_direction l.backward (entries_between key_cmp (bound_map (λ x. x.now) l.low) (bound_map (λ x. x.now) l.high) (entries_of l.self)));
  room : vec_len l.page ≤ l.limit;
}

abbrev pub decreases-loop-key : goal.decreases-loop-key
decreases-loop-key l = length (in_direction l.backward l.left)
