-- How many lines each group has, and how one more is counted.
use Rattle.std.specs.Prelude.{◌≡◌, ◌+◌, ◌<◌, ◌≤◌, ◌⊎◌, ℕ, Option, Some, None}
use Rattle.std.specs.BTreeMap.{BTreeMap, get, Updates, btree_map_len, IsUnchanged}
use Rattle.std.specs.Io.Iter.{u64_saturate}
use Rattle.std.specs.String.{string_cmp}
use Rattle.std.specs.declared.alloc.Global.{Global}
use Rattle.std.specs.declared.string.String.{String}
use Rattle.exports.specs.declared.groups.Groups.{Groups}

abbrev pub counts_of : Groups → BTreeMap (String Global) ℕ
counts_of groups = groups.counts

abbrev pub limit_of : Groups → ℕ
limit_of groups = groups.limit

-- the lines of no group
abbrev pub others_of : Groups → ℕ
others_of groups = groups.others

-- One line more: of the group of this name; else of a new group, if there is room for one; else of
-- none.
abbrev pub CountsUnder : String Global → Option ℕ → Groups → Groups → Type 0
CountsUnder name (Some count) old new =
    Updates string_cmp (counts_of old) (counts_of new) name (Some (u64_saturate (count + 1)))
    × (others_of new ≡ others_of old)
CountsUnder name None old new =
    ((btree_map_len (counts_of old) < limit_of old)
    × Updates string_cmp (counts_of old) (counts_of new) name (Some 1)
    × (others_of new ≡ others_of old))
    ⊎ ((limit_of old ≤ btree_map_len (counts_of old)) × IsUnchanged (counts_of old) (counts_of new)
    × (others_of new ≡ u64_saturate (others_of old + 1)))

abbrev pub Counts : Groups → Groups → Type 0
Counts old new = (name : String Global)
    × CountsUnder name (get string_cmp (counts_of old) name) old new
