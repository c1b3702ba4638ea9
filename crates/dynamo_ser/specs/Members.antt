-- The members of a hashed set in their order, in which they are written.
use Rattle.std.specs.Prelude.{List, [], ◌∷◌}
use Rattle.std.specs.BTreeSet.{insert_key}
use Rattle.std.specs.declared.cmp.Ordering.{Ordering}

-- these members, in order, with those that follow
abbrev pub members_onto : {T : Type 0} → (T → T → Ordering) → List T → List T → List T
members_onto cmp ms [] = ms
members_onto cmp ms (k ∷ ks) = members_onto cmp (insert_key cmp ms k) ks

abbrev pub members_in_order : {T : Type 0} → (T → T → Ordering) → List T → List T
members_in_order cmp ks = members_onto cmp [] ks
