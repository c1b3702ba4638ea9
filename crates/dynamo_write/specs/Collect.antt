-- The members of a map, from its entries in the order in which they were written: each entry is put in turn, so that of
-- equal keys the last value stays.
use Rattle.std.specs.Prelude.{ℕ, List, [], ◌∷◌}
use Rattle.std.specs.FinMap.Entries.{put}
use Rattle.dynamo_value.specs.View.{text_cmp}

abbrev pub collect_onto : {A : Type 0} → List (List ℕ × A) → List (List ℕ × A) → List (List ℕ × A)
collect_onto members [] = members
collect_onto members (e ∷ es) = collect_onto (put text_cmp e.0 e.1 members) es

abbrev pub collect : {A : Type 0} → List (List ℕ × A) → List (List ℕ × A)
collect es = collect_onto [] es
