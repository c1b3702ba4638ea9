-- What the loops of a query and of a scan found, as entries of the table.
use Rattle.std.proofs.Common.{◌≡◌, Bool, true, false, if◌then◌else◌, ℕ, ◌+◌, ◌-◌, ◌<◌}
use Rattle.std.proofs.Common.{List, [], ◌∷◌, ◌++◌, take, reverse, Bor, refl, append_assoc, arith}
use Rattle.std.proofs.Common.{suc}
use Rattle.std.proofs.lemmas.List.{append-nil, map-append, take-map}
use Rattle.std.specs.List.{filter}
use Rattle.std.specs.List.Sorted.{IsStrictlySortedBy}
use Rattle.std.specs.Map.{keys_of}
use mathlib.Core.List.{reverse_aux}
use Rattle.dynamo_value.specs.declared.item.Item.{Item}
use Rattle.table_keys.specs.KeyOrder.{key_cmp}
use Rattle.table_keys.specs.declared.key.Key.{Key}
use Rattle.table_keys.specs.Queries.{answer, finds, in_direction, seen}
use Rattle.table_keys.specs.declared.query.Query.{Query}

abbrev pub Lent : Type 0
Lent = List (Bor Key × Bor Item)

abbrev pub Entries : Type 0
Entries = List (Key × Item)

-- the entries are in the order of their keys, each key once
abbrev pub InOrder : Entries → Type 0
InOrder es = IsStrictlySortedBy key_cmp (keys_of es)

-- the entry that is lent
abbrev pub entry : Bor Key × Bor Item → Key × Item
entry p = (p.0.now, p.1.now)

seen_onto : (found more : Lent)
    → seen (reverse_aux found more) ≡ reverse_aux (seen found) (seen more)
seen_onto [] more = refl
seen_onto (x ∷ found) more = seen_onto found (x ∷ more)

seen_turned : (backward : Bool) (found : Lent)
    → seen (if backward then reverse found else found) ≡ in_direction backward (seen found)
seen_turned true found = seen_onto found []
seen_turned false found = refl

-- all is found, turned and cut
pub answered : (query : Query) (entries left : Entries) (found kept all : Lent) → left ≡ []
    → seen found ++ filter (λ e. finds query e.0) left ≡ filter (λ e. finds query e.0) entries
    → kept ≡ (if query.backward then reverse found else found) → all ≡ take query.limit kept
    → seen all ≡ answer query entries
answered query entries left found kept all none e turned cut =
    rw (cut, turned, ← e, none, append-nil, ← take-map, seen_turned query.backward found) refl

-- of the entries up to a limit, one more is found at the front of what is left
pub one_more : (found more : Lent) (x : Bor Key × Bor Item) (left : Entries) (m n k : ℕ)
    → more ≡ found ++ x ∷ [] → k ≡ n + 1 → n < m
    → seen more ++ take (m - k) left ≡ seen found ++ take (m - n) (entry x ∷ left)
one_more found more x left m n k is count h =
    let one : m - n ≡ suc (m - k) = omega arith in
    rw (one, is, map-append entry found (x ∷ []))
    (append_assoc (seen found) (entry x ∷ []) (take (m - k) left))
