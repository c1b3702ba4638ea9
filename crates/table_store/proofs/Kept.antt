-- Items that were found to have a key, and to be no deeper than DynamoDB keeps.
use Rattle.std.proofs.Common.{◌≡◌, ℕ, ◌+◌, ◌<◌, ◌≤◌, List, length, get_or, take, All, Result, Ok, Err, IfErr, IsErrAnd, OnOk, subst}
use Rattle.std.proofs.lemmas.List.{take_all}
use Rattle.std.proofs.lemmas.List.Elements.{All-more}
use Rattle.dynamo_value.specs.declared.item.Item.{Item}
use Rattle.table_keys.specs.KeyOf.{ReadsKey}
use Rattle.table_keys.specs.declared.key.Key.{Key}
use Rattle.table_keys.specs.declared.schema.KeySchema.{KeySchema}
use Rattle.table_store.specs.Content.{HasKey}
use Rattle.table_store.specs.Depth.{IsKept}

-- one item more has a key
pub one_more : (schema : KeySchema) (items : List Item) (i : ℕ) (item : Item) (key : Key) → i < length items → item ≡ get_or items i item
    → All (HasKey schema) (take i items) → ReadsKey schema item (Ok key) → All (HasKey schema) (take (i + 1) items)
one_more schema items i item key lt at h reads = All-more (HasKey schema) items i item lt h (subst (HasKey schema) at (key, reads))

pub one_more_kept : (items : List Item) (i : ℕ) (item : Item) → i < length items → item ≡ get_or items i item
    → All IsKept (take i items) → IsKept item → All IsKept (take (i + 1) items)
one_more_kept items i item lt at h kept = All-more IsKept items i item lt h (subst IsKept at kept)

pub all_kept : (items : List Item) (i : ℕ) → length items ≤ i → All IsKept (take i items) → All IsKept items
all_kept items i le h = subst (All IsKept) (take_all i items le) h

pub all_have : (schema : KeySchema) (items : List Item) (i : ℕ) → length items ≤ i → All (HasKey schema) (take i items) → All (HasKey schema) items
all_have schema items i le h = subst (All (HasKey schema)) (take_all i items le) h

-- what holds anyway holds where a call succeeds
pub on_ok : {T E P : Type 0} (r : Result T E) → P → OnOk r P
on_ok (Ok _) p = p
on_ok (Err _) p = tt

-- what an error is, by what it was made of
pub of_err : {T E : Type 0} {P Q : E → Type 0} (r : Result T E) → ((e : E) → P e → Q e) → IsErrAnd r P → IfErr r Q
of_err (Ok _) h p = absurd p
of_err (Err e) h p = h e p
