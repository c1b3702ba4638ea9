-- Items that a query finds, one after another.
use Rattle.std.proofs.Common.{inl, inr, ◌≡◌, ◌<◌, ◌≤◌, List, [], ◌∷◌, ◌++◌, length, All, true, Ok, subst, sym, arith}
use Rattle.std.proofs.lemmas.List.{length-append}
use Rattle.std.proofs.lemmas.List.Elements.{All-push}
use Rattle.dynamo_value.specs.declared.item.Item.{Item}
use Rattle.table_keys.specs.KeyOf.{ReadsKey}
use Rattle.table_keys.specs.declared.key.Key.{Key}
use Rattle.table_keys.specs.declared.schema.KeySchema.{KeySchema}
use Rattle.table_keys.specs.Queries.{finds}
use Rattle.table_keys.specs.declared.query.Query.{Query}
use Rattle.table_store.specs.Faults.{IsOfRow}
use Rattle.table_store.specs.Found.{IsFound}
use Rattle.table_store.specs.Runs.{IsUnread}
use Rattle.table_store.specs.declared.error.StoreError.{StoreError}

-- a list below the limit takes one item more
pub one_more : (schema : KeySchema) (query : Query) (found new : List Item) (item : Item) (key : Key) → new ≡ found ++ item ∷ []
    → All (IsFound schema query) found → length found < query.limit → ReadsKey schema item (Ok key) → finds query key ≡ true
    → All (IsFound schema query) new × (length new ≤ query.limit)
one_more schema query found new item key is h lt reads found_by =
    subst (λ xs. All (IsFound schema query) xs × (length xs ≤ query.limit)) (sym is)
    (All-push (IsFound schema query) found item h (key, reads, found_by), omega (arith, lt, length-append found (item ∷ [])))

-- a row that doesn't read
pub of_unread : (e : StoreError) → IsUnread e → IsOfRow e
of_unread e (inl is) = inr is
of_unread e (inr is) = inl (inl is)
