-- That the keys of the items of a page ascend.
use Rattle.std.specs.Prelude.{◌≡◌, ⊤, Bool, true, List, [], ◌∷◌, Option, Some, None, Result, Ok}
use Rattle.std.specs.Prelude.{Err, MatchBool, MatchResult}
use Rattle.std.specs.Ordering.{is_lt}
use Rattle.dynamo_value.specs.declared.item.Item.{Item}
use Rattle.table_keys.specs.KeyOf.{ReadsKey}
use Rattle.table_keys.specs.KeyOrder.{key_cmp}
use Rattle.table_keys.specs.declared.error.TableError.{TableError}
use Rattle.table_keys.specs.declared.key.Key.{Key}
use Rattle.table_keys.specs.declared.schema.KeySchema.{KeySchema}
use Rattle.table_store.specs.Errors.{of_foreign}
use Rattle.table_store.specs.declared.error.StoreError.{StoreError}

-- the key comes after the one before it, if there is one
abbrev pub comes_behind : Option Key → Key → Bool
comes_behind None key = true
comes_behind (Some before) key = is_lt (key_cmp before key)

-- each item has a key after that of the item before it, and the first after the start
abbrev pub AreBehind : KeySchema → Option Key → List Item → Type 0
AreBehind schema before [] = ⊤
AreBehind schema before (item ∷ items) =
    (key : Key) × ReadsKey schema item (Ok key) × (comes_behind before key ≡ true) × AreBehind schema (Some key) items

-- the item's own key; an item in a row without its key can't be read
abbrev pub ReadsOwnKey : KeySchema → Item → Result Key StoreError → Type 0
ReadsOwnKey schema item r =
    (key : Result Key TableError) × ReadsKey schema item key × MatchResult key (λ key. r ≡ Ok key) (λ error. r ≡ Err (of_foreign error))

-- The keys of the items are read one after the other. What belongs to them is returned if each
-- comes after the one before it. It is refused for the first item that has no key, or one that
-- doesn't come after.
abbrev pub IfBehind : {A : Type 0} → KeySchema → Option Key → List Item → A → Result A StoreError
    → Type 0
IfBehind schema before [] a r = r ≡ Ok a
IfBehind schema before (item ∷ items) a r =
    (own : Result Key StoreError) × ReadsOwnKey schema item own × MatchResult own
    (λ key. MatchBool (comes_behind before key) (IfBehind schema (Some key) items a r) (r ≡ Err StoreError.Unreadable)) (λ e. r ≡ Err e)
