-- An update of an item, said of the value that the item reads as.
use Rattle.std.proofs.Common.{◌≡◌, ◌≢◌, ◌∙◌, Bool, true, false, Option, Some, None, Result, Ok, Err}
use Rattle.std.proofs.Common.{MatchOption, MatchResult, Ordering, Less, Equal, Greater}
use Rattle.std.proofs.Common.{refl, sym, ap, subst, inl, inr}
use Rattle.std.specs.Prelude.{IsOkAnd}
use Rattle.std.specs.BTreeMap.{Updates, get}
use Rattle.std.specs.Bool.{MatchBool}
use Rattle.std.specs.Ordering.{is_ne, ordering_reverse}
use Rattle.dynamo_value.specs.Fault.{Fault}
use Rattle.dynamo_value.specs.declared.item.Item.{Item}
use Rattle.table_keys.specs.KeyLaws.{key_total}
use Rattle.table_keys.specs.KeyOf.{ReadsKey}
use Rattle.table_keys.specs.KeyOrder.{key_cmp}
use Rattle.table_keys.specs.declared.error.TableError.{TableError}
use Rattle.table_keys.specs.declared.key.Key.{Key}
use Rattle.table_memory.proofs.Lent.{under_equal}
use Rattle.table_memory.specs.Change.{RefusesBy, Replaces, UpdatesItem}
use Rattle.table_memory.specs.Content.{entries_of, items_of, schema_of}
use Rattle.table_memory.specs.declared.table.Table.{Table}
use Rattle.table_typed.specs.Stored.{ReadsAt}
use Rattle.table_typed.specs.Updated.{FailsAt, FailsToUpdate, MakesItem, MakesNone}
use Rattle.table_typed.specs.declared.change.Failed.{Failed}
use Rattle.table_typed.specs.declared.error.TypedTableError.{TypedTableError}

equal_keys : (o : Ordering) → is_ne o ≡ false → o ≡ Equal
equal_keys Less e = cc
equal_keys Equal e = refl
equal_keys Greater e = cc

other_keys : (o : Ordering) → is_ne o ≡ true → o ≢ Equal
other_keys Less e = λ h. cc
other_keys Equal e = λ h. cc
other_keys Greater e = λ h. cc

module _ {T E : Type 0} (Written : T → Item → Type 0) (Unwritten : T → Fault → Type 0)
    (Reads : Item → Result T Fault → Type 0) (Change : T → Result T E → Type 0)
    (Gives : TypedTableError → E → Type 0) (key : Key) (old new : Table)
    (Makes : Item → Result Item (Failed E) → Type 0) where
  -- what the caller's type makes of an error of the table of items
  abbrev gives : TableError → Failed E → Type 0
  gives error failed = Gives (TypedTableError.Table error) failed.0

  -- ---- an update that succeeded

  -- the item of the changed value is put under the key
  abbrev Done : Option Item → Type 0
  Done there =
      (item : Item) × Updates key_cmp (items_of old) (items_of new) key (Some item)
      × (before after : T) × ReadsAt Reads there (Ok (Some before)) × Change before (Ok after)
      × Written after item

  module _ (done : Unit {0})
      (makes : (before item : Item) → Makes before (Ok item) → MakesItem Written Reads Change before item) where
    under : (item : Item) (own : Key) (other : Bool) → is_ne (key_cmp own key) ≡ other
        → MatchBool other (RefusesBy (gives TableError.KeyChanged) (items_of old) (items_of new) (Ok done))
        (IsOkAnd {E = Failed E} (Ok done) (λ _. Updates key_cmp (items_of old) (items_of new) own (Some item)))
        → Updates key_cmp (items_of old) (items_of new) key (Some item)
    under item own true e h = absurd h.0
    under item own false e h =
        under_equal (items_of old) (items_of new) own key item h
        (key_total.antisymm key own ∙ ap ordering_reverse (equal_keys (key_cmp own key) e))

    of_own : (item : Item) (own : Result Key TableError)
        → MatchResult own
        (λ k. MatchBool (is_ne (key_cmp k key)) (RefusesBy (gives TableError.KeyChanged) (items_of old) (items_of new) (Ok done))
        (IsOkAnd {E = Failed E} (Ok done) (λ _. Updates key_cmp (items_of old) (items_of new) k (Some item))))
        (λ error. RefusesBy (gives error) (items_of old) (items_of new) (Ok done))
        → Updates key_cmp (items_of old) (items_of new) key (Some item)
    of_own item (Ok own) h = under item own (is_ne (key_cmp own key)) refl h
    of_own item (Err e) h = absurd h.0

    of_made : (before : Item) (made : Result Item (Failed E)) → Makes before made
        → MatchResult made (Replaces gives (schema_of old) key (items_of old) (items_of new) (Ok done))
        (λ error. RefusesBy (λ e. e ≡ error) (items_of old) (items_of new) (Ok done))
        → Done (Some before)
    of_made before (Ok item) m h =
        let is = makes before item m in
        (item, of_own item h.0 h.2, is.0, is.1, is.2, is.3, is.4)
    of_made before (Err e) m h = absurd h.0

    of_there : (there : Option Item)
        → MatchOption there (RefusesBy (gives TableError.NoItem) (items_of old) (items_of new) (Ok done))
        (λ item. (made : Result Item (Failed E)) × Makes item made
        × MatchResult made (Replaces gives (schema_of old) key (items_of old) (items_of new) (Ok done))
        (λ error. RefusesBy (λ e. e ≡ error) (items_of old) (items_of new) (Ok done)))
        → Done there
    of_there None h = absurd h.0
    of_there (Some before) h = of_made before h.0 h.1 h.2

    pub updated : UpdatesItem gives Makes key old new (Ok done) → Done (get key_cmp (items_of old) key)
    updated h = of_there (get key_cmp (items_of old) key) h

  -- ---- an update that failed

  module _ (failed : Failed E)
      (makes : (before item : Item) → Makes before (Ok item) → MakesItem Written Reads Change before item)
      (fails : (before : Item) (f : Failed E) → Makes before (Err f)
      → MakesNone Unwritten Reads Change (λ x e. Gives (TypedTableError.Value x) e) before f.0) where
    -- the error is this one, and the items are as they were
    abbrev Fails : Option Item → Type 0
    Fails there =
        FailsAt Written Unwritten Reads Change Gives key (schema_of old) there failed.0
        × (entries_of new ≡ entries_of old)

    not_under : (before item : Item) (own : Key) (other : Bool) → is_ne (key_cmp own key) ≡ other
        → MakesItem Written Reads Change before item → ReadsKey (schema_of old) item (Ok own)
        → MatchBool other (RefusesBy (gives TableError.KeyChanged) (items_of old) (items_of new) (Err failed))
        (IsOkAnd {E = Failed E} (Err failed) (λ (_ : Unit {0}). Updates key_cmp (items_of old) (items_of new) own (Some item)))
        → Fails (Some before)
    not_under before item own true e is reads h =
        let differ = other_keys (key_cmp own key) e in (
          inr (
            is.0,
            is.2,
            inr (
              is.1,
              is.3,
              (
                TypedTableError.Table TableError.KeyChanged,
                inr (refl, own, (item, is.4, reads), differ),
                h.0,
              ),
            ),
          ),
          h.1,
        )
    not_under before item own false e is reads h = absurd h

    not_of_own : (before item : Item) (own : Result Key TableError)
        → MakesItem Written Reads Change before item → ReadsKey (schema_of old) item own
        → MatchResult own
        (λ k. MatchBool (is_ne (key_cmp k key)) (RefusesBy (gives TableError.KeyChanged) (items_of old) (items_of new) (Err failed))
        (IsOkAnd {E = Failed E} (Err failed) (λ (_ : Unit {0}). Updates key_cmp (items_of old) (items_of new) k (Some item))))
        (λ error. RefusesBy (gives error) (items_of old) (items_of new) (Err failed))
        → Fails (Some before)
    not_of_own before item (Ok own) is reads h =
        not_under before item own (is_ne (key_cmp own key)) refl is reads h
    not_of_own before item (Err e) is reads h =
        (inr (is.0, is.2, inr (is.1, is.3, (TypedTableError.Table e, inl (inl (item, is.4, reads)), h.0))), h.1)

    -- why no item is made, said of the update
    none_made : (before : Item) (e : E)
        → MakesNone Unwritten Reads Change (λ x e. Gives (TypedTableError.Value x) e) before e
        → FailsAt Written Unwritten Reads Change Gives key (schema_of old) (Some before) e
    none_made before e (inl (x, unread, given)) = inl (TypedTableError.Value x, (x, refl, unread), given)
    none_made before e (inr (b, reads, inl own)) = inr (b, reads, inl own)
    none_made before e (inr (b, reads, inr (after, change, x, unwritten, given))) =
        inr (b, reads, inr (after, change, (TypedTableError.Value x, inl unwritten, given)))

    not_of_made : (before : Item) (made : Result Item (Failed E)) → Makes before made
        → MatchResult made (Replaces gives (schema_of old) key (items_of old) (items_of new) (Err failed))
        (λ error. RefusesBy (λ e. e ≡ error) (items_of old) (items_of new) (Err failed))
        → Fails (Some before)
    not_of_made before (Ok item) m h = not_of_own before item h.0 (makes before item m) h.1 h.2
    not_of_made before (Err f) m h = (
      subst (λ (g : Failed E). FailsAt Written Unwritten Reads Change Gives key (schema_of old) (Some before) g.0)
          (sym h.0) (none_made before f.0 (fails before f m)),
      h.1,
    )

    not_there : (there : Option Item)
        → MatchOption there (RefusesBy (gives TableError.NoItem) (items_of old) (items_of new) (Err failed))
        (λ item. (made : Result Item (Failed E)) × Makes item made
        × MatchResult made (Replaces gives (schema_of old) key (items_of old) (items_of new) (Err failed))
        (λ error. RefusesBy (λ e. e ≡ error) (items_of old) (items_of new) (Err failed)))
        → Fails there
    not_there None h = (inl (TypedTableError.Table TableError.NoItem, refl, h.0), h.1)
    not_there (Some before) h = not_of_made before h.0 h.1 h.2

    pub not_updated : UpdatesItem gives Makes key old new (Err failed)
        → FailsToUpdate Written Unwritten Reads Change Gives key old failed.0
        × (entries_of new ≡ entries_of old)
    not_updated h = not_there (get key_cmp (items_of old) key) h
