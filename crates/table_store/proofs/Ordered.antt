-- The items of a page whose keys are read one after another: those so far, and those that are left.
use Rattle.std.proofs.Common.{◌≡◌, ◌∙◌, ℕ, ◌+◌, ◌<◌, ◌≤◌, Bool, true, false, List, [], ◌∷◌, length, get_or, drop, Option, Some, None, Result, Ok, Err, IsErrAnd, MatchBool, ap, refl, subst, sym}
use Rattle.std.proofs.lemmas.List.{drop_all}
use Rattle.std.specs.Borrow.{Bor}
use Rattle.std.specs.Option.{option_copied, option_or}
use Rattle.std.specs.declared.alloc.Global.{Global}
use Rattle.std.specs.declared.vec.Vec.{Vec}
use Rattle.dynamo_value.specs.declared.item.Item.{Item}
use Rattle.table_keys.specs.KeyOf.{ReadsKey}
use Rattle.table_keys.specs.Queries.{is_behind}
use Rattle.table_keys.specs.declared.key.Key.{Key}
use Rattle.table_keys.specs.declared.schema.KeySchema.{KeySchema}
use Rattle.table_store.specs.Order.{AreBehind, IfBehind, ReadsOwnKey, comes_behind}
use Rattle.table_store.specs.Runs.{listed}
use Rattle.table_store.specs.declared.error.StoreError.{StoreError}
use Rattle.table_store.proofs.Called.{is_list_err, unless, when}
use Rattle.table_store.proofs.Each.{next}

seen_behind : (seen start : Option (Bor Key)) (key : Key)
    → comes_behind (option_or (option_copied seen) (option_copied start)) key ≡ is_behind false (option_or seen start) key
seen_behind (Some before) start key = refl
seen_behind None (Some before) key = refl
seen_behind None None key = refl

-- what `is_behind` returns for the last key, or for the start where there is none
pub found_behind : (last : Option Key) (start seen before : Option (Bor Key)) (key : Key) (found : Bool) → option_copied seen ≡ last
    → before ≡ option_or seen start → found ≡ is_behind false before key → comes_behind (option_or last (option_copied start)) key ≡ found
found_behind last start seen before key found same is ensures =
    subst (λ l. comes_behind (option_or l (option_copied start)) key ≡ found) same
    (seen_behind seen start key ∙ ap (λ b. is_behind false b key) (sym is) ∙ sym ensures)

key_read : (schema : KeySchema) (item : Item) (key : Key) → ReadsOwnKey schema item (Ok key) → ReadsKey schema item (Ok key)
key_read schema item key (Ok own, reads, is) = let same : own ≡ key = cc in subst (λ k. ReadsKey schema item (Ok k)) same reads
key_read schema item key (Err e, reads, is) = absurd cc

went_on : {A P : Type 0} (kept : A) (b : Bool) → MatchBool b P (Ok kept ≡ Err StoreError.Unreadable) → (b ≡ true) × P
went_on kept true h = (refl, h)
went_on kept false h = absurd cc

-- what is returned has keys that ascend
pub are_behind : {A : Type 0} (schema : KeySchema) (before : Option Key) (items : List Item) (a kept : A)
    → IfBehind schema before items a (Ok kept) → AreBehind schema before items
are_behind schema before [] a kept h = tt
are_behind schema before (item ∷ items) a kept (Err e, reads, is) = absurd cc
are_behind schema before (item ∷ items) a kept (Ok key, reads, is) =
    let read = key_read schema item key reads in
    let h = went_on kept (comes_behind before key) is in (key, read, h.0, are_behind schema (Some key) items a kept h.1)

module _ (schema : KeySchema) (start : Option Key) (items : List Item) where
  -- what becomes of the items from here on, after the last key, becomes of all
  abbrev pub LeadsTo : ℕ → Option Key → Type 0
  LeadsTo i last =
      (r : Result (List Item) StoreError) → IfBehind schema (option_or last start) (drop i items) items r → IfBehind schema start items items r

  module _ (i : ℕ) (item : Item) (lt : i < length items) (at : item ≡ get_or items i item) (last : Option Key) (leads : LeadsTo i last) where
    leads_here : (r : Result (List Item) StoreError) → IfBehind schema (option_or last start) (item ∷ drop (i + 1) items) items r
        → IfBehind schema start items items r
    leads_here r h = leads r (subst (λ l. IfBehind schema (option_or last start) l items r) (sym (next items i item lt at)) h)

    pub one_more : (key : Key) → ReadsOwnKey schema item (Ok key) → comes_behind (option_or last start) key ≡ true → LeadsTo (i + 1) (Some key)
    one_more key reads behind r rest = leads_here r (Ok key, reads, when _ _ behind rest)

    pub not_behind : (key : Key) → ReadsOwnKey schema item (Ok key) → comes_behind (option_or last start) key ≡ false
        → IfBehind schema start items items (Err StoreError.Unreadable)
    not_behind key reads behind = leads_here (Err StoreError.Unreadable) (Ok key, reads, unless _ _ behind refl)

    pub no_key : (e : StoreError) (r : Result (Vec Item Global) StoreError) → ReadsOwnKey schema item (Err e) → IsErrAnd r (λ x. x ≡ e)
        → IfBehind schema start items items (listed r)
    no_key e r reads is = leads_here (listed r) (Err e, reads, is_list_err r e is)

  pub ends : (i : ℕ) (last : Option Key) → length items ≤ i → LeadsTo i last → IfBehind schema start items items (Ok items)
  ends i last le leads =
      leads (Ok items) (subst (λ l. IfBehind schema (option_or last start) l items (Ok items)) (sym (drop_all i items le)) refl)
