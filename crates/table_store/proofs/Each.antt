-- The items that are put one after another: those so far, and those that are left.
use Rattle.std.proofs.Common.{◌≡◌, ◌∙◌, ℕ, ◌+◌, ◌<◌, ◌≤◌, List, ◌∷◌, length, get_or, drop, Result, Ok, Err, IsErrAnd, ap, refl, subst, sym}
use Rattle.std.proofs.lemmas.List.{drop_all, drop_more}
use Rattle.std.specs.Prelude.{⊤}
use Rattle.sqlite.specs.Held.{Held}
use Rattle.sqlite.specs.Store.{Ghosts}
use Rattle.dynamo_value.specs.declared.item.Item.{Item}
use Rattle.table_store.specs.Calls.{PutsEach, PutsOver}
use Rattle.table_store.specs.declared.error.StoreError.{StoreError}
use Rattle.table_store.specs.declared.rows.definition.Definition.{Definition}
use Rattle.table_store.proofs.Called.{is_err}

-- an item, and those after it
pub next : {A : Type 0} (items : List A) (i : ℕ) (item : A) → i < length items → item ≡ get_or items i item
    → drop i items ≡ item ∷ drop (i + 1) items
next items i item lt at = drop_more items i item lt ∙ ap (λ x. x ∷ drop (i + 1) items) (sym at)

module _ {S : Type 0} (g : Ghosts S) (items : List Item) (table : Definition) (first : Held S) where
  -- if those from here on are put, all are
  abbrev pub Leads : ℕ → Held S → Type 0
  Leads i mid =
      (new : Held S) (r : Result ⊤ StoreError) → PutsEach g (drop i items) table mid new r → PutsEach g items table first new r

  module _ (i : ℕ) (item : Item) (lt : i < length items) (at : item ≡ get_or items i item) (mid after : Held S) (leads : Leads i mid) where
    pub one_more : PutsOver g item table mid after (Ok tt) → Leads (i + 1) after
    one_more puts new r rest =
        leads new r (subst (λ l. PutsEach g l table mid new r) (sym (next items i item lt at)) (after, Ok tt, puts, rest))

    pub stops : (e : StoreError) (r : Result ⊤ StoreError) → IsErrAnd r (λ x. x ≡ e) → PutsOver g item table mid after (Err e)
        → PutsEach g items table first after r
    stops e r is puts =
        leads after r (subst (λ l. PutsEach g l table mid after r) (sym (next items i item lt at)) (after, Err e, puts, (is_err r e is, refl)))

  pub ends : (i : ℕ) (mid : Held S) → length items ≤ i → Leads i mid → PutsEach g items table first mid (Ok tt)
  ends i mid le leads =
      leads mid (Ok tt) (subst (λ l. PutsEach g l table mid mid (Ok tt)) (sym (drop_all i items le)) (refl, refl))
