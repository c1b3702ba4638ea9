-- A page of two statements: the rest of a partition, and then the partitions that follow.
use Rattle.std.proofs.Common.{◌≡◌, ◌≢◌, ◌⊎◌, ◌∙◌, ◌++◌, ◌-◌, ℕ, ℤ, List, length, Result, Ok, Err, MatchResult, refl, subst, sym}
use Rattle.std.proofs.lemmas.Bool.{eq-eqb, ne_eqb}
use Rattle.sqlite.specs.Held.{Held}
use Rattle.sqlite.specs.Store.{Ghosts}
use Rattle.dynamo_value.specs.declared.item.Item.{Item}
use Rattle.table_keys.specs.declared.bytes.KeyBytes.{KeyBytes}
use Rattle.table_store.specs.Calls.{Pages}
use Rattle.table_store.specs.Runs.{Finds}
use Rattle.table_store.specs.Statements.{following_of, following_text, rest_of, rest_text}
use Rattle.table_store.specs.declared.error.StoreError.{StoreError}
use Rattle.table_store.proofs.Called.{unless, when}

module _ {S : Type 0} (g : Ghosts S) (id : ℤ) (start : KeyBytes) (limit : ℕ) (old mid : Held S) where
  pub fails : (e : StoreError) (r : Result (List Item) StoreError) → Finds g rest_text (rest_of id start limit) limit old mid (Err e)
      → r ≡ Err e → Pages g id start limit old mid r
  unfolding Pages
  fails e r first is = (mid, Err e, first, (is, refl))

  module _ (items : List Item) (left : ℕ) (is : left ≡ limit - length items)
      (first : Finds g rest_text (rest_of id start limit) limit old mid (Ok items)) where
    pub full : left ≡ 0 → Pages g id start limit old mid (Ok items)
    unfolding Pages
    full none =
        (mid, Ok items, first, when _ _ (eq-eqb (limit - length items) 0 (sym is ∙ none)) (refl, refl))

    pub goes_on : left ≢ 0 → (new : Held S) (more : Result (List Item) StoreError) (r : Result (List Item) StoreError)
        → Finds g following_text (following_of id start left) left mid new more
        → MatchResult more (λ more. (r ≡ Ok (items ++ more)) ⊎ (r ≡ Err StoreError.OutOfMemory)) (λ e. r ≡ Err e)
        → Pages g id start limit old new r
    unfolding Pages
    goes_on some new (Ok more) r finds h = (
      mid,
      Ok items,
      first,
      unless _ _ (ne_eqb (limit - length items) 0 (λ none. some (is ∙ none)))
          (new, Ok more, subst (λ n. Finds g following_text (following_of id start n) n mid new (Ok more)) is finds, (h, refl)),
    )
    goes_on some new (Err e) r finds h = (
      mid,
      Ok items,
      first,
      unless _ _ (ne_eqb (limit - length items) 0 (λ none. some (is ∙ none)))
          (new, Err e, subst (λ n. Finds g following_text (following_of id start n) n mid new (Err e)) is finds, (h, refl)),
    )
