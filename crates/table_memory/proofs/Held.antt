-- The keys of a table are held, so that a query finds those of a range.
use Rattle.std.proofs.Common.{◌≡◌, ◌∙◌, Bool, true, false, [], ◌∷◌, take, refl, sym}
use Rattle.std.proofs.Math.Logic.{∥∥₁_elim}
use Rattle.std.proofs.Math.Seq.{take-nil}
use Rattle.std.proofs.lemmas.List.Elements.{All-head, All-tail}
use Rattle.std.specs.BTreeMap.Range.{entries_between, range_contains}
use Rattle.std.specs.Coded.{Coded-set, coded_bool}
use Rattle.std.specs.List.{All, filter}
use Rattle.std.specs.Map.{keys_of}
use Rattle.std.specs.declared.ops.Bound.{Bound}
use Rattle.dynamo_value.specs.declared.item.Item.{Item}
use Rattle.table_keys.specs.Held.{IsHeldKey}
use Rattle.table_keys.specs.KeyOrder.{key_cmp}
use Rattle.table_keys.specs.declared.key.Key.{Key}
use Rattle.table_keys.specs.Queries.{answer, finds, in_direction}
use Rattle.table_keys.specs.Ranges.{FindsBetween, FindsNone, lies_between}
use Rattle.table_keys.specs.declared.key_range.KeyRange.{KeyRange}
use Rattle.table_keys.specs.declared.query.Query.{Query}
use Rattle.table_memory.proofs.Pages.{Entries}

-- two tests that agree on held keys let the same entries of a table through
alike : (p q : Key → Bool) (es : Entries) → ((k : Key) → IsHeldKey k → p k ≡ q k)
    → ∥ All IsHeldKey (keys_of es) ∥₁
    → filter (λ e. p e.0) es ≡ filter (λ e. q e.0) es
alike p q es h held =
    go es (λ n d l. ∥∥₁_elim held (Coded-set coded_bool _ _) (λ all. h _ (all n d l)))
  where
    go : (es : Entries) → All (λ k. p k ≡ q k) (keys_of es)
        → filter (λ e. p e.0) es ≡ filter (λ e. q e.0) es
    go [] all = refl
    go (e ∷ es) all = rw (
      All-head (λ k. p k ≡ q k) e.0 (keys_of es) all,
      go es (All-tail (λ k. p k ≡ q k) e.0 (keys_of es) all),
    )

nothing : (es : Entries) → filter (λ e. false) es ≡ []
nothing [] = refl
nothing (e ∷ es) = nothing es

pub answer_none : (query : Query) (es : Entries) → FindsNone query
    → ∥ All IsHeldKey (keys_of es) ∥₁ → answer query es ≡ []
answer_none query es none held =
    rw (alike (finds query) (λ k. false) es none held, nothing es) (empty query.backward)
  where
    empty : (backward : Bool) → take {A = Key × Item} query.limit (in_direction backward []) ≡ []
    empty true = take-nil query.limit
    empty false = take-nil query.limit

-- of the items between the bounds of its range, those that the query answers
pub answer_between : (query : Query) (range : KeyRange) (low high : Bound Key) (es : Entries)
    → FindsBetween query range
    → ((key : Key) → range_contains key_cmp low high key ≡ lies_between range key)
    → ∥ All IsHeldKey (keys_of es) ∥₁
    → take query.limit (in_direction query.backward (entries_between key_cmp low high es))
    ≡ answer query es
answer_between query range low high es finds_them bounds held =
    rw (alike (finds query) (range_contains key_cmp low high) es
    (λ k h. finds_them k h ∙ sym (bounds k)) held) refl
