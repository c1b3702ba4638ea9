-- Items that are read one after another.
use Rattle.std.proofs.Common.{◌≡◌, ℕ, zero, suc, ◌+◌, ◌<◌, ◌≤◌, List, [], ◌∷◌, ◌++◌, length, take, get_or, Result, Ok, Err, sym, ap, ◌∙◌, subst, inl, inr, arith}
use Rattle.std.proofs.lemmas.List.{take_more, take_all}
use Rattle.std.specs.Borrow.{Bor}
use Rattle.dynamo_value.specs.Fault.{Fault}
use Rattle.dynamo_value.specs.declared.item.Item.{Item}
use Rattle.table_keys.specs.declared.key.Key.{Key}
use Rattle.table_keys.specs.Queries.{seen}
use Rattle.table_typed.specs.Stored.{ReadEach, RefusesFirst}

module _ {T : Type 0} (Reads : Item → Result T Fault → Type 0) where
  -- what reading gives of the item of an entry
  abbrev Gives : Bor Key × Bor Item → Result T Fault → Type 0
  Gives p r = Reads p.1.now r

  one_more : (es : List (Bor Key × Bor Item)) (vs : List T) (p : Bor Key × Bor Item) (v : T) → ReadEach Reads (seen es) vs → Gives p (Ok v) → ReadEach Reads (seen (es ++ p ∷ [])) (vs ++ v ∷ [])
  one_more [] [] p v h k = (k, h)
  one_more [] (w ∷ ws) p v h k = absurd h
  one_more (e ∷ es) [] p v h k = absurd h
  one_more (e ∷ es) (w ∷ ws) p v h k = (h.0, one_more es ws p v h.1 k)

  -- the item at a place reads as one more value
  pub goes_on : (es : List (Bor Key × Bor Item)) (i : ℕ) (p : Bor Key × Bor Item) (vs : List T) (v : T) → i < length es → p ≡ get_or es i p
      → ReadEach Reads (seen (take i es)) vs → Gives p (Ok v) → ReadEach Reads (seen (take (i + 1) es)) (vs ++ v ∷ [])
  goes_on es i p vs v lt at h k =
      subst (λ (zs : List (Bor Key × Bor Item)). ReadEach Reads (seen zs) (vs ++ v ∷ [])) (sym (take_more es i p lt ∙ ap (λ z. take i es ++ z ∷ []) (sym at)))
      (one_more (take i es) vs p v h k)

  -- the item at a place is refused, and those before it read
  pub stops : (es : List (Bor Key × Bor Item)) (i : ℕ) (p : Bor Key × Bor Item) (vs : List T) (f : Fault)
      → i < length es → p ≡ get_or es i p → ReadEach Reads (seen (take i es)) vs → Gives p (Err f)
      → RefusesFirst Reads f (seen es)
  stops [] i p vs f lt at h k = absurd (omega (arith, lt))
  stops (e ∷ es) zero p vs f lt at h k = inl (subst (λ q. Gives q (Err f)) at k)
  stops (e ∷ es) (suc i) p [] f lt at h k = absurd h
  stops (e ∷ es) (suc i) p (v ∷ vs) f lt at h k = inr (v, h.0, stops es i p vs f (omega (arith, lt)) at h.1 k)

  pub all_read : (es : List (Bor Key × Bor Item)) (i : ℕ) (vs : List T) → length es ≤ i → ReadEach Reads (seen (take i es)) vs → ReadEach Reads (seen es) vs
  all_read es i vs le h = subst (λ (zs : List (Bor Key × Bor Item)). ReadEach Reads (seen zs) vs) (take_all i es le) h
