-- The members of a hashed set, put one after another into an ordered set of references to them.
use Rattle.std.proofs.Common.{◌≡◌, List, [], ◌∷◌, map, refl, ap, Bor, Less, Equal, Greater}
use Rattle.std.specs.BTreeSet.{insert_key}
use Rattle.std.specs.Ordering.{match_ordering}
use Rattle.std.specs.declared.cmp.Ordering.{Ordering}

abbrev now : {T : Type 0} → List (Bor T) → List T
now = map (λ r. r.now)

module _ {T : Type 0} (cmp : T → T → Ordering) where
  abbrev by_now : Bor T → Bor T → Ordering
  by_now a b = cmp a.now b.now

  placed : (o : Ordering) (k x : Bor T) (xs : List (Bor T)) → now (insert_key by_now xs k) ≡ insert_key cmp (now xs) k.now
      → now (match_ordering o (k ∷ x ∷ xs) (x ∷ xs) (x ∷ insert_key by_now xs k)) ≡ match_ordering o (k.now ∷ x.now ∷ now xs) (x.now ∷ now xs) (x.now ∷ insert_key cmp (now xs) k.now)
  placed Less k x xs h = refl
  placed Equal k x xs h = refl
  placed Greater k x xs h = ap (λ ms. x.now ∷ ms) h

  -- a reference is put where its member is
  pub insert_now : (ks : List (Bor T)) (k : Bor T) → map (λ r. r.now) (insert_key by_now ks k) ≡ insert_key cmp (map (λ r. r.now) ks) k.now
  insert_now [] k = refl
  insert_now (x ∷ xs) k = placed (cmp k.now x.now) k x xs (insert_now xs k)

pub each_now : {T D : Type 0} (f : T → D) (ks : List (Bor T)) → map (λ r. f r.now) ks ≡ map f (map (λ r. r.now) ks)
each_now f [] = refl
each_now f (k ∷ ks) = ap (λ ds. f k.now ∷ ds) (each_now f ks)
