-- Two lists whose elements belong together, place by place.
use Rattle.std.proofs.Common.{◌≡◌, ◌∙◌, ℕ, ◌+◌, ◌<◌, ◌≤◌, List, [], ◌∷◌, ◌++◌, length, get_or, take, ap, subst, sym}
use Rattle.std.proofs.lemmas.List.{take_all, take_more}
use Rattle.std.specs.List.{AllZip}

module _ {A B : Type 0} (R : A → B → Type 0) where
  pub pushed : (xs : List A) (ys : List B) (x : A) (y : B) → AllZip R xs ys → R x y → AllZip R (xs ++ x ∷ []) (ys ++ y ∷ [])
  pushed [] [] x y h r = (r, tt)
  pushed [] (b ∷ ys) x y h r = absurd h
  pushed (a ∷ xs) [] x y h r = absurd h
  pushed (a ∷ xs) (b ∷ ys) x y h r = (h.0, pushed xs ys x y h.1 r)

  -- one more of each list
  pub one_more : (xs : List A) (ys : List B) (i : ℕ) (x : A) (y : B) → i < length xs → x ≡ get_or xs i x
      → AllZip R (take i xs) ys → R x y → AllZip R (take (i + 1) xs) (ys ++ y ∷ [])
  one_more xs ys i x y lt at h r =
      subst (λ l. AllZip R l (ys ++ y ∷ [])) (sym (take_more xs i x lt ∙ ap (λ z. take i xs ++ z ∷ []) (sym at)))
      (pushed (take i xs) ys x y h r)

  pub all : (xs : List A) (ys : List B) (i : ℕ) → length xs ≤ i → AllZip R (take i xs) ys → AllZip R xs ys
  all xs ys i le h = subst (λ l. AllZip R l ys) (take_all i xs le) h

  pub same_length : (xs : List A) (ys : List B) → AllZip R xs ys → length xs ≡ length ys
  same_length [] [] h = cc
  same_length [] (b ∷ ys) h = absurd h
  same_length (a ∷ xs) [] h = absurd h
  same_length (a ∷ xs) (b ∷ ys) h = let same = same_length xs ys h.1 in cc
