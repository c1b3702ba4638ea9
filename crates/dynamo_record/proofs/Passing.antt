-- Names passed one after another, until one is found.
use Rattle.std.proofs.Common.{◌≡◌, ℕ, suc, List, ◌∷◌, true, false, length, ◌<◌, ◌≤◌, drop, get_or, map, sym, ap, subst, ◌∙◌, arith, ◌+◌}
use Rattle.dynamo_record.proofs.Common.{bytes_eq, if◌then◌else◌, Text, place_of}
use Rattle.std.proofs.Math.Seq.{drop-cons}
use Rattle.std.proofs.Math.ListN.{drop_of_length-le}

module _ {A : Type 0} (f : A → Text) (xs : List A) (i : ℕ) (d : A) (t : Text) (all : ℕ) (so_far : all ≡ place_of i (map f (drop i xs)) t) where
  here : i < length xs → all ≡ place_of i (f (get_or xs i d) ∷ map f (drop (suc i) xs)) t
  here h = so_far ∙ ap (λ l. place_of i (map f l) t) (drop-cons xs i d h)

  pub name_found : i < length xs → true ≡ bytes_eq t (f (get_or xs i d)) → i ≡ all
  name_found h e = sym (here h ∙ ap (λ b. if b then i else place_of (suc i) (map f (drop (suc i) xs)) t) (sym e))

  passed : i < length xs → false ≡ bytes_eq t (f (get_or xs i d)) → all ≡ place_of (suc i) (map f (drop (suc i) xs)) t
  passed h e = here h ∙ ap (λ b. if b then i else place_of (suc i) (map f (drop (suc i) xs)) t) (sym e)

  next : suc i ≡ i + 1
  next = omega arith

  pub name_passed : i < length xs → false ≡ bytes_eq t (f (get_or xs i d)) → all ≡ place_of (i + 1) (map f (drop (i + 1) xs)) t
  name_passed h e = subst (λ j. all ≡ place_of j (map f (drop j xs)) t) next (passed h e)

  same : length xs ≤ i → i ≤ length xs → length xs ≡ i
  same h k = omega arith

  pub all_passed : length xs ≤ i → i ≤ length xs → length xs ≡ all
  all_passed h k = same h k ∙ sym (so_far ∙ ap (λ l. place_of i (map f l) t) (drop_of_length-le xs h))
