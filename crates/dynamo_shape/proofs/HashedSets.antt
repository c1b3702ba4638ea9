-- The members of a hashed set, in their order: they ascend, and are the same members.
use Rattle.std.proofs.Common.{◌≡◌, Bool, true, false, ◌||◌, List, [], ◌∷◌, refl, sym, ap, subst, ◌∙◌}
use Rattle.std.specs.BTreeSet.{insert_key}
use Rattle.dynamo_shape.proofs.Common.{IsTotalOrder, one_truth, AllByRecursion, list_any, eq_by_cmp}
use Rattle.dynamo_shape.proofs.Common.{is_eq, match_ordering, ordering_reverse, Ordering, Less}
use Rattle.dynamo_shape.proofs.Common.{Equal, Greater, Datum, EqualAsTold}
use Rattle.std.specs.List.Sorted.{IsStrictlySortedBy}
use Rattle.dynamo_ser.specs.Members.{members_onto, members_in_order}
use Rattle.dynamo_shape.proofs.Lists.{told_each}
use Rattle.dynamo_shape.proofs.Ordered.{HasElement}
use Rattle.dynamo_shape.proofs.SetsTold.{told_is, any_told, told_any}

-- ---- they ascend

module _ {T : Type 0} (cmp : T → T → Ordering) (total : IsTotalOrder cmp) where
  all_put : (P : T → Type 0) (xs : List T) (k : T) → P k → AllByRecursion P xs → AllByRecursion P (insert_key cmp xs k)
  all_put P [] k p h = (p, tt)
  all_put P (x ∷ xs) k p h = either (cmp k x) (all_put P xs k p h.1)
    where
      either : (o : Ordering) → AllByRecursion P (insert_key cmp xs k) → AllByRecursion P (match_ordering o (k ∷ x ∷ xs) (x ∷ xs) (x ∷ insert_key cmp xs k))
      either Less rest = (p, h)
      either Equal rest = h
      either Greater rest = (h.0, rest)

  all_above : (k x : T) (xs : List T) → cmp k x ≡ Less → AllByRecursion (λ y. cmp x y ≡ Less) xs → AllByRecursion (λ y. cmp k y ≡ Less) xs
  all_above k x [] p h = tt
  all_above k x (y ∷ ys) p h = (total.trans k x y p h.0, all_above k x ys p h.1)

  put_sorted : (xs : List T) (k : T) → IsStrictlySortedBy cmp xs → IsStrictlySortedBy cmp (insert_key cmp xs k)
  unfolding IsStrictlySortedBy
  put_sorted [] k h = (tt, tt)
  put_sorted (x ∷ xs) k h = either (cmp k x) refl (put_sorted xs k h.1)
    where
      either : (o : Ordering) → cmp k x ≡ o → IsStrictlySortedBy cmp (insert_key cmp xs k) → IsStrictlySortedBy cmp (match_ordering o (k ∷ x ∷ xs) (x ∷ xs) (x ∷ insert_key cmp xs k))
      either Less p rest = ((p, all_above k x xs p h.0), h)
      either Equal p rest = h
      either Greater p rest = (all_put (λ y. cmp x y ≡ Less) xs k (total.antisymm x k ∙ ap ordering_reverse p) h.0, rest)

  onto_sorted : (ks ms : List T) → IsStrictlySortedBy cmp ms → IsStrictlySortedBy cmp (members_onto cmp ms ks)
  onto_sorted [] ms h = h
  onto_sorted (k ∷ ks) ms h = onto_sorted ks (insert_key cmp ms k) (put_sorted ms k h)

  pub members_sorted : (ks : List T) → IsStrictlySortedBy cmp (members_in_order cmp ks)
  unfolding IsStrictlySortedBy
  members_sorted ks = onto_sorted ks [] tt

-- ---- they are the same members

or_itself : (b c : Bool) → (b || c) ≡ (b || (b || c))
or_itself true c = refl
or_itself false c = refl

or_later : (a b c : Bool) → (a || (b || c)) ≡ (b || (a || c))
or_later true true c = refl
or_later true false c = refl
or_later false b c = refl

or_moved : (a b c : Bool) → ((a || b) || c) ≡ (b || (a || c))
or_moved true true c = refl
or_moved true false c = refl
or_moved false b c = refl

module _ {T : Type 0} (tells : T → Datum) (cmp : T → T → Ordering) (eq : T → T → Bool) (equal : EqualAsTold tells eq) (ordered : EqualAsTold tells (eq_by_cmp cmp)) where
  alike : (q k x : T) → cmp k x ≡ Equal → eq q k ≡ eq q x
  alike q k x p =
      let same = (ordered k x).0 (ap is_eq p) in
      one_truth (eq q k) (eq q x) (λ h. (equal q x).1 ((equal q k).0 h ∙ same)) (λ h. (equal q k).1 ((equal q x).0 h ∙ sym same))

  put_any : (q : T) (xs : List T) (k : T) → list_any (eq q) (insert_key cmp xs k) ≡ (eq q k || list_any (eq q) xs)
  put_any q [] k = refl
  put_any q (x ∷ xs) k = either (cmp k x) refl (put_any q xs k)
    where
      either : (o : Ordering) → cmp k x ≡ o → list_any (eq q) (insert_key cmp xs k) ≡ (eq q k || list_any (eq q) xs) → list_any (eq q) (match_ordering o (k ∷ x ∷ xs) (x ∷ xs) (x ∷ insert_key cmp xs k)) ≡ (eq q k || (eq q x || list_any (eq q) xs))
      either Less p rest = refl
      either Equal p rest = or_itself (eq q x) (list_any (eq q) xs) ∙ ap (λ b. b || (eq q x || list_any (eq q) xs)) (sym (alike q k x p))
      either Greater p rest = ap (λ b. eq q x || b) rest ∙ or_later (eq q x) (eq q k) (list_any (eq q) xs)

  onto_any : (q : T) (ks ms : List T) → list_any (eq q) (members_onto cmp ms ks) ≡ (list_any (eq q) ms || list_any (eq q) ks)
  onto_any q [] ms = or_none (list_any (eq q) ms)
    where
      or_none : (b : Bool) → b ≡ (b || false)
      or_none true = refl
      or_none false = refl
  onto_any q (k ∷ ks) ms =
      onto_any q ks (insert_key cmp ms k) ∙ ap (λ b. b || list_any (eq q) ks) (put_any q ms k) ∙ or_moved (eq q k) (list_any (eq q) ms) (list_any (eq q) ks)

  -- what they tell is told
  pub in_order_told : (ks : List T) (z : Datum) → HasElement z (told_each tells (members_in_order cmp ks)) → HasElement z (told_each tells ks)
  in_order_told ks z h =
      let (v, p) = told_is tells (members_in_order cmp ks) z h in
      let there = told_any tells (tells v) (eq v) (equal v) (members_in_order cmp ks) (subst (λ x. HasElement x (told_each tells (members_in_order cmp ks))) p h) in
      subst (λ x. HasElement x (told_each tells ks)) (sym p) (any_told tells (tells v) (eq v) (equal v) ks (sym (onto_any v ks []) ∙ there))

  pub members_any : (q : T) (ks : List T) → list_any (eq q) ks ≡ list_any (eq q) (members_in_order cmp ks)
  members_any q ks = sym (onto_any q ks [])
