-- Sets whose members are told in order tell the same data exactly where they have the same members.
use Rattle.std.proofs.Common.{◌≡◌, ◌↔◌, Bool, true, false, ◌||◌, List, [], ◌∷◌, refl, sym, ap, subst, ◌∙◌, inl, inr}
use Rattle.dynamo_shape.proofs.Common.{AllByRecursion, list_any, one_truth, is_lt, Ordering, Less}
use Rattle.dynamo_shape.proofs.Common.{true≢false, Datum, Elements, no_elements, element, SetKind}
use Rattle.dynamo_shape.proofs.Common.{symbol, SameSet, AllElements, conforms, BelowAsTold}
use Rattle.dynamo_shape.proofs.Common.{EqualAsTold, ToldApart, IsToldByValue, ToldAlike}
use Rattle.dynamo_shape.proofs.Common.{IsBelowEach, AreAscending, Same, SameElements, Shape}
use Rattle.dynamo_ser.specs.Datum as datum
use Rattle.dynamo_shape.specs.Shape as shape
use Rattle.dynamo_ser.specs.Parts.{content_in, elements_in}
use Rattle.std.specs.List.Sorted.{IsStrictlySortedBy}
use Rattle.dynamo_shape.proofs.Alike.{data_refl}
use Rattle.dynamo_shape.proofs.ByValue.{parts}
use Rattle.dynamo_shape.proofs.Lists.{told_each}
use Rattle.dynamo_shape.proofs.Ordered.{HasElement, one_ascending}

-- ---- which data the values of a list tell

module _ {T : Type 0} (tells : T → Datum) where
  pub told_is : (xs : List T) (z : Datum) → HasElement z (told_each tells xs) → (v : T) × (z ≡ tells v)
  told_is [] z h = absurd h
  told_is (x ∷ xs) z (inl p) = (x, p)
  told_is (x ∷ xs) z (inr h) = told_is xs z h

  -- by a test of the values that tell this datum
  module _ (d : Datum) (test : T → Bool) (tested : (x : T) → ((test x ≡ true) ↔ (d ≡ tells x))) where
    pub any_told : (xs : List T) → list_any test xs ≡ true → HasElement d (told_each tells xs)
    any_told [] h = absurd (true≢false (sym h))
    any_told (x ∷ xs) h = either (test x) refl (any_told xs) h
      where
        either : (b : Bool) → test x ≡ b → (list_any test xs ≡ true → HasElement d (told_each tells xs)) → (b || list_any test xs) ≡ true → HasElement d (told_each tells (x ∷ xs))
        either true p rest h = inl ((tested x).0 p)
        either false p rest h = inr (rest h)

    pub told_any : (xs : List T) → HasElement d (told_each tells xs) → list_any test xs ≡ true
    told_any [] h = absurd h
    told_any (x ∷ xs) (inl p) = rw ((tested x).1 p) refl
    told_any (x ∷ xs) (inr h) = either (test x) (told_any xs h)
      where
        either : (b : Bool) → list_any test xs ≡ true → (b || list_any test xs) ≡ true
        either true rest = refl
        either false rest = rest

  told_below : (cmp : T → T → Ordering) → BelowAsTold tells cmp → (x : T) (xs : List T) → AllByRecursion (λ y. cmp x y ≡ Less) xs → IsBelowEach (tells x) (told_each tells xs)
  told_below cmp below x [] h = tt
  told_below cmp below x (y ∷ ys) h = (sym (below x y) ∙ ap is_lt h.0, told_below cmp below x ys h.1)

  -- values in their order tell data that ascend
  pub told_ascends : (cmp : T → T → Ordering) → BelowAsTold tells cmp → (xs : List T) → IsStrictlySortedBy cmp xs → AreAscending (told_each tells xs)
  unfolding IsStrictlySortedBy
  told_ascends cmp below [] h = tt
  told_ascends cmp below (x ∷ xs) h = (told_below cmp below x xs h.0, told_ascends cmp below xs h.1)

  told_equal : ToldApart tells → (xs ys : List T) → SameElements (told_each tells xs) (told_each tells ys) → told_each tells xs ≡ told_each tells ys
  told_equal apart [] ys h = sym h
  told_equal apart (x ∷ xs) [] h = absurd (other h.2)
    where
      IsSome : Elements → Type 0
      IsSome no_elements = Unit {0}
      IsSome (element d ds) = ⊥

      other : {d : Datum} {ds : Elements} → no_elements ≡ element d ds → ⊥
      other p = subst IsSome p tt
  told_equal apart (x ∷ xs) (y ∷ ys) h =
      let p = parts (tells x) (told_each tells xs) (told_each tells ys) (tells y) h in
      let a = apart x y p.0 in
      let b = told_equal apart xs ys p.1 in
      λ i. element (a i) (b i)

-- ---- sets, by their members

-- as a list, and as a set of this kind
abbrev pub told_list : {T M : Type 0} → (T → Datum) → (M → List T) → M → Datum
told_list tells members m = datum.seq (told_each tells (members m))

abbrev pub told_set : {T M : Type 0} → SetKind → (T → Datum) → (M → List T) → M → Datum
told_set k tells members m = datum.newtype_struct (symbol k) (told_list tells members m)

pub in_ordered_list : (s : Shape) (ds : Elements) → conforms (shape.ordered (shape.list s)) (datum.seq ds) → AllElements (conforms s) ds × AreAscending ds
in_ordered_list s ds c = (subst (AllElements (conforms s)) (sym (ap elements_in c.0.1)) c.0.2, c.1)

pub in_ordered_set : (k : SetKind) (s : Shape) (ds : Elements) → conforms (shape.ordered (shape.set k s)) (datum.newtype_struct (symbol k) (datum.seq ds)) → AllElements (conforms s) ds × AreAscending ds
in_ordered_set k s ds c = (subst (AllElements (conforms s)) (sym (ap elements_in c.0.1)) c.0.2, c.1)

same_list : (ds es : Elements) → Same (datum.seq ds) (datum.seq es) → SameElements ds es
same_list ds es h = subst (SameElements ds) (sym (ap elements_in h.1)) h.2

same_set : (k : SetKind) (ds es : Elements) → Same (datum.newtype_struct (symbol k) (datum.seq ds)) (datum.newtype_struct (symbol k) (datum.seq es)) → SameElements ds es
same_set k ds es h = same_list ds es (subst (Same (datum.seq ds)) (sym (ap content_in h.1)) h.2)

module _ {T M : Type 0} (tells : T → Datum) (eq : T → T → Bool) (equal : EqualAsTold tells eq) (members : M → List T) (has : M → T → Bool) (is : (m : M) (q : T) → has m q ≡ list_any (eq q) (members m)) where
  abbrev told : M → Elements
  told m = told_each tells (members m)

  any_same : (m n : M) (q : T) → told m ≡ told n → list_any (eq q) (members m) ≡ true → list_any (eq q) (members n) ≡ true
  any_same m n q e h = told_any tells (tells q) (eq q) (equal q) (members n) (subst (HasElement (tells q)) e (any_told tells (tells q) (eq q) (equal q) (members m) h))

  members_told : ToldApart tells → (m n : M) → SameElements (told m) (told n) → SameSet has m n
  members_told apart m n h q =
      let e = told_equal tells apart (members m) (members n) h in
      is m q ∙ one_truth (list_any (eq q) (members m)) (list_any (eq q) (members n)) (any_same m n q e) (any_same n m q (sym e)) ∙ sym (is n q)

  members_in : (m n : M) → SameSet has m n → (z : Datum) → HasElement z (told m) → HasElement z (told n)
  members_in m n h z k =
      let (v, p) = told_is tells (members m) z k in
      let there = told_any tells (tells v) (eq v) (equal v) (members m) (subst (λ x. HasElement x (told m)) p k) in
      subst (λ x. HasElement x (told n)) (sym p) (any_told tells (tells v) (eq v) (equal v) (members n) (sym (is n v) ∙ sym (h v) ∙ is m v ∙ there))

  members_alike : (m n : M) → AreAscending (told m) → AreAscending (told n) → SameSet has m n → told m ≡ told n
  members_alike m n c d h = one_ascending (told m) (told n) c d (members_in m n h) (members_in n m (λ q. sym (h q)))

  pub ordered_list_told : (s : Shape) → ToldApart tells → IsToldByValue (shape.ordered (shape.list s)) (told_list tells members) (SameSet has)
  ordered_list_told s apart m n c d h = members_told apart m n (same_list (told m) (told n) h)

  pub ordered_list_alike : (s : Shape) → ToldAlike (shape.ordered (shape.list s)) (told_list tells members) (SameSet has)
  ordered_list_alike s m n c d h = (told n, refl, subst (SameElements (told m)) (members_alike m n c.1 d.1 h) (data_refl (told m)))

  pub ordered_set_told : (k : SetKind) (s : Shape) → ToldApart tells → IsToldByValue (shape.ordered (shape.set k s)) (told_set k tells members) (SameSet has)
  ordered_set_told k s apart m n c d h = members_told apart m n (same_set k (told m) (told n) h)

  pub ordered_set_alike : (k : SetKind) (s : Shape) → ToldAlike (shape.ordered (shape.set k s)) (told_set k tells members) (SameSet has)
  ordered_set_alike k s m n c d h = (datum.seq (told n), refl, (told n, refl, subst (SameElements (told m)) (members_alike m n c.1 d.1 h) (data_refl (told m))))
