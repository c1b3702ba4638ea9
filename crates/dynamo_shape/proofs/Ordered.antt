-- Lists and sets in order.
use Rattle.std.proofs.Common.{◌≡◌, ◌⊎◌, Bool, true, false, cond, refl, sym, ap, subst, ◌∙◌, inl, inr}
use Rattle.dynamo_shape.proofs.Common.{true≢false, Datum, Elements, no_elements, element, kept}
use Rattle.dynamo_shape.proofs.Common.{kept_elements, is_written_null, is_below, IsBelowEach}
use Rattle.dynamo_shape.proofs.Common.{AreAscending, IsAscending, put_element, sorted_elements}
use Rattle.dynamo_shape.proofs.Common.{sorted, Same, SameElements, written}
use Rattle.dynamo_ser.specs.Datum as datum
use Rattle.dynamo_shape.proofs.Below.{below_chain, below_itself, below_keys, below_alike, key_kept}

-- ---- what is sorted ascends

below_each : (c d : Datum) (ds : Elements) → is_below c d ≡ true → IsBelowEach d ds → IsBelowEach c ds
below_each c d no_elements h k = tt
below_each c d (element e es) h k = (below_chain c d e h k.0, below_each c d es h k.1)

put_below : (c d : Datum) (ds : Elements) → is_below c d ≡ true → IsBelowEach c ds → IsBelowEach c (put_element d ds)
put_below c d no_elements h k = (h, tt)
put_below c d (element e es) h k = either (is_below d e) (is_below e d) (put_below c d es h k.1)
  where
    either : (x y : Bool) → IsBelowEach c (put_element d es) → IsBelowEach c (cond x (element d (element e es)) (cond y (element e (put_element d es)) (element e es)))
    either true y rest = (h, k)
    either false true rest = (k.0, rest)
    either false false rest = k

put_ascends : (d : Datum) (ds : Elements) → AreAscending ds → AreAscending (put_element d ds)
put_ascends d no_elements h = (tt, tt)
put_ascends d (element e es) h = either (is_below d e) (is_below e d) refl refl (put_ascends d es h.1)
  where
    either : (x y : Bool) → is_below d e ≡ x → is_below e d ≡ y → AreAscending (put_element d es) → AreAscending (cond x (element d (element e es)) (cond y (element e (put_element d es)) (element e es)))
    either true y p q rest = ((p, below_each d e es p h.0), h)
    either false true p q rest = (put_below e d es q h.0, rest)
    either false false p q rest = h

sorted_ascends : (ds : Elements) → AreAscending (sorted_elements ds)
sorted_ascends no_elements = tt
sorted_ascends (element d ds) = put_ascends d (sorted_elements ds) (sorted_ascends ds)

-- ---- what ascends is sorted

put_first : (d : Datum) (ds : Elements) → IsBelowEach d ds → put_element d ds ≡ element d ds
put_first d no_elements h = refl
put_first d (element e es) h = rw h.0 refl

ascending_sorted : (ds : Elements) → AreAscending ds → sorted_elements ds ≡ ds
ascending_sorted no_elements h = refl
ascending_sorted (element d ds) h = ap (put_element d) (ascending_sorted ds h.1) ∙ put_first d ds h.0

-- ---- which elements there are

abbrev pub HasElement : Datum → Elements → Type 0
HasElement x no_elements = ⊥
HasElement x (element d ds) = (x ≡ d) ⊎ HasElement x ds

abbrev IsComparable : Datum → Datum → Type 0
IsComparable x y = (x ≡ y) ⊎ ((is_below x y ≡ true) ⊎ (is_below y x ≡ true))

below_at : (d : Datum) (ds : Elements) (x : Datum) → IsBelowEach d ds → HasElement x ds → is_below d x ≡ true
below_at d no_elements x h k = absurd k
below_at d (element e es) x h k = elim k [ inl p ↦ subst (λ z. is_below d z ≡ true) (sym p) h.0 | inr q ↦ below_at d es x h.1 q ]

-- two elements of a list that ascends can be compared
comparable : (ds : Elements) (x y : Datum) → AreAscending ds → HasElement x ds → HasElement y ds → IsComparable x y
comparable no_elements x y c h k = absurd h
comparable (element d ds) x y c (inl p) (inl q) = inl (p ∙ sym q)
comparable (element d ds) x y c (inl p) (inr k) = inr (inl (subst (λ z. is_below z y ≡ true) (sym p) (below_at d ds y c.0 k)))
comparable (element d ds) x y c (inr h) (inl q) = inr (inr (subst (λ z. is_below z x ≡ true) (sym q) (below_at d ds x c.0 h)))
comparable (element d ds) x y c (inr h) (inr k) = comparable ds x y c.1 h k

put_in : (d : Datum) (ds : Elements) (x : Datum) → HasElement x (put_element d ds) → (x ≡ d) ⊎ HasElement x ds
put_in d no_elements x h = h
put_in d (element e es) x h = either (is_below d e) (is_below e d) (put_in d es x) h
  where
    either : (b c : Bool) → (HasElement x (put_element d es) → (x ≡ d) ⊎ HasElement x es) → HasElement x (cond b (element d (element e es)) (cond c (element e (put_element d es)) (element e es))) → (x ≡ d) ⊎ HasElement x (element e es)
    either true c rest h = h
    either false true rest (inl p) = inr (inl p)
    either false true rest (inr k) = elim (rest k) [ inl p ↦ inl p | inr q ↦ inr (inr q) ]
    either false false rest h = inr h

put_old : (d : Datum) (ds : Elements) (x : Datum) → HasElement x ds → HasElement x (put_element d ds)
put_old d no_elements x h = absurd h
put_old d (element e es) x h = either (is_below d e) (is_below e d) (put_old d es x) h
  where
    either : (b c : Bool) → (HasElement x es → HasElement x (put_element d es)) → HasElement x (element e es) → HasElement x (cond b (element d (element e es)) (cond c (element e (put_element d es)) (element e es)))
    either true c rest h = inr h
    either false true rest (inl p) = inl p
    either false true rest (inr k) = inr (rest k)
    either false false rest h = h

put_new : (d : Datum) (ds : Elements) → ((e : Datum) → HasElement e ds → IsComparable d e) → HasElement d (put_element d ds)
put_new d no_elements f = inl refl
put_new d (element e es) f = either (is_below d e) (is_below e d) refl refl (put_new d es (λ x h. f x (inr h)))
  where
    equal : is_below d e ≡ false → is_below e d ≡ false → IsComparable d e → d ≡ e
    equal p q (inl h) = h
    equal p q (inr (inl h)) = absurd (true≢false (sym h ∙ p))
    equal p q (inr (inr h)) = absurd (true≢false (sym h ∙ q))

    either : (b c : Bool) → is_below d e ≡ b → is_below e d ≡ c → HasElement d (put_element d es) → HasElement d (cond b (element d (element e es)) (cond c (element e (put_element d es)) (element e es)))
    either true c p q rest = inl refl
    either false true p q rest = inr rest
    either false false p q rest = inl (equal p q (f e (inl refl)))

sorted_in : (ds : Elements) (x : Datum) → HasElement x (sorted_elements ds) → HasElement x ds
sorted_in no_elements x h = h
sorted_in (element d ds) x h = elim (put_in d (sorted_elements ds) x h) [ inl p ↦ inl p | inr q ↦ inr (sorted_in ds x q) ]

-- where any two can be compared, each is there
sorted_has : (ds : Elements) → ((x y : Datum) → HasElement x ds → HasElement y ds → IsComparable x y) → (x : Datum) → HasElement x ds → HasElement x (sorted_elements ds)
sorted_has no_elements f x h = h
sorted_has (element d ds) f x (inl p) = subst (λ z. HasElement z (put_element d (sorted_elements ds))) (sym p) (put_new d (sorted_elements ds) (λ e k. f d e (inl refl) (inr (sorted_in ds e k))))
sorted_has (element d ds) f x (inr h) = put_old d (sorted_elements ds) x (sorted_has ds (λ y z k l. f y z (inr k) (inr l)) x h)

-- ---- a list that ascends is known by its elements

first_same : (x y : Datum) (xs ys : Elements) → AreAscending (element x xs) → AreAscending (element y ys) → HasElement x (element y ys) → HasElement y (element x xs) → x ≡ y
first_same x y xs ys c k (inl p) h = p
first_same x y xs ys c k (inr q) (inl p) = sym p
first_same x y xs ys c k (inr q) (inr p) = absurd (below_itself x (below_chain x y x (below_at x xs y c.0 p) (below_at y ys x k.0 q)))

rest_has : (x y : Datum) (xs ys : Elements) → x ≡ y → AreAscending (element x xs) → ((z : Datum) → HasElement z (element x xs) → HasElement z (element y ys)) → (z : Datum) → HasElement z xs → HasElement z ys
rest_has x y xs ys same c f z h = elim (f z (inr h)) [
  | inl p ↦ absurd (below_itself x (subst (λ w. is_below x w ≡ true) (p ∙ sym same) (below_at x xs z c.0 h)))
  | inr q ↦ q
]

pub one_ascending : (xs ys : Elements) → AreAscending xs → AreAscending ys → ((z : Datum) → HasElement z xs → HasElement z ys) → ((z : Datum) → HasElement z ys → HasElement z xs) → xs ≡ ys
one_ascending no_elements no_elements c k f g = refl
one_ascending no_elements (element y ys) c k f g = absurd (g y (inl refl))
one_ascending (element x xs) no_elements c k f g = absurd (f x (inl refl))
one_ascending (element x xs) (element y ys) c k f g =
    let p = first_same x y xs ys c k (f x (inl refl)) (g y (inl refl)) in
    let q = one_ascending xs ys c.1 k.1 (rest_has x y xs ys p c f) (rest_has y x ys xs (sym p) k g) in
    λ i. element (p i) (q i)

-- elements are sorted to the list that ascends and has them
pub sorts_to : (ds es : Elements) → AreAscending es → ((z : Datum) → HasElement z ds → HasElement z es) → ((z : Datum) → HasElement z es → HasElement z ds) → sorted_elements ds ≡ es
sorts_to ds es c f g = one_ascending (sorted_elements ds) es (sorted_ascends ds) c (λ z h. f z (sorted_in ds z h)) (λ z h. sorted_has ds (λ x y k l. comparable es x y c (f x k) (f y l)) z (g z h))

-- ---- data that are the same are sorted alike

picked : (b c : Bool) (xs ys zs as' bs cs : Elements) → SameElements xs as' → SameElements ys bs → SameElements zs cs → SameElements (cond b xs (cond c ys zs)) (cond b as' (cond c bs cs))
picked true c xs ys zs as' bs cs p q r = p
picked false true xs ys zs as' bs cs p q r = q
picked false false xs ys zs as' bs cs p q r = r

put_same : (d e : Datum) (ds es : Elements) → Same d e → SameElements ds es → SameElements (put_element d ds) (put_element e es)
put_same d e no_elements es p h = subst (λ xs. SameElements (element d no_elements) (put_element e xs)) (sym h) (e, no_elements, refl, p, refl)
put_same d e (element c cs) es p (b, bs, is, q, r) =
    let first = element d (element c cs) in
    let alike = picked (is_below d c) (is_below c d) first (element c (put_element d cs)) (element c cs) (element e (element b bs)) (element b (put_element e bs)) (element b bs) (e, element b bs, refl, p, (b, bs, refl, q, r)) (b, put_element e bs, refl, q, put_same d e cs bs p r) (b, bs, refl, q, r) in
    subst (λ xs. SameElements (put_element d (element c cs)) (put_element e xs)) (sym is)
    (subst (λ x. SameElements (put_element d (element c cs)) (cond x (element e (element b bs)) (cond (is_below b e) (element b (put_element e bs)) (element b bs)))) (below_alike d c e b p q)
    (subst (λ y. SameElements (put_element d (element c cs)) (cond (is_below d c) (element e (element b bs)) (cond y (element b (put_element e bs)) (element b bs)))) (below_alike c d b e q p) alike))

pub sorted_alike : (ds es : Elements) → SameElements ds es → SameElements (sorted_elements ds) (sorted_elements es)
sorted_alike no_elements es h = subst (λ xs. SameElements no_elements (sorted_elements xs)) (sym h) refl
sorted_alike (element d ds) es (e, rest, is, p, q) = subst (λ xs. SameElements (sorted_elements (element d ds)) (sorted_elements xs)) (sym is) (put_same d e (sorted_elements ds) (sorted_elements rest) p (sorted_alike ds rest q))

pub sorted_same : (d e : Datum) → Same d e → Same (sorted d) (sorted e)
sorted_same (datum.seq ds) e h = subst (λ x. Same (datum.seq (sorted_elements ds)) (sorted x)) (sym h.1) (sorted_elements h.0, refl, sorted_alike ds h.0 h.2)
sorted_same (datum.newtype_struct name d) e h = subst (λ x. Same (datum.newtype_struct name (sorted d)) (sorted x)) (sym h.1) (sorted h.0, refl, sorted_same d h.0 h.2)
sorted_same (datum.some d) e h = subst (λ x. Same (datum.some d) (sorted x)) (sym h.1) (h.0, refl, h.2)
sorted_same (datum.newtype_variant v d) e h = subst (λ x. Same (datum.newtype_variant v d) (sorted x)) (sym h.1) (h.0, refl, h.2)
sorted_same (datum.tuple ds) e h = subst (λ x. Same (datum.tuple ds) (sorted x)) (sym h.1) (h.0, refl, h.2)
sorted_same (datum.tuple_struct name ds) e h = subst (λ x. Same (datum.tuple_struct name ds) (sorted x)) (sym h.1) (h.0, refl, h.2)
sorted_same (datum.tuple_variant v ds) e h = subst (λ x. Same (datum.tuple_variant v ds) (sorted x)) (sym h.1) (h.0, refl, h.2)
sorted_same (datum.map ps) e h = subst (λ x. Same (datum.map ps) (sorted x)) (sym h.1) (h.0, refl, h.2)
sorted_same (datum.struct name fs) e h = subst (λ x. Same (datum.struct name fs) (sorted x)) (sym h.1) (h.0, refl, h.2)
sorted_same (datum.struct_variant v fs) e h = subst (λ x. Same (datum.struct_variant v fs) (sorted x)) (sym h.1) (h.0, refl, h.2)
sorted_same d e h = subst (λ x. Same d (sorted x)) h refl

-- ---- what writing keeps of a list in order is in order

kept_below : (d : Datum) (ds : Elements) → IsBelowEach d ds → IsBelowEach (kept d) (kept_elements ds)
kept_below d no_elements h = tt
kept_below d (element e es) h =
    let k = below_keys d e h.0 in
    (rw (key_kept d k.0, key_kept e k.1) h.0, kept_below d es h.1)

kept_ascends : (ds : Elements) → AreAscending ds → AreAscending (kept_elements ds)
kept_ascends no_elements h = tt
kept_ascends (element d ds) h = (kept_below d ds h.0, kept_ascends ds h.1)

optional : (b : Bool) (x : Datum) → sorted (cond b datum.none (datum.some x)) ≡ cond b datum.none (datum.some x)
optional true x = refl
optional false x = refl

pub kept_sorted : (d : Datum) → IsAscending d → sorted (kept d) ≡ kept d
kept_sorted (datum.seq ds) c = ap datum.seq (ascending_sorted (kept_elements ds) (kept_ascends ds c))
kept_sorted (datum.newtype_struct name d) c = ap (datum.newtype_struct name) (kept_sorted d c)
kept_sorted (datum.some d) c = optional (is_written_null (written d)) (kept d)
kept_sorted d c = refl
