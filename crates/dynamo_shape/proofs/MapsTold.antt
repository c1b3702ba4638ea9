-- Maps that tell the same are the same at each key, and maps that are the same at each key tell the same.
use Rattle.std.proofs.Common.{◌≡◌, Bool, false, List, [], ◌∷◌, Option, Some, None, refl, sym, ap, subst, ◌∙◌, inl, inr}
use Rattle.dynamo_shape.proofs.Common.{AllByRecursion, true≢false, none-some, same_Some, Datum}
use Rattle.dynamo_shape.proofs.Common.{Pairs, no_pairs, pair, SameMap, SameOption, conforms}
use Rattle.dynamo_shape.proofs.Common.{AllPairs, HasKey, PairsDiffer, EqualAsTold, ToldApart}
use Rattle.dynamo_shape.proofs.Common.{IsToldByValue, ToldAlike, Same, SamePairs, Shape}
use Rattle.std.specs.List.{IsDistinct}
use Rattle.dynamo_ser.specs.Datum as datum
use Rattle.dynamo_shape.specs.Shape as shape
use Rattle.dynamo_ser.specs.Parts.{pairs_in}
use Rattle.std.specs.Map.{lookup, keys_of}
use Rattle.dynamo_shape.proofs.Alike.{same_refl}
use Rattle.dynamo_shape.proofs.Equivalence.{same_sym}
use Rattle.dynamo_shape.proofs.MapsRead.{told, found, own, a_key, key_has, value_conforms}
use Rattle.dynamo_shape.proofs.Pairs.{Has, has_key, same_pairs, taken_in, rest_in}

-- a pair has one like it
like_it : (ps qs : Pairs) → SamePairs ps qs → (l y : Datum) → Has l y ps → (m : Datum) × (z : Datum) × Has m z qs × Same l m × Same y z
like_it no_pairs qs h l y g = absurd g
like_it (pair k d ps) qs (m, z, others, w, key, value, rest) l y (inl g) = (m, z, taken_in qs m z others w, subst (λ x. Same x m) (sym g.0) key, subst (λ x. Same x z) (sym g.1) value)
like_it (pair k d ps) qs (m, z, others, w, key, value, rest) l y (inr g) =
    let t = like_it ps others rest l y g in
    (t.0, t.1, rest_in qs m z others w t.0 t.1 t.2, t.3, t.4)

pairs_of_maps : (ps qs : Pairs) → Same (datum.map ps) (datum.map qs) → SamePairs ps qs
pairs_of_maps ps qs h = subst (SamePairs ps) (sym (ap pairs_in h.1)) h.2

in_map : (k s : Shape) (ps : Pairs) → conforms (shape.map k s) (datum.map ps) → AllPairs (λ l e. conforms k l × conforms s e) ps × PairsDiffer ps
in_map k s ps c = let known : ps ≡ c.0 = ap pairs_in c.1 in (subst (AllPairs (λ l e. conforms k l × conforms s e)) (sym known) c.2, subst PairsDiffer (sym known) c.3)

module _ {K V : Type 0} (eq : K → K → Bool) (tk : K → Datum) (tv : V → Datum) (equal : EqualAsTold tk eq) (apart : ToldApart tk) (k s : Shape) (same : V → V → Type 0) (hv : IsToldByValue s tv same) where
  -- what one has at a key, the other has too
  has_too : (es fs : List (K × V)) → PairsDiffer (told eq tk tv equal fs) → SamePairs (told eq tk tv equal es) (told eq tk tv equal fs) → (q : K) (v : V) → lookup (eq q) es ≡ Some v → (w : V) × (lookup (eq q) fs ≡ Some w) × Same (tv v) (tv w)
  has_too es fs differ alike q v h =
      let t = like_it (told eq tk tv equal es) (told eq tk tv equal fs) alike (tk q) (tv v) (found eq tk tv equal q v es h) in
      let p = a_key eq tk tv equal t.0 t.1 fs t.2 in
      let is : tk q ≡ t.0 = apart q p.0 (subst (Same (tk q)) (sym p.1) t.3) ∙ p.1 in
      let r = own eq tk tv equal q t.1 fs differ (subst (λ l. Has l t.1 (told eq tk tv equal fs)) (sym is) t.2) in
      (r.0, r.1, subst (Same (tv v)) (sym r.2) t.4)

  at_key : (es fs : List (K × V)) (q : K) → conforms (shape.map k s) (datum.map (told eq tk tv equal es)) → conforms (shape.map k s) (datum.map (told eq tk tv equal fs)) → Same (datum.map (told eq tk tv equal es)) (datum.map (told eq tk tv equal fs)) → (x y : Option V) → lookup (eq q) es ≡ x → lookup (eq q) fs ≡ y → SameOption same x y
  at_key es fs q c d e None None h g = tt
  at_key es fs q c d e None (Some w) h g =
      let t = has_too fs es (in_map k s (told eq tk tv equal es) c).1 (pairs_of_maps (told eq tk tv equal fs) (told eq tk tv equal es) (same_sym (datum.map (told eq tk tv equal es)) (datum.map (told eq tk tv equal fs)) e)) q w g in
      absurd (none-some t.0 (sym h ∙ t.1))
  at_key es fs q c d e (Some v) None h g =
      let t = has_too es fs (in_map k s (told eq tk tv equal fs) d).1 (pairs_of_maps (told eq tk tv equal es) (told eq tk tv equal fs) e) q v h in
      absurd (none-some t.0 (sym g ∙ t.1))
  at_key es fs q c d e (Some v) (Some w) h g =
      let t = has_too es fs (in_map k s (told eq tk tv equal fs) d).1 (pairs_of_maps (told eq tk tv equal es) (told eq tk tv equal fs) e) q v h in
      let is : Some t.0 ≡ Some w = sym t.1 ∙ g in
      hv v w (value_conforms k s (tk q) (tv v) (told eq tk tv equal es) (in_map k s (told eq tk tv equal es) c).0 (found eq tk tv equal q v es h))
      (value_conforms k s (tk q) (tv w) (told eq tk tv equal fs) (in_map k s (told eq tk tv equal fs) d).0 (found eq tk tv equal q w fs g))
      (subst (λ o. Same (tv v) (tv o)) (same_Some t.0 w is) t.2)

  pub map_told : {M : Type 0} (entries : M → List (K × V)) (get : M → K → Option V) → ((m : M) (q : K) → get m q ≡ lookup (eq q) (entries m)) → IsToldByValue (shape.map k s) (λ m. datum.map (told eq tk tv equal (entries m))) (SameMap get same)
  map_told entries get gets m n c d e q = at_key (entries m) (entries n) q c d e (get m q) (get n q) (sym (gets m q)) (sym (gets n q))

-- ---- maps that are the same at each key

-- where the second has a value, the first has one that is the same
first_too : {V : Type 0} (same : V → V → Type 0) (x y : Option V) → SameOption same x y → (w : V) → y ≡ Some w → (v : V) × (x ≡ Some v) × same v w
first_too same None None h w e = absurd (none-some w e)
first_too same None (Some u) h w e = absurd h
first_too same (Some v) None h w e = absurd h
first_too same (Some v) (Some u) h w e = (v, refl, subst (same v) (same_Some u w e) h)

-- where the first has a value, the second has one
second_too : {V : Type 0} (same : V → V → Type 0) (x y : Option V) → SameOption same x y → (v : V) → x ≡ Some v → (w : V) × (y ≡ Some w)
second_too same None None h v e = absurd (none-some v e)
second_too same None (Some w) h v e = absurd h
second_too same (Some u) None h v e = absurd h
second_too same (Some u) (Some w) h v e = (w, refl)

module _ {K V : Type 0} (eq : K → K → Bool) (tk : K → Datum) (tv : V → Datum) (equal : EqualAsTold tk eq) (k s : Shape) (same : V → V → Type 0) (hv : ToldAlike s tv same) where
  abbrev pairs : List (K × V) → Pairs
  pairs es = told eq tk tv equal es

  abbrev Conforms : List (K × V) → Type 0
  Conforms es = conforms (shape.map k s) (datum.map (pairs es))

  abbrev SameAtKeys : List (K × V) → List (K × V) → Type 0
  SameAtKeys es fs = (q : K) → SameOption same (lookup (eq q) es) (lookup (eq q) fs)

  -- each pair is told of a key and its value
  told_of : (es : List (K × V)) → Conforms es → (l y : Datum) → Has l y (pairs es) → (q : K) × (v : V) × (tk q ≡ l) × (lookup (eq q) es ≡ Some v) × (tv v ≡ y)
  told_of es c l y h =
      let p = a_key eq tk tv equal l y es h in
      let r = own eq tk tv equal p.0 y es (in_map k s (pairs es) c).1 (subst (λ m. Has m y (pairs es)) (sym p.1) h) in
      (p.0, r.0, p.1, r.1, r.2)

  -- the second has the keys of the first
  keys_too : (es fs : List (K × V)) → Conforms es → SameAtKeys es fs → (l : Datum) → HasKey l (pairs es) → HasKey l (pairs fs)
  keys_too es fs c h l g =
      let has = key_has l (pairs es) g in
      let p = told_of es c l has.0 has.1 in
      let w = second_too same (lookup (eq p.0) es) (lookup (eq p.0) fs) (h p.0) p.1 p.3 in
      subst (λ m. HasKey m (pairs fs)) p.2 (has_key (tk p.0) (tv w.0) (pairs fs) (found eq tk tv equal p.0 w.0 fs w.1))

  -- a pair of the second has one like it in the first
  pair_too : (es fs : List (K × V)) → Conforms es → Conforms fs → SameAtKeys es fs → (l y : Datum) → Has l y (pairs fs) → (e : Datum) × Has l e (pairs es) × Same e y
  pair_too es fs c d h l y g =
      let p = told_of fs d l y g in
      let v = first_too same (lookup (eq p.0) es) (lookup (eq p.0) fs) (h p.0) p.1 p.3 in
      let here = found eq tk tv equal p.0 v.0 es v.1 in
      let there = found eq tk tv equal p.0 p.1 fs p.3 in
      let alike = hv v.0 p.1 (value_conforms k s (tk p.0) (tv v.0) (pairs es) (in_map k s (pairs es) c).0 here) (value_conforms k s (tk p.0) (tv p.1) (pairs fs) (in_map k s (pairs fs) d).0 there) v.2 in
      (tv v.0, subst (λ m. Has m (tv v.0) (pairs es)) p.2 here, subst (Same (tv v.0)) p.4 alike)

  pairs_alike : (es fs : List (K × V)) → Conforms es → Conforms fs → SameAtKeys es fs → SamePairs (pairs es) (pairs fs)
  pairs_alike es fs c d h = same_pairs (pairs es) (pairs fs) (in_map k s (pairs es) c).1 (in_map k s (pairs fs) d).1 (keys_too es fs c h) (pair_too es fs c d h) (λ l _. same_refl l)

  same_at_keys : (es fs : List (K × V)) (f g : K → Option V) → ((q : K) → f q ≡ lookup (eq q) es) → ((q : K) → g q ≡ lookup (eq q) fs) → ((q : K) → SameOption same (f q) (g q)) → SameAtKeys es fs
  same_at_keys es fs f g is also h q = subst (λ x. SameOption same x (lookup (eq q) fs)) (is q) (subst (SameOption same (f q)) (also q) (h q))

  pub map_alike : {M : Type 0} (entries : M → List (K × V)) (get : M → K → Option V) → ((m : M) (q : K) → get m q ≡ lookup (eq q) (entries m)) → ToldAlike (shape.map k s) (λ m. datum.map (told eq tk tv equal (entries m))) (SameMap get same)
  map_alike entries get gets m n c d e = (pairs (entries n), refl, pairs_alike (entries m) (entries n) c d (same_at_keys (entries m) (entries n) (get m) (get n) (gets m) (gets n) e))

-- ---- what a map tells conforms

-- keys that differ tell keys that differ
module _ {K V : Type 0} (eq : K → K → Bool) (tk : K → Datum) (tv : V → Datum) (equal : EqualAsTold tk eq) where
  none_equal : (q : K) (es : List (K × V)) → AllByRecursion (λ l. eq q l ≡ false) (keys_of es) → ¬ (HasKey (tk q) (told eq tk tv equal es))
  none_equal q [] all h = h
  none_equal q (e ∷ es) all (inl h) = true≢false (sym ((equal q e.0).1 h) ∙ all.0)
  none_equal q (e ∷ es) all (inr h) = none_equal q es all.1 h

  keys_differ : (es : List (K × V)) → IsDistinct eq (keys_of es) → PairsDiffer (told eq tk tv equal es)
  unfolding IsDistinct
  keys_differ [] d = tt
  keys_differ (e ∷ es) d = (none_equal e.0 es d.0, keys_differ es d.1)

  pub map_conforms : (k s : Shape) (es : List (K × V)) → IsDistinct eq (keys_of es) → AllPairs (λ l e. conforms k l × conforms s e) (told eq tk tv equal es) → conforms (shape.map k s) (datum.map (told eq tk tv equal es))
  map_conforms k s es d all = (told eq tk tv equal es, refl, all, keys_differ es d)
