-- Entries that are collected: they come in the order of their keys, and what is in order already stays as it is.
use Rattle.std.proofs.Common.{◌≡◌, ℕ, Bool, true, false, ◌&&◌, List, [], ◌∷◌, ◌++◌, Ordering, Less, Equal, Greater, refl, sym, ap, subst, ◌∙◌, append_assoc}
use Rattle.std.specs.Prelude.{T}
use Rattle.std.specs.Ordering.{is_lt, ordering_reverse}
use Rattle.std.specs.Cmp.Lexicographic.{nat_list_cmp_total}
use Rattle.std.specs.FinMap.Entries.{put, is_sorted, below_all, is_sorted-put, by_order}
use Rattle.dynamo_value.specs.View.{text_cmp}
use Rattle.dynamo_write.specs.Collect.{collect_onto, collect}

abbrev pub Entries : Type 0 → Type 0
Entries A = List (List ℕ × A)

pub less : (o : Ordering) → T (is_lt o) → o ≡ Less
less Less p = refl
less Equal p = absurd p
less Greater p = absurd p

pub halves : (a b : Bool) → T (a && b) → T a × T b
halves true b p = (tt, p)
halves false b p = absurd p

-- ---- the order

sorted_onto : {A : Type 0} (es ms : Entries A) → T (is_sorted text_cmp ms) → T (is_sorted text_cmp (collect_onto ms es))
sorted_onto [] ms h = h
sorted_onto (e ∷ es) ms h = sorted_onto es (put text_cmp e.0 e.1 ms) (is_sorted-put text_cmp nat_list_cmp_total e.0 e.1 ms h)

pub sorted-collect : {A : Type 0} (es : Entries A) → T (is_sorted text_cmp (collect es))
sorted-collect es = sorted_onto es [] tt

below_middle : {A : Type 0} (x : List ℕ) (ms : Entries A) (e : List ℕ × A) (es : Entries A) → T (below_all text_cmp x (ms ++ e ∷ es)) → text_cmp x e.0 ≡ Less
below_middle x [] e es h = less _ (halves _ _ h).0
below_middle x (m ∷ ms) e es h = below_middle x ms e es (halves _ _ h).1

put_last : {A : Type 0} (ms : Entries A) (e : List ℕ × A) (es : Entries A) → T (is_sorted text_cmp (ms ++ e ∷ es)) → put text_cmp e.0 e.1 ms ≡ ms ++ e ∷ []
put_last [] e es h = refl
put_last (m ∷ ms) e es h =
    let after : text_cmp e.0 m.0 ≡ Greater = nat_list_cmp_total.antisymm e.0 m.0 ∙ ap ordering_reverse (below_middle m.0 ms e es (halves _ _ h).0) in
    ap (λ o. by_order o (e ∷ m ∷ ms) ((m.0, e.1) ∷ ms) (m ∷ put text_cmp e.0 e.1 ms)) after ∙ ap (λ xs. m ∷ xs) (put_last ms e es (halves _ _ h).1)

pub nothing_more : {A : Type 0} (ms : List A) → ms ++ [] ≡ ms
nothing_more [] = refl
nothing_more (m ∷ ms) = ap (λ xs. m ∷ xs) (nothing_more ms)

onto_sorted : {A : Type 0} (es ms : Entries A) → T (is_sorted text_cmp (ms ++ es)) → collect_onto ms es ≡ ms ++ es
onto_sorted [] ms h = sym (nothing_more ms)
onto_sorted (e ∷ es) ms h =
    let same : (ms ++ e ∷ []) ++ es ≡ ms ++ e ∷ es = append_assoc ms (e ∷ []) es in
    ap (λ xs. collect_onto xs es) (put_last ms e es h) ∙ onto_sorted es (ms ++ e ∷ []) (subst (λ xs. T (is_sorted text_cmp xs)) (sym same) h) ∙ same

-- entries in order are collected as they are
pub collect-sorted : {A : Type 0} (es : Entries A) → T (is_sorted text_cmp es) → collect es ≡ es
collect-sorted es h = onto_sorted es [] h

pub collect_twice : {A : Type 0} (es : Entries A) → collect (collect es) ≡ collect es
collect_twice es = collect-sorted (collect es) (sorted-collect es)

-- ---- a relation between the values of entries with the same keys, and a property of each value

abbrev pub Alike : {A B : Type 0} → (A → B → Type 0) → List (List ℕ × A) → List (List ℕ × B) → Type 0
Alike R [] [] = Unit {0}
Alike R (e ∷ es) (f ∷ fs) = (e.0 ≡ f.0) × R e.1 f.1 × Alike R es fs
Alike R _ _ = ⊥

order_alike : {A B : Type 0} (R : A → B → Type 0) (o : Ordering) (a b c : Entries A) (x y z : Entries B)
    → Alike R a x → Alike R b y → Alike R c z → Alike R (by_order o a b c) (by_order o x y z)
order_alike R Less a b c x y z p q r = p
order_alike R Equal a b c x y z p q r = q
order_alike R Greater a b c x y z p q r = r

put_alike : {A B : Type 0} (R : A → B → Type 0) (k l : List ℕ) (a : A) (b : B) (ms : Entries A) (ns : Entries B)
    → k ≡ l → R a b → Alike R ms ns → Alike R (put text_cmp k a ms) (put text_cmp l b ns)
put_alike R k l a b [] [] p r h = (p, r, tt)
put_alike R k l a b [] (n ∷ ns) p r h = absurd h
put_alike R k l a b (m ∷ ms) [] p r h = absurd h
put_alike R k l a b (m ∷ ms) (n ∷ ns) p r h =
    let same : text_cmp k m.0 ≡ text_cmp l n.0 = λ i. text_cmp (p i) (h.0 i) in
    subst (λ o. Alike R (by_order o ((k, a) ∷ m ∷ ms) ((m.0, a) ∷ ms) (m ∷ put text_cmp k a ms)) (put text_cmp l b (n ∷ ns))) (sym same)
    (order_alike R (text_cmp l n.0) _ _ _ _ _ _ (p, r, h) (h.0, r, h.2) (h.0, h.1, put_alike R k l a b ms ns p r h.2))

onto_alike : {A B : Type 0} (R : A → B → Type 0) (es : Entries A) (fs : Entries B) (ms : Entries A) (ns : Entries B)
    → Alike R es fs → Alike R ms ns → Alike R (collect_onto ms es) (collect_onto ns fs)
onto_alike R [] [] ms ns h g = g
onto_alike R [] (f ∷ fs) ms ns h g = absurd h
onto_alike R (e ∷ es) [] ms ns h g = absurd h
onto_alike R (e ∷ es) (f ∷ fs) ms ns h g = onto_alike R es fs _ _ h.2 (put_alike R e.0 f.0 e.1 f.1 ms ns h.0 h.1 g)

pub collect_alike : {A B : Type 0} (R : A → B → Type 0) (es : List (List ℕ × A)) (fs : List (List ℕ × B)) → Alike R es fs → Alike R (collect es) (collect fs)
collect_alike R es fs h = onto_alike R es fs [] [] h tt

below_alike : {A B : Type 0} (R : A → B → Type 0) (t : List ℕ) (es : Entries A) (fs : Entries B) → Alike R es fs → below_all text_cmp t es ≡ below_all text_cmp t fs
below_alike R t [] [] h = refl
below_alike R t [] (f ∷ fs) h = absurd h
below_alike R t (e ∷ es) [] h = absurd h
below_alike R t (e ∷ es) (f ∷ fs) h = let rest = below_alike R t es fs h.2 in λ i. is_lt (text_cmp t (h.0 i)) && rest i

pub sorted_alike : {A B : Type 0} (R : A → B → Type 0) (es : List (List ℕ × A)) (fs : List (List ℕ × B)) → Alike R es fs → is_sorted text_cmp es ≡ is_sorted text_cmp fs
sorted_alike R [] [] h = refl
sorted_alike R [] (f ∷ fs) h = absurd h
sorted_alike R (e ∷ es) [] h = absurd h
sorted_alike R (e ∷ es) (f ∷ fs) h =
    let first = ap (λ t. below_all text_cmp t es) h.0 ∙ below_alike R f.0 es fs h.2 in
    let rest = sorted_alike R es fs h.2 in
    λ i. first i && rest i

abbrev pub EachValue : {A : Type 0} → (A → Type 0) → List (List ℕ × A) → Type 0
EachValue P [] = Unit {0}
EachValue P (e ∷ es) = P e.1 × EachValue P es

put_each : {A : Type 0} (P : A → Type 0) (k : List ℕ) (a : A) (ms : Entries A) → P a → EachValue P ms → EachValue P (put text_cmp k a ms)
put_each P k a [] p h = (p, tt)
put_each P k a (m ∷ ms) p h = elim (text_cmp k m.0) as (λ o. EachValue P (by_order o ((k, a) ∷ m ∷ ms) ((m.0, a) ∷ ms) (m ∷ put text_cmp k a ms))) [
  | Less ↦ (p, h)
  | Equal ↦ (p, h.1)
  | Greater ↦ (h.0, put_each P k a ms p h.1)
]

onto_each : {A : Type 0} (P : A → Type 0) (es ms : Entries A) → EachValue P es → EachValue P ms → EachValue P (collect_onto ms es)
onto_each P [] ms h g = g
onto_each P (e ∷ es) ms h g = onto_each P es (put text_cmp e.0 e.1 ms) h.1 (put_each P e.0 e.1 ms h.0 g)

pub collect_each : {A : Type 0} (P : A → Type 0) (es : List (List ℕ × A)) → EachValue P es → EachValue P (collect es)
collect_each P es h = onto_each P es [] h tt
