-- A hashed map by the entries in the order of their keys: what `insert` leaves is `put`, and when two maps are the same.
use Rattle.std.proofs.Common.{◌≡◌, ℕ, ◌<◌, ◌≤◌, List, [], ◌∷◌, ◌++◌, map, length, Option, None, Some, IsSome, option_map, String, string_bytes}
use Rattle.std.proofs.Common.{Bool, true, false, cond, T, ◌||◌, ◌⊎◌, ⊎_elim, inl, inr, refl, sym, ◌∙◌, ap, subst, arith}
use Rattle.std.specs.Cmp.Lexicographic.{nat_list_cmp_total}
use Rattle.std.specs.Cmp.{eq_by_cmp_equiv}
use Rattle.std.specs.FinMap.{slice_cmp-IsAntisymmetric, nat_cmp-IsAntisymmetric}
use Rattle.std.specs.FinMap.Entries.{put, find, find-put, is_sorted, is_sorted-put, same_entries}
use Rattle.std.specs.List.{AllByRecursion, IsDistinct, list_any}
use Rattle.std.specs.Map.{keys_of, lookup}
use Rattle.std.specs.Str.{bytes_eq}
use Rattle.std.specs.String.{string_eq, string_eq_equiv}
use Rattle.std.specs.HashMap.{HashMap, Updates, get_by_text}
use Rattle.std.proofs.lemmas.Map.Entries.{length-keys_of}
use Rattle.std.proofs.lemmas.Map.Steps.{length-le_from_keys}
use Rattle.std.proofs.lemmas.Map.Text.{is_eq-slice_cmp, hash_map_updates_text}
use Rattle.std.proofs.lemmas.Slice.Eq.{bytes_eq-Decides}
use Rattle.std.specs.declared.alloc.Global.{Global}
use Rattle.dynamo_value.specs.Av.{Av, Members, no_members, member, members_of}
use Rattle.dynamo_value.specs.View.{text_cmp, in_key_order, entries_view, members_view, view}
use Rattle.dynamo_value.specs.declared.attribute_value.AttributeValue.{AttributeValue}

abbrev Sorted : List (List ℕ × Av) → Type 0
Sorted es = T (is_sorted text_cmp es)

pub put_sorted : (k : List ℕ) (a : Av) (es : List (List ℕ × Av)) → Sorted es → Sorted (put text_cmp k a es)
put_sorted k a es h = is_sorted-put text_cmp nat_list_cmp_total k a es h

ordered : (es : List (String Global × Av)) → Sorted (in_key_order es)
ordered [] = tt
ordered (e ∷ es) = put_sorted (string_bytes e.0) e.1 (in_key_order es) (ordered es)

pub view_sorted : (es : List (String Global × AttributeValue)) → Sorted (entries_view es)
view_sorted es = ordered (map (λ e. (e.0, view e.1)) es)

-- two maps with the same values are one
pub same_members : (es fs : List (List ℕ × Av)) → Sorted es → Sorted fs → ((q : List ℕ) → find text_cmp q es ≡ find text_cmp q fs) → es ≡ fs
same_members es fs s t h = same_entries text_cmp nat_list_cmp_total (slice_cmp-IsAntisymmetric nat_cmp-IsAntisymmetric) es fs s t h

-- what is found after a put
pub found-put : (k : List ℕ) (a : Av) (es : List (List ℕ × Av)) (q : List ℕ) → find text_cmp q (put text_cmp k a es) ≡ cond (bytes_eq q k) (Some a) (find text_cmp q es)
found-put k a es q = find-put text_cmp nat_list_cmp_total q k a es ∙ ap (λ (b : Bool). cond b (Some a) (find text_cmp q es)) (is_eq-slice_cmp q k)

found : (es : List (String Global × Av)) (q : List ℕ) → find text_cmp q (in_key_order es) ≡ lookup (λ k. bytes_eq q (string_bytes k)) es
found [] q = refl
found (e ∷ es) q = found-put (string_bytes e.0) e.1 (in_key_order es) q ∙ ap (cond (bytes_eq q (string_bytes e.0)) (Some e.1)) (found es q)

lookup-map : {K X Y : Type 0} (f : X → Y) (test : K → Bool) (es : List (K × X)) → lookup test (map (λ e. (e.0, f e.1)) es) ≡ option_map f (lookup test es)
lookup-map f test [] = refl
lookup-map f test (e ∷ es) = ap (cond (test e.0) (Some (f e.1))) (lookup-map f test es) ∙
    elim (test e.0) as (λ b. cond b (Some (f e.1)) (option_map f (lookup test es)) ≡ option_map f (cond b (Some e.1) (lookup test es))) [ true ↦ refl | false ↦ refl ]

-- what is found in a map is what the hashed map has at the text
pub found-view : (es : List (String Global × AttributeValue)) (q : List ℕ) → find text_cmp q (entries_view es) ≡ option_map view (lookup (λ k. bytes_eq q (string_bytes k)) es)
found-view es q = found _ q ∙ lookup-map view _ es

chosen : (b : Bool) (v : AttributeValue) (o : Option AttributeValue) → option_map view (cond b (Some v) o) ≡ cond b (Some (view v)) (option_map view o)
chosen true v o = refl
chosen false v o = refl

bytes_eq_sym : (a b : List ℕ) → bytes_eq a b ≡ bytes_eq b a
bytes_eq_sym a b = sym (is_eq-slice_cmp a b) ∙ (eq_by_cmp_equiv nat_list_cmp_total).symm a b ∙ is_eq-slice_cmp b a

-- what `insert` leaves
pub inserted : {S : Type 0} (m n : HashMap (String Global) AttributeValue S) (k : String Global) (v : AttributeValue) → Updates string_eq m n k (Some v) → entries_view n.entries ≡ put text_cmp (string_bytes k) (view v) (entries_view m.entries)
inserted m n k v h = same_members (entries_view n.entries) (put text_cmp (string_bytes k) (view v) (entries_view m.entries)) (view_sorted n.entries) (put_sorted (string_bytes k) (view v) (entries_view m.entries) (view_sorted m.entries)) (λ q.
    found-view n.entries q ∙ ap (option_map view) (hash_map_updates_text (string_bytes k) m n (Some v) h q)
    ∙ chosen (bytes_eq (string_bytes k) q) v (lookup (λ j. bytes_eq q (string_bytes j)) m.entries)
    ∙ ap (λ (b : Bool). cond b (Some (view v)) (option_map view (lookup (λ j. bytes_eq q (string_bytes j)) m.entries))) (bytes_eq_sym (string_bytes k) q)
    ∙ ap (cond (bytes_eq q (string_bytes k)) (Some (view v))) (sym (found-view m.entries q))
    ∙ sym (found-put (string_bytes k) (view v) (entries_view m.entries) q))

-- ---- what an item has at a name, by its members

entries_in : Members → List (List ℕ × Av)
entries_in no_members = []
entries_in (member k a ms) = (k, a) ∷ entries_in ms

entries_in-members_of : (es : List (List ℕ × Av)) → entries_in (members_of es) ≡ es
unfolding entries_in
entries_in-members_of [] = refl
entries_in-members_of (e ∷ es) = ap (λ (fs : List (List ℕ × Av)). e ∷ fs) (entries_in-members_of es)

pub found_at : {S : Type 0} (m : HashMap (String Global) AttributeValue S) (es : List (List ℕ × Av)) → members_view m.entries ≡ members_of es → (q : List ℕ) → option_map view (get_by_text m q) ≡ find text_cmp q es
found_at m es is q = sym (found-view m.entries q)
    ∙ ap (find text_cmp q) (sym (entries_in-members_of (entries_view m.entries)) ∙ ap entries_in is ∙ entries_in-members_of es)

-- maps with the same members have the same entries in order
pub entries_alike : (es fs : List (String Global × AttributeValue)) → members_view es ≡ members_view fs → entries_view es ≡ entries_view fs
entries_alike es fs e = sym (entries_in-members_of (entries_view es)) ∙ ap entries_in e ∙ entries_in-members_of (entries_view fs)

-- ---- a map that is copied entry by entry

abbrev pub Entry : Type 0
Entry = String Global × AttributeValue

-- the value at the key with the bytes q
abbrev at_key : List ℕ → List Entry → Option AttributeValue
at_key q es = lookup (λ k. bytes_eq q (string_bytes k)) es

-- no entry's key has the bytes k
abbrev Apart : List ℕ → List Entry → Type 0
Apart k [] = Unit {0}
Apart k (e ∷ es) = (bytes_eq (string_bytes e.0) k ≡ false) × Apart k es

swapped : (q k j : List ℕ) (v w o : Option AttributeValue) → bytes_eq j k ≡ false
    → cond (bytes_eq q j) w (cond (bytes_eq q k) v o) ≡ cond (bytes_eq q k) v (cond (bytes_eq q j) w o)
swapped q k j v w o other =
    elim (bytes_eq q j) as (λ b. bytes_eq q j ≡ b → cond b w (cond (bytes_eq q k) v o) ≡ cond (bytes_eq q k) v (cond b w o)) [
      | false ↦ λ _. refl
      | true ↦ λ t. sym (ap (λ (b : Bool). cond b v w) (ap (λ (x : List ℕ). bytes_eq x k) ((bytes_eq-Decides q j).0 t) ∙ other))
    ] refl

at_key-push : (es : List Entry) (e : Entry) (q : List ℕ) → Apart (string_bytes e.0) es
    → at_key q (es ++ e ∷ []) ≡ cond (bytes_eq q (string_bytes e.0)) (Some e.1) (at_key q es)
at_key-push [] e q a = refl
at_key-push (d ∷ es) e q a = ap (cond (bytes_eq q (string_bytes d.0)) (Some d.1)) (at_key-push es e q a.1)
    ∙ swapped q (string_bytes e.0) (string_bytes d.0) (Some e.1) (Some d.1) (at_key q es) a.0

pub entries-push : (es : List Entry) (e : Entry) → Apart (string_bytes e.0) es
    → entries_view (es ++ e ∷ []) ≡ put text_cmp (string_bytes e.0) (view e.1) (entries_view es)
entries-push es e a =
    let k = string_bytes e.0 in
    same_members (entries_view (es ++ e ∷ [])) (put text_cmp k (view e.1) (entries_view es))
    (view_sorted (es ++ e ∷ [])) (put_sorted k (view e.1) (entries_view es) (view_sorted es)) (λ q.
    found-view (es ++ e ∷ []) q ∙ ap (option_map view) (at_key-push es e q a)
    ∙ chosen (bytes_eq q k) e.1 (at_key q es)
    ∙ ap (cond (bytes_eq q k) (Some (view e.1))) (sym (found-view es q))
    ∙ sym (found-put k (view e.1) (entries_view es) q))

later : (k : String Global) (es : List Entry) (e : Entry) (rest : List Entry)
    → AllByRecursion (λ y. string_eq k y ≡ false) (keys_of (es ++ e ∷ rest)) → string_eq k e.0 ≡ false
later k [] e rest h = h.0
later k (d ∷ es) e rest h = later k es e rest h.1

-- an entry's key differs from those before it
pub apart : (es : List Entry) (e : Entry) (rest : List Entry) → IsDistinct string_eq (keys_of (es ++ e ∷ rest)) → Apart (string_bytes e.0) es
unfolding IsDistinct
apart [] e rest h = tt
apart (d ∷ es) e rest h = (later d.0 es e rest h.0, apart es e rest h.1)

-- a copy of the entry after es is inserted in a map with the members of es
pub copied : {S : Type 0} (m n : HashMap (String Global) AttributeValue S) (es rest : List Entry) (e : Entry) (k : String Global) (v : AttributeValue)
    → IsDistinct string_eq (keys_of (es ++ e ∷ rest)) → members_view m.entries ≡ members_view es → Updates string_eq m n k (Some v)
    → string_bytes k ≡ string_bytes e.0 → view v ≡ view e.1 → members_view n.entries ≡ members_view (es ++ e ∷ [])
copied m n es rest e k v distinct so_far updates key value = ap members_of (
    inserted m n k v updates
    ∙ (λ i. put text_cmp (key i) (value i) (entries_alike m.entries es so_far i))
    ∙ sym (entries-push es e (apart es e rest distinct)))

-- ---- two maps have the same members where they are as long and one has the other's entries

-- fs has the key of e, with the value of e
abbrev pub Has : List Entry → Entry → Type 0
Has fs e = option_map view (lookup (string_eq e.0) fs) ≡ Some (view e.1)

abbrev pub HasAll : List Entry → List Entry → Type 0
HasAll fs = AllByRecursion (Has fs)

past : (e : Entry) (es ds : List Entry) → AllByRecursion (λ y. string_eq e.0 y ≡ false) (keys_of ds) → HasAll es ds → HasAll (e ∷ es) ds
past e es [] a h = tt
past e es (d ∷ ds) a h = (
  ap (λ b. option_map view (cond b (Some e.1) (lookup (string_eq d.0) es))) (string_eq_equiv.symm d.0 e.0 ∙ a.0) ∙ h.0,
  past e es ds a.1 h.1,
)

has_own : (es : List Entry) → IsDistinct string_eq (keys_of es) → HasAll es es
unfolding IsDistinct
has_own [] d = tt
has_own (e ∷ es) d = (
  ap (λ b. option_map view (cond b (Some e.1) (lookup (string_eq e.0) es))) (string_eq_equiv.refl e.0),
  past e es es d.0 (has_own es d.1),
)

moved : (es fs ds : List Entry) → entries_view es ≡ entries_view fs → HasAll es ds → HasAll fs ds
moved es fs [] e h = tt
moved es fs (d ∷ ds) e h =
    let k = string_bytes d.0 in
    (sym (found-view fs k) ∙ ap (find text_cmp k) (sym e) ∙ found-view es k ∙ h.0, moved es fs ds e h.1)

has_same : (es fs : List Entry) → IsDistinct string_eq (keys_of es) → members_view es ≡ members_view fs → HasAll fs es
has_same es fs d same = moved es fs es (entries_alike es fs same) (has_own es d)

-- what a map with the same members has at the key of e, one of es
module _ (es fs left : List Entry) (e : Entry) (d : IsDistinct string_eq (keys_of es)) (has : HasAll fs es → HasAll fs (e ∷ left))
    (same : members_view es ≡ members_view fs) where
  pub has_value : (v : AttributeValue) → Some v ≡ lookup (string_eq e.0) fs → view e.1 ≡ view v
  has_value v is = let here : Some (view v) ≡ Some (view e.1) = ap (option_map view) is ∙ (has (has_same es fs d same)).0 in cc

  pub has_some : None ≡ lookup (string_eq e.0) fs → ⊥
  has_some is = let here : None ≡ Some (view e.1) = ap (option_map view) is ∙ (has (has_same es fs d same)).0 in cc

abbrev HasKeys : List Entry → List (String Global) → Type 0
HasKeys fs = AllByRecursion (λ k. IsSome (lookup (string_eq k) fs))

is_some-from : (o : Option AttributeValue) (a : Av) → option_map view o ≡ Some a → IsSome o
is_some-from None a e = cc
is_some-from (Some v) a e = refl

has_keys : (fs es : List Entry) → HasAll fs es → HasKeys fs (keys_of es)
has_keys fs [] h = tt
has_keys fs (e ∷ es) h = (is_some-from (lookup (string_eq e.0) fs) (view e.1) h.0, has_keys fs es h.1)

has_key : (fs : List Entry) (ks : List (String Global)) → HasKeys fs ks
    → (q : String Global) → list_any (string_eq q) ks ≡ true → IsSome (lookup (string_eq q) fs)
has_key fs [] h q t = cc
has_key fs (k ∷ ks) h q t =
    elim (string_eq q k) as (λ b. string_eq q k ≡ b → b || list_any (string_eq q) ks ≡ true → IsSome (lookup (string_eq q) fs)) [
      | true ↦ λ e _. subst (λ (x : List ℕ). IsSome (at_key x fs)) (sym ((bytes_eq-Decides (string_bytes q) (string_bytes k)).0 e)) h.0
      | false ↦ λ _ r. has_key fs ks h.1 q r
    ] refl t

no_more : (fs : List Entry) (ks : List (String Global)) → IsDistinct string_eq ks → HasKeys fs ks → length ks ≤ length fs
no_more fs ks d h = length-le_from_keys string_eq_equiv ks fs d (has_key fs ks h)

pub as_long : (es fs : List Entry) → IsDistinct string_eq (keys_of es) → IsDistinct string_eq (keys_of fs)
    → members_view es ≡ members_view fs → length es ≡ length fs
as_long es fs d c same =
    let up = no_more fs (keys_of es) d (has_keys fs es (has_same es fs d same)) in
    let down = no_more es (keys_of fs) c (has_keys es fs (has_same fs es c (sym same))) in
    omega (arith, up, down, length-keys_of es, length-keys_of fs)

-- no entry has the key q
abbrev Lacks : List Entry → List ℕ → Type 0
Lacks es q = AllByRecursion (λ k. bytes_eq q (string_bytes k) ≡ false) (keys_of es)

lacks-none : (es : List Entry) (q : List ℕ) → Lacks es q → at_key q es ≡ None
lacks-none [] q n = refl
lacks-none (e ∷ es) q n = ap (λ b. cond b (Some e.1) (at_key q es)) n.0 ∙ lacks-none es q n.1

-- es lack the key q, or fs has there what es have
lacks_or_has : (fs es : List Entry) → HasAll fs es → (q : List ℕ) → Lacks es q ⊎ (option_map view (at_key q es) ≡ option_map view (at_key q fs))
lacks_or_has fs [] h q = inl tt
lacks_or_has fs (e ∷ es) h q =
    elim (bytes_eq q (string_bytes e.0)) as (λ b. bytes_eq q (string_bytes e.0) ≡ b
    → ((b ≡ false) × Lacks es q) ⊎ (option_map view (cond b (Some e.1) (at_key q es)) ≡ option_map view (at_key q fs))) [
      | true ↦ λ t. inr (sym (ap (λ (x : List ℕ). option_map view (at_key x fs)) ((bytes_eq-Decides q (string_bytes e.0)).0 t) ∙ h.0))
      | false ↦ λ _. ⊎_elim (λ n. inl (refl, n)) (λ s. inr s) (lacks_or_has fs es h.1 q)
    ] refl

none_or_key : (es : List Entry) (q : List ℕ) → (at_key q es ≡ None) ⊎ ((k : String Global) × (q ≡ string_bytes k))
none_or_key [] q = inl refl
none_or_key (e ∷ es) q =
    elim (bytes_eq q (string_bytes e.0)) as (λ b. bytes_eq q (string_bytes e.0) ≡ b
    → (cond b (Some e.1) (at_key q es) ≡ None) ⊎ ((k : String Global) × (q ≡ string_bytes k))) [
      | true ↦ λ t. inr (e.0, (bytes_eq-Decides q (string_bytes e.0)).0 t)
      | false ↦ λ _. none_or_key es q
    ] refl

-- a map that has the entries es and one more key is longer
longer : (fs es : List Entry) (k : String Global) → IsDistinct string_eq (keys_of es) → HasAll fs es
    → Lacks es (string_bytes k) → IsSome (lookup (string_eq k) fs) → length es < length fs
unfolding IsDistinct
longer fs es k d h n s = let more = no_more fs (k ∷ keys_of es) (n, d) (s, has_keys fs es h) in omega (arith, more, length-keys_of es)

neither : (fs es : List Entry) → IsDistinct string_eq (keys_of es) → length es ≡ length fs → HasAll fs es
    → (q : List ℕ) → Lacks es q → at_key q fs ≡ None
neither fs es d l h q n = elim (none_or_key fs q) [
  | inl e ↦ e
  | inr k ↦ elim (at_key q fs) as (λ o. at_key q fs ≡ o → o ≡ None) [
    | None ↦ λ _. refl
    | Some v ↦ λ is.
        let some : IsSome (at_key q fs) = rw is refl in
        let more = longer fs es k.0 d h (subst (Lacks es) k.1 n) (subst (λ (x : List ℕ). IsSome (at_key x fs)) k.1 some) in
        absurd (omega arith)
  ] refl
]

pub same_from_all : (es fs : List Entry) → IsDistinct string_eq (keys_of es) → length es ≡ length fs → HasAll fs es
    → members_view es ≡ members_view fs
same_from_all es fs d l h = ap members_of (same_members (entries_view es) (entries_view fs) (view_sorted es) (view_sorted fs) (λ q.
    found-view es q
    ∙ ⊎_elim (λ n. ap (option_map view) (lacks-none es q n ∙ sym (neither fs es d l h q n))) (λ s. s) (lacks_or_has fs es h q)
    ∙ sym (found-view fs q)))
