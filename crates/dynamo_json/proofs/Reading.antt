-- What is read from arrays and objects, one element or member after another.
use Rattle.std.proofs.Common.{◌≡◌, ℕ, List, [], ◌∷◌, ◌++◌, Result, Ok, Err, Option, Some, None, refl, sym, ap, ◌∙◌, Less, Greater, String, string_bytes, BTreeMap}
use Rattle.std.proofs.lemmas.Option.{none-some}
use Rattle.std.proofs.lemmas.Cmp.{nat_list_cmp_total}
use Rattle.dynamo_json.proofs.Common.{put, AllByRecursion, keys_of, ordering_reverse, string_cmp}
use Rattle.dynamo_json.proofs.Common.{Data, Value, Object, view-Object, Av, element, elements_of}
use Rattle.dynamo_json.proofs.Common.{member, members_of, Fault, Prefix, prefix_of, M, Refusal}
use Rattle.dynamo_json.proofs.Common.{Refused, refusal_in, ◌>>=◌, text_cmp, parsed, parsed_content}
use Rattle.dynamo_json.proofs.Common.{parsed_elements, parsed_members, each_in, bind_ok, ok_same}
use Rattle.std.specs.List.Sorted.{IsStrictlySortedBy}
use Rattle.serde_json.specs.Data as json
use Rattle.serde_json.specs.View as sj
use Rattle.std.specs.Option.{MatchOption}
use Rattle.std.specs.declared.alloc.Global.{Global}
use Rattle.serde_json.proofs.Views.{Entry}
use Rattle.dynamo_value.specs.Prefix.{L}
use Rattle.dynamo_json.proofs.Each.{each, refused_as}

pub each_in-items_view : {A : Type 0} (f : Data → Result A Refusal) (vs : List Value) → each_in f (sj.items_view vs) ≡ each (λ v. f (sj.view v)) vs
each_in-items_view f [] = refl
each_in-items_view f (v ∷ vs) = ap (λ r. f (sj.view v) >>= λ x. r >>= λ xs. Ok (x ∷ xs)) (each_in-items_view f vs)

-- ---- arrays of values

abbrev pub value_in : Value → Result Av Refusal
value_in v = parsed (sj.view v)

elements_made : (first : Result Av Refusal) (rest : Result (List Av) Refusal)
    → (first >>= λ a. (rest >>= λ as'. Ok (elements_of as')) >>= λ es. Ok (element a es)) ≡ ((first >>= λ a. rest >>= λ as'. Ok (a ∷ as')) >>= λ as'. Ok (elements_of as'))
elements_made (Err e) rest = refl
elements_made (Ok a) (Err e) = refl
elements_made (Ok a) (Ok as') = refl

pub elements_each : (vs : List Value) → parsed_elements (sj.items_view vs) ≡ (each value_in vs >>= λ as'. Ok (elements_of as'))
elements_each [] = refl
elements_each (v ∷ vs) = ap (λ r. value_in v >>= λ a. r >>= λ es. Ok (element a es)) (elements_each vs) ∙ elements_made (value_in v) (each value_in vs)

pub elements_refused : (vs : List Value) (g : Fault) → Refused (refusal_in (each value_in vs)) g → Refused (refusal_in (parsed_elements (sj.items_view vs))) g
elements_refused vs g = refused_as (each value_in vs) (parsed_elements (sj.items_view vs)) g (λ x k. elements_each vs ∙ rw k refl)

pub elements_read : (vs : List Value) (as' : List Av) → each value_in vs ≡ Ok as' → parsed_elements (sj.items_view vs) ≡ Ok (elements_of as')
elements_read vs as' h = elements_each vs ∙ rw h refl

-- ---- objects of values

abbrev pub member_in : Entry → Result (List ℕ × Av) Refusal
member_in e = value_in e.1 >>= λ a. Ok (string_bytes e.0, a)

members_made : (k : List ℕ) (first : Result Av Refusal) (rest : Result (List (List ℕ × Av)) Refusal)
    → (first >>= λ a. (rest >>= λ es. Ok (members_of es)) >>= λ ms. Ok (member k a ms))
    ≡ (((first >>= λ a. Ok (k, a)) >>= λ e. rest >>= λ es. Ok (e ∷ es)) >>= λ es. Ok (members_of es))
members_made k (Err e) rest = refl
members_made k (Ok a) (Err e) = refl
members_made k (Ok a) (Ok es) = refl

pub members_each : (es : List Entry) → parsed_members (sj.members_view es) ≡ (each member_in es >>= λ ms. Ok (members_of ms))
members_each [] = refl
members_each (e ∷ es) = ap (λ r. value_in e.1 >>= λ a. r >>= λ ms. Ok (member (string_bytes e.0) a ms)) (members_each es) ∙ members_made (string_bytes e.0) (value_in e.1) (each member_in es)

pub members_refused : (es : List Entry) (g : Fault) → Refused (refusal_in (each member_in es)) g → Refused (refusal_in (parsed_members (sj.members_view es))) g
members_refused es g = refused_as (each member_in es) (parsed_members (sj.members_view es)) g (λ x k. members_each es ∙ rw k refl)

pub members_read : (es : List Entry) (ms : List (List ℕ × Av)) → each member_in es ≡ Ok ms → parsed_members (sj.members_view es) ≡ Ok (members_of ms)
members_read es ms h = members_each es ∙ rw h refl

pub member_refused : (e : Entry) (g : Fault) → Refused (refusal_in (value_in e.1)) g → Refused (refusal_in (member_in e)) g
member_refused e g = refused_as (value_in e.1) (member_in e) g (λ x k. rw k refl)

below_middle : (first : Entry) (es : List Entry) (e : Entry) (more : List Entry) → AllByRecursion (λ y. string_cmp first.0 y ≡ Less) (keys_of (es ++ e ∷ more)) → string_cmp first.0 e.0 ≡ Less
below_middle first [] e more h = h.0
below_middle first (x ∷ es) e more h = below_middle first es e more h.1

-- a member whose key is above those before it goes last
pub put_last : (done : List Entry) (e : Entry) (more : List Entry) (ms : List (List ℕ × Av)) (a : Av) → IsStrictlySortedBy string_cmp (keys_of (done ++ e ∷ more))
    → each member_in done ≡ Ok ms → put text_cmp (string_bytes e.0) a ms ≡ ms ++ (string_bytes e.0, a) ∷ []
unfolding IsStrictlySortedBy
put_last [] e more ms a sorted h = let none : ms ≡ [] = sym (ok_same h) in rw none refl
put_last (first ∷ done) e more ms a sorted h =
    let one = bind_ok (member_in first) _ ms h in
    let others = bind_ok (each member_in done) _ ms one.2 in
    let read = bind_ok (value_in first.1) _ one.0 one.1 in
    let all : ms ≡ (string_bytes first.0, read.0) ∷ others.0 = sym (ok_same others.2) ∙ ap (λ m. m ∷ others.0) (sym (ok_same read.2)) in
    let above : text_cmp (string_bytes e.0) (string_bytes first.0) ≡ Greater =
    nat_list_cmp_total.antisymm (string_bytes e.0) (string_bytes first.0) ∙ ap ordering_reverse (below_middle first done e more sorted.0) in
    rw (all, above, put_last done e more others.0 a sorted.1 others.1) refl

-- ---- what is under a prefix

pub map_refused : (ms : json.Members) (g : Fault) → Refused (refusal_in (parsed_members ms)) g → Refused (refusal_in (parsed_content (json.object ms) M)) g
map_refused ms g = refused_as (parsed_members ms) (parsed_content (json.object ms) M) g (λ x k. rw k refl)

pub list_refused : (js : json.Items) (g : Fault) → Refused (refusal_in (parsed_elements js)) g → Refused (refusal_in (parsed_content (json.array js) L)) g
list_refused js g = refused_as (parsed_elements js) (parsed_content (json.array js) L) g (λ x k. rw k refl)

pub no_next : {X Y : Type 0} (r : Option X) (xs ys : List Y) (P : X → Type 0) → MatchOption r ((xs ≡ []) × (ys ≡ [])) P → r ≡ None → xs ≡ []
no_next None xs ys P h e = h.0
no_next (Some x) xs ys P h e = absurd (none-some x (sym e))

pub single_member : (v : Value) (m : BTreeMap (String Global) Value) (k : String Global) (c : Value) (p : Prefix) → v ≡ Object m → m.entries ≡ (k, c) ∷ [] → prefix_of (string_bytes k) ≡ Some p
    → parsed (sj.view v) ≡ parsed_content (sj.view c) p
single_member v m k c p h e f = rw (h, view-Object m, e, f) refl
