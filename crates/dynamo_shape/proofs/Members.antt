-- Members by their key texts.
use Rattle.std.proofs.Common.{◌≡◌, ◌⊎◌, true, false, cond, List, [], ◌∷◌, Option, Some, None, Less, Equal, Greater, refl, sym, subst, inl, inr}
use Rattle.dynamo_shape.proofs.Common.{⊤, bytes_eq, AllByRecursion, put, find, by_order, none-some}
use Rattle.dynamo_shape.proofs.Common.{same_Some, is_eq-slice_cmp, bytes_eq-Decides, Text, Av}
use Rattle.dynamo_shape.proofs.Common.{Members, no_members, member, members_of, text_cmp, collect}
use Rattle.dynamo_shape.proofs.Common.{collect_onto}
use Rattle.std.specs.FinMap.{slice_cmp-IsAntisymmetric, nat_cmp-IsAntisymmetric}

abbrev pub SomeMember : (Text → Av → Type 0) → Members → Type 0
SomeMember P no_members = ⊥
SomeMember P (member t a ms) = P t a ⊎ SomeMember P ms

abbrev pub EachMember : (Text → Av → Type 0) → Members → Type 0
EachMember P no_members = ⊤
EachMember P (member t a ms) = P t a × EachMember P ms

abbrev pub get_member : Text → Members → Option Av
get_member t no_members = None
get_member t (member u a ms) = cond (bytes_eq t u) (Some a) (get_member t ms)

pub same_cmp : (t u : Text) → text_cmp t u ≡ Equal → t ≡ u
same_cmp = slice_cmp-IsAntisymmetric nat_cmp-IsAntisymmetric

-- ---- entries that are collected

abbrev pub Each : (Text → Av → Type 0) → List (Text × Av) → Type 0
Each P es = AllByRecursion (λ e. P e.0 e.1) es

put_each : (P : Text → Av → Type 0) (k : Text) (v : Av) (ms : List (Text × Av)) → P k v → Each P ms → Each P (put text_cmp k v ms)
put_each P k v [] p h = (p, tt)
put_each P k v (m ∷ ms) p h = elim (text_cmp k m.0) as (λ o. text_cmp k m.0 ≡ o → Each P (by_order o ((k, v) ∷ m ∷ ms) ((m.0, v) ∷ ms) (m ∷ put text_cmp k v ms))) [
  | Less ↦ λ e. (p, h)
  | Equal ↦ λ e. (subst (λ t. P t v) (same_cmp k m.0 e) p, h.1)
  | Greater ↦ λ e. (h.0, put_each P k v ms p h.1)
] refl

onto_each : (P : Text → Av → Type 0) (es ms : List (Text × Av)) → Each P es → Each P ms → Each P (collect_onto ms es)
onto_each P [] ms h k = k
onto_each P (e ∷ es) ms h k = onto_each P es (put text_cmp e.0 e.1 ms) h.1 (put_each P e.0 e.1 ms h.0 k)

members_each : (P : Text → Av → Type 0) (es : List (Text × Av)) → Each P es → EachMember P (members_of es)
members_each P [] h = tt
members_each P (e ∷ es) h = (h.0, members_each P es h.1)

-- what holds of each entry holds of each member
pub collected : (P : Text → Av → Type 0) (es : List (Text × Av)) → Each P es → EachMember P (members_of (collect es))
collected P es h = members_each P (collect es) (onto_each P es [] h tt)

pub get_find : (t : Text) (es : List (Text × Av)) → get_member t (members_of es) ≡ find text_cmp t es
get_find t [] = refl
get_find t (e ∷ es) = let p = sym (is_eq-slice_cmp t e.0) in let q = get_find t es in λ i. cond (p i) (Some e.1) (q i)

-- ---- members

pub get_each : (P : Text → Av → Type 0) (t : Text) (a : Av) (ms : Members) → get_member t ms ≡ Some a → EachMember P ms → P t a
get_each P t a no_members g h = absurd (none-some a g)
get_each P t a (member u b ms) g h =
    elim (bytes_eq t u) as (λ c. bytes_eq t u ≡ c → cond c (Some b) (get_member t ms) ≡ Some a → P t a) [
      | true ↦ λ e k. subst (P t) (same_Some b a k) (subst (λ x. P x b) (sym ((bytes_eq-Decides t u).0 e)) h.0)
      | false ↦ λ e k. get_each P t a ms k h.1
    ] refl g

pub each_weaker : (P Q : Text → Av → Type 0) → ((t : Text) (a : Av) → P t a → Q t a) → (ms : Members) → EachMember P ms → EachMember Q ms
each_weaker P Q f no_members h = tt
each_weaker P Q f (member t a ms) h = (f t a h.0, each_weaker P Q f ms h.1)

-- a member at which both hold
pub meets : (P Q : Text → Av → Type 0) (ms : Members) → EachMember P ms → SomeMember Q ms → (t : Text) × (a : Av) × P t a × Q t a
meets P Q no_members h k = absurd k
meets P Q (member t a ms) h k = elim k [ inl x ↦ (t, a, h.0, x) | inr y ↦ meets P Q ms h.1 y ]
