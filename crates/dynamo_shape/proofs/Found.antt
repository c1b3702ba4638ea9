-- A struct's entries and their names.
use Rattle.std.proofs.Common.{◌≡◌, Bool, true, false, ◌||◌, List, [], ◌∷◌, Some, refl, sym, ap, ◌∙◌, inl, inr}
use Rattle.dynamo_shape.proofs.Common.{⊤, bytes_eq, list_any, AllByRecursion, true≢false}
use Rattle.dynamo_shape.proofs.Common.{cases_Bool, bytes_eq-Decides, Text, Absence, is_field, Shape}
use Rattle.dynamo_shape.proofs.Common.{FieldShapes, no_field_shapes, field_shape, Av, Members}
use Rattle.dynamo_shape.proofs.Members.{get_member}

pub or_false : (a b : Bool) → (a || b) ≡ false → (a ≡ false) × (b ≡ false)
or_false true b h = absurd (true≢false h)
or_false false b h = (refl, h)

pub same_bytes : (t : Text) → bytes_eq t t ≡ true
same_bytes t = (bytes_eq-Decides t t).1 refl

-- each entry is found among the members
abbrev pub Found : List (Text × Av) → Members → Type 0
Found es ms = AllByRecursion (λ e. get_member e.0 ms ≡ Some e.1) es

-- ---- keys

abbrev pub KeysIn : (Text → Type 0) → List (Text × Av) → Type 0
KeysIn P es = AllByRecursion (λ e. P e.0) es

pub keys_weaker : (P Q : Text → Type 0) → ((t : Text) → P t → Q t) → (es : List (Text × Av)) → KeysIn P es → KeysIn Q es
keys_weaker P Q f [] h = tt
keys_weaker P Q f (e ∷ es) h = (f e.0 h.0, keys_weaker P Q f es h.1)

or_true : (a b : Bool) → b ≡ true → (a || b) ≡ true
or_true true b h = refl
or_true false b h = h

-- a field is none of the others
pub differs : (fs : FieldShapes) (t u : Text) → is_field fs t ≡ true → is_field fs u ≡ false → bytes_eq t u ≡ false
differs fs t u h k = elim (cases_Bool (bytes_eq t u)) [
  | inl p ↦ absurd (true≢false (sym h ∙ ap (is_field fs) ((bytes_eq-Decides t u).0 p) ∙ k))
  | inr p ↦ p
]

pub is_first : (name : Text) (s : Shape) (default : Absence) (fs : FieldShapes) → is_field (field_shape name s default fs) name ≡ true
is_first name s default fs = ap (λ b. b || is_field fs name) (same_bytes name)

pub is_later : (name : Text) (s : Shape) (default : Absence) (fs : FieldShapes) (t : Text) → is_field fs t ≡ true → is_field (field_shape name s default fs) t ≡ true
is_later name s default fs t h = or_true (bytes_eq t name) (is_field fs t) h

-- ---- names that have been seen

abbrev pub Unseen : FieldShapes → List Text → Type 0
Unseen no_field_shapes seen = ⊤
Unseen (field_shape name s default fs) seen = (list_any (λ u. bytes_eq u name) seen ≡ false) × Unseen fs seen

pub unseen_none : (fs : FieldShapes) → Unseen fs []
unseen_none no_field_shapes = tt
unseen_none (field_shape name s default fs) = (refl, unseen_none fs)

neither : (a b : Bool) → a ≡ false → b ≡ false → (a || b) ≡ false
neither true b p q = p
neither false b p q = q

pub unseen_more : (fs : FieldShapes) (seen : List Text) (u : Text) → is_field fs u ≡ false → Unseen fs seen → Unseen fs (u ∷ seen)
unseen_more no_field_shapes seen u f h = tt
unseen_more (field_shape name s default fs) seen u f h =
    let (a, b) = or_false (bytes_eq u name) (is_field fs u) f in
    (neither _ _ a h.0, unseen_more fs seen u b h.1)
