-- The order of the members of a set is one, and goes by keys and byte strings alone.
use Rattle.std.proofs.Common.{◌≡◌, true, false, refl, sym, ap, subst, ◌∙◌}
use Rattle.dynamo_shape.proofs.Common.{bytes_eq, true≢false, and_parts, IsTotalOrder, nat_cmp_total}
use Rattle.dynamo_shape.proofs.Common.{int_cmp_total, bool_cmp_total, one_truth, slice_cmp}
use Rattle.dynamo_shape.proofs.Common.{nat_list_cmp_total, is_lt, ordering_reverse, nat_cmp}
use Rattle.dynamo_shape.proofs.Common.{int_cmp, bool_cmp, Ordering, Less, Equal, Greater, Datum}
use Rattle.dynamo_shape.proofs.Common.{unit_variant, newtype_struct, kept, is_below, Same, same_key}
use Rattle.dynamo_ser.specs.Datum.{boolean, integer, char, string, bytes}
use Rattle.dynamo_shape.proofs.Equivalence.{same_sym}
use Rattle.dynamo_shape.proofs.Found.{same_bytes}
use Rattle.dynamo_shape.proofs.Pairs.{IsKeyDatum, same_is, self_kind, self_integer, self_number, self_variant, self_bool}

never : {A : Type 0} → false ≡ true → A
never h = absurd (true≢false (sym h))

is_less : (o : Ordering) → is_lt o ≡ true → o ≡ Less
is_less Less h = refl
is_less Equal h = never h
is_less Greater h = never h

chain : {K : Type 0} (cmp : K → K → Ordering) → IsTotalOrder cmp → (x y z : K) → is_lt (cmp x y) ≡ true → is_lt (cmp y z) ≡ true → is_lt (cmp x z) ≡ true
chain cmp total x y z p q = ap is_lt (total.trans x y z (is_less (cmp x y) p) (is_less (cmp y z) q))

not_below : {K : Type 0} (cmp : K → K → Ordering) → IsTotalOrder cmp → (x : K) → is_lt (cmp x x) ≡ true → ⊥
not_below cmp total x h = true≢false (sym h ∙ ap is_lt (total.antisymm x x) ∙ ap (λ o. is_lt (ordering_reverse o)) (is_less (cmp x x) h))

pub below_chain : (a b c : Datum) → is_below a b ≡ true → is_below b c ≡ true → is_below a c ≡ true
below_chain (boolean x) (boolean y) (boolean z) p q = chain bool_cmp bool_cmp_total x y z p q
below_chain (boolean x) (boolean y) c p q = never q
below_chain (boolean x) b c p q = never p
below_chain (integer k x) (integer j y) (integer i z) p q = chain int_cmp int_cmp_total x y z p q
below_chain (integer k x) (integer j y) c p q = never q
below_chain (integer k x) b c p q = never p
below_chain (char x) (char y) (char z) p q = chain nat_cmp nat_cmp_total x y z p q
below_chain (char x) (char y) c p q = never q
below_chain (char x) b c p q = never p
below_chain (string x) (string y) (string z) p q = chain (slice_cmp nat_cmp) nat_list_cmp_total x y z p q
below_chain (string x) (string y) c p q = never q
below_chain (string x) b c p q = never p
below_chain (bytes x) (bytes y) (bytes z) p q = chain (slice_cmp nat_cmp) nat_list_cmp_total x y z p q
below_chain (bytes x) (bytes y) c p q = never q
below_chain (bytes x) b c p q = never p
below_chain (unit_variant x) (unit_variant y) (unit_variant z) p q = chain nat_cmp nat_cmp_total x.index y.index z.index p q
below_chain (unit_variant x) (unit_variant y) c p q = never q
below_chain (unit_variant x) b c p q = never p
below_chain (newtype_struct m x) (newtype_struct n y) (newtype_struct o z) p q = below_chain x y z p q
below_chain (newtype_struct m x) (newtype_struct n y) c p q = never q
below_chain (newtype_struct m x) b c p q = never p
below_chain a b c p q = never p

pub below_itself : (a : Datum) → is_below a a ≡ true → ⊥
below_itself (boolean x) h = not_below bool_cmp bool_cmp_total x h
below_itself (integer k x) h = not_below int_cmp int_cmp_total x h
below_itself (char x) h = not_below nat_cmp nat_cmp_total x h
below_itself (string x) h = not_below (slice_cmp nat_cmp) nat_list_cmp_total x h
below_itself (bytes x) h = not_below (slice_cmp nat_cmp) nat_list_cmp_total x h
below_itself (unit_variant x) h = not_below nat_cmp nat_cmp_total x.index h
below_itself (newtype_struct name x) h = below_itself x h
below_itself a h = never h

-- what is below one, and what is above one, is a key or a byte string
pub below_keys : (a b : Datum) → is_below a b ≡ true → IsKeyDatum a × IsKeyDatum b
below_keys (boolean x) (boolean y) h = (self_bool x, self_bool y)
below_keys (integer k x) (integer j y) h = (rw (self_kind k, self_integer x) refl, rw (self_kind j, self_integer y) refl)
below_keys (char x) (char y) h = (self_number x, self_number y)
below_keys (string x) (string y) h = (same_bytes x, same_bytes y)
below_keys (bytes x) (bytes y) h = (same_bytes x, same_bytes y)
below_keys (unit_variant x) (unit_variant y) h = (self_variant x, self_variant y)
below_keys (newtype_struct m x) (newtype_struct n y) h = let k = below_keys x y h in (rw (same_bytes m, k.0) refl, rw (same_bytes n, k.1) refl)
below_keys a b h = never h

-- writing keeps all of them
pub key_kept : (d : Datum) → IsKeyDatum d → kept d ≡ d
key_kept (boolean b) h = refl
key_kept (integer k z) h = refl
key_kept (char c) h = refl
key_kept (string t) h = refl
key_kept (bytes t) h = refl
key_kept (unit_variant v) h = refl
key_kept (newtype_struct name d) h = ap (newtype_struct name) (key_kept d (and_parts (bytes_eq name name) (same_key d d) h).1)
key_kept d h = never h

below_still : (a b x y : Datum) → Same a x → Same b y → is_below a b ≡ true → is_below x y ≡ true
below_still a b x y p q h =
    let k = below_keys a b h in
    subst (λ z. is_below x z ≡ true) (same_is b y k.1 q) (subst (λ z. is_below z b ≡ true) (same_is a x k.0 p) h)

-- data that are the same have the same place
pub below_alike : (a b x y : Datum) → Same a x → Same b y → is_below a b ≡ is_below x y
below_alike a b x y p q = one_truth (is_below a b) (is_below x y) (below_still a b x y p q) (below_still x y a b (same_sym a x p) (same_sym b y q))
