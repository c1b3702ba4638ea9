-- Keys are equal exactly where they tell the same datum.
use Rattle.std.proofs.Common.{◌≡◌, ℕ, pos, Bool, true, false, cond, refl, List, String, Global, string_bytes, sym, ap, ◌∙◌}
use Rattle.std.proofs.lemmas.Bool.Decides.{Decides-eqb, Decides-int_eq}
use Rattle.dynamo_shape.proofs.Common.{booleans_Decides, pointwise, bytes_decides, eq_by_cmp}
use Rattle.dynamo_shape.proofs.Common.{int_eq, is_eq, is_lt, nat_cmp, nat_eq, nat_lt, Ordering}
use Rattle.dynamo_shape.proofs.Common.{Less, Equal, Greater, IntegerKind, Datum, BelowAsTold}
use Rattle.dynamo_shape.proofs.Common.{EqualAsTold}
use Rattle.dynamo_ser.specs.Datum as datum
use Rattle.dynamo_ser.specs.Parts.{bool_in, integer_in, number_in, text_in}
use Rattle.std.specs.Bool.{beq}
use Rattle.std.specs.String.{string_eq}

pub bool_equal : EqualAsTold datum.boolean beq
bool_equal a b = let d = booleans_Decides a b in (λ t. ap datum.boolean (d.0 t), λ e. d.1 (ap bool_in e))

pub unsigned_equal : (k : IntegerKind) → EqualAsTold (λ n. datum.integer k (pos n)) nat_eq
unsigned_equal k a b = let d = Decides-eqb a b in (λ t. ap (λ n. datum.integer k (pos n)) (d.0 t), λ e. d.1 (ap number_in e))

-- natural numbers are in the order of the integers that they tell
pub unsigned_below : (k : IntegerKind) → BelowAsTold (λ n. datum.integer k (pos n)) nat_cmp
unsigned_below k a b = either (nat_lt a b) (nat_eq a b) (nat_lt b a)
  where
    either : (x y z : Bool) → is_lt (cond x Less (cond y Equal Greater)) ≡ is_lt (cond x Less (cond z Greater Equal))
    either true y z = refl
    either false true true = refl
    either false true false = refl
    either false false true = refl
    either false false false = refl

pub signed_equal : (k : IntegerKind) → EqualAsTold (datum.integer k) int_eq
signed_equal k a b = let d = Decides-int_eq a b in (λ t. ap (datum.integer k) (d.0 t), λ e. d.1 (ap integer_in e))

pub char_equal : EqualAsTold datum.char nat_eq
char_equal a b = let d = Decides-eqb a b in (λ t. ap datum.char (d.0 t), λ e. d.1 (ap number_in e))

pub text_equal : EqualAsTold {K = String Global} (λ t. datum.string (string_bytes t)) string_eq
text_equal a b = let d = bytes_decides (string_bytes a) (string_bytes b) in (λ t. ap datum.string (d.0 t), λ e. d.1 (ap text_in e))

pub bytes_equal : {T : Type 0} (seen : T → List ℕ) → EqualAsTold (λ b. datum.bytes (seen b)) (λ a b. pointwise nat_eq (seen a) (seen b))
bytes_equal seen a b = let d = bytes_decides (seen a) (seen b) in (λ t. ap datum.bytes (d.0 t), λ e. d.1 (ap text_in e))

-- they are equal in the order exactly there, too
pub in_order : {K : Type 0} (tells : K → Datum) (eq : K → K → Bool) (cmp : K → K → Ordering) → EqualAsTold tells eq → ((x y : K) → eq x y ≡ is_eq (cmp x y)) → EqualAsTold tells (eq_by_cmp cmp)
in_order tells eq cmp equal matches x y = (λ t. (equal x y).0 (matches x y ∙ t), λ e. sym (matches x y) ∙ (equal x y).1 e)
