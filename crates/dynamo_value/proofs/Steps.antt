-- The laws of one step after another.
use Rattle.std.proofs.Common.{◌≡◌, Result, Ok, Err, refl, sym, ap}
use Rattle.std.specs.Prelude.{is_ok}
use Rattle.std.specs.Result.{result_unwrap_or}
use Rattle.std.proofs.lemmas.Bool.{true≢false}
use Rattle.dynamo_value.specs.Steps.{◌>>=◌}

pub ok_same : {A E : Type 0} {x y : A} → ◌≡◌ {A = Result A E} (Ok x) (Ok y) → x ≡ y
ok_same {x = x} e = ap (λ r. result_unwrap_or r x) e

pub err_ok : {A E : Type 0} {f : E} {x : A} → ◌≡◌ {A = Result A E} (Err f) (Ok x) → ⊥
err_ok e = true≢false (sym (ap is_ok e))

-- where two steps give a value, the first gives one, of which the second gives it
pub bind_ok : {A B E : Type 0} (r : Result A E) (f : A → Result B E) (y : B) → r >>= f ≡ Ok y → (x : A) × (r ≡ Ok x) × (f x ≡ Ok y)
bind_ok (Ok x) f y h = (x, refl, h)
bind_ok (Err e) f y h = absurd (err_ok h)

pub bind_same : {A B E : Type 0} (r : Result A E) {f g : A → Result B E} → ((x : A) → f x ≡ g x) → (r >>= f) ≡ (r >>= g)
bind_same (Ok x) h = h x
bind_same (Err e) h = refl

pub bind_in_turn : {A B C E : Type 0} (r : Result A E) (f : A → Result B E) (g : B → Result C E) → ((r >>= f) >>= g) ≡ (r >>= λ x. f x >>= g)
bind_in_turn (Ok x) f g = refl
bind_in_turn (Err e) f g = refl

-- a step that gives what it takes
pub bind_itself : {A E : Type 0} (r : Result A E) → (r >>= λ x. Ok x) ≡ r
bind_itself (Ok x) = refl
bind_itself (Err e) = refl
