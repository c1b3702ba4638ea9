-- `==` of lists is true exactly where they are the same element by element.
use Rattle.std.proofs.Common.{◌&&◌, Bool, true, false, List, [], ◌∷◌, refl, sym}
use Rattle.std.proofs.lemmas.Bool.{true≢false}
use Rattle.std.specs.Bool.{Decides}
use Rattle.dynamo_shape.specs.ByValue.{SameEach}
use Rattle.std.specs.Cmp.Lexicographic.{pointwise}

pub both_decide : (a b : Bool) (P Q : Type 0) → Decides a P → Decides b Q → Decides (a && b) (P × Q)
both_decide true b P Q p q = (λ e. (p.0 refl, q.0 e), λ x. q.1 x.1)
both_decide false b P Q p q = (λ e. absurd (true≢false (sym e)), λ x. absurd (true≢false (sym (p.1 x.0))))

pub each_decides : {A : Type 0} (eq : A → A → Bool) (same : A → A → Type 0) → ((a b : A) → Decides (eq a b) (same a b)) → (xs ys : List A) → Decides (pointwise eq xs ys) (SameEach same xs ys)
each_decides eq same h [] [] = (λ _. tt, λ _. refl)
each_decides eq same h [] (y ∷ ys) = (λ e. absurd (true≢false (sym e)), λ x. absurd x)
each_decides eq same h (x ∷ xs) [] = (λ e. absurd (true≢false (sym e)), λ x. absurd x)
each_decides eq same h (x ∷ xs) (y ∷ ys) = both_decide (eq x y) (pointwise eq xs ys) (same x y) (SameEach same xs ys) (h x y) (each_decides eq same h xs ys)
