-- What is read permits flat d, and only what is the same.
use Rattle.std.proofs.Common.{◌≡◌, ◌↔◌, Result, Ok, Err, sym, ap, subst, ◌∙◌}
use Rattle.dynamo_value.proofs.Steps.{ok_same}
use Rattle.dynamo_shape.proofs.Equivalence.{same_sym, same_trans}
use Rattle.dynamo_shape.proofs.Back.{back}
use Rattle.dynamo_shape.proofs.Common.{value, attribute, Datum, NearlyClear, conforms, kept}
use Rattle.dynamo_shape.proofs.Common.{Permits, read, ReadsExactly, Same, Shape, Av, Fault, written}

agree : (x y : Datum) (r : Result Datum Fault) → Same y x → (Permits Same (value x) r ↔ Permits Same (value y) r)
agree x y (Ok z) h = ((λ k. same_trans y x z h k), λ k. same_trans x y z (same_sym y x h) k)
agree x y (Err f) h = ((λ k. k), λ k. k)

pub exactly : (s : Shape) (d : Datum) (a : Av) → NearlyClear s → conforms s d → written d ≡ Ok a → ReadsExactly s d a
exactly s d a n c h r =
    let b = back s d n c in
    let read_as = ap (λ v. read s (attribute v)) (ok_same (sym h ∙ b.2)) ∙ b.3 in
    subst (λ x. Permits Same x r ↔ Permits Same (value (kept d)) r) (sym read_as) (agree b.1 (kept d) r b.4)
