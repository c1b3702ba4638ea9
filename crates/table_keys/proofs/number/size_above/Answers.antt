use Rattle.std.proofs.Common.{◌≡◌, ◌+◌, ◌*◌, ◌^◌, ◌<◌, ◌≤◌, subst, sym, ap, ◌∙◌, inr, ⊎_elim, arith}
use Rattle.std.proofs.Math.Nat.{zero-mul}
use Rattle.table_keys.specs.Neighbours.{IsNextSize}
use Rattle.table_keys.proofs.NextSizes.{after_digits, after_nines, after_zero, greatest}
use Rattle.table_keys.proofs.number.size_above.Goals as goal

pub returns-then-coefficient-eq0 : goal.returns-then-coefficient-eq0
returns-then-coefficient-eq0 c =
    let none = ap (λ n. n * 10 ^ c.args.power) c.if-coefficient-eq0.true ∙ zero-mul (10 ^ c.args.power) in
    (inr (omega arith, omega arith), omega arith, subst (λ n. IsNextSize n (10 ^ 37)) (sym none) after_zero)

pub returns-then-coefficient : goal.returns-then-coefficient
returns-then-coefficient c =
    let small : c.args.coefficient + 1 < 10 ^ 38 = omega (arith, c.if-coefficient.true) in
    let large : 10 ^ 37 ≤ c.args.coefficient =
    ⊎_elim (λ z. absurd (omega (arith, z.0, c.if-coefficient-eq0.false))) (λ d. d.0) c.requires in
    (inr (omega arith, small), omega (arith, c.ranges.power.fits), after_digits c.args.coefficient c.args.power large small)

pub returns-then-power-lt255 : goal.returns-then-power-lt255
returns-then-power-lt255 c =
    let full : c.args.coefficient + 1 ≡ 10 ^ 38 =
    ⊎_elim (λ z. absurd (omega (arith, z.0, c.if-coefficient-eq0.false))) (λ d. omega (arith, d.1, c.if-coefficient.false)) c.requires in
    (inr (omega arith, omega arith), omega (arith, c.if-power-lt255.true), after_nines c.args.coefficient c.args.power full)

pub returns-else-power-lt255 : goal.returns-else-power-lt255
returns-else-power-lt255 c =
    let full : c.args.coefficient + 1 ≡ 10 ^ 38 =
    ⊎_elim (λ z. absurd (omega (arith, z.0, c.if-coefficient-eq0.false))) (λ d. omega (arith, d.1, c.if-coefficient.false)) c.requires in
    greatest c.args.coefficient c.args.power full c.if-power-lt255.false
