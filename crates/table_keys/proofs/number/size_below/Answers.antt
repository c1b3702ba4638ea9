use Rattle.std.proofs.Common.{◌≡◌, ◌+◌, ◌-◌, ◌*◌, ◌^◌, ◌<◌, refl, subst, ⊎_elim, arith}
use Rattle.table_keys.specs.Neighbours.{IsNextSize}
use Rattle.table_keys.proofs.NextSizes.{after_digits, after_nines}
use Rattle.table_keys.proofs.number.size_below.Goals as goal

pub returns-then-coefficient-gt-LEAST-clause-next : goal.returns-then-coefficient-gt-LEAST-clause-next
returns-then-coefficient-gt-LEAST-clause-next c =
    let small : c.args.coefficient < 10 ^ 38 =
    ⊎_elim (λ z. absurd (omega (arith, z.0, c.requires.some))) (λ d. d.1) c.requires.full in
    let one_more : c.args.coefficient - 1 + 1 ≡ c.args.coefficient = omega (arith, c.requires.some) in
    subst (λ n. IsNextSize ((c.args.coefficient - 1) * 10 ^ c.args.power) (n * 10 ^ c.args.power)) one_more
    (after_digits (c.args.coefficient - 1) c.args.power (omega (arith, c.if-coefficient-gt-LEAST.true)) (omega (arith, small, one_more)))

pub returns-then-power-gt0-clause-next : goal.returns-then-power-gt0-clause-next
returns-then-power-gt0-clause-next c =
    let least : 10 ^ 37 ≡ c.args.coefficient =
    ⊎_elim (λ z. absurd (omega (arith, z.0, c.requires.some))) (λ d. omega (arith, d.0, c.if-coefficient-gt-LEAST.false)) c.requires.full in
    let one_more : c.args.power - 1 + 1 ≡ c.args.power = omega (arith, c.if-power-gt0.true) in
    subst (λ n. IsNextSize ((10 ^ 38 - 1) * 10 ^ (c.args.power - 1)) (n * 10 ^ c.args.power)) least
    (subst (λ p. IsNextSize ((10 ^ 38 - 1) * 10 ^ (c.args.power - 1)) (10 ^ 37 * 10 ^ p)) one_more
    (after_nines (10 ^ 38 - 1) (c.args.power - 1) refl))
