use Rattle.std.proofs.Common.{◌≡◌, ◌++◌, string_bytes, encode_utf8, ap, ◌∙◌, arith}
use Rattle.std.proofs.lemmas.Grind.{common_steps}
use Rattle.derive_declarations.specs.Renamed.{dashed, kebab}
use Rattle.derive_declarations.proofs.Characters.{kebab_char, goes_on}
use Rattle.derive_declarations.proofs.rename.kebab.Goals as goal
use Rattle.derive_declarations.proofs.rename.kebab.Goals.{then-c-eq95, else-c-eq95}

pub loop-c-preserved : goal.loop-c-preserved
loop-c-preserved c =
    let l = c.loop-c in
    let pushed : c.if-c-eq95.push ≡ dashed c.in-Some.c = elim c.if-c-eq95.branch [
      | then-c-eq95 w ↦ grind (arith, common_steps)
      | else-c-eq95 w ↦ grind (arith, common_steps)
    ] in
    goes_on _ _ _ _ _ _ l.invariant
    (ap kebab c.in-Some.ensures.steps.0 ∙ kebab_char c.in-Some.c _)
    (c.in_ok-push.ensures.bytes ∙ ap (λ d. string_bytes l.name ++ encode_utf8 d) pushed)
