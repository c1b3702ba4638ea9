use Rattle.std.proofs.Common.{◌≡◌, ◌++◌, if◌then◌else◌, string_bytes, encode_utf8, ap, ◌∙◌, arith}
use Rattle.std.proofs.lemmas.Grind.{common_steps}
use Rattle.std.specs.Char.{to_ascii_uppercase as upper}
use Rattle.derive_declarations.specs.Renamed.{pascal_from}
use Rattle.derive_declarations.proofs.Characters.{pascal_char, goes_on}
use Rattle.derive_declarations.proofs.rename.pascal.Goals as goal
use Rattle.derive_declarations.proofs.rename.pascal.Goals.{then-begins, else-begins}

pub loop-c-preserved : goal.loop-c-preserved
loop-c-preserved c =
    let l = c.loop-c in
    let letter = c.in-Some.c in
    let pushed : c.if-begins.push ≡ (if l.begins then upper letter else letter) =
    elim c.if-begins.branch [
      | then-begins w ↦ grind (arith, common_steps)
      | else-begins w ↦ grind (arith, common_steps)
    ] in
    goes_on _ _ _ _ _ _ l.invariant
    (ap (pascal_from l.begins) c.in-Some.ensures.steps.0
    ∙ pascal_char l.begins letter _ c.if-c-eq95.false)
    (c.in_ok-push.ensures.bytes ∙ ap (λ d. string_bytes l.name ++ encode_utf8 d) pushed)
