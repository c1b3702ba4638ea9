use Rattle.std.proofs.Common.{◌≡◌, ◌<◌, ◌≤◌, [], ◌∷◌, length, refl, sym, ap, ◌∙◌, subst, arith}
use Rattle.dynamo_serde.specs.Tape.{ahead}
use Rattle.dynamo_serde.proofs.Laying.{past, none_ahead}
use Rattle.dynamo_serde.proofs.tape.Tape.pass.Goals as goal
use Rattle.dynamo_serde.proofs.tape.Tape.pass.Goals.{then-self-len, else-self-len}

pub returns-clause-takes : goal.returns-clause-takes
returns-clause-takes c t rest e =
    let ts = c.args.self.now.tokens.items in
    let at = c.args.self.now.at in
    elim c.if-self-len.branch [
      | then-self-len w ↦
          let lt : at < length ts = omega (arith, w.if-self-len.true, c.len.ensures) in
          (subst (λ s. ahead c.args.self.now ≡ t ∷ ahead s) (sym w.self-is) (e ∙ ap (λ r. t ∷ r) (sym (past ts at t rest lt e))), refl)
      | else-self-len w ↦
          let end : length ts ≤ at = omega (arith, w.if-self-len.false, c.len.ensures) in
          let same : t ∷ rest ≡ [] = sym e ∙ none_ahead ts at end in let no : ⊥ = cc (same) in absurd no
    ]
