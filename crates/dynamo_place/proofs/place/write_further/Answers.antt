use Rattle.std.proofs.Common.{Ok, refl, sym, subst}
use Rattle.std.proofs.Debugs.{Shows, shows_then, shows_from}
use Rattle.dynamo_place.specs.PlaceText.{further_text}
use Rattle.dynamo_place.proofs.Texts.{further_texts-take}
use Rattle.dynamo_place.proofs.place.write_further.Goals as goal

pub loop-step-preserved : goal.loop-step-preserved
loop-step-preserved g c = λ p.
    let took = g.W.Write.write_str_gives in
    let step = c.step-item.result in
    let f = c.write_further.new.f in
    let done = Ok c.in_ok-write_further.field-0 in
    let both = shows_then took _ c.loop-step.f f _ (further_text step) (c.loop-step.invariant p)
    (λ plain. shows_from took c.loop-step.f f done (further_text step) c.in_ok-write_further.ensures plain refl) in
    subst (λ text. Shows took c.args.f.now text f)
    (sym (further_texts-take c.args.steps.now c.loop-step.step-index step c.loop-step-test.true c.step-item.is)) both
