-- The text of the further steps, one step after another.
use Rattle.std.proofs.Common.{◌≡◌, ◌∙◌, ℕ, ◌+◌, ◌<◌, List, [], ◌∷◌, ◌++◌, length, get_or, take, Option, Some, None, refl, sym, ap, append-nil}
use Rattle.std.specs.Fmt.{◌++?◌}
use Rattle.std.proofs.lemmas.List.{take_more}
use Rattle.std.proofs.Output.{then_text_assoc}
use Rattle.dynamo_place.specs.PlaceText.{further_text, further_texts}
use Rattle.dynamo_place.specs.declared.place.Step.{Step}

nothing_then : (o : Option (List ℕ)) → Some [] ++? o ≡ o
nothing_then None = refl
nothing_then (Some a) = refl

then_nothing : (o : Option (List ℕ)) → o ++? Some [] ≡ o
then_nothing None = refl
then_nothing (Some a) = ap Some (append-nil a)

further_texts-push : (steps : List Step) (step : Step) → further_texts (steps ++ step ∷ []) ≡ further_texts steps ++? further_text step
further_texts-push [] step = then_nothing (further_text step) ∙ sym (nothing_then (further_text step))
further_texts-push (first ∷ steps) step =
    ap (λ o. further_text first ++? o) (further_texts-push steps step) ∙ sym (then_text_assoc (further_text first) (further_texts steps) (further_text step))

-- one more step
pub further_texts-take : (steps : List Step) (i : ℕ) (step : Step) → i < length steps → step ≡ get_or steps i step
    → further_texts (take (i + 1) steps) ≡ further_texts (take i steps) ++? further_text step
further_texts-take steps i step lt at =
    ap further_texts (take_more steps i step lt ∙ ap (λ x. take i steps ++ x ∷ []) (sym at)) ∙ further_texts-push (take i steps) step
