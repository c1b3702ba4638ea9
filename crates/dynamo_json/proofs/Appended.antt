-- What is in a text after a value was written to it, or was not.
use Rattle.std.proofs.Common.{◌≡◌, ℕ, List, [], ◌++◌, Bool, if◌then◌else◌, Result, Ok, Err, OnOk, MatchResult, is_ok, ap, ap₂, ◌∙◌}
use Rattle.dynamo_json.proofs.Common.{Token, Data, compact_text, tokens_of}
use Rattle.json.specs.Print.{print}
use Rattle.serde_json.proofs.Texts.{print-outline}

pub appended : {E : Type 0} (json : Data) (done : Result (Unit {0}) E) (whole : Bool) (text old before : List ℕ) (none tokens : List Token)
    → whole ≡ is_ok done → before ≡ old → none ≡ [] → OnOk done (tokens ≡ none ++ tokens_of json)
    → text ≡ (if whole then before ++ print tokens else before)
    → MatchResult done (λ _. text ≡ old ++ compact_text json) (λ _. text ≡ old)
appended json (Ok x) whole text old before none tokens is same empty wrote holds =
    let written : tokens ≡ tokens_of json = wrote ∙ ap (λ (ts : List Token). ts ++ tokens_of json) empty in
    holds ∙ ap (λ (b : Bool). if b then before ++ print tokens else before) is ∙ ap₂ (λ (xs ys : List ℕ). xs ++ ys) same (ap print written ∙ print-outline json)
appended json (Err e) whole text old before none tokens is same empty wrote holds =
    holds ∙ ap (λ (b : Bool). if b then before ++ print tokens else before) is ∙ same
