-- What is answered where no attribute value was read.
use Rattle.std.proofs.Common.{◌≡◌, ℕ, List, Option, None, Some, Result, Ok, Err, refl, sym, ap, ◌∙◌, inl, inr}
use Rattle.std.proofs.lemmas.Option.{none-some}
use Rattle.std.specs.Prelude.{IsUtf8}
use Rattle.serde_json.specs.Data.{Data}
use Rattle.dynamo_value.specs.Fault.{Fault}
use Rattle.dynamo_value.specs.Refusal.{refusal_in}
use Rattle.dynamo_json.specs.OfText.{RefusedText}
use Rattle.dynamo_json.specs.Parsed.{parsed}
use Rattle.tool_commands.specs.Converted.{ToPlain}
use Rattle.tool_commands.specs.Failed.{Failed, not_json, faulty, read_failed, failed_by}
use Rattle.tool_commands.specs.JsonText.{OfJson}
use Rattle.tool_commands.specs.StoredValue.{Stands}

reason_in : {A : Type 0} → Failed → Result A Failed → Failed
reason_in f (Ok a) = f
reason_in f (Err g) = g

handed_on : {A B : Type 0} (f g : Failed) (r : Result A Failed) (q : Result B Failed) → r ≡ Err f → q ≡ Err f → r ≡ Err g → q ≡ Err g
unfolding reason_in
handed_on f g r q is made e = made ∙ ap (λ h. Err h) (ap (reason_in f) (sym is ∙ e))

pub plain_fails : (json : Result Data Failed) (f : Failed) → Stands json (Err f) → ToPlain json (Err f)
plain_fails (Err g) f e = handed_on f g _ _ refl refl e
plain_fails (Ok json) not_json e = absurd e
plain_fails (Ok json) read_failed e = absurd e
plain_fails (Ok json) (faulty fault) e = inl e

-- a text is no JSON, or has this fault
pub text_fails : (text : List ℕ) (found : Option Fault) → IsUtf8 text → RefusedText (λ json. refusal_in (parsed json)) text found → OfJson Stands (Ok text) (Err (failed_by found))
text_fails text None utf8 none = (Err not_json, λ json is. none-some json (sym none ∙ is.1), refl)
text_fails text (Some fault) utf8 (inl lacks) = (Err (faulty fault), lacks, refl)
text_fails text (Some fault) utf8 (inr refused) = (Ok refused.0, (utf8, refused.1), refused.2)
