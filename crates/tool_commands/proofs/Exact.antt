-- What `check` prints is determined by the input, unless memory runs out.
use Rattle.std.proofs.Common.{◌≡◌, ◌⊎◌, ℕ, List, Some, None, Result, Ok, Err, ap, inl, inr, ◌∙◌}
use Rattle.std.specs.Prelude.{codes}
use Rattle.serde_json.specs.Data.{Data}
use Rattle.dynamo_value.specs.Fault.{message}
use Rattle.dynamo_value.specs.Refusal.{Refused, fault, refusal_in}
use Rattle.dynamo_json.specs.Parsed.{parsed}
use Rattle.tool_commands.specs.Checked.{ChecksJson}
use Rattle.tool_commands.specs.Failed.{Failed, not_json, faulty, read_failed, no_memory}
use Rattle.tool_commands.specs.JsonText.{IsJson, ReadsJson, json_line}
use Rattle.tool_commands.specs.Lines.{error_line, no_memory_line}
use Rattle.tool_commands.specs.Printed.{Tells}
use Rattle.tool_commands.specs.Runs.{Ends}
use Rattle.tool_commands.specs.Words.{check}

-- this text with this status, or out of memory
abbrev pub PrintsOrLacks : List ℕ → ℕ → List ℕ → ℕ → Type 0
PrintsOrLacks line code text status = ((text ≡ line) × (status ≡ code)) ⊎ ((text ≡ no_memory_line) × (status ≡ 1))

abbrev IsOrLacks : Result (List ℕ) Failed → Result (List ℕ) Failed → Type 0
IsOrLacks one answer = (answer ≡ one) ⊎ (answer ≡ Err no_memory)

lacking : (text : List ℕ) (status : ℕ) → Tells (Err no_memory) text status → (text ≡ no_memory_line) × (status ≡ 1)
lacking text status (inl line, one) = (line, one)
lacking text status (inr line, one) = (line, one)

told_or_lacks : (told text : List ℕ) (status : ℕ) → Tells (Err (faulty (message told))) text status → PrintsOrLacks (error_line told) 1 text status
told_or_lacks told text status (inl line, one) = inl (line, one)
told_or_lacks told text status (inr line, one) = inr (line, one)

no_json_or_lacks : (text : List ℕ) (status : ℕ) → Tells (Err not_json) text status → PrintsOrLacks (error_line (codes "input is not JSON")) 1 text status
no_json_or_lacks text status (inl line, one) = inl (line, one)
no_json_or_lacks text status (inr line, one) = inr (line, one)

same_value : (bytes : List ℕ) (d json : Data) → IsJson bytes d → IsJson bytes json → d ≡ json
same_value bytes d json (utf8, is) (text, known) = cc

-- ---- a value that is read

accepted_answer : (bytes : List ℕ) (json : Data) → IsJson bytes json → refusal_in (parsed json) ≡ None
    → (j : Result Data Failed) (answer : Result (List ℕ) Failed) → ReadsJson (Ok bytes) j → ChecksJson j answer → IsOrLacks (Ok (json_line json)) answer
accepted_answer bytes json known accepted (Ok d) (Ok text) reads (none, is) = inl (ap Ok (is ∙ ap json_line (same_value bytes d json reads known)))
accepted_answer bytes json known accepted (Ok d) (Err (faulty f)) reads refused =
    let none : refusal_in (parsed d) ≡ None = ap (λ v. refusal_in (parsed v)) (same_value bytes d json reads known) ∙ accepted in
    let lacks : Refused None f = rw none at refused in
    elim lacks [ inl is ↦ inr (ap (λ g. Err (faulty g)) is) | inr never ↦ absurd never ]
accepted_answer bytes json known accepted (Ok d) (Err not_json) reads never = absurd never
accepted_answer bytes json known accepted (Ok d) (Err read_failed) reads never = absurd never
accepted_answer bytes json known accepted (Err not_json) answer none is = absurd (none json known)
accepted_answer bytes json known accepted (Err (faulty f)) answer lacks is = inr (is ∙ ap (λ g. Err (faulty g)) lacks)
accepted_answer bytes json known accepted (Err read_failed) answer never is = absurd never

-- DynamoDB JSON is printed as its compact form
pub accepted_line : (bytes : List ℕ) (json : Data) → IsJson bytes json → refusal_in (parsed json) ≡ None
    → (text : List ℕ) (status : ℕ) → Ends (Some check) (Ok bytes) text status → PrintsOrLacks (json_line json) 0 text status
accepted_line bytes json known accepted text status (answer, (j, reads, checks), shows) =
    elim (accepted_answer bytes json known accepted j answer reads checks) [
      | inl is ↦ inl (rw is at shows)
      | inr is ↦ inr (lacking text status (rw is at shows))
    ]

-- ---- a value that is refused by a known fault

refused_answer : (bytes : List ℕ) (json : Data) (told : List ℕ) → IsJson bytes json → refusal_in (parsed json) ≡ Some (fault (message told))
    → (j : Result Data Failed) (answer : Result (List ℕ) Failed) → ReadsJson (Ok bytes) j → ChecksJson j answer → IsOrLacks (Err (faulty (message told))) answer
refused_answer bytes json told known refusal (Ok d) (Ok text) reads (none, is) =
    let same : refusal_in (parsed d) ≡ Some (fault (message told)) = ap (λ v. refusal_in (parsed v)) (same_value bytes d json reads known) ∙ refusal in
    cc
refused_answer bytes json told known refusal (Ok d) (Err (faulty f)) reads refused =
    let same : refusal_in (parsed d) ≡ Some (fault (message told)) = ap (λ v. refusal_in (parsed v)) (same_value bytes d json reads known) ∙ refusal in
    let says : Refused (Some (fault (message told))) f = rw same at refused in
    elim says [ inl is ↦ inr (ap (λ g. Err (faulty g)) is) | inr is ↦ inl (ap (λ g. Err (faulty g)) is) ]
refused_answer bytes json told known refusal (Ok d) (Err not_json) reads never = absurd never
refused_answer bytes json told known refusal (Ok d) (Err read_failed) reads never = absurd never
refused_answer bytes json told known refusal (Err not_json) answer none is = absurd (none json known)
refused_answer bytes json told known refusal (Err (faulty f)) answer lacks is = inr (is ∙ ap (λ g. Err (faulty g)) lacks)
refused_answer bytes json told known refusal (Err read_failed) answer never is = absurd never

-- a known fault is reported by its line
pub refused_line : (bytes : List ℕ) (json : Data) (told : List ℕ) → IsJson bytes json → refusal_in (parsed json) ≡ Some (fault (message told))
    → (text : List ℕ) (status : ℕ) → Ends (Some check) (Ok bytes) text status → PrintsOrLacks (error_line told) 1 text status
refused_line bytes json told known refusal text status (answer, (j, reads, checks), shows) =
    elim (refused_answer bytes json told known refusal j answer reads checks) [
      | inl is ↦ told_or_lacks told text status (rw is at shows)
      | inr is ↦ inr (lacking text status (rw is at shows))
    ]

-- ---- what is no JSON

no_json_answer : (bytes : List ℕ) → ((json : Data) → IsJson bytes json → ⊥)
    → (j : Result Data Failed) (answer : Result (List ℕ) Failed) → ReadsJson (Ok bytes) j → ChecksJson j answer → IsOrLacks (Err not_json) answer
no_json_answer bytes none (Ok d) answer reads checks = absurd (none d reads)
no_json_answer bytes none (Err not_json) answer reads is = inl is
no_json_answer bytes none (Err (faulty f)) answer lacks is = inr (is ∙ ap (λ g. Err (faulty g)) lacks)
no_json_answer bytes none (Err read_failed) answer never is = absurd never

pub no_json_line : (bytes : List ℕ) → ((json : Data) → IsJson bytes json → ⊥)
    → (text : List ℕ) (status : ℕ) → Ends (Some check) (Ok bytes) text status → PrintsOrLacks (error_line (codes "input is not JSON")) 1 text status
no_json_line bytes none text status (answer, (j, reads, checks), shows) =
    elim (no_json_answer bytes none j answer reads checks) [
      | inl is ↦ no_json_or_lacks text status (rw is at shows)
      | inr is ↦ inr (lacking text status (rw is at shows))
    ]
