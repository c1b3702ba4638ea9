use Rattle.std.proofs.Common.{◌≡◌, ◌∙◌, Ok, Err, map, drop, sym, ap, arith, string_bytes}
use Rattle.dynamo_json.proofs.Common.{err_from_is_err_and, plain_number, plain_numbers, Refusal}
use Rattle.dynamo_value.specs.Refusal.{Says}
use Rattle.dynamo_json.proofs.Stored.{next_of, stopped}
use Rattle.dynamo_json.proofs.Unstored.{numbers_behind, number_read, number_refused, numbers_begun}
use Rattle.dynamo_json.proofs.json_text.Printer.plain_numbers.Goals as goal

pub returns-in_err-plain_number-clause-tokens : goal.returns-in_err-plain_number-clause-tokens
returns-in_err-plain_number-clause-tokens c =
    let now = c.loop-text.self.out.tokens in
    let xs = c.deref-text-items.result.now in
    let x = c.text-item.result in
    let failed = err_from_is_err_and c.from_residual-in_err-plain_number.result c.from_residual-in_err-plain_number.ensures.1 in
    let same : (why : Refusal) → plain_number now c.as_str.result.now ≡ Err why
    → plain_numbers c.args.self.now.out.tokens (map string_bytes c.args.set.now.items) ≡ Err why = λ why h.
    numbers_begun _ _ c.begin_array.new.self.tokens now (map string_bytes (drop c.loop-text.text-index xs))
    (map string_bytes xs) c.in_ok-begin_array.ensures.ok
    (ap (map string_bytes) (sym c.deref-text-items.ensures.value)) c.loop-text.invariant.tokens
    ∙ next_of (λ ts. numbers_behind now (map string_bytes ts)) (λ _. Err why) xs c.loop-text.text-index x (omega arith) c.text-item.is
    (λ rest. number_refused now (string_bytes x) (map string_bytes rest) why (ap (plain_number now) (sym c.as_str.ensures.value) ∙ h)) in
    stopped Says _ c.in_err-plain_number.field-0.0 _ _ c.plain_number.new.self.out.tokens _
    (failed.1 ∙ ap Err failed.2) c.in_err-plain_number.ensures.tokens same

pub loop-text-preserved : goal.loop-text-preserved
loop-text-preserved c =
    let now = c.loop-text.self.out.tokens in
    let new = c.plain_number.new.self.out.tokens in
    let xs = c.deref-text-items.result.now in
    let x = c.text-item.result in
    let read : plain_number now (string_bytes x) ≡ Ok new =
    ap (plain_number now) (sym c.as_str.ensures.value) ∙ c.in_ok-plain_number.ensures.tokens in
    record {
      tokens = sym (next_of (λ ts. numbers_behind now (map string_bytes ts))
          (λ ts. numbers_behind new (map string_bytes ts)) xs c.loop-text.text-index x (omega arith)
          c.text-item.is
          (λ rest. number_read now new (string_bytes x) (map string_bytes rest) read)) ∙ c.loop-text.invariant.tokens;
      before = c.plain_number.ensures.before ∙ c.loop-text.invariant.before;
    }
