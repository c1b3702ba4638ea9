-- What follows where a chain of steps gives a value.
use Rattle.std.proofs.Common.{◌≡◌, Result, Ok, Err, Option, Some, None, IfOk, ap}
use Rattle.std.specs.Result.{result_ok}
use Rattle.std.proofs.lemmas.Option.{none-some, same_Some}
use Rattle.dynamo_json.proofs.Common.{Refusal, or_refuse, ok_same, err_ok}

pub was_some : {A : Type 0} (r : Refusal) (o : Option A) (x : A) → or_refuse r o ≡ Ok x → o ≡ Some x
was_some r (Some y) x h = ap Some (ok_same h)
was_some r None x h = absurd (err_ok h)

pub was_ok : {A E : Type 0} (r : Result A E) (x : A) → result_ok r ≡ Some x → r ≡ Ok x
was_ok (Ok y) x h = ap Ok (same_Some y x h)
was_ok (Err e) x h = absurd (none-some x h)

pub if_ok : {A E : Type 0} {P Q : A → Type 0} (r : Result A E) → ((x : A) → P x → Q x) → IfOk r P → IfOk r Q
if_ok (Ok x) f h = f x h
if_ok (Err e) f h = tt
