-- What is read of what was written.
use Rattle.std.proofs.Common.{◌≡◌, ◌∙◌, Result, Ok, Err, sym, ap, subst, inl, inr}
use Rattle.serde_json.specs.Data.{Data}
use Rattle.dynamo_value.specs.Av.{Av}
use Rattle.dynamo_value.specs.Fault.{Fault, out_of_memory}
use Rattle.dynamo_value.specs.HasBytes.{HasBytes}
use Rattle.dynamo_value.specs.Kind.{fault_of}
use Rattle.dynamo_value.specs.Refusal.{Refused, refusal_in}
use Rattle.dynamo_value.specs.View.{view}
use Rattle.dynamo_value.specs.declared.attribute_value.AttributeValue.{AttributeValue}
use Rattle.dynamo_value.specs.declared.error.Error.{Error}
use Rattle.dynamo_ser.specs.Datum.{Datum}
use Rattle.dynamo_ser.specs.Writes.{Writes}
use Rattle.dynamo_write.specs.Answers.{AnswersDatum}
use Rattle.dynamo_write.specs.Written.{written}
use Rattle.dynamo_de.specs.Source.{Source, attribute}
use Rattle.dynamo_json.specs.Json.{json_of}
use Rattle.dynamo_json.specs.Parsed.{parsed}
use Rattle.dynamo_json.proofs.ReadBack.{value_back}
use Rattle.dynamo_value.proofs.Steps.{ok_same, err_ok}
use Rattle.dynamo_shape.specs.Clear.{Clear, NearlyClear}
use Rattle.dynamo_shape.specs.Conforms.{conforms}
use Rattle.dynamo_shape.specs.Kept.{kept}
use Rattle.dynamo_shape.specs.Laws.{ReadsByShape}
use Rattle.dynamo_shape.specs.ReadsBack.{Permitted}
use Rattle.dynamo_shape.specs.Same.{Same}
use Rattle.dynamo_shape.specs.Shape.{Shape}
use Rattle.dynamo_shape.proofs.Back.{back}
use Rattle.dynamo_shape.proofs.Exactly.{exactly}
use Rattle.dynamo_shape.proofs.Flat.{flat_clear}
use Rattle.dynamo_record.specs.About.{About}

-- ---- by way of DynamoDB JSON

-- what is read of the JSON value is the attribute value that it was made of
pub passes : (j : Data) (a b : Av) → HasBytes a → j ≡ json_of a → parsed j ≡ Ok b → b ≡ a
passes j a b h e r = ok_same (sym r ∙ ap parsed e ∙ value_back a h)

-- and nothing is refused
pub passes_always : (j : Data) (a : Av) (f : Fault) → HasBytes a → j ≡ json_of a → Refused (refusal_in (parsed j)) f → f ≡ out_of_memory
passes_always j a f h e r =
    let none : Refused (refusal_in (Ok a)) f = subst (λ x. Refused (refusal_in x) f) (ap parsed e ∙ value_back a h) r in
    elim none [ inl is ↦ is | inr x ↦ absurd x ]

-- ---- written and read by a shape

-- what conforms is written
pub writes_always : {W : Type 0} (s : Shape) (d : Datum) (e : Error) → NearlyClear s → conforms s d → Writes fault_of W AnswersDatum d (Err e) → fault_of e ≡ out_of_memory
writes_always s d e n c (inl (inl is)) = absurd (err_ok (sym is ∙ (back s d n c).2))
writes_always s d e n c (inl (inr x)) = x.1
writes_always s d e n c (inr x) = x.1

pub wrote : {W : Type 0} (d : Datum) (v : AttributeValue) → Writes fault_of W AnswersDatum d (Ok v) → written d ≡ Ok (view v)
wrote d v (inl is) = is
wrote d v (inr x) = absurd x.1

-- what a type is known to tell is what is written of it
pub conforming : {T : Type 0} (about : About T) (tells : T → Datum) → about.tells ≡ tells → (v : T) → conforms about.shape (about.tells v) → conforms about.shape (tells v)
conforming about tells told v c = subst (λ t. conforms about.shape (t v)) told c

module _ {T : Type 0} (about : About T) (tells : T → Datum) (told : about.tells ≡ tells) (reads : Source → Result T Fault → Type 0) (by_shape : ReadsByShape about.shape about.tells reads) where
  pub permitted : (source : Source) (w : T) → conforms about.shape (about.tells w) → reads source (Ok w) → Permitted about.shape source (Ok (tells w))
  permitted source w c r =
      let (d, e, h) = by_shape source (Ok w) r in
      subst (λ t. Permitted about.shape source (Ok (t w))) told (rw e (h c))

  pub refused : (source : Source) (f : Fault) → reads source (Err f) → Permitted about.shape source (Err f)
  refused source f r = by_shape source (Err f) r

  pub keeps : (v w : T) (a : Av) → NearlyClear about.shape → conforms about.shape (about.tells v) → written (tells v) ≡ Ok a → conforms about.shape (about.tells w) → reads (attribute a) (Ok w) → Same (kept (tells v)) (tells w)
  keeps v w a n c e k r = (exactly about.shape (tells v) a n (conforming about tells told v c) e (Ok (tells w))).0 (permitted (attribute a) w k r)

  pub not_refused : (v : T) (a : Av) (f : Fault) → NearlyClear about.shape → conforms about.shape (about.tells v) → written (tells v) ≡ Ok a → reads (attribute a) (Err f) → ⊥
  not_refused v a f n c e r = (exactly about.shape (tells v) a n (conforming about tells told v c) e (Err f)).0 (refused (attribute a) f r)

  pub itself : (v w : T) (a : Av) → Clear about.shape → conforms about.shape (about.tells v) → written (tells v) ≡ Ok a → conforms about.shape (about.tells w) → reads (attribute a) (Ok w) → about.same v w
  itself v w a clear c e k r =
      let back : Same (tells v) (tells w) = subst (λ d. Same d (tells w)) (flat_clear about.shape (tells v) clear (conforming about tells told v c)) (keeps v w a clear.nearly c e k r) in
      about.told_by_value v w c k (subst (λ t. Same (t v) (t w)) (sym told) back)
