-- The values of plain JSON as what the builders make.
use Rattle.std.specs.Prelude.{◌≡◌, ◌⊎◌, Ok, Err, refl}
use Rattle.std.proofs.Common.{inl, inr}
use Rattle.serde_json.specs.Data as json
use Rattle.serde_json.specs.Data.{Data}
use Rattle.serde_json.specs.View.{view}
use Rattle.serde_json.specs.declared.value.Value.{Value}
use Rattle.dynamo_value.specs.Fault.{out_of_memory}
use Rattle.dynamo_value.specs.Kind.{fault_of}
use Rattle.dynamo_value.specs.declared.error.Error.{Error}
use Rattle.dynamo_ser.specs.Datum.{Datum}
use Rattle.dynamo_write.specs.Target.{AboutTarget}
use Rattle.dynamo_json.specs.Plain.{members_of, plain, plain_elements, plain_pairs, plain_fields}
use Rattle.dynamo_json.specs.PlainAnswers.{AnswersPlain}

abbrev pub plain_values : AboutTarget Value
plain_values = record {
  Seen = Data;
  Parts = json.Items;
  seen = view;
  no_parts = json.no_items;
  part = json.item;
  list = json.array;
  map = λ es. json.object (members_of es);
  written = plain;
  elements = plain_elements;
  pairs = plain_pairs;
  fields = plain_fields;
  no_element = refl;
  an_element = λ d ds. refl;
  no_pair = refl;
  a_pair = λ k d ps. refl;
  no_field = refl;
  a_field = λ name d fs. refl;
}

-- what the serializer answers is what the datum is written as
pub answers : (d : Datum) (v : Value) → AnswersPlain d (Ok v) → plain d ≡ Ok (view v)
answers d v is = is

pub refuses : (d : Datum) (e : Error) → AnswersPlain d (Err e)
    → (plain d ≡ Err (fault_of e)) ⊎ (fault_of e ≡ out_of_memory)
refuses d e is = elim is [ inl x ↦ inl x | inr y ↦ inr y.1 ]
