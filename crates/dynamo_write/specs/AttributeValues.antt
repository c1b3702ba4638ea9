-- The attribute values as what the builders make.
use Rattle.std.specs.Prelude.{◌≡◌, ◌⊎◌, Ok, Err, refl}
use Rattle.std.proofs.Common.{inl, inr}
use Rattle.dynamo_value.specs.Av as av
use Rattle.dynamo_value.specs.Av.{Av, Elements, members_of}
use Rattle.dynamo_value.specs.Fault.{out_of_memory}
use Rattle.dynamo_value.specs.Kind.{fault_of}
use Rattle.dynamo_value.specs.View.{view}
use Rattle.dynamo_value.specs.declared.attribute_value.AttributeValue.{AttributeValue}
use Rattle.dynamo_value.specs.declared.error.Error.{Error}
use Rattle.dynamo_ser.specs.Datum.{Datum}
use Rattle.dynamo_write.specs.Answers.{AnswersDatum}
use Rattle.dynamo_write.specs.Target.{AboutTarget}
use Rattle.dynamo_write.specs.Written.{written, written_elements, written_pairs, written_fields}

abbrev pub attribute_values : AboutTarget AttributeValue
attribute_values = record {
  Seen = Av;
  Parts = Elements;
  seen = view;
  no_parts = av.no_elements;
  part = av.element;
  list = av.L;
  map = λ es. av.M (members_of es);
  written = written;
  elements = written_elements;
  pairs = written_pairs;
  fields = written_fields;
  no_element = refl;
  an_element = λ d ds. refl;
  no_pair = refl;
  a_pair = λ k d ps. refl;
  no_field = refl;
  a_field = λ name d fs. refl;
}

-- what the serializer answers is what the datum is written as
pub answers : (d : Datum) (a : AttributeValue) → AnswersDatum d (Ok a) → written d ≡ Ok (view a)
answers d a is = is

pub refuses : (d : Datum) (e : Error) → AnswersDatum d (Err e) → (written d ≡ Err (fault_of e)) ⊎ (fault_of e ≡ out_of_memory)
refuses d e is = elim is [ inl x ↦ inl x | inr x ↦ inr x.1 ]
