-- Whatever plain JSON is made of a datum is written.
use Rattle.std.proofs.Common.{◌≡◌, ℕ, ℤ, pos, negsuc, Bool, true, false, cond, List, [], ◌∷◌, Result, Ok, Err, IfOk, map, refl}
use Rattle.dynamo_json.proofs.Common.{decimal, signed_decimal, Data, items_of, Av, Fault, ◌>>=◌}
use Rattle.dynamo_json.proofs.Common.{Datum, json_elements, json_pairs, collect, written_elements}
use Rattle.dynamo_json.proofs.Common.{written_pairs, map_of_entries, EachValue, collect_each}
use Rattle.dynamo_json.proofs.Common.{in_64_bits, byte_number, object_of_entries, plain}
use Rattle.dynamo_json.proofs.Common.{plain_elements, plain_pairs, plain_fields}
use Rattle.serde_json.specs.Data as json
use Rattle.dynamo_value.specs.Av as av
use Rattle.dynamo_ser.specs.Datum as datum
use Rattle.std.specs.Prelude.{encode_utf8}
use Rattle.serde_json.specs.Find.{of_integer}
use Rattle.dynamo_ser.specs.Key.{key_text}
use Rattle.dynamo_write.specs.Written.{one_member as single_map}
use Rattle.dynamo_json.specs.Plain.{members_of, one_member}
use Rattle.dynamo_json.specs.Square.{IsWritten}

abbrev AreWritten : json.Items → Type 0
AreWritten js = (as' : av.Elements) × (written_elements (json_elements js) ≡ Ok as')

then_if : {A B : Type 0} (P : A → Type 0) (Q : B → Type 0) (r : Result A Fault) (f : A → Result B Fault) → IfOk r P → ((a : A) → P a → IfOk (f a) Q) → IfOk (r >>= f) Q
then_if P Q (Ok a) f h k = k a h
then_if P Q (Err e) f h k = tt

members_written : (es : List (List ℕ × Data)) → EachValue IsWritten es → (fs : List (List ℕ × Av)) × (written_pairs (json_pairs (members_of es)) ≡ Ok fs)
members_written [] h = ([], refl)
members_written (e ∷ es) h = let t = members_written es h.1 in ((e.0, h.0.0) ∷ t.0, rw (h.0.1, t.1) refl)

object_written : (es : List (List ℕ × Data)) → EachValue IsWritten es → IsWritten (object_of_entries es)
object_written es h = let t = members_written (collect es) (collect_each IsWritten es h) in (map_of_entries t.0, rw t.1 refl)

array_written : (js : json.Items) → AreWritten js → IsWritten (json.array js)
array_written js h = (av.L h.0, rw h.1 refl)

single_written : (name : List ℕ) (j : Data) → IsWritten j → IsWritten (one_member name j)
single_written name j h = (single_map name h.0, rw h.1 refl)

bytes_written : (bytes : List ℕ) → AreWritten (items_of (map byte_number bytes))
bytes_written [] = (av.no_elements, refl)
bytes_written (b ∷ bytes) = let t = bytes_written bytes in (av.element (av.N (decimal b)) t.0, rw t.1 refl)

integer_written : (z : ℤ) → IsWritten (json.number (of_integer z))
integer_written (pos n) = (av.N (decimal n), refl)
integer_written (negsuc n) = (av.N (signed_decimal (negsuc n)), refl)

number_written : (fits : Bool) (z : ℤ) (f : Fault) → IfOk (cond fits (Ok (json.number (of_integer z))) (Err f)) IsWritten
number_written true z f = integer_written z
number_written false z f = tt

any_key : {A : Type 0} (r : Result A Fault) → IfOk r (λ _. Unit {0})
any_key (Ok x) = tt
any_key (Err e) = tt

mutual
  pub plain_is_written : (d : Datum) → IfOk (plain d) IsWritten
  plain_is_written (datum.boolean b) = (av.Boolean b, refl)
  plain_is_written (datum.integer kind z) = number_written (in_64_bits z) z _
  plain_is_written (datum.char c) = (av.S (encode_utf8 c), refl)
  plain_is_written (datum.string text) = (av.S text, refl)
  plain_is_written (datum.bytes bytes) = array_written (items_of (map byte_number bytes)) (bytes_written bytes)
  plain_is_written datum.none = (av.Null true, refl)
  plain_is_written datum.unit = (av.Null true, refl)
  plain_is_written (datum.some content) = plain_is_written content
  plain_is_written (datum.unit_struct name) = (av.Null true, refl)
  plain_is_written (datum.unit_variant variant) = (av.S variant.name, refl)
  plain_is_written (datum.newtype_struct name content) = plain_is_written content
  plain_is_written (datum.newtype_variant variant content) = then_if IsWritten IsWritten (plain content) _ (plain_is_written content) (λ j h. single_written variant.name j h)
  plain_is_written (datum.seq ds) = then_if AreWritten IsWritten (plain_elements ds) _ (elements_are ds) array_written
  plain_is_written (datum.tuple ds) = then_if AreWritten IsWritten (plain_elements ds) _ (elements_are ds) array_written
  plain_is_written (datum.tuple_struct name ds) = then_if AreWritten IsWritten (plain_elements ds) _ (elements_are ds) array_written
  plain_is_written (datum.tuple_variant variant ds) = then_if AreWritten IsWritten (plain_elements ds) _ (elements_are ds)
      (λ js h. single_written variant.name (json.array js) (array_written js h))
  plain_is_written (datum.map ps) = then_if (EachValue IsWritten) IsWritten (plain_pairs ps) _ (pairs_are ps) object_written
  plain_is_written (datum.struct name fs) = then_if (EachValue IsWritten) IsWritten (plain_fields fs) _ (fields_are fs) object_written
  plain_is_written (datum.struct_variant variant fs) = then_if (EachValue IsWritten) IsWritten (plain_fields fs) _ (fields_are fs)
      (λ es h. single_written variant.name (object_of_entries es) (object_written es h))
  plain_is_written (datum.refuse text) = tt

  elements_are : (ds : datum.Elements) → IfOk (plain_elements ds) AreWritten
  elements_are datum.no_elements = (av.no_elements, refl)
  elements_are (datum.element d ds) = then_if IsWritten AreWritten (plain d) _ (plain_is_written d) (λ j h.
      then_if AreWritten AreWritten (plain_elements ds) _ (elements_are ds) (λ js t. (av.element h.0 t.0, rw (h.1, t.1) refl)))

  pairs_are : (ps : datum.Pairs) → IfOk (plain_pairs ps) (EachValue IsWritten)
  pairs_are datum.no_pairs = tt
  pairs_are (datum.pair k d ps) = then_if (λ _. Unit {0}) (EachValue IsWritten) (key_text k) _ (any_key (key_text k)) (λ text _.
      then_if IsWritten (EachValue IsWritten) (plain d) _ (plain_is_written d) (λ j h.
      then_if (EachValue IsWritten) (EachValue IsWritten) (plain_pairs ps) _ (pairs_are ps) (λ es rest. (h, rest))))

  fields_are : (fs : datum.Fields) → IfOk (plain_fields fs) (EachValue IsWritten)
  fields_are datum.no_fields = tt
  fields_are (datum.field name d fs) = then_if IsWritten (EachValue IsWritten) (plain d) _ (plain_is_written d) (λ j h.
      then_if (EachValue IsWritten) (EachValue IsWritten) (plain_fields fs) _ (fields_are fs) (λ es rest. (h, rest)))
