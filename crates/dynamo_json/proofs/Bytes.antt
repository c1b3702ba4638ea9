-- The array of a byte string's numbers, one number more at each step.
use Rattle.std.proofs.Common.{◌≡◌, ℕ, ◌+◌, ◌<◌, List, [], ◌∷◌, ◌++◌, length, get_or, take, map, Vec, Global, sym, ap, ◌∙◌}
use Rattle.dynamo_json.proofs.Common.{map-append, take_more, items_of, Value, Array, view-Array}
use Rattle.dynamo_json.proofs.Common.{byte_number}
use Rattle.serde_json.specs.Data as json
use Rattle.serde_json.specs.View.{view}

pub number_pushed : (vs : List Value) (v : Value) (bytes : List ℕ) (i : ℕ) → i < length bytes → map view vs ≡ map byte_number (take i bytes) → view v ≡ byte_number (get_or bytes i 0)
    → map view (vs ++ v ∷ []) ≡ map byte_number (take (i + 1) bytes)
number_pushed vs v bytes i within so_far is =
    map-append view vs (v ∷ []) ∙ (λ j. so_far j ++ is j ∷ []) ∙ sym (map-append byte_number (take i bytes) (get_or bytes i 0 ∷ [])) ∙ sym (ap (map byte_number) (take_more bytes i 0 within))

pub numbers_view : (numbers : Vec Value Global) (bytes : List ℕ) → map view numbers.items ≡ map byte_number bytes → view (Array numbers) ≡ json.array (items_of (map byte_number bytes))
numbers_view numbers bytes is = view-Array numbers ∙ ap (λ js. json.array (items_of js)) is
