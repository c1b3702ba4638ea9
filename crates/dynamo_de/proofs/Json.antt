-- Reading a JSON value, one level at a time.
use Rattle.std.proofs.Common.{◌≡◌, ℕ, ℤ, suc, ◌<◌, ◌*◌, ◌+◌, Bool, true, false, List, [], ◌∷◌, ◌++◌, map, Option, Some, None, Result, Ok, Err, refl, ap, sym, ◌∙◌}
use Rattle.std.specs.Prelude.{if◌then◌else◌}
use Rattle.std.proofs.lemmas.Bool.{true≢false}
use Rattle.serde_json.specs.Data as json
use Rattle.serde_json.specs.Data.{Data}
use Rattle.serde_json.specs.View.{view, items_of, items_view}
use Rattle.serde_json.specs.declared.value.Value.{Value}
use Rattle.dynamo_value.specs.Av as av
use Rattle.dynamo_value.specs.Fault.{Fault, failed_to_parse_float}
use Rattle.dynamo_value.specs.Integer.{i64, u64}
use Rattle.dynamo_de.specs.Answer as answer
use Rattle.dynamo_de.specs.Answer.{Answer}
use Rattle.dynamo_value.specs.Steps.{◌>>=◌}
use Rattle.dynamo_de.specs.Ignored.{source_height, sources_height, entries_height}
use Rattle.dynamo_de.specs.JsonItems.{items_before}
use Rattle.dynamo_de.specs.Number.{parse, is_float_text}
use Rattle.dynamo_de.specs.ReadJson.{number_or, read_number, read_numbers, read_blobs, read_value, read_elements, read_members, read_json, read_sources, read_entries, read_shown}
use Rattle.dynamo_de.specs.Shown.{Shown, shown, number_shown, signed_or_other, unsigned_or_float}
use Rattle.dynamo_de.specs.Shows.{seen}
use Rattle.dynamo_de.specs.Showing as showing
use Rattle.dynamo_de.specs.Source.{Source, attribute, key_text, number_text, plain_text, byte_string, Entry, entries_of, values_of, each}
use Rattle.dynamo_de.specs.declared.request.Request.TheVariants as request
use Rattle.dynamo_de.specs.declared.showing.Showing.{Showing as ShowingOf}
use Rattle.dynamo_de.specs.declared.showing.Showing.TheVariants as showing_of
use Rattle.dynamo_de.proofs.Ignored.{elements_fall, entries_fall}

-- ---- what it reads

elements_same : (as' : av.Elements) → read_elements as' ≡ read_sources (values_of as')
elements_same av.no_elements = refl
elements_same (av.element a as') = ap (λ x. read_value a >>= λ j. x >>= λ js. answer.value (json.item j js)) (elements_same as')

members_same : (so_far : json.Members) (ms : av.Members) → read_members so_far ms ≡ read_entries so_far (entries_of ms)
members_same so_far av.no_members = refl
members_same so_far (av.member t a ms) = entry (read_value a) (λ j. members_same (json.put t j so_far) ms)
  where
    entry : (x : Answer Data) → ((j : Data) → read_members (json.put t j so_far) ms ≡ read_entries (json.put t j so_far) (entries_of ms))
        → (x >>= λ j. read_members (json.put t j so_far) ms) ≡ (x >>= λ j. read_entries (json.put t j so_far) (entries_of ms))
    entry (Ok j) rest = rest j
    entry (Err f) rest = refl

numbers_same : (ts : List (List ℕ)) → read_numbers ts ≡ read_sources (each number_text ts)
numbers_same [] = refl
numbers_same (t ∷ ts) = ap (λ x. read_number t >>= λ j. x >>= λ js. answer.value (json.item j js)) (numbers_same ts)

texts_same : (ts : List (List ℕ)) → answer.value (items_of (map json.string ts)) ≡ read_sources (each plain_text ts)
texts_same [] = refl
texts_same (t ∷ ts) = ap (λ x. x >>= λ js. answer.value (json.item (json.string t) js)) (texts_same ts)

blobs_same : (bs : List (List ℕ)) → read_blobs bs ≡ read_sources (each byte_string bs)
blobs_same [] = refl
blobs_same (b ∷ bs) = refl

float_same : (b : Bool) (t : List ℕ) → (if b then answer.refused else answer.fault (failed_to_parse_float t)) ≡ read_shown (if b then Ok (showing.number_text t) else Err (failed_to_parse_float t))
float_same true t = refl
float_same false t = refl

unsigned_same : (o : Option ℤ) (t : List ℕ) → number_or o (if is_float_text t then answer.refused else answer.fault (failed_to_parse_float t)) ≡ read_shown (unsigned_or_float o t)
unsigned_same None t = float_same (is_float_text t) t
unsigned_same (Some z) t = refl

signed_same : (o : Option ℤ) (t : List ℕ) → number_or o (number_or (parse u64 t) (if is_float_text t then answer.refused else answer.fault (failed_to_parse_float t))) ≡ read_shown (signed_or_other o t)
signed_same None t = unsigned_same (parse u64 t) t
signed_same (Some z) t = refl

number_same : (t : List ℕ) → read_number t ≡ read_shown (number_shown t)
number_same t = signed_same (parse i64 t) t

pub json_as_shown : (s : Source) → read_json s ≡ read_shown (shown request.Any s)
json_as_shown (attribute (av.N t)) = number_same t
json_as_shown (attribute (av.S t)) = refl
json_as_shown (attribute (av.Boolean b)) = refl
json_as_shown (attribute (av.B bytes)) = refl
json_as_shown (attribute (av.Null true)) = refl
json_as_shown (attribute (av.Null false)) = refl
json_as_shown (attribute (av.M ms)) = ap (λ x. x >>= λ js. answer.value (json.object js)) (members_same json.no_members ms)
json_as_shown (attribute (av.L as')) = ap (λ x. x >>= λ js. answer.value (json.array js)) (elements_same as')
json_as_shown (attribute (av.Ss ts)) = ap (λ x. x >>= λ js. answer.value (json.array js)) (texts_same ts)
json_as_shown (attribute (av.Ns ts)) = ap (λ x. x >>= λ js. answer.value (json.array js)) (numbers_same ts)
json_as_shown (attribute (av.Bs bs)) = ap (λ x. x >>= λ js. answer.value (json.array js)) (blobs_same bs)
json_as_shown (key_text t) = refl
json_as_shown (number_text t) = number_same t
json_as_shown (plain_text t) = refl
json_as_shown (byte_string bytes) = refl

-- ---- an array, one item more

pub before-push : (vs : List Value) (v : Value) (rest : json.Items) → items_before (vs ++ v ∷ []) rest ≡ items_before vs (json.item (view v) rest)
before-push [] v rest = refl
before-push (w ∷ vs) v rest = ap (json.item (view w)) (before-push vs v rest)

pub before_nothing : (vs : List Value) → items_before vs json.no_items ≡ items_view vs
before_nothing [] = refl
before_nothing (v ∷ vs) = ap (json.item (view v)) (before_nothing vs)

-- what is read so far, with what is left after it
abbrev pub ItemsFrom : List Value → List Source → Answer json.Items
ItemsFrom vs left = read_sources left >>= λ rest. answer.value (items_before vs rest)

pub item_read : (vs : List Value) (v : Value) (s : Source) (left : List Source) → read_json s ≡ answer.value (view v) → ItemsFrom vs (s ∷ left) ≡ ItemsFrom (vs ++ v ∷ []) left
item_read vs v s left is = rw is (behind (read_sources left))
  where
    behind : (x : Answer json.Items) → ((x >>= λ js. answer.value (json.item (view v) js)) >>= λ rest. answer.value (items_before vs rest)) ≡ (x >>= λ rest. answer.value (items_before (vs ++ v ∷ []) rest))
    behind (Ok js) = ap answer.value (sym (before-push vs v js))
    behind (Err f) = refl

-- ---- how deep it goes

any_as_ignored : (s : Source) → shown request.Any s ≡ shown request.IgnoredAny s
any_as_ignored (attribute a) = refl
any_as_ignored (key_text t) = refl
any_as_ignored (number_text t) = refl
any_as_ignored (plain_text t) = refl
any_as_ignored (byte_string bytes) = refl

-- an option is shown only where one is asked for
abbrev has_content : Shown → Bool
has_content (Ok (showing.some s)) = true
has_content _ = false

float_bare : (b : Bool) (t : List ℕ) → has_content (if b then Ok (showing.number_text t) else Err (failed_to_parse_float t)) ≡ false
float_bare true t = refl
float_bare false t = refl

unsigned_bare : (o : Option ℤ) (t : List ℕ) → has_content (unsigned_or_float o t) ≡ false
unsigned_bare None t = float_bare (is_float_text t) t
unsigned_bare (Some z) t = refl

signed_bare : (o : Option ℤ) (t : List ℕ) → has_content (signed_or_other o t) ≡ false
signed_bare None t = unsigned_bare (parse u64 t) t
signed_bare (Some z) t = refl

bare : (s : Source) → has_content (shown request.Any s) ≡ false
bare (attribute (av.N t)) = signed_bare (parse i64 t) t
bare (attribute (av.Null true)) = refl
bare (attribute (av.Null false)) = refl
bare (attribute (av.S t)) = refl
bare (attribute (av.Boolean b)) = refl
bare (attribute (av.B bytes)) = refl
bare (attribute (av.M ms)) = refl
bare (attribute (av.L as')) = refl
bare (attribute (av.Ss ts)) = refl
bare (attribute (av.Ns ts)) = refl
bare (attribute (av.Bs bs)) = refl
bare (key_text t) = refl
bare (number_text t) = signed_bare (parse i64 t) t
bare (plain_text t) = refl
bare (byte_string bytes) = refl

module _ {D L M C : Type 0} (source : D → Source) (elements : L → List Source) (entries : M → List Entry) (variants : C → Result (List ℕ × Option Source) Fault) (s : Source) (x : ShowingOf D L M C) where
  pub items_fall : (l : L) → shown request.Any s ≡ Ok (seen source elements entries variants x) → x ≡ showing_of.Sequence l → 2 * suc (sources_height (elements l)) < 2 * source_height s + 1
  items_fall l h e = elements_fall source elements entries variants s x l (sym (any_as_ignored s) ∙ h) e

  pub members_fall : (m : M) → shown request.Any s ≡ Ok (seen source elements entries variants x) → x ≡ showing_of.Map m → 2 * suc (entries_height (entries m)) < 2 * source_height s + 1
  members_fall m h e = entries_fall source elements entries variants s x m (sym (any_as_ignored s) ∙ h) e

  pub content_falls : (d : D) → shown request.Any s ≡ Ok (seen source elements entries variants x) → x ≡ showing_of.Some d → 2 * source_height (source d) + 1 < 2 * source_height s + 1
  content_falls d h e = absurd (true≢false (ap has_content (sym (h ∙ ap (λ y. Ok (seen source elements entries variants y)) e)) ∙ bare s))
