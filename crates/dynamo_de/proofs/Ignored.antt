-- Ignoring, one level at a time.
use Rattle.std.proofs.Common.{◌≡◌, ℕ, ℤ, suc, max, ◌<◌, ◌*◌, ◌+◌, Bool, true, false, List, [], ◌∷◌, Option, Some, None, Result, Ok, Err, refl, ap, sym, ◌∙◌, arith}
use Rattle.std.specs.Prelude.{if◌then◌else◌, ◌||◌, is_some}
use Rattle.dynamo_value.specs.Av as av
use Rattle.dynamo_value.specs.Av.{Members, Elements}
use Rattle.dynamo_value.specs.Fault.{Fault, failed_to_parse_float}
use Rattle.dynamo_value.specs.Integer.{i64, u64}
use Rattle.dynamo_de.specs.Answer as answer
use Rattle.dynamo_value.specs.Steps.{◌>>=◌}
use Rattle.dynamo_de.specs.Ignored.{ignore_number, ignore_numbers, ignore, ignore_elements, ignore_members, read_ignored, ignore_sources, ignore_entries, ignore_inside, height, elements_height, members_height, source_height, sources_height, entries_height, inside_height}
use Rattle.dynamo_de.specs.Inside as inside
use Rattle.dynamo_de.specs.Inside.{inside_shown}
use Rattle.dynamo_de.specs.Number.{parse, is_float_text}
use Rattle.dynamo_de.specs.Shown.{shown, number_shown, signed_or_other, unsigned_or_float}
use Rattle.dynamo_de.specs.Shows.{seen}
use Rattle.dynamo_de.specs.Showing as showing
use Rattle.dynamo_de.specs.Source.{Source, attribute, key_text, number_text, plain_text, byte_string, Entry, entries_of, values_of, each}
use Rattle.dynamo_de.specs.declared.request.Request.TheVariants as request
use Rattle.dynamo_de.specs.declared.showing.Showing.{Showing as ShowingOf}
use Rattle.dynamo_de.specs.declared.showing.Showing.TheVariants as showing_of

-- ---- what it meets

elements_same : (as' : Elements) → ignore_elements as' ≡ ignore_sources (values_of as')
elements_same av.no_elements = refl
elements_same (av.element a as') = ap (λ x. ignore a >>= λ _. x) (elements_same as')

members_same : (ms : Members) → ignore_members ms ≡ ignore_entries (entries_of ms)
members_same av.no_members = refl
members_same (av.member k a ms) = ap (λ x. ignore a >>= λ _. x) (members_same ms)

numbers_same : (ts : List (List ℕ)) → ignore_numbers ts ≡ ignore_sources (each number_text ts)
numbers_same [] = refl
numbers_same (t ∷ ts) = ap (λ x. ignore_number t >>= λ _. x) (numbers_same ts)

texts_same : (ts : List (List ℕ)) → answer.value tt ≡ ignore_sources (each plain_text ts)
texts_same [] = refl
texts_same (t ∷ ts) = texts_same ts

blobs_same : (ts : List (List ℕ)) → answer.value tt ≡ ignore_sources (each byte_string ts)
blobs_same [] = refl
blobs_same (t ∷ ts) = blobs_same ts

float_same : (b : Bool) (t : List ℕ) → (if b then answer.value tt else answer.fault (failed_to_parse_float t)) ≡ ignore_inside (inside_shown (if b then Ok (showing.number_text t) else Err (failed_to_parse_float t)))
float_same true t = refl
float_same false t = refl

unsigned_same : (o : Option ℤ) (t : List ℕ) → (if is_some o || is_float_text t then answer.value tt else answer.fault (failed_to_parse_float t)) ≡ ignore_inside (inside_shown (unsigned_or_float o t))
unsigned_same None t = float_same (is_float_text t) t
unsigned_same (Some z) t = refl

signed_same : (o : Option ℤ) (t : List ℕ) → (if is_some o || is_some (parse u64 t) || is_float_text t then answer.value tt else answer.fault (failed_to_parse_float t)) ≡ ignore_inside (inside_shown (signed_or_other o t))
signed_same None t = unsigned_same (parse u64 t) t
signed_same (Some z) t = refl

number_same : (t : List ℕ) → ignore_number t ≡ ignore_inside (inside_shown (number_shown t))
number_same t = signed_same (parse i64 t) t

pub ignored_as_inside : (s : Source) → read_ignored s ≡ ignore_inside (inside_shown (shown request.IgnoredAny s))
ignored_as_inside (attribute (av.N t)) = number_same t
ignored_as_inside (attribute (av.S t)) = refl
ignored_as_inside (attribute (av.Boolean b)) = refl
ignored_as_inside (attribute (av.B bytes)) = refl
ignored_as_inside (attribute (av.Null true)) = refl
ignored_as_inside (attribute (av.Null false)) = refl
ignored_as_inside (attribute (av.M ms)) = members_same ms
ignored_as_inside (attribute (av.L as')) = elements_same as'
ignored_as_inside (attribute (av.Ss ts)) = texts_same ts
ignored_as_inside (attribute (av.Ns ts)) = numbers_same ts
ignored_as_inside (attribute (av.Bs ts)) = blobs_same ts
ignored_as_inside (key_text t) = refl
ignored_as_inside (number_text t) = number_same t
ignored_as_inside (plain_text t) = refl
ignored_as_inside (byte_string bytes) = refl

-- ---- how deep it goes

pub elements_high : (as' : Elements) → sources_height (values_of as') ≡ elements_height as'
elements_high av.no_elements = refl
elements_high (av.element a as') = ap (max (height a)) (elements_high as')

pub members_high : (ms : Members) → entries_height (entries_of ms) ≡ members_height ms
members_high av.no_members = refl
members_high (av.member k a ms) = ap (max (height a)) (members_high ms)

pub flat : (source : List ℕ → Source) → ((t : List ℕ) → source_height (source t) ≡ 0) → (ts : List (List ℕ)) → sources_height (each source ts) ≡ 0
flat source h [] = refl
flat source h (t ∷ ts) = rw (h t, flat source h ts) refl

float_flat : (b : Bool) (t : List ℕ) → inside_height (inside_shown (if b then Ok (showing.number_text t) else Err (failed_to_parse_float t))) ≡ 0
float_flat true t = refl
float_flat false t = refl

unsigned_flat : (o : Option ℤ) (t : List ℕ) → inside_height (inside_shown (unsigned_or_float o t)) ≡ 0
unsigned_flat None t = float_flat (is_float_text t) t
unsigned_flat (Some z) t = refl

signed_flat : (o : Option ℤ) (t : List ℕ) → inside_height (inside_shown (signed_or_other o t)) ≡ 0
signed_flat None t = unsigned_flat (parse u64 t) t
signed_flat (Some z) t = refl

high : (s : Source) → inside_height (inside_shown (shown request.IgnoredAny s)) ≡ source_height s
high (attribute (av.N t)) = signed_flat (parse i64 t) t
high (attribute (av.S t)) = refl
high (attribute (av.Boolean b)) = refl
high (attribute (av.B bytes)) = refl
high (attribute (av.Null true)) = refl
high (attribute (av.Null false)) = refl
high (attribute (av.M ms)) = ap suc (members_high ms)
high (attribute (av.L as')) = ap suc (elements_high as')
high (attribute (av.Ss ts)) = ap suc (flat plain_text (λ t. refl) ts)
high (attribute (av.Ns ts)) = ap suc (flat number_text (λ t. refl) ts)
high (attribute (av.Bs ts)) = ap suc (flat byte_string (λ t. refl) ts)
high (key_text t) = refl
high (number_text t) = signed_flat (parse i64 t) t
high (plain_text t) = refl
high (byte_string bytes) = refl

module _ (s : Source) where
  pub inside_elements_fall : (ss : List Source) → inside_shown (shown request.IgnoredAny s) ≡ Ok (inside.elements ss)
      → 2 * suc (sources_height ss) < 2 * source_height s + 1
  inside_elements_fall ss h =
      let k : suc (sources_height ss) ≡ source_height s = ap inside_height (sym h) ∙ high s in
      rw (sym k) (omega arith)

  pub inside_entries_fall : (es : List Entry) → inside_shown (shown request.IgnoredAny s) ≡ Ok (inside.entries es)
      → 2 * suc (entries_height es) < 2 * source_height s + 1
  inside_entries_fall es h =
      let k : suc (entries_height es) ≡ source_height s = ap inside_height (sym h) ∙ high s in
      rw (sym k) (omega arith)

module _ {D L M C : Type 0} (source : D → Source) (elements : L → List Source) (entries : M → List Entry) (variants : C → Result (List ℕ × Option Source) Fault) (s : Source) (x : ShowingOf D L M C) where
  pub elements_fall : (l : L) → shown request.IgnoredAny s ≡ Ok (seen source elements entries variants x) → x ≡ showing_of.Sequence l → 2 * suc (sources_height (elements l)) < 2 * source_height s + 1
  elements_fall l h e =
      inside_elements_fall s (elements l) (ap inside_shown (h ∙ ap (λ y. Ok (seen source elements entries variants y)) e))

  pub entries_fall : (m : M) → shown request.IgnoredAny s ≡ Ok (seen source elements entries variants x) → x ≡ showing_of.Map m → 2 * suc (entries_height (entries m)) < 2 * source_height s + 1
  entries_fall m h e =
      inside_entries_fall s (entries m) (ap inside_shown (h ∙ ap (λ y. Ok (seen source elements entries variants y)) e))
