-- What ignoring a source meets: nothing, or the first fault that an ignored-any reading of it meets, at every depth.
use Rattle.std.specs.Prelude.{ℕ, suc, max, false, List, [], ◌∷◌, Result, Ok, Err, if◌then◌else◌, ⊤}
use Rattle.dynamo_value.specs.Av as av
use Rattle.dynamo_value.specs.Av.{Av, Members, Elements}
use Rattle.dynamo_value.specs.Fault.{Fault, failed_to_parse_float, expected_unit}
use Rattle.dynamo_de.specs.Answer as answer
use Rattle.dynamo_de.specs.Answer.{Answer}
use Rattle.dynamo_value.specs.Steps.{◌>>=◌}
use Rattle.dynamo_de.specs.Inside as inside
use Rattle.dynamo_de.specs.Inside.{Inside}
use Rattle.dynamo_de.specs.Number.{is_number_text}
use Rattle.dynamo_de.specs.Source.{Source, attribute, key_text, number_text, plain_text, byte_string, Entry}

abbrev pub ignore_number : List ℕ → Answer ⊤
ignore_number t = if is_number_text t then answer.value tt else answer.fault (failed_to_parse_float t)

abbrev pub ignore_numbers : List (List ℕ) → Answer ⊤
ignore_numbers [] = answer.value tt
ignore_numbers (t ∷ ts) = ignore_number t >>= λ _. ignore_numbers ts

-- a map is read in ascending order of the bytes of its keys, which are texts and meet no fault
abbrev mutual
  pub ignore : Av → Answer ⊤
  ignore (av.N t) = ignore_number t
  ignore (av.Null false) = answer.fault expected_unit
  ignore (av.Ns ts) = ignore_numbers ts
  ignore (av.L as') = ignore_elements as'
  ignore (av.M ms) = ignore_members ms
  ignore _ = answer.value tt

  pub ignore_elements : Elements → Answer ⊤
  ignore_elements av.no_elements = answer.value tt
  ignore_elements (av.element a as') = ignore a >>= λ _. ignore_elements as'

  pub ignore_members : Members → Answer ⊤
  ignore_members av.no_members = answer.value tt
  ignore_members (av.member k a ms) = ignore a >>= λ _. ignore_members ms

abbrev pub read_ignored : Source → Answer ⊤
read_ignored (attribute a) = ignore a
read_ignored (key_text t) = answer.value tt
read_ignored (number_text t) = ignore_number t
read_ignored (plain_text t) = answer.value tt
read_ignored (byte_string bytes) = answer.value tt

-- ---- level by level

abbrev pub ignore_sources : List Source → Answer ⊤
ignore_sources [] = answer.value tt
ignore_sources (s ∷ ss) = read_ignored s >>= λ _. ignore_sources ss

abbrev pub ignore_entries : List Entry → Answer ⊤
ignore_entries [] = answer.value tt
ignore_entries (e ∷ es) = ignore e.1 >>= λ _. ignore_entries es

abbrev pub ignore_inside : Result Inside Fault → Answer ⊤
ignore_inside (Err f) = answer.fault f
ignore_inside (Ok inside.nothing) = answer.value tt
ignore_inside (Ok (inside.elements ss)) = ignore_sources ss
ignore_inside (Ok (inside.entries es)) = ignore_entries es

-- ---- how deep a source nests

abbrev mutual
  pub height : Av → ℕ
  height (av.M ms) = suc (members_height ms)
  height (av.L as') = suc (elements_height as')
  height (av.Ss ts) = 1
  height (av.Ns ts) = 1
  height (av.Bs ts) = 1
  height _ = 0

  pub elements_height : Elements → ℕ
  elements_height av.no_elements = 0
  elements_height (av.element a as') = max (height a) (elements_height as')

  pub members_height : Members → ℕ
  members_height av.no_members = 0
  members_height (av.member k a ms) = max (height a) (members_height ms)

abbrev pub source_height : Source → ℕ
source_height (attribute a) = height a
source_height (key_text t) = 0
source_height (number_text t) = 0
source_height (plain_text t) = 0
source_height (byte_string bytes) = 0

abbrev pub sources_height : List Source → ℕ
sources_height [] = 0
sources_height (s ∷ ss) = max (source_height s) (sources_height ss)

abbrev pub entries_height : List Entry → ℕ
entries_height [] = 0
entries_height (e ∷ es) = max (height e.1) (entries_height es)

abbrev pub inside_height : Result Inside Fault → ℕ
inside_height (Ok (inside.elements ss)) = suc (sources_height ss)
inside_height (Ok (inside.entries es)) = suc (entries_height es)
inside_height _ = 0
