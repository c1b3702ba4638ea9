-- Unit variants by their names and places.
use Rattle.std.proofs.Common.{◌≡◌, ◌⊎◌, ◌<◌, ◌≤◌, ◌+◌, ℕ, zero, suc, true, false, List, [], ◌∷◌, length, get_or, map, Option, None, Result, Ok, Err, refl, sym, ap, subst, ◌∙◌, inl, inr, arith}
use Rattle.dynamo_record.proofs.Common.{if◌then◌else◌, bytes_eq, range_with_len, length-map, Fault}
use Rattle.dynamo_record.proofs.Common.{message, out_of_memory, Datum, ReadsVariant, After}
use Rattle.dynamo_record.proofs.Common.{read_variant, read_identifier, Meets, Source, Text}
use Rattle.dynamo_record.proofs.Common.{or_its_fault, meets_more, conforms, conforms_variant}
use Rattle.dynamo_record.proofs.Common.{Permits, read_one_of, Same, after, Names, place_of}
use Rattle.dynamo_record.proofs.Common.{AboutUnits, name_at, unit_variants, unit_enum_shape}
use Rattle.dynamo_record.proofs.Common.{unit_enum_tells, unit_enum_reads, FromName, FromVariant}
use Rattle.dynamo_ser.specs.Datum as datum
use Rattle.dynamo_de.specs.Answer as answer
use Rattle.std.proofs.Math.ListN.{get_or-map}
use Rattle.std.proofs.lemmas.List.FromFn.{length-range_with_len, get_or-range_with_len}

abbrev unit_at : Text → Names → ℕ → ℕ → Datum
unit_at name ns i n = datum.unit_variant (datum.variant name i (name_at ns n))

same_place : (i k : ℕ) → i + zero ≡ k → k ≡ i
same_place i k h = omega arith

next_place : (i n k : ℕ) → i + suc n ≡ k → suc i + n ≡ k
next_place i n k h = omega arith

-- ---- what is told conforms

at_conforms : (name : Text) (ns : Names) (i n k : ℕ) → i + n ≡ k → n < length ns → conforms_variant name i (unit_variants ns) (unit_at name ns k n)
at_conforms name [] i n k e h = absurd (let x : ⊥ = omega arith in x)
at_conforms name (m ∷ ns) i zero k e h = inl (ap (λ j. datum.unit_variant (datum.variant name j m)) (same_place i k e))
at_conforms name (m ∷ ns) i (suc n) k e h = inr (at_conforms name ns (suc i) n k (next_place i n k e) (let x : n < length ns = omega arith in x))

pub unit_conforms : {T : Type 0} (a : AboutUnits T) (v : T) → conforms (unit_enum_shape a) (unit_enum_tells a v)
unit_conforms a v = at_conforms a.name a.names 0 (a.number v) (a.number v) (let e : 0 + a.number v ≡ a.number v = omega arith in e) (a.below v)

-- ---- the variant of a name is that at the name's place

place_above : (i : ℕ) (ns : Names) (t : Text) → i ≤ place_of i ns t
place_above i [] t = omega arith
place_above i (m ∷ ns) t = elim (bytes_eq t m) as (λ b. i ≤ (if b then i else place_of (suc i) ns t)) [
  | true ↦ omega arith
  | false ↦ (let h : suc i ≤ place_of (suc i) ns t = place_above (suc i) ns t in let k : i ≤ place_of (suc i) ns t = omega arith in k)
]

module _ (name : Text) (t : Text) (s : Option Source) where
  named_at : (ns : Names) (i n k : ℕ) → i + n ≡ k → place_of i ns t ≡ k → n < length ns → read_one_of (unit_variants ns) name i t s ≡ answer.value (unit_at name ns k n)
  named_at [] i n k e p h = absurd (let x : ⊥ = omega arith in x)
  named_at (m ∷ ns) i zero k e p h = (elim (bytes_eq t m) as (λ b. (if b then i else place_of (suc i) ns t) ≡ k → (if b then answer.value (datum.unit_variant (datum.variant name i m)) else read_one_of (unit_variants ns) name (suc i) t s) ≡ answer.value (datum.unit_variant (datum.variant name k m))) [
    | true ↦ λ p. ap (λ j. answer.value (datum.unit_variant (datum.variant name j m))) p
    | false ↦ λ p. absurd (let x : suc i ≤ place_of (suc i) ns t = place_above (suc i) ns t in let y : ⊥ = omega arith in y)
  ]) p
  named_at (m ∷ ns) i (suc n) k e p h = (elim (bytes_eq t m) as (λ b. (if b then i else place_of (suc i) ns t) ≡ k → (if b then answer.value (datum.unit_variant (datum.variant name i m)) else read_one_of (unit_variants ns) name (suc i) t s) ≡ answer.value (unit_at name ns k n)) [
    | true ↦ λ p. absurd (let y : ⊥ = omega arith in y)
    | false ↦ λ p. named_at ns (suc i) n k (next_place i n k e) p (let x : n < length ns = omega arith in x)
  ]) p

  none_named : (ns : Names) (i k : ℕ) → place_of i ns t ≡ k → i + length ns ≤ k → read_one_of (unit_variants ns) name i t s ≡ answer.refused
  none_named [] i k p h = refl
  none_named (m ∷ ns) i k p h = (elim (bytes_eq t m) as (λ b. (if b then i else place_of (suc i) ns t) ≡ k → (if b then answer.value (datum.unit_variant (datum.variant name i m)) else read_one_of (unit_variants ns) name (suc i) t s) ≡ answer.refused) [
    | true ↦ λ p. absurd (let y : ⊥ = omega arith in y)
    | false ↦ λ p. none_named ns (suc i) k p (let x : suc i + length ns ≤ k = omega arith in x)
  ]) p

  -- a unit variant needs nothing of the content
  any_content : (ns : Names) (i : ℕ) → read_one_of (unit_variants ns) name i t None ≡ read_one_of (unit_variants ns) name i t s
  any_content [] i = refl
  any_content (m ∷ ns) i = elim (bytes_eq t m) as (λ b. (if b then answer.value (datum.unit_variant (datum.variant name i m)) else read_one_of (unit_variants ns) name (suc i) t None) ≡ (if b then answer.value (datum.unit_variant (datum.variant name i m)) else read_one_of (unit_variants ns) name (suc i) t s)) [
    | true ↦ refl
    | false ↦ any_content ns (suc i)
  ]

module _ {T : Type 0} (a : AboutUnits T) where
  pub name_read : (t : Text) (v : T) → place_of 0 a.names t ≡ a.number v → FromName a t (Ok v)
  name_read t v p = (unit_enum_tells a v, named_at a.name t None a.names 0 (a.number v) (a.number v) (let e : 0 + a.number v ≡ a.number v = omega arith in e) p (a.below v), λ _. refl)

  pub name_refused : (t : Text) (f : Fault) → length a.names ≤ place_of 0 a.names t → ((text : Text) × (f ≡ message text)) → FromName a t (Err f)
  name_refused t f p h = subst (λ r. Permits Same r (Err f)) (sym (none_named a.name t None a.names 0 (place_of 0 a.names t) refl (let e : 0 + length a.names ≤ place_of 0 a.names t = omega arith in e))) h

  from_variant : (p : Text × Option Source) (r : Result T Fault) → FromName a p.0 r → FromVariant a p r
  from_variant p (Ok v) h = (h.0, sym (any_content a.name p.0 p.1 a.names 0) ∙ h.1, h.2)
  from_variant p (Err f) h = subst (λ r. Permits Same r (Err f)) (any_content a.name p.0 p.1 a.names 0) h

  module _ {C E : Type 0} (fault : E → Fault) (content : C → Option Source) where
    pub variant_read : (chosen : Result (Text × Option Source) Fault) (v : T) (c : C) → ReadsVariant fault (λ s. After (read_identifier s) (FromName a)) content chosen (Ok (v, c)) → After (or_its_fault chosen) (FromVariant a) (Ok v)
    variant_read (Ok p) v c h = from_variant p (Ok v) h.0
    variant_read (Err f) v c h = absurd h

    pub variant_fails : (chosen : Result (Text × Option Source) Fault) (e : E) → ReadsVariant {T = T} {C = C} fault (λ s. After (read_identifier s) (FromName a)) content chosen (Err e) → (fault e ≡ out_of_memory) ⊎ After (or_its_fault chosen) (FromVariant a) (Err (fault e))
    variant_fails (Ok p) e h = elim h [ inl lacks ↦ inl lacks | inr failed ↦ inr (from_variant p (Err (fault e)) failed) ]
    variant_fails (Err f) e h = h

  pub enum_answered : {E : Type 0} (fault : E → Fault) (source : Source) (r : Result T E) → Meets fault (After (read_variant source) (FromVariant a)) r → Meets fault (unit_enum_reads a source) r
  enum_answered fault source r h =
      meets_more fault (After (read_variant source) (FromVariant a)) (unit_enum_reads a source)
      (λ r k. after (conforms (unit_enum_shape a)) Same (unit_enum_tells a) (FromVariant a) (λ v. read_one_of (unit_variants a.names) a.name 0 v.0 v.1) (λ v r x. x) (read_variant source) r k) r h

-- ---- places in lists

-- the numbers of a list are its places
pub number_there : {T : Type 0} (number : T → ℕ) (xs : List T) (n i : ℕ) (x : T) → map number xs ≡ range_with_len 0 n → i < length xs → x ≡ get_or xs i x → number x ≡ i
number_there number xs n i x e h at =
    let count : length xs ≡ n = sym (length-map xs number) ∙ ap length e ∙ length-range_with_len 0 n in
    let inside : i < n = subst (λ m. i < m) count h in
    let zero_more : 0 + i ≡ i = omega arith in
    ap number at ∙ sym (get_or-map number xs i x) ∙ ap (λ ns. get_or ns i (number x)) e ∙ get_or-range_with_len 0 n i (number x) inside ∙ zero_more

pub numbers_end : {T : Type 0} (number : T → ℕ) (xs : List T) (n i : ℕ) → map number xs ≡ range_with_len 0 n → length xs ≤ i → n ≤ i
numbers_end number xs n i e h = subst (λ m. m ≤ i) (sym (length-map xs number) ∙ ap length e ∙ length-range_with_len 0 n) h

none_there : (i : ℕ) → [] ≡ name_at [] i
none_there zero = refl
none_there (suc i) = none_there i

pub name_there : {A : Type 0} (f : A → Text) (xs : List A) (i : ℕ) (x : A) → i < length xs → x ≡ get_or xs i x → f x ≡ name_at (map f xs) i
name_there f [] i x h e = absurd (let k : ⊥ = omega arith in k)
name_there f (y ∷ ys) zero x h e = ap f e
name_there f (y ∷ ys) (suc i) x h e = name_there f ys i x (let k : i < length ys = omega arith in k) e

pub name_past : {A : Type 0} (f : A → Text) (xs : List A) (i : ℕ) → length xs ≤ i → [] ≡ name_at (map f xs) i
name_past f [] i h = none_there i
name_past f (y ∷ ys) zero h = absurd (let k : ⊥ = omega arith in k)
name_past f (y ∷ ys) (suc i) h = name_past f ys i (let k : length ys ≤ i = omega arith in k)
