-- The variant of a name is that at the name's place.
use Rattle.std.proofs.Common.{arith, map, ◌≤◌, ◌≡◌, ◌<◌, ◌+◌, ◌^◌, ℕ, zero, suc, true, false, List, [], ◌∷◌, Option, Result, Ok, Err, refl, sym, ap, subst, ◌∙◌, inl, inr, length}
use Rattle.dynamo_record.proofs.Common.{if◌then◌else◌, bytes_eq, ⊤, Fault, ReadsVariant, After}
use Rattle.dynamo_record.proofs.Common.{read_variant, read_identifier, or_its_fault, Meets, Source}
use Rattle.dynamo_record.proofs.Common.{Text, meets_more, conforms, Permits, read_inside}
use Rattle.dynamo_record.proofs.Common.{read_one_of, Same, after, AboutEnum, AsMany, of_variants}
use Rattle.dynamo_record.proofs.Common.{NamesVariant, VariantsNamed, enum_reads, enum_shape}
use Rattle.dynamo_record.proofs.Common.{enum_tells, enum_variants, Names, first_name, other_names}
use Rattle.dynamo_record.proofs.Common.{names_from, place_of, AboutVariants, Contents, ReadsAt, tag}
use Rattle.dynamo_record.proofs.Common.{variants_of}
use Rattle.dynamo_de.specs.Answer as answer
use Rattle.dynamo_record.specs.Enums.{FromVariant}
use Rattle.dynamo_record.specs.Variants.{read_at}

pub shift : (ns : Names) (i : ℕ) (t : Text) → place_of (suc i) ns t ≡ suc (place_of i ns t)
shift [] i t = refl
shift (n ∷ ns) i t = elim (bytes_eq t n) as (λ b. (if b then suc i else place_of (suc (suc i)) ns t) ≡ suc (if b then i else place_of (suc i) ns t)) [
  | true ↦ refl
  | false ↦ shift ns (suc i) t
]

abbrev SameLength : Names → Contents → Type 0
SameLength [] [] = ⊤
SameLength (n ∷ ns) (c ∷ cs) = SameLength ns cs
SameLength _ _ = ⊥

chosen : (name : Text) (ns : Names) (cs : Contents) (i : ℕ) (ms : Names) → names_from i ns ≡ ms → SameLength ms cs → (t : Text) (s : Option Source) → read_one_of (variants_of (names_from i ns) cs) name i t s ≡ read_at name ns i cs (place_of 0 ms t) s
chosen name ns [] i [] h l t s = refl
chosen name ns [] i (m ∷ ms) h l t s = absurd l
chosen name ns (c ∷ cs) i [] h l t s = absurd l
chosen name ns (c ∷ cs) i (m ∷ ms) h l t s = subst (λ own. (if bytes_eq t own then read_inside c (tag name ns i) s else read_one_of (variants_of (names_from (suc i) ns) cs) name (suc i) t s) ≡ read_at name ns i (c ∷ cs) (place_of 0 (m ∷ ms) t) s) (sym (ap first_name h))
    (elim (bytes_eq t m) as (λ b. (if b then read_inside c (tag name ns i) s else read_one_of (variants_of (names_from (suc i) ns) cs) name (suc i) t s) ≡ read_at name ns i (c ∷ cs) (if b then zero else place_of (suc zero) ms t) s) [
      | true ↦ refl
      | false ↦ chosen name ns cs (suc i) ms (ap other_names h) l t s ∙ ap (λ p. read_at name ns i (c ∷ cs) p s) (sym (shift ms zero t))
    ])

past : (name : Text) (ns : Names) (i : ℕ) (cs : Contents) (s : Option Source) → read_at name ns i cs (length cs) s ≡ answer.refused
past name ns i [] s = refl
past name ns i (c ∷ cs) s = past name ns (suc i) cs s

abbrev less : ℕ → ℕ
less zero = zero
less (suc n) = n

abbrev IsZero : ℕ → Type 0
IsZero zero = ⊤
IsZero (suc n) = ⊥

same_length : (ns : Names) (cs : Contents) → length ns ≡ length cs → SameLength ns cs
same_length [] [] h = tt
same_length [] (c ∷ cs) h = absurd (subst IsZero h tt)
same_length (n ∷ ns) [] h = absurd (subst IsZero (sym h) tt)
same_length (n ∷ ns) (c ∷ cs) h = same_length ns cs (ap less h)

-- so are the variants of a list that is as long
pub named_as : {V L : Type 0} (a : AboutEnum V L) (list : AboutVariants L) → VariantsNamed a → AsMany a list → VariantsNamed (of_variants a list)
named_as a list named many = (named.0, named.1 ∙ many)

module _ {V L : Type 0} (a : AboutEnum V L) (named : VariantsNamed a) where
  abbrev All : Contents
  All = a.list.contents []

  none_left : (n : ℕ) → n + 0 ≡ n
  none_left n = omega arith

  as_many : length a.names ≡ length All
  as_many = named.1 ∙ sym (a.list.counted [] ∙ none_left a.list.count)

  by_place : (t : Text) (s : Option Source) → read_one_of (enum_variants a) a.name 0 t s ≡ read_at a.name a.names 0 All (place_of 0 a.names t) s
  by_place t s = chosen a.name a.names All 0 a.names refl (same_length a.names All as_many) t s

  refuses : (t : Text) (s : Option Source) → place_of 0 a.names t ≡ length a.names → read_one_of (enum_variants a) a.name 0 t s ≡ answer.refused
  refuses t s h = by_place t s ∙ (ap (λ p. read_at a.name a.names 0 All p s) (h ∙ as_many) ∙ past a.name a.names 0 All s)

  module _ {E C : Type 0} (fault : E → Fault) (content : C → Option Source) where
    abbrev Permitted : Result (Text × Option Source) Fault → Result V E → Type 0
    Permitted v r = Meets fault (After (or_its_fault v) (FromVariant a)) r

    abbrev Tagged : Result (Text × Option Source) Fault → Result (ℕ × C) E → Type 0
    Tagged = ReadsVariant fault (λ s r. After (read_identifier s) (NamesVariant a.names) r) content

    -- the place that is named is one of a variant
    pub place_fits : (v : Result (Text × Option Source) Fault) (place : ℕ) (t : C) → Tagged v (Ok (place, t)) → (place < a.list.count) × (place + 1 < 2 ^ 64)
    place_fits (Err f) place t h = absurd h
    place_fits (Ok p) place t h = (subst (λ n. place < n) named.1 h.0.1, h.0.2)

    module _ (place : ℕ) (t : C) where
      abbrev Reads : Result L E → Type 0
      Reads = Meets fault (ReadsAt a.list.contents a.list.told a.name a.names 0 [] place (content t))

      pub enum_made : (v : Result (Text × Option Source) Fault) (x : L) (y : V) → a.parts y ≡ x → Tagged v (Ok (place, t)) → Reads (Ok x) → Permitted v (Ok y)
      enum_made (Err f) x y e h k = absurd h
      enum_made (Ok p) x y e h k =
          let at = subst (λ c. ReadsAt a.list.contents a.list.told a.name a.names 0 [] place c (Ok x)) h.1 k in
          let here = subst (λ q. ReadsAt a.list.contents a.list.told a.name a.names 0 [] q p.1 (Ok x)) h.0.0 at in
          (here.0, by_place p.0 p.1 ∙ here.1, subst (λ l. conforms (enum_shape a) (a.list.told a.name a.names 0 l) → Same here.0 (a.list.told a.name a.names 0 l)) (sym e) here.2)

      pub enum_fails : (v : Result (Text × Option Source) Fault) (e : E) → Tagged v (Ok (place, t)) → Reads (Err e) → Permitted v (Err e)
      enum_fails (Err f) e h k = absurd h
      enum_fails (Ok p) e h k = elim k [
        | inl lacks ↦ inl lacks
        | inr failed ↦
            let at = subst (λ c. ReadsAt {L = L} a.list.contents a.list.told a.name a.names 0 [] place c (Err (fault e))) h.1 failed in
            let here = subst (λ q. ReadsAt {L = L} a.list.contents a.list.told a.name a.names 0 [] q p.1 (Err (fault e))) h.0.0 at in
            inr (subst (λ q. Permits Same q (Err (fault e))) (sym (by_place p.0 p.1)) here)
      ]

    pub tag_fails : (v : Result (Text × Option Source) Fault) (e : E) → Tagged v (Err e) → Permitted v (Err e)
    tag_fails (Err f) e h = h
    tag_fails (Ok p) e h = elim h [ inl lacks ↦ inl lacks | inr failed ↦ inr (subst (λ q. Permits Same q (Err (fault e))) (sym (refuses p.0 p.1 failed.0)) failed.1) ]

  pub enum_by_source : {E : Type 0} (fault : E → Fault) (s : Source) (r : Result V E) → Meets fault (After (read_variant s) (FromVariant a)) r → Meets fault (enum_reads a s) r
  enum_by_source fault s r h = meets_more fault (After (read_variant s) (FromVariant a)) (enum_reads a s)
      (λ r k. after (conforms (enum_shape a)) Same (enum_tells a) (FromVariant a) (λ v. read_one_of (enum_variants a) a.name 0 v.0 v.1) (λ v r k. k) (read_variant s) r k) r h

-- ---- a text that names no variant

not_past : (ns : Names) (i : ℕ) (t : Text) → place_of i ns t ≤ i + length ns
not_past [] i t = let at : i ≤ i + 0 = omega arith in at
not_past (n ∷ ns) i t =
    let more = not_past ns (suc i) t in
    let behind : place_of (suc i) ns t ≤ i + suc (length ns) = omega arith in
    let here : i ≤ i + suc (length ns) = omega arith in
    elim (bytes_eq t n) as (λ b. (if b then i else place_of (suc i) ns t) ≤ i + suc (length ns)) [ true ↦ here | false ↦ behind ]

as_many_names : {A : Type 0} (f : A → Text) (xs : List A) → length (map f xs) ≡ length xs
as_many_names f [] = refl
as_many_names f (x ∷ xs) = ap suc (as_many_names f xs)

pub names_none : {A : Type 0} (f : A → Text) (xs : List A) (ns : Names) → map f xs ≡ ns → (t : Text) (place : ℕ) → place ≡ place_of 0 (map f xs) t → length xs ≤ place → place_of 0 ns t ≡ length ns
names_none f xs ns is t place at past =
    let most = not_past (map f xs) 0 t in
    let same = as_many_names f xs in
    let here : place_of 0 (map f xs) t ≡ length (map f xs) = omega arith in
    subst (λ ns. place_of 0 ns t ≡ length ns) is here
