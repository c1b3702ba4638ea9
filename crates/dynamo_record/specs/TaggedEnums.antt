-- Internally tagged enums that are described by the list of their variants.
use Rattle.std.specs.Prelude.{◌≡◌, ◌<◌, ◌+◌, ℕ, suc, true, false, [], ◌∷◌, Bool, ◌||◌, not, List}
use Rattle.std.specs.Prelude.{Result, length, bytes_eq}
use Rattle.std.proofs.Common.{zero, refl, sym, ap, subst, ◌∙◌, inl, inr, arith}
use Rattle.std.proofs.lemmas.Bool.{true≢false}
use Rattle.std.proofs.lemmas.Slice.Eq.{bytes_eq-Decides}
use Rattle.dynamo_value.specs.Fault.{Fault}
use Rattle.dynamo_ser.specs.Datum as datum
use Rattle.dynamo_ser.specs.Datum.{Datum, Fields}
use Rattle.dynamo_ser.specs.Parts.{fields_in, first_in, others_in, text_in}
use Rattle.dynamo_de.specs.Answer.{Answer}
use Rattle.dynamo_de.specs.Source.{Source, Text, Entry}
use Rattle.dynamo_value.specs.Steps.{◌>>=◌}
use Rattle.dynamo_shape.specs.Conforms.{conforms, conform_fields, conforms_tagged, tagged_struct}
use Rattle.dynamo_shape.specs.Laws.{AnswersByShape}
use Rattle.dynamo_shape.specs.Read.{read, read_tag, read_tagged}
use Rattle.dynamo_shape.specs.Same.{Same, SameFields}
use Rattle.dynamo_shape.specs.Shape as shape
use Rattle.dynamo_shape.specs.Shape.{Shape, Tagged}
use Rattle.dynamo_shape.proofs.Found.{or_false}
use Rattle.dynamo_record.specs.About.{About}
use Rattle.dynamo_record.specs.Apart.{both_true, not_true}
use Rattle.dynamo_record.specs.Names.{Names, first_name, other_names, is_named, differ}
use Rattle.dynamo_record.specs.TaggedLists.{Structs, struct_at, AboutTaggedList}
use Rattle.dynamo_record.specs.UnitEnums.{name_at}

-- The tag, the name of an enum, those of its variants in order, the variant of a value, and what is
-- known of the variants.
pub record AboutTagged (V L : Type 0) : Type 1 where
  pub tag : Text
  pub name : Text
  pub names : Names
  pub parts : V → L
  pub list : AboutTaggedList L

abbrev pub tagged_of : {V L : Type 0} → Text → Text → Names → (V → L) → AboutTaggedList L
    → AboutTagged V L
tagged_of tag name names parts list = record
    { tag = tag; name = name; names = names; parts = parts; list = list }

-- the same description, by this list of the variants
abbrev pub of_tagged : {V L : Type 0} → AboutTagged V L → AboutTaggedList L → AboutTagged V L
of_tagged a list = tagged_of a.tag a.name a.names a.parts list

abbrev pub tagged_variants : Names → Structs → Tagged
tagged_variants ns [] = shape.no_tagged
tagged_variants ns (s ∷ ss) = shape.tagged_variant (first_name ns) s.0 s.1
    (tagged_variants (other_names ns) ss)

-- the struct of the variant with this number, whose fields follow the tag
abbrev pub struct_of : Text → Names → Structs → ℕ → Fields → Datum
struct_of tag ns ss i gs = tagged_struct tag (name_at ns i) (struct_at i ss).0 gs

-- ---- variants by their names

or_true : (a b : Bool) → b ≡ true → a || b ≡ true
or_true true b h = refl
or_true false b h = h

some_named : (ns : Names) (i : ℕ) → i < length ns → is_named ns (name_at ns i) ≡ true
some_named [] i h = absurd (let k : ⊥ = omega arith in k)
some_named (n ∷ ns) zero h = ap (λ b. b || is_named ns n) ((bytes_eq-Decides n n).1 refl)
some_named (n ∷ ns) (suc i) h = or_true (bytes_eq (name_at ns i) n) (is_named ns (name_at ns i)) (some_named ns i (let k : i < length ns = omega arith in k))

not_named : (n : Text) (ns : Names) → is_named ns n ≡ false → (i : ℕ) → i < length ns
    → name_at ns i ≡ n → ⊥
not_named n ns other i h e = true≢false (sym (some_named ns i h) ∙ (ap (is_named ns) e ∙ other))

module _ (n : Text) (ns : Names) (d : differ (n ∷ ns) ≡ true) where
  first_apart : is_named ns n ≡ false
  first_apart = not_true (is_named ns n) (both_true (not (is_named ns n)) (differ ns) d).0

  others_differ : differ ns ≡ true
  others_differ = (both_true (not (is_named ns n)) (differ ns) d).1

same_place : (ns : Names) → differ ns ≡ true → (i j : ℕ) → i < length ns → j < length ns
    → name_at ns i ≡ name_at ns j → i ≡ j
same_place [] d i j h k e = absurd (let x : ⊥ = omega arith in x)
same_place (n ∷ ns) d zero zero h k e = refl
same_place (n ∷ ns) d zero (suc j) h k e = absurd (not_named n ns (first_apart n ns d) j (let x : j < length ns = omega arith in x) (sym e))
same_place (n ∷ ns) d (suc i) zero h k e = absurd (not_named n ns (first_apart n ns d) i (let x : i < length ns = omega arith in x) e)
same_place (n ∷ ns) d (suc i) (suc j) h k e = ap suc (same_place ns (others_differ n ns d) i j (let x : i < length ns = omega arith in x) (let x : j < length ns = omega arith in x) e)

-- ---- the struct of a variant

abbrev tag_in : Datum → Text
tag_in d = text_in (first_in (fields_in d))

module _ (tag : Text) where
  none_else : (n : Text) (ns : Names) (ss : Structs) → is_named ns n ≡ false → length ns ≡ length ss
      → (own : Text) (gs : Fields)
      → conforms_tagged tag (tagged_variants ns ss) (tagged_struct tag n own gs)
      → ⊥
  none_else n [] [] other h own gs c = c
  none_else n [] (s ∷ ss) other h own gs c = absurd (let k : ⊥ = omega arith in k)
  none_else n (m ∷ ns) [] other h own gs c = c
  none_else n (m ∷ ns) (s ∷ ss) other h own gs c =
      let p = or_false (bytes_eq n m) (is_named ns n) other in
      let k : length ns ≡ length ss = omega arith in
      elim c [
        | inl x ↦ true≢false (sym ((bytes_eq-Decides n m).1 (ap tag_in x.1)) ∙ p.0)
        | inr y ↦ none_else n ns ss p.1 k own gs y
      ]

  own_fields : (ns : Names) (ss : Structs) → differ ns ≡ true → length ns ≡ length ss → (i : ℕ)
      → i < length ss → (own : Text) (gs : Fields)
      → conforms_tagged tag (tagged_variants ns ss) (tagged_struct tag (name_at ns i) own gs)
      → conform_fields (struct_at i ss).1 gs
  own_fields ns [] d h i inside own gs c = absurd (let k : ⊥ = omega arith in k)
  own_fields [] (s ∷ ss) d h i inside own gs c = absurd (let k : ⊥ = omega arith in k)
  own_fields (n ∷ ns) (s ∷ ss) d h zero inside own gs c =
      let k : length ns ≡ length ss = omega arith in
      elim c [
        | inl x ↦ subst (conform_fields s.1) (sym (ap (λ d. others_in (fields_in d)) x.1)) x.2
        | inr y ↦ absurd (none_else n ns ss (first_apart n ns d) k own gs y)
      ]
  own_fields (n ∷ ns) (s ∷ ss) d h (suc i) inside own gs c =
      let k : length ns ≡ length ss = omega arith in
      let below : i < length ss = omega arith in
      let among : i < length ns = omega arith in
      elim c [
        | inl x ↦ absurd (not_named n ns (first_apart n ns d) i among (ap tag_in x.1))
        | inr y ↦ own_fields ns ss (others_differ n ns d) k i below own gs y
      ]

  pub at_its_place : (ns : Names) (ss : Structs) (i : ℕ) → i < length ss → (gs : Fields)
      → conform_fields (struct_at i ss).1 gs
      → conforms_tagged tag (tagged_variants ns ss) (struct_of tag ns ss i gs)
  at_its_place ns [] i inside gs c = absurd (let k : ⊥ = omega arith in k)
  at_its_place ns (s ∷ ss) zero inside gs c = inl (gs, refl, c)
  at_its_place ns (s ∷ ss) (suc i) inside gs c = inr (at_its_place (other_names ns) ss i (let k : i < length ss = omega arith in k) gs c)

  pub alike_at : (ns : Names) (ss : Structs) (i : ℕ) (gs hs : Fields) → SameFields gs hs
      → Same (struct_of tag ns ss i gs) (struct_of tag ns ss i hs)
  alike_at ns ss i gs hs h = (
    datum.field tag (datum.string (name_at ns i)) hs,
    refl,
    (datum.string (name_at ns i), hs, refl, refl, h),
  )

  same_in : (n m own other : Text) (gs hs : Fields)
      → Same (tagged_struct tag n own gs) (tagged_struct tag m other hs)
      → (n ≡ m) × SameFields gs hs
  same_in n m own other gs hs h =
      let all = ap fields_in h.1 ∙ h.2.2 in (
        ap text_in h.2.3 ∙ sym (ap (λ fs. text_in (first_in fs)) all),
        subst (SameFields gs) (sym (ap others_in all)) h.2.4,
      )

-- ---- all variants

module _ {V L : Type 0} (a : AboutTagged V L) where
  abbrev pub tagged_structs : Structs
  tagged_structs = a.list.structs a.name []

  abbrev pub all_tagged : Tagged
  all_tagged = tagged_variants a.names tagged_structs

  abbrev pub tagged_shape : Shape
  tagged_shape = shape.tagged a.tag all_tagged

  -- the struct of a value's variant: the tag with the variant's name, and the fields
  abbrev pub tagged_tells : V → Datum
  tagged_tells v = struct_of a.tag a.names tagged_structs (a.list.place (a.parts v))
      (a.list.told (a.parts v))

  -- the same variant with the same fields
  abbrev pub tagged_same : V → V → Type 0
  tagged_same v w = a.list.same (a.parts v) (a.parts w)

  abbrev pub TaggedAnswers : Answer Datum → Result V Fault → Type 0
  TaggedAnswers = AnswersByShape (conforms tagged_shape) Same tagged_tells

  -- what may be answered on a source: what reading at the shape gives
  abbrev pub tagged_reads : Source → Result V Fault → Type 0
  tagged_reads source r = TaggedAnswers (read tagged_shape source) r

  -- what may be answered on the entries of a map
  abbrev pub FromEntries : List Entry → Result V Fault → Type 0
  FromEntries es r = TaggedAnswers (read_tag a.tag es >>= λ t. read_tagged all_tagged a.tag t es) r

  -- No two variants have the same name, and each has one. The fields of each variant fit the tag:
  -- no two have the same name, and none has the tag's.
  abbrev pub IsFit : Type 0
  IsFit = (differ a.names ≡ true) × (length a.names ≡ a.list.count) × a.list.fit a.tag

  none_left : (n : ℕ) → n + 0 ≡ n
  none_left n = omega arith

  pub all_counted : length tagged_structs ≡ a.list.count
  all_counted = a.list.counted a.name [] ∙ none_left a.list.count

  pub as_many : IsFit → length a.names ≡ length tagged_structs
  as_many fit = fit.1 ∙ sym all_counted

  pub struct_inside : (v : L) → a.list.place v < length tagged_structs
  struct_inside v = subst (λ n. a.list.place v < n) (sym all_counted) (a.list.within v)

  pub own : IsFit → (v : V) → conforms tagged_shape (tagged_tells v)
      → conform_fields (struct_at (a.list.place (a.parts v)) tagged_structs).1
      (a.list.told (a.parts v))
  own fit v c =
      let i = a.list.place (a.parts v) in
      own_fields a.tag a.names tagged_structs fit.0 (as_many fit) i (struct_inside (a.parts v)) (struct_at i tagged_structs).0 (a.list.told (a.parts v)) c

  module _ (fit : IsFit) (v w : V) (c : conforms tagged_shape (tagged_tells v))
      (d : conforms tagged_shape (tagged_tells w)) where
    abbrev at_v : ℕ
    at_v = a.list.place (a.parts v)

    abbrev at_w : ℕ
    at_w = a.list.place (a.parts w)

    named_place : (x : L) → a.list.place x < length a.names
    named_place x = subst (λ n. a.list.place x < n) (sym fit.1) (a.list.within x)

    pub tagged_by_value : Same (tagged_tells v) (tagged_tells w) → tagged_same v w
    tagged_by_value h =
        let s = same_in a.tag (name_at a.names at_v) (name_at a.names at_w) (struct_at at_v tagged_structs).0 (struct_at at_w tagged_structs).0 (a.list.told (a.parts v)) (a.list.told (a.parts w)) h in
        let p = same_place a.names fit.0 at_v at_w (named_place (a.parts v)) (named_place (a.parts w)) s.0 in
        a.list.told_by_value a.tag fit.2 a.name [] (a.parts v) (a.parts w) (own fit v c) (own fit w d) p s.1

    pub tagged_alike : tagged_same v w → Same (tagged_tells v) (tagged_tells w)
    tagged_alike h =
        let p = a.list.told_alike a.tag fit.2 a.name [] (a.parts v) (a.parts w) (own fit v c) (own fit w d) h in
        subst (λ j. Same (tagged_tells v) (struct_of a.tag a.names tagged_structs j (a.list.told (a.parts w)))) p.0
        (alike_at a.tag a.names tagged_structs at_v (a.list.told (a.parts v)) (a.list.told (a.parts w)) p.1)

  abbrev pub about_tagged : IsFit → About V
  about_tagged fit = record {
    shape = tagged_shape;
    tells = tagged_tells;
    same = tagged_same;
    told_by_value = tagged_by_value fit;
    told_alike = tagged_alike fit;
  }
