-- The variants of an enum by what they hold, each put in front of whatever follows, so that two
-- lists are one list by going on with the second after the first.
use Rattle.std.specs.Prelude.{◌≡◌, ◌≤◌, ◌<◌, ◌+◌, ℕ, suc, List, [], ◌∷◌, Option, Some, None, Result}
use Rattle.std.specs.Prelude.{length}
use Rattle.std.proofs.Common.{zero, sym, ap, subst, ◌∙◌, arith}
use Rattle.dynamo_value.specs.Fault.{Fault}
use Rattle.dynamo_ser.specs.Datum as datum
use Rattle.dynamo_ser.specs.Datum.{Datum, Variant}
use Rattle.dynamo_de.specs.Answer as answer
use Rattle.dynamo_de.specs.Answer.{Answer}
use Rattle.dynamo_de.specs.Source.{Source, Text}
use Rattle.dynamo_shape.specs.Conforms.{conforms_content, conforms_variant}
use Rattle.dynamo_shape.specs.Laws.{AnswersByShape}
use Rattle.dynamo_shape.specs.Read.{read_inside}
use Rattle.dynamo_shape.specs.Same.{Same}
use Rattle.dynamo_shape.specs.Shape.{Content, Variants, no_variants, variant}
use Rattle.dynamo_record.specs.Indices.{index_of, in_first, in_others, same_index}
use Rattle.dynamo_record.specs.Names.{Names, first_name, other_names, names_from}
use Rattle.dynamo_record.specs.declared.variant_list.Choice.{Choice}
use Rattle.dynamo_record.specs.declared.variant_list.Choice.TheVariants.{Left, Right}

abbrev pub Contents : Type 0
Contents = List Content

-- the variant of this number, by the names of all
abbrev pub tag : Text → Names → ℕ → Variant
tag name ns i = datum.variant name i (first_name (names_from i ns))

abbrev pub variants_of : Names → Contents → Variants
variants_of ns [] = no_variants
variants_of ns (c ∷ cs) = variant (first_name ns) c (variants_of (other_names ns) cs)

-- one of these variants, of which the first is number i
abbrev pub ConformsToOne : Text → Names → ℕ → Contents → Datum → Type 0
ConformsToOne name ns i cs d = conforms_variant name i (variants_of (names_from i ns) cs) d

-- the content of the variant at a place among these
abbrev pub read_at : Text → Names → ℕ → Contents → ℕ → Option Source → Answer Datum
read_at name ns i [] place s = answer.refused
read_at name ns i (c ∷ cs) zero s = read_inside c (tag name ns i) s
read_at name ns i (c ∷ cs) (suc place) s = read_at name ns (suc i) cs place s

abbrev pub content_at : ℕ → Contents → Option Content
content_at i [] = None
content_at zero (c ∷ cs) = Some c
content_at (suc i) (c ∷ cs) = content_at i cs

-- ---- what one variant holds

-- What is known of it: its shape, what a variant tells that holds it, and when two are the same;
-- where it is fit.
pub record AboutContent (C : Type 0) : Type 1 where
  pub shape : Content
  pub told : Variant → C → Datum
  pub same : C → C → Type 0
  pub told_index : (v : Variant) (x : C) → index_of (told v x) ≡ v.index
  pub fit : Type 0
  pub told_by_value : fit → (v : Variant) (x y : C) → conforms_content shape v (told v x)
      → conforms_content shape v (told v y)
      → Same (told v x) (told v y) → same x y
  pub told_alike : fit → (v : Variant) (x y : C) → conforms_content shape v (told v x)
      → conforms_content shape v (told v y)
      → same x y → Same (told v x) (told v y)

-- what may be answered on the content of a variant
abbrev pub ReadsInside : {C : Type 0} → Content → (Variant → C → Datum) → Variant → Option Source
    → Result C Fault → Type 0
ReadsInside c told v s r = AnswersByShape (conforms_content c v) Same (told v) (read_inside c v s) r

-- ---- all variants

-- what a value tells, by the names of all variants and the number of the first of these
abbrev pub Told : Type 0 → Type 0
Told L = Text → Names → ℕ → L → Datum

-- values that tell the same data are the same variant with the same content
abbrev pub OneTold : {L : Type 0} → (Contents → Contents) → Told L → (L → L → Type 0) → Type 0
OneTold {L} contents told same = (name : Text) (ns : Names) (i : ℕ) (cs : Contents) (v w : L)
    → ConformsToOne name ns i (contents cs) (told name ns i v)
    → ConformsToOne name ns i (contents cs) (told name ns i w)
    → Same (told name ns i v) (told name ns i w)
    → same v w

-- and the other way round
abbrev pub OneAlike : {L : Type 0} → (Contents → Contents) → Told L → (L → L → Type 0) → Type 0
OneAlike {L} contents told same = (name : Text) (ns : Names) (i : ℕ) (cs : Contents) (v w : L)
    → ConformsToOne name ns i (contents cs) (told name ns i v)
    → ConformsToOne name ns i (contents cs) (told name ns i w)
    → same v w
    → Same (told name ns i v) (told name ns i w)

-- the number of the variant that is told is one of these
abbrev pub IsWithin : {L : Type 0} → ℕ → Told L → Type 0
IsWithin {L} count told = (name : Text) (ns : Names) (i : ℕ) (v : L)
    → (i ≤ index_of (told name ns i v)) × (index_of (told name ns i v) < i + count)

-- a datum of a variant after these conforms to one of those that follow
abbrev pub ConformsBehind : ℕ → (Contents → Contents) → Type 0
ConformsBehind count contents = (name : Text) (ns : Names) (i : ℕ) (cs : Contents) (d : Datum)
    → i + count ≤ index_of d
    → ConformsToOne name ns i (contents cs) d
    → ConformsToOne name ns (i + count) cs d

-- the variants after these are those that follow
abbrev pub ReadAtBehind : ℕ → (Contents → Contents) → Type 0
ReadAtBehind count contents = (name : Text) (ns : Names) (i : ℕ) (cs : Contents) (j : ℕ)
    (s : Option Source)
    → read_at name ns i (contents cs) (count + j) s ≡ read_at name ns (i + count) cs j s

-- What is known of a list of variants: how many they are; their contents in front of others; what a
-- value tells; when two values are the same variant with the same content; and that they are so
-- exactly where they tell the same data.
pub record AboutVariants (L : Type 0) : Type 1 where
  pub count : ℕ
  pub contents : Contents → Contents
  pub told : Told L
  pub same : L → L → Type 0
  pub fit : Type 0
  pub told_by_value : fit → OneTold contents told same
  pub told_alike : fit → OneAlike contents told same
  pub within : IsWithin count told
  pub behind : ConformsBehind count contents
  pub read_behind : ReadAtBehind count contents
  pub counted : (cs : Contents) → length (contents cs) ≡ count + length cs

-- what may be answered on the content of the variant at a place among these
abbrev pub ReadsAt : {L : Type 0} → (Contents → Contents) → Told L → Text → Names → ℕ → Contents → ℕ
    → Option Source → Result L Fault → Type 0
ReadsAt contents told name ns i cs place s r = AnswersByShape
    (ConformsToOne name ns i (contents cs)) Same (told name ns i)
    (read_at name ns i (contents cs) place s) r

-- ---- one variant

next : (i : ℕ) → suc i ≡ i + 1
next i = omega arith

module _ {C : Type 0} (a : AboutContent C) where
  abbrev pub one_contents : Contents → Contents
  one_contents cs = a.shape ∷ cs

  abbrev pub one_told : Told C
  one_told name ns i x = a.told (tag name ns i) x

  pub first_conforms : (name : Text) (ns : Names) (i : ℕ) (cs : Contents) (x : C)
      → ConformsToOne name ns i (one_contents cs) (one_told name ns i x)
      → conforms_content a.shape (tag name ns i) (one_told name ns i x)
  first_conforms name ns i cs x h = in_first name (first_name (names_from i ns)) i a.shape
      (variants_of (names_from (suc i) ns) cs) (one_told name ns i x)
      (a.told_index (tag name ns i) x) h

  pub one_by_value : a.fit → OneTold one_contents one_told a.same
  one_by_value fit name ns i cs v w c d h = a.told_by_value fit (tag name ns i) v w
      (first_conforms name ns i cs v c) (first_conforms name ns i cs w d) h

  pub one_alike : a.fit → OneAlike one_contents one_told a.same
  one_alike fit name ns i cs v w c d h = a.told_alike fit (tag name ns i) v w
      (first_conforms name ns i cs v c) (first_conforms name ns i cs w d) h

  pub one_within : IsWithin 1 one_told
  one_within name ns i v =
      let at = a.told_index (tag name ns i) v in
      let low : i ≤ index_of (one_told name ns i v) = omega arith in
      let high : index_of (one_told name ns i v) < i + 1 = omega arith in
      (low, high)

  pub one_behind : ConformsBehind 1 one_contents
  one_behind name ns i cs d at h =
      let behind : suc i ≤ index_of d = omega arith in
      subst (λ n. ConformsToOne name ns n cs d) (next i) (in_others name (first_name (names_from i ns)) i a.shape (variants_of (names_from (suc i) ns) cs) d behind h)

  pub one_read : ReadAtBehind 1 one_contents
  one_read name ns i cs j s =
      let at : suc j ≡ 1 + j = omega arith in
      subst (λ n. read_at name ns i (a.shape ∷ cs) n s ≡ read_at name ns (i + 1) cs j s) at (ap (λ n. read_at name ns n cs j s) (next i))

  pub one_counted : (cs : Contents) → length (one_contents cs) ≡ 1 + length cs
  one_counted cs = omega arith

  abbrev pub about_content : AboutVariants C
  about_content = record {
    count = 1;
    contents = one_contents;
    told = one_told;
    same = a.same;
    fit = a.fit;
    told_by_value = one_by_value;
    told_alike = one_alike;
    within = one_within;
    behind = one_behind;
    read_behind = one_read;
    counted = one_counted;
  }

-- ---- two lists of variants

grouped : (i a b : ℕ) → (i + a) + b ≡ i + (a + b)
grouped i a b = omega arith

apart : (k m n : ℕ) → m < k → k ≤ n → m ≡ n → ⊥
apart k m n h l e = omega arith

module _ {L R : Type 0} (l : AboutVariants L) (r : AboutVariants R) where
  abbrev pub choice_contents : Contents → Contents
  choice_contents cs = l.contents (r.contents cs)

  abbrev pub choice_told : Told (Choice L R)
  choice_told name ns i (Left v) = l.told name ns i v
  choice_told name ns i (Right w) = r.told name ns (i + l.count) w

  abbrev pub choice_same : Choice L R → Choice L R → Type 0
  choice_same (Left v) (Left w) = l.same v w
  choice_same (Right v) (Right w) = r.same v w
  choice_same _ _ = ⊥

  -- the left ones have smaller numbers
  not_same : (name : Text) (ns : Names) (i : ℕ) (v : L) (w : R)
      → index_of (l.told name ns i v) ≡ index_of (r.told name ns (i + l.count) w)
      → ⊥
  not_same name ns i v w h = apart (i + l.count) (index_of (l.told name ns i v))
      (index_of (r.told name ns (i + l.count) w)) (l.within name ns i v).1
      (r.within name ns (i + l.count) w).0 h

  pub right_conforms : (name : Text) (ns : Names) (i : ℕ) (cs : Contents) (w : R)
      → ConformsToOne name ns i (choice_contents cs) (r.told name ns (i + l.count) w)
      → ConformsToOne name ns (i + l.count) (r.contents cs) (r.told name ns (i + l.count) w)
  right_conforms name ns i cs w h = l.behind name ns i (r.contents cs)
      (r.told name ns (i + l.count) w) (r.within name ns (i + l.count) w).0 h

  pub choice_by_value : l.fit × r.fit → OneTold choice_contents choice_told choice_same
  choice_by_value fit name ns i cs (Left v) (Left w) c d h = l.told_by_value fit.0 name ns i
      (r.contents cs) v w c d h
  choice_by_value fit name ns i cs (Left v) (Right w) c d h = absurd
      (not_same name ns i v w (same_index (l.told name ns i v) (r.told name ns (i + l.count) w) h))
  choice_by_value fit name ns i cs (Right v) (Left w) c d h = absurd
      (not_same name ns i w v
      (sym (same_index (r.told name ns (i + l.count) v) (l.told name ns i w) h)))
  choice_by_value fit name ns i cs (Right v) (Right w) c d h = r.told_by_value fit.1 name ns
      (i + l.count) cs v w (right_conforms name ns i cs v c) (right_conforms name ns i cs w d) h

  pub choice_alike : l.fit × r.fit → OneAlike choice_contents choice_told choice_same
  choice_alike fit name ns i cs (Left v) (Left w) c d h = l.told_alike fit.0 name ns i
      (r.contents cs) v w c d h
  choice_alike fit name ns i cs (Left v) (Right w) c d h = absurd h
  choice_alike fit name ns i cs (Right v) (Left w) c d h = absurd h
  choice_alike fit name ns i cs (Right v) (Right w) c d h = r.told_alike fit.1 name ns (i + l.count)
      cs v w (right_conforms name ns i cs v c) (right_conforms name ns i cs w d) h

  pub choice_within : IsWithin (l.count + r.count) choice_told
  choice_within name ns i (Left v) =
      let h = l.within name ns i v in
      let high : index_of (l.told name ns i v) < i + (l.count + r.count) = omega arith in
      (h.0, high)
  choice_within name ns i (Right w) =
      let h = r.within name ns (i + l.count) w in
      let low : i ≤ index_of (r.told name ns (i + l.count) w) = omega arith in
      let high : index_of (r.told name ns (i + l.count) w) < i + (l.count + r.count) = omega arith in
      (low, high)

  pub choice_behind : ConformsBehind (l.count + r.count) choice_contents
  choice_behind name ns i cs d at h =
      let first : i + l.count ≤ index_of d = omega arith in
      let second : (i + l.count) + r.count ≤ index_of d = omega arith in
      subst (λ n. ConformsToOne name ns n cs d) (grouped i l.count r.count) (r.behind name ns (i + l.count) cs d second (l.behind name ns i (r.contents cs) d first h))

  pub choice_read : ReadAtBehind (l.count + r.count) choice_contents
  choice_read name ns i cs j s =
      subst (λ n. read_at name ns i (choice_contents cs) n s ≡ read_at name ns (i + (l.count + r.count)) cs j s) (sym (grouped l.count r.count j))
      (l.read_behind name ns i (r.contents cs) (r.count + j) s ∙ (r.read_behind name ns (i + l.count) cs j s ∙ ap (λ n. read_at name ns n cs j s) (grouped i l.count r.count)))

  pub choice_counted : (cs : Contents)
      → length (choice_contents cs) ≡ (l.count + r.count) + length cs
  choice_counted cs = l.counted (r.contents cs)
      ∙ (ap (λ n. l.count + n) (r.counted cs) ∙ sym (grouped l.count r.count (length cs)))

  abbrev pub about_choice : AboutVariants (Choice L R)
  about_choice = record {
    count = l.count + r.count;
    contents = choice_contents;
    told = choice_told;
    same = choice_same;
    fit = l.fit × r.fit;
    told_by_value = choice_by_value;
    told_alike = choice_alike;
    within = choice_within;
    behind = choice_behind;
    read_behind = choice_read;
    counted = choice_counted;
  }
