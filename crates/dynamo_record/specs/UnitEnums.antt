-- Enums whose variants are all without content, described by their names.
use Rattle.std.specs.Prelude.{◌≡◌, ◌↔◌, ◌<◌, ◌≤◌, ℕ, suc, Bool, true, false, ◌&&◌, List, [], ◌∷◌}
use Rattle.std.specs.Prelude.{Option, Some, None, Result, nat_eq, nat_lt, cond}
use Rattle.std.proofs.Common.{zero, length, refl, sym, ap, subst, ◌∙◌, inl, inr, arith, ltb-true}
use Rattle.std.proofs.Common.{lt-ltb}
use Rattle.std.proofs.lemmas.Bool.{true≢false}
use Rattle.std.proofs.lemmas.Bool.Decides.{Decides-eqb}
use Rattle.std.specs.Cmp.{nat_cmp_total}
use Rattle.std.specs.Cmp.Derive.{bare_tied, of_values, one_truth, points}
use Rattle.std.specs.Ordering.{eq_by_cmp, is_lt, nat_cmp, ordering_reverse}
use Rattle.std.specs.declared.cmp.Ordering.{Ordering}
use Rattle.std.specs.declared.cmp.Ordering.TheVariants.{Less, Equal, Greater}
use denote.Struct.Field.{Field}
use denote.Enum.Bare.{sameb, tag_one, Bare}
use denote.Enum.Compared.{by}
use denote.Enum.Declared.{Record, Choice, declared, rowss, intoss, tag_of}
use denote.Enum.Enum.{tag, tag_below}
use Rattle.dynamo_value.specs.Fault.{Fault}
use Rattle.dynamo_ser.specs.Datum as datum
use Rattle.dynamo_ser.specs.Datum.{Datum}
use Rattle.dynamo_de.specs.Source.{Source, Text}
use Rattle.dynamo_shape.specs.Conforms.{conforms}
use Rattle.dynamo_shape.specs.Laws.{AnswersByShape, EqualAsTold, ToldApart, IsToldByValue}
use Rattle.dynamo_shape.specs.Read.{read, read_one_of}
use Rattle.dynamo_shape.specs.Same.{Same}
use Rattle.dynamo_shape.specs.Shape as shape
use Rattle.dynamo_shape.specs.Shape.{Shape, Variants}
use Rattle.dynamo_shape.proofs.Alike.{equal_alike}
use Rattle.dynamo_record.specs.About.{About}
use Rattle.dynamo_record.specs.Keys.{AboutKey, key_of}
use Rattle.dynamo_record.specs.Names.{Names, first_name, other_names, differ}

-- The name of an enum, those of its variants in order, and the number of a value's variant, by
-- which `==` and the order of a derive go. A number is below that of the names, which all differ,
-- and no two values have the same.
pub record AboutUnits (T : Type 0) : Type 1 where
  pub name : Text
  pub names : Names
  pub number : T → ℕ
  pub eq : T → T → Bool
  pub cmp : T → T → Ordering
  pub below : (v : T) → number v < length names
  pub one : (v w : T) → number v ≡ number w → v ≡ w
  pub equal : (v w : T) → ((eq v w ≡ true) ↔ (number v ≡ number w))
  pub tied : (v w : T) → eq v w ≡ eq_by_cmp cmp v w
  pub ordered : (v w : T) → cmp v w ≡ nat_cmp (number v) (number w)
  pub named : differ names ≡ true

-- the name of this number
abbrev pub name_at : Names → ℕ → Text
name_at ns zero = first_name ns
name_at ns (suc n) = name_at (other_names ns) n

-- the value of this number among so many, or none after the last
unfoldable pub IsNumber : {T : Type 0} → (T → ℕ) → ℕ → ℕ → Option T → Type 0
IsNumber numbers count n None = count ≤ n
IsNumber numbers count n (Some v) = numbers v ≡ n

abbrev pub unit_variants : Names → Variants
unit_variants [] = shape.no_variants
unit_variants (n ∷ ns) = shape.variant n shape.nothing (unit_variants ns)

abbrev number_in : Datum → ℕ
number_in (datum.unit_variant v) = v.index
number_in _ = 0

module _ {T : Type 0} (a : AboutUnits T) where
  abbrev pub unit_enum_shape : Shape
  unit_enum_shape = shape.enum a.name (unit_variants a.names)

  -- the unit variant of its number
  abbrev pub unit_enum_tells : T → Datum
  unit_enum_tells v = datum.unit_variant
      (datum.variant a.name (a.number v) (name_at a.names (a.number v)))

  pub unit_enum_told : IsToldByValue unit_enum_shape unit_enum_tells (λ v w. v ≡ w)
  unit_enum_told v w _ _ same = a.one v w (ap number_in same)

  abbrev pub about_units : About T
  about_units = record {
    shape = unit_enum_shape;
    tells = unit_enum_tells;
    same = λ v w. v ≡ w;
    told_by_value = unit_enum_told;
    told_alike = equal_alike unit_enum_shape unit_enum_tells;
  }

  -- what may be answered on a source: what reading at the shape gives
  abbrev pub unit_enum_reads : Source → Result T Fault → Type 0
  unit_enum_reads source r = AnswersByShape (conforms unit_enum_shape) Same unit_enum_tells
      (read unit_enum_shape source) r

  -- what may be answered on the name of a variant
  abbrev pub FromName : Text → Result T Fault → Type 0
  FromName t r = AnswersByShape (conforms unit_enum_shape) Same unit_enum_tells
      (read_one_of (unit_variants a.names) a.name 0 t None) r

  -- what may be answered on the name of a variant and its content
  abbrev pub FromVariant : Text × Option Source → Result T Fault → Type 0
  FromVariant v r = AnswersByShape (conforms unit_enum_shape) Same unit_enum_tells
      (read_one_of (unit_variants a.names) a.name 0 v.0 v.1) r

  pub unit_enum_equal : EqualAsTold unit_enum_tells a.eq
  unit_enum_equal v w = (
    λ t. ap unit_enum_tells (a.one v w ((a.equal v w).0 t)),
    λ e. (a.equal v w).1 (ap number_in e),
  )

  pub unit_enum_apart : ToldApart unit_enum_tells
  unit_enum_apart v w same = same

  -- what a derive makes of `==` and the order, as keys
  abbrev pub key_units : AboutKey T
  key_units = key_of about_units a.eq a.cmp unit_enum_equal a.tied (λ v w. ap is_lt (a.ordered v w))
      unit_enum_apart

-- ---- of an enum that is written out

-- none of the variants holds a value
abbrev pub are_units : List (List Field) → Bool
are_units [] = true
are_units ([] ∷ Fss) = are_units Fss
are_units ((F ∷ Fs) ∷ Fss) = false

-- the variants are without content, and each has a name of its own
abbrev pub is_named_enum : Record → Names → Bool
is_named_enum N names = are_units N.parts
    && (nat_eq (length N.parts) (length names) && differ names)

both : (s t : Bool) → (s && t) ≡ true → (s ≡ true) × (t ≡ true)
both true t h = (refl, h)
both false t h = absurd (true≢false (sym h))

bare : (Fss : List (List Field)) → are_units Fss ≡ true → Bare Fss
bare [] h = tt
bare ([] ∷ Fss) h = bare Fss h
bare ((F ∷ Fs) ∷ Fss) h = absurd (true≢false (sym h))

rows_length : (Fss : List (List Field)) → length (rowss Fss) ≡ length Fss
rows_length [] = refl
rows_length (Fs ∷ Fss) = ap suc (rows_length Fss)

first_below : (n : ℕ) → Less ≡ nat_cmp 0 (suc n)
first_below n = rw (lt-ltb 0 (suc n) (omega arith)) refl

first_above : (n : ℕ) → Greater ≡ nat_cmp (suc n) 0
first_above n = ap ordering_reverse (first_below n) ∙ sym (nat_cmp_total.antisymm (suc n) 0)

next_place : (m n : ℕ) → nat_cmp m n ≡ nat_cmp (suc m) (suc n)
next_place m n =
    let less = one_truth (nat_lt m n) (nat_lt (suc m) (suc n)) (λ h. let p = ltb-true m n h in lt-ltb (suc m) (suc n) (omega arith)) (λ h. let p = ltb-true (suc m) (suc n) h in lt-ltb m n (omega arith)) in
    let equal = one_truth (nat_eq m n) (nat_eq (suc m) (suc n)) (λ h. (Decides-eqb (suc m) (suc n)).1 (ap suc ((Decides-eqb m n).0 h))) (λ h. let p = (Decides-eqb (suc m) (suc n)).0 h in (Decides-eqb m n).1 (omega arith)) in
    λ i. cond (less i) Less (cond (equal i) Equal Greater)

-- a derived order goes by the places of the variants
pub by_place : (Fss : List (List Field)) (c d : Choice Fss)
    → by Less Greater Fss (points Equal Fss) c d
    ≡ nat_cmp (tag (rowss Fss) (intoss Fss c)) (tag (rowss Fss) (intoss Fss d))
by_place [] c d = absurd c
by_place (Fs ∷ Fss) (inl x) (inl y) = refl
by_place (Fs ∷ Fss) (inl x) (inr y) = first_below (tag (rowss Fss) (intoss Fss y))
by_place (Fs ∷ Fss) (inr x) (inl y) = first_above (tag (rowss Fss) (intoss Fss x))
by_place (Fs ∷ Fss) (inr x) (inr y) = by_place Fss x y
    ∙ next_place (tag (rowss Fss) (intoss Fss x)) (tag (rowss Fss) (intoss Fss y))

module _ (N : Record) (names : Names) (h : is_named_enum N names ≡ true) where
  counted : length N.parts ≡ length names
  counted = (Decides-eqb (length N.parts) (length names)).0
      (both (nat_eq (length N.parts) (length names)) (differ names)
      (both (are_units N.parts) _ h).1).0

  pub enum_below : (v : N.D) → tag_of (declared N) v < length names
  enum_below v = subst (λ n. tag_of (declared N) v < n) (rows_length N.parts ∙ counted)
      (tag_below (rowss N.parts) ((declared N).to v))

  pub enum_one : (v w : N.D) → tag_of (declared N) v ≡ tag_of (declared N) w → v ≡ w
  enum_one v w e = tag_one (declared N) (bare N.parts (both (are_units N.parts) _ h).0) v w e

  pub enum_named : differ names ≡ true
  enum_named = (both (nat_eq (length N.parts) (length names)) (differ names)
      (both (are_units N.parts) _ h).1).1

-- The description of an enum: by what a derive knows of it as its `enum`, its name and those of its
-- variants.
abbrev pub units_of : (N : Record) → Text → (names : Names) → is_named_enum N names ≡ true
    → AboutUnits N.D
units_of N name names h = record {
  name = name;
  names = names;
  number = tag_of (declared N);
  eq = sameb (declared N);
  cmp = of_values N Less Greater (points Equal N.parts);
  below = enum_below N names h;
  one = enum_one N names h;
  equal = λ v w. Decides-eqb (tag_of (declared N) v) (tag_of (declared N) w);
  tied = (bare_tied N).ties;
  ordered = λ v w. by_place N.parts (N.as_values v) (N.as_values w);
  named = enum_named N names h;
}
