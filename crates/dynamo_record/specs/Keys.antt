-- What is known of the values of a type that can be keys of maps, and of the maps.
use Rattle.std.specs.Prelude.{◌≡◌, ℕ, ℤ, Bool, true, false, List, map, Option, Result, nat_eq}
use Rattle.std.specs.Prelude.{String, string_bytes}
use Rattle.std.proofs.Common.{refl, sym, subst}
use Rattle.std.specs.declared.alloc.Global.{Global}
use Rattle.std.specs.declared.cmp.Ordering.{Ordering}
use Rattle.std.specs.Bool.{beq}
use Rattle.std.specs.Cmp.{unsigned_ties}
use Rattle.std.specs.Cmp.Lexicographic.{pointwise, slice_cmp, texts_ties}
use Rattle.std.specs.Map.{lookup}
use Rattle.std.specs.Ordering.{bool_cmp, int_cmp, int_eq, nat_cmp, eq_by_cmp}
use Rattle.std.specs.String.{string_eq, string_cmp}
use Rattle.dynamo_value.specs.Fault.{Fault}
use Rattle.dynamo_value.specs.Integer.{IntegerKind}
use Rattle.dynamo_ser.specs.Datum as datum
use Rattle.dynamo_ser.specs.Datum.{Datum}
use Rattle.dynamo_de.specs.Answer.{After}
use Rattle.dynamo_de.specs.Reading.{read_entries}
use Rattle.dynamo_de.specs.Reads.{ReadsMap}
use Rattle.dynamo_de.specs.Source.{Source}
use Rattle.dynamo_shape.specs.ByValue.{SameMap}
use Rattle.dynamo_shape.specs.Laws.{BelowAsTold, EqualAsTold, ToldApart, ReadsByShape}
use Rattle.dynamo_shape.specs.Shape as shape
use Rattle.dynamo_shape.specs.Shape.{Shape}
use Rattle.dynamo_shape.proofs.KeysTold.{bool_equal, signed_equal, unsigned_equal, unsigned_below}
use Rattle.dynamo_shape.proofs.KeysTold.{char_equal, text_equal, bytes_equal, in_order}
use Rattle.dynamo_shape.proofs.MapsRead.{map_permitted}
use Rattle.dynamo_shape.proofs.MapsTold.{map_told, map_alike}
use Rattle.dynamo_shape.proofs.Pairs.{same_is}
use Rattle.dynamo_record.specs.About.{About, about_bool, about_signed, about_unsigned, about_char}
use Rattle.dynamo_record.specs.About.{about_text, about_bytes}

-- What is known of the values; their equality and order. Two keys are equal exactly where they tell
-- the same datum, and equal in the order exactly there, too. One is below another exactly where
-- what it tells is below. What a key tells holds no map, whose order could differ.
pub record AboutKey (K : Type 0) : Type 1 where
  pub about : About K
  pub eq : K → K → Bool
  pub cmp : K → K → Ordering
  pub equal_as_told : EqualAsTold about.tells eq
  pub ordered_as_told : EqualAsTold about.tells (eq_by_cmp cmp)
  pub below_as_told : BelowAsTold about.tells cmp
  pub told_apart : ToldApart about.tells

-- so a type's shape, what its values tell, and its equality and order
pub record IsKeyOf {K : Type 0} (key : AboutKey K) (own : Shape) (told : K → Datum)
    (equal : K → K → Bool) (order : K → K → Ordering) : Type 0 where
  pub shape : key.about.shape ≡ own
  pub tells : key.about.tells ≡ told
  pub eq : key.eq ≡ equal
  pub cmp : key.cmp ≡ order

abbrev pub own_key : {K : Type 0} (key : AboutKey K)
    → IsKeyOf key key.about.shape key.about.tells key.eq key.cmp
own_key key = record { shape = refl; tells = refl; eq = refl; cmp = refl }

-- keys whose equality is that of their order
abbrev pub key_of : {K : Type 0} (about : About K) (eq : K → K → Bool) (cmp : K → K → Ordering)
    → EqualAsTold about.tells eq
    → ((x y : K) → eq x y ≡ eq_by_cmp cmp x y)
    → BelowAsTold about.tells cmp → ToldApart about.tells → AboutKey K
key_of about eq cmp equal tied below apart = record {
  about = about;
  eq = eq;
  cmp = cmp;
  equal_as_told = equal;
  ordered_as_told = in_order about.tells eq cmp equal tied;
  below_as_told = below;
  told_apart = apart;
}

pub bools_tied : (x y : Bool) → beq x y ≡ eq_by_cmp bool_cmp x y
bools_tied true true = refl
bools_tied true false = refl
bools_tied false true = refl
bools_tied false false = refl

abbrev pub key_bool : AboutKey Bool
key_bool = key_of about_bool beq bool_cmp bool_equal bools_tied (λ _ _. refl) (λ _ _ h. h)

abbrev pub key_signed : IntegerKind → AboutKey ℤ
key_signed k = key_of (about_signed k) int_eq int_cmp (signed_equal k) (λ _ _. refl) (λ _ _. refl)
    (λ _ _ h. h)

abbrev pub key_unsigned : IntegerKind → AboutKey ℕ
key_unsigned k = key_of (about_unsigned k) nat_eq nat_cmp (unsigned_equal k) unsigned_ties
    (unsigned_below k) (λ _ _ h. h)

abbrev pub key_char : AboutKey ℕ
key_char = key_of about_char nat_eq nat_cmp char_equal unsigned_ties (λ _ _. refl) (λ _ _ h. h)

abbrev pub key_text : AboutKey (String Global)
key_text = key_of (about_text string_bytes) string_eq string_cmp text_equal
    (λ s t. texts_ties (string_bytes s) (string_bytes t)) (λ _ _. refl) (λ _ _ h. h)

abbrev pub key_bytes : {T : Type 0} → (T → List ℕ) → AboutKey T
key_bytes seen = key_of (about_bytes seen) (λ a b. pointwise nat_eq (seen a) (seen b))
    (λ a b. slice_cmp nat_cmp (seen a) (seen b)) (bytes_equal seen)
    (λ a b. texts_ties (seen a) (seen b)) (λ _ _. refl) (λ _ _ h. h)

-- ---- maps, whose entries are looked up by an equality of keys

abbrev pub map_tells : {K V : Type 0} → (K → Datum) → (V → Datum) → List (K × V) → Datum
map_tells keys values es = datum.map (datum.pairs_of (map (λ e. (keys e.0, values e.1)) es))

abbrev pub about_map : {K V M : Type 0} (key : AboutKey K) (v : About V) (eq : K → K → Bool)
    → EqualAsTold key.about.tells eq
    → (entries : M → List (K × V)) (get : M → K → Option V)
    → ((m : M) (q : K) → get m q ≡ lookup (eq q) (entries m))
    → About M
about_map key v eq equal entries get gets = record {
  shape = shape.map key.about.shape v.shape;
  tells = λ m. map_tells key.about.tells v.tells (entries m);
  same = SameMap get v.same;
  told_by_value = map_told eq key.about.tells v.tells equal key.told_apart key.about.shape v.shape v.same v.told_by_value entries get gets;
  told_alike = map_alike eq key.about.tells v.tells equal key.about.shape v.shape v.same v.told_alike entries get gets;
}

module _ {K V M : Type 0} (key : AboutKey K) (v : About V) (entries : M → List (K × V)) where
  -- what a map tells, by what its keys and values tell
  pub map_as_told : (keys : K → Datum) (values : V → Datum) → key.about.tells ≡ keys
      → v.tells ≡ values
      → ◌≡◌ {A = M → Datum} (λ m. map_tells key.about.tells v.tells (entries m))
      (λ m. map_tells keys values (entries m))
  map_as_told keys values k h = λ i m. map_tells (k i) (h i) (entries m)

  -- a map reads by its shape, as its keys and values do, whose equality it tests by its own
  -- relation
  pub map_reads : {R : Type 0} (test : R → K → K → Bool) (s : Shape) (tells : K → Datum)
      (own relation : R) (keys : Source → Result K Fault → Type 0)
      (values : Source → Result V Fault → Type 0)
      → key.about.shape ≡ s → key.about.tells ≡ tells → own ≡ relation
      → EqualAsTold key.about.tells (test own)
      → ReadsByShape s tells keys
      → ReadsByShape v.shape v.tells values
      → (get : R → M → K → Option V)
      → ((r : R) (m : M) (q : K) → get r m q ≡ lookup (test r q) (entries m))
      → ReadsByShape (shape.map key.about.shape v.shape)
      (λ m. map_tells key.about.tells v.tells (entries m))
      (λ source. After (read_entries source) (ReadsMap (get relation) (test relation) keys values))
  map_reads test s tells own relation keys values is_shape is_told is_own equal by_shape values_by_shape get gets =
      let keys_by_shape : ReadsByShape key.about.shape key.about.tells keys = subst (λ t. ReadsByShape key.about.shape t keys) (sym is_told) (subst (λ s. ReadsByShape s tells keys) (sym is_shape) by_shape) in
      subst (λ r. ReadsByShape (shape.map key.about.shape v.shape) (λ m. map_tells key.about.tells v.tells (entries m)) (λ source. After (read_entries source) (ReadsMap (get r) (test r) keys values))) is_own
      (map_permitted (test own) key.about.tells v.tells equal key.about.shape v.shape keys values keys_by_shape values_by_shape (λ l q is same. same_is l (key.about.tells q) is same) entries (get own) (gets own))
