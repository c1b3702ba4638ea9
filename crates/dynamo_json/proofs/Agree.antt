-- Writing directly and by way of plain JSON agree.
use Rattle.std.proofs.Common.{◌≡◌, ℕ, ℤ, pos, negsuc, true, nat_lt, ◌^◌, ◌≤◌, List, [], ◌∷◌, Result, Ok, Err, Option, None, refl, ap, sym, arith, lit≤}
use Rattle.std.proofs.Math.Nat.{pow-le-pow_right}
use Rattle.dynamo_json.proofs.Common.{signed_decimal, Data, Av, Fault, ◌>>=◌, Datum, json_elements}
use Rattle.dynamo_json.proofs.Common.{json_pairs, collect, written_elements, written_pairs}
use Rattle.dynamo_json.proofs.Common.{written_fields, map_of_entries, Alike, collect_alike}
use Rattle.dynamo_json.proofs.Common.{collect_twice, in_64_bits, object_of_entries, plain_elements}
use Rattle.dynamo_json.proofs.Common.{plain_pairs, plain_fields}
use Rattle.serde_json.specs.Data as json
use Rattle.dynamo_value.specs.Av as av
use Rattle.dynamo_ser.specs.Datum as datum
use Rattle.std.proofs.lemmas.Bool.{true≢false, and_parts}
use Rattle.std.proofs.lemmas.Bool.Decides.{nat_tests}
use Rattle.serde_json.specs.Find.{of_integer}
use Rattle.dynamo_value.specs.Integer.{IntegerKind, i8, i16, i32, i64, i128, u8, u16, u32, u64, u128}
use Rattle.dynamo_ser.specs.Key.{key_text}
use Rattle.dynamo_ser.specs.Symbols.{SetKind}
use Rattle.dynamo_de.specs.Number.{fits, value_bits, is_signed}
use Rattle.dynamo_write.specs.Set.{named}
use Rattle.dynamo_write.specs.Written.{one_member as single_map}
use Rattle.dynamo_json.specs.Plain.{members_of, one_member}
use Rattle.dynamo_json.specs.Square.{SquareInteger, InSquare, ElementsInSquare, PairsInSquare, FieldsInSquare, AgreeBy, WritesAs, IsSquare}

-- ---- steps

then_agree : {A B C D : Type 0} (R : A → B → Type 0) (Q : C → D → Type 0) (f : A → Result C Fault) (g : B → Result D Fault) (p : Result A Fault) (w : Result B Fault)
    → AgreeBy R p w → ((a : A) (b : B) → R a b → AgreeBy Q (f a) (g b)) → AgreeBy Q (p >>= f) (w >>= g)
then_agree R Q f g (Ok a) (Ok b) h k = k a b h
then_agree R Q f g (Err x) (Err y) h k = h
then_agree R Q f g (Ok a) (Err y) h k = absurd h
then_agree R Q f g (Err x) (Ok b) h k = absurd h

same_agree : {A : Type 0} (r : Result A Fault) → AgreeBy (λ x y. x ≡ y) r r
same_agree (Ok x) = refl
same_agree (Err f) = refl

unnamed_agree : (o : Option SetKind) (p : Result Data Fault) (w : Result Av Fault) → o ≡ None → AgreeBy WritesAs p w → AgreeBy WritesAs p (w >>= named o)
unnamed_agree o (Ok j) (Ok a) none h = rw none h
unnamed_agree o (Ok j) (Err f) none h = absurd h
unnamed_agree o (Err f) (Ok a) none h = absurd h
unnamed_agree o (Err f) (Err g) none h = h

-- ---- what each part of a JSON value is written as

abbrev ItemsWriteAs : json.Items → av.Elements → Type 0
ItemsWriteAs js as' = written_elements (json_elements js) ≡ Ok as'

number_writes : (z : ℤ) → WritesAs (json.number (of_integer z)) (av.N (signed_decimal z))
number_writes (pos n) = refl
number_writes (negsuc n) = refl

single_writes : (name : List ℕ) (j : Data) (a : Av) → WritesAs j a → WritesAs (one_member name j) (single_map name a)
single_writes name j a h = rw h refl

array_writes : (js : json.Items) (as' : av.Elements) → ItemsWriteAs js as' → WritesAs (json.array js) (av.L as')
array_writes js as' h = rw h refl

item_writes : (j : Data) (a : Av) (js : json.Items) (as' : av.Elements) → WritesAs j a → ItemsWriteAs js as' → ItemsWriteAs (json.item j js) (av.element a as')
item_writes j a js as' h k = rw (h, k) refl

members_write : (es : List (List ℕ × Data)) (fs : List (List ℕ × Av)) → Alike WritesAs es fs → written_pairs (json_pairs (members_of es)) ≡ Ok fs
members_write [] [] h = refl
members_write [] (f ∷ fs) h = absurd h
members_write (e ∷ es) [] h = absurd h
members_write (e ∷ es) (f ∷ fs) h = rw (h.1, members_write es fs h.2) (ap (λ t. Ok ((t, f.1) ∷ fs)) h.0)

object_writes : (es : List (List ℕ × Data)) (fs : List (List ℕ × Av)) → Alike WritesAs es fs → WritesAs (object_of_entries es) (map_of_entries fs)
object_writes es fs h =
    rw (members_write (collect es) (collect fs) (collect_alike WritesAs es fs h)) (ap (λ ms. Ok (av.M (av.members_of ms))) (collect_twice fs))

-- ---- integers of the square have a JSON number

below : (a b n : ℕ) → a ≤ b → nat_lt n a ≡ true → nat_lt n b ≡ true
below a b n within h = grind (arith, nat_tests)

narrow : (kind : IntegerKind) (z : ℤ) → value_bits kind ≤ 64 → (is_signed kind ≡ true → value_bits kind ≤ 63) → fits kind z ≡ true → in_64_bits z ≡ true
narrow kind (pos n) bits signed h = below (2 ^ value_bits kind) (2 ^ 64) n (pow-le-pow_right {n = 2} (lit≤ tt) bits) h
narrow kind (negsuc n) bits signed h =
    let (minus, low) = and_parts (is_signed kind) (nat_lt n (2 ^ value_bits kind)) h in
    below (2 ^ value_bits kind) (2 ^ 63) n (pow-le-pow_right {n = 2} (lit≤ tt) (signed minus)) low

has_number : (kind : IntegerKind) (z : ℤ) → SquareInteger kind z → in_64_bits z ≡ true
has_number i8 z h = narrow i8 z (lit≤ tt) (λ _. lit≤ tt) h
has_number i16 z h = narrow i16 z (lit≤ tt) (λ _. lit≤ tt) h
has_number i32 z h = narrow i32 z (lit≤ tt) (λ _. lit≤ tt) h
has_number i64 z h = narrow i64 z (lit≤ tt) (λ _. lit≤ tt) h
has_number i128 z h = h
has_number u8 z h = narrow u8 z (lit≤ tt) (λ _. lit≤ tt) h
has_number u16 z h = narrow u16 z (lit≤ tt) (λ _. lit≤ tt) h
has_number u32 z h = narrow u32 z (lit≤ tt) (λ _. lit≤ tt) h
has_number u64 z h = narrow u64 z (lit≤ tt) (λ minus. absurd (true≢false (sym minus))) h
has_number u128 z h = h

-- ---- the whole

abbrev EntriesAlike : List (List ℕ × Data) → List (List ℕ × Av) → Type 0
EntriesAlike = Alike WritesAs

mutual
  pub square : (d : Datum) → InSquare d → IsSquare d
  square (datum.boolean b) i = refl
  square (datum.integer kind z) i = rw (has_number kind z i) (number_writes z)
  square (datum.char c) i = refl
  square (datum.string text) i = refl
  square (datum.bytes bytes) i = absurd i
  square datum.none i = refl
  square datum.unit i = refl
  square (datum.some content) i = square content i
  square (datum.unit_struct name) i = refl
  square (datum.unit_variant variant) i = refl
  square (datum.newtype_struct name content) i = unnamed_agree _ _ _ i.0 (square content i.1)
  square (datum.newtype_variant variant content) i = then_agree WritesAs WritesAs _ _ _ _ (square content i) (λ j a h. single_writes variant.name j a h)
  square (datum.seq ds) i = then_agree ItemsWriteAs WritesAs _ _ _ _ (square_elements ds i) array_writes
  square (datum.tuple ds) i = then_agree ItemsWriteAs WritesAs _ _ _ _ (square_elements ds i) array_writes
  square (datum.tuple_struct name ds) i = then_agree ItemsWriteAs WritesAs _ _ _ _ (square_elements ds i) array_writes
  square (datum.tuple_variant variant ds) i = then_agree ItemsWriteAs WritesAs _ _ _ _ (square_elements ds i)
      (λ js as' h. single_writes variant.name (json.array js) (av.L as') (array_writes js as' h))
  square (datum.map ps) i = then_agree EntriesAlike WritesAs _ _ _ _ (square_pairs ps i) object_writes
  square (datum.struct name fs) i = then_agree EntriesAlike WritesAs _ _ _ _ (square_fields fs i) object_writes
  square (datum.struct_variant variant fs) i = then_agree EntriesAlike WritesAs _ _ _ _ (square_fields fs i)
      (λ es gs h. single_writes variant.name (object_of_entries es) (map_of_entries gs) (object_writes es gs h))
  square (datum.refuse text) i = refl

  square_elements : (ds : datum.Elements) → ElementsInSquare ds → AgreeBy ItemsWriteAs (plain_elements ds) (written_elements ds)
  square_elements datum.no_elements i = refl
  square_elements (datum.element d ds) i = then_agree WritesAs ItemsWriteAs _ _ _ _ (square d i.0) (λ j a h.
      then_agree ItemsWriteAs ItemsWriteAs _ _ _ _ (square_elements ds i.1) (λ js as' k. item_writes j a js as' h k))

  square_pairs : (ps : datum.Pairs) → PairsInSquare ps → AgreeBy EntriesAlike (plain_pairs ps) (written_pairs ps)
  square_pairs datum.no_pairs i = tt
  square_pairs (datum.pair k d ps) i = then_agree (λ t u. t ≡ u) EntriesAlike _ _ _ _ (same_agree (key_text k)) (λ t u same.
      then_agree WritesAs EntriesAlike _ _ _ _ (square d i.0) (λ j a h.
      then_agree EntriesAlike EntriesAlike _ _ _ _ (square_pairs ps i.1) (λ es fs rest. (same, h, rest))))

  square_fields : (fs : datum.Fields) → FieldsInSquare fs → AgreeBy EntriesAlike (plain_fields fs) (written_fields fs)
  square_fields datum.no_fields i = tt
  square_fields (datum.field name d fs) i = then_agree WritesAs EntriesAlike _ _ _ _ (square d i.0) (λ j a h.
      then_agree EntriesAlike EntriesAlike _ _ _ _ (square_fields fs i.1) (λ es gs rest. (refl, h, rest)))
