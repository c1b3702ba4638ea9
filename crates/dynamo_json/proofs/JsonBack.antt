-- A JSON value without floats is written, read back, and its own plain JSON.
use Rattle.std.proofs.Common.{◌≡◌, ◌||◌, ℕ, ℤ, pos, negsuc, ◌^◌, ◌<◌, Bool, true, false, cond, nat_lt, List, [], ◌∷◌, Ok, Some, None, Ordering, Less, Equal, Greater, refl, sym, ap, subst, ◌∙◌, arith}
use Rattle.dynamo_json.proofs.Common.{T, decimal, signed_decimal, put, is_sorted, by_order}
use Rattle.dynamo_json.proofs.Common.{match_ordering, Data, Num, Av, text_cmp, json_elements}
use Rattle.dynamo_json.proofs.Common.{json_pairs, collect, collect_onto, written_elements}
use Rattle.dynamo_json.proofs.Common.{written_pairs, map_of_entries, Alike, sorted_alike}
use Rattle.dynamo_json.proofs.Common.{collect-sorted, entries, IsWhole, IsJson, AreJson}
use Rattle.dynamo_json.proofs.Common.{MembersAreJson, JsonBack, plain_elements, plain_pairs}
use Rattle.serde_json.specs.Data as json
use Rattle.dynamo_value.specs.Av as av
use Rattle.std.proofs.lemmas.Bool.{true≢false}
use Rattle.std.proofs.lemmas.Bool.Decides.{nat_tests}
use Rattle.dynamo_value.specs.Integer.{i64, u64}
use Rattle.dynamo_de.specs.Answer.{Answer, value}
use Rattle.dynamo_de.specs.ReadJson.{number, number_or, read_number, read_value, read_elements, read_members}
use Rattle.dynamo_de.proofs.Decimals.{parse_back, parse_decimal}
use Rattle.dynamo_json.specs.Plain.{members_of}

-- ---- numbers

either_kind : (signed unsigned : Bool) (z : ℤ) (otherwise : Answer Data) → (signed || unsigned) ≡ true
    → number_or (cond signed (Some z) None) (number_or (cond unsigned (Some z) None) otherwise) ≡ value (number z)
either_kind true unsigned z otherwise h = refl
either_kind false true z otherwise h = refl
either_kind false false z otherwise h = absurd (true≢false (sym h))

unsigned_back : (n : ℕ) → n < 2 ^ 64 → read_number (decimal n) ≡ value (json.number (json.unsigned n))
unsigned_back n h =
    let small : n < 10 ^ 64 = omega (arith, h) in
    let fit : nat_lt n (2 ^ 64) ≡ true = grind (arith, nat_tests, h) in
    rw (parse_decimal i64 n small, parse_decimal u64 n small) (either_kind (nat_lt n (2 ^ 63)) (nat_lt n (2 ^ 64)) (pos n) _ (rw fit (or_true (nat_lt n (2 ^ 63)))))
  where
    or_true : (b : Bool) → (b || true) ≡ true
    or_true true = refl
    or_true false = refl

negative_back : (n : ℕ) → n < 2 ^ 63 → read_number (signed_decimal (negsuc n)) ≡ value (json.number (json.negative (negsuc n)))
negative_back n h =
    let fit : nat_lt n (2 ^ 63) ≡ true = grind (arith, nat_tests, h) in
    rw (parse_back i64 (negsuc n) fit) refl

number_back : (n : Num) → IsWhole n → JsonBack (json.number n)
number_back (json.unsigned n) h = let fit : nat_lt n (2 ^ 64) ≡ true = grind (arith, nat_tests, h) in (av.N (decimal n), refl, unsigned_back n h, rw fit refl)
number_back (json.negative (pos n)) h = absurd h
number_back (json.negative (negsuc n)) h = let fit : nat_lt n (2 ^ 63) ≡ true = grind (arith, nat_tests, h) in (av.N (signed_decimal (negsuc n)), refl, negative_back n h, rw fit refl)
number_back (json.float x) h = absurd h

-- ---- objects

abbrev pub ReadsAs : Av → Data → Type 0
ReadsAs a j = read_value a ≡ value j

ordered : (o : Ordering) (a b c : List (List ℕ × Data)) → match_ordering o (members_of a) (members_of b) (members_of c) ≡ members_of (by_order o a b c)
ordered Less a b c = refl
ordered Equal a b c = refl
ordered Greater a b c = refl

put_same : (name : List ℕ) (j : Data) (es : List (List ℕ × Data)) → json.put name j (members_of es) ≡ members_of (put text_cmp name j es)
put_same name j [] = refl
put_same name j (e ∷ es) =
    ap (λ rest. match_ordering (text_cmp name e.0) (json.member name j (members_of (e ∷ es))) (json.member e.0 j (members_of es)) (json.member e.0 e.1 rest)) (put_same name j es)
    ∙ ordered (text_cmp name e.0) ((name, j) ∷ e ∷ es) ((e.0, j) ∷ es) (e ∷ put text_cmp name j es)

-- the members that are read are collected
pub collected_back : (so_far : List (List ℕ × Data)) (es : List (List ℕ × Av)) (fs : List (List ℕ × Data)) → Alike ReadsAs es fs
    → read_members (members_of so_far) (av.members_of es) ≡ value (members_of (collect_onto so_far fs))
collected_back so_far [] [] h = refl
collected_back so_far [] (f ∷ fs) h = absurd h
collected_back so_far (e ∷ es) [] h = absurd h
collected_back so_far (e ∷ es) (f ∷ fs) h = rw h.1 (
    ap (λ ms. read_members ms (av.members_of es)) (put_same e.0 f.1 so_far ∙ ap (λ t. members_of (put text_cmp t f.1 so_far)) h.0)
    ∙ collected_back (put text_cmp f.0 f.1 so_far) es fs h.2)

pub members_again : (ms : json.Members) → members_of (entries ms) ≡ ms
members_again json.no_members = refl
members_again (json.member name j ms) = ap (json.member name j) (members_again ms)

abbrev ItemsBack : json.Items → Type 0
ItemsBack js = (as' : av.Elements) × (written_elements (json_elements js) ≡ Ok as') × (read_elements as' ≡ value js) × (plain_elements (json_elements js) ≡ Ok js)

abbrev MembersBack : json.Members → Type 0
MembersBack ms = (es : List (List ℕ × Av)) × (written_pairs (json_pairs ms) ≡ Ok es) × Alike ReadsAs es (entries ms) × (plain_pairs (json_pairs ms) ≡ Ok (entries ms))

object_back : (ms : json.Members) → T (is_sorted text_cmp (entries ms)) → MembersBack ms → JsonBack (json.object ms)
object_back ms sorted (es, writes, reads, is_plain) =
    let in_order : collect es ≡ es = collect-sorted es (subst T (sym (sorted_alike ReadsAs es (entries ms) reads)) sorted) in
    let again : members_of (collect (entries ms)) ≡ ms = ap members_of (collect-sorted (entries ms) sorted) ∙ members_again ms in
    (map_of_entries es, rw writes refl, rw (in_order, collected_back [] es (entries ms) reads) (ap (λ x. value (json.object x)) again), rw is_plain (ap (λ x. Ok (json.object x)) again))

mutual
  pub json_back : (j : Data) → IsJson j → JsonBack j
  json_back json.null h = (av.Null true, refl, refl, refl)
  json_back (json.boolean b) h = (av.Boolean b, refl, refl, refl)
  json_back (json.number n) h = number_back n h
  json_back (json.string text) h = (av.S text, refl, refl, refl)
  json_back (json.array js) h = let t = items_back js h in (av.L t.0, rw t.1 refl, rw t.2 refl, rw t.3 refl)
  json_back (json.object ms) h = object_back ms h.0 (members_back ms h.1)

  items_back : (js : json.Items) → AreJson js → ItemsBack js
  items_back json.no_items h = (av.no_elements, refl, refl, refl)
  items_back (json.item j js) h =
      let first = json_back j h.0 in
      let rest = items_back js h.1 in
      (av.element first.0 rest.0, rw (first.1, rest.1) refl, rw (first.2, rest.2) refl, rw (first.3, rest.3) refl)

  members_back : (ms : json.Members) → MembersAreJson ms → MembersBack ms
  members_back json.no_members h = ([], refl, tt, refl)
  members_back (json.member name j ms) h =
      let first = json_back j h.0 in
      let rest = members_back ms h.1 in
      ((name, first.0) ∷ rest.0, rw (first.1, rest.1) refl, (refl, first.2, rest.2), rw (first.3, rest.3) refl)
