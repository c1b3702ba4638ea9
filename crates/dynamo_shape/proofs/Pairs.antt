-- Pairs of which each key is there once.
use Rattle.std.proofs.Common.{◌≡◌, ◌⊎◌, ℕ, ℤ, pos, negsuc, Bool, true, false, cond, ◌&&◌, ◌==◌, Option, Some, None, refl, sym, ap, subst, ◌∙◌, inl, inr, arith, Ok, Err}
use Rattle.dynamo_shape.proofs.Common.{⊤, bytes_eq, codes, true≢false, and_parts, bytes_eq-Decides}
use Rattle.dynamo_shape.proofs.Common.{Answer, value, fault, refused, value_or, taken, Text}
use Rattle.dynamo_shape.proofs.Common.{key_text, expected_string, expected_num, Variant, Datum}
use Rattle.dynamo_shape.proofs.Common.{Pairs, no_pairs, pair, HasKey, PairsDiffer, sorted, into}
use Rattle.dynamo_shape.proofs.Common.{read, read_inside, read_one_of, Without, Same, SamePairs}
use Rattle.dynamo_shape.proofs.Common.{same_kind, same_integer, same_bool, same_variant, same_key}
use Rattle.dynamo_shape.proofs.Common.{put_pair, Shape, boolean, char, string, bytes, integer}
use Rattle.dynamo_shape.proofs.Common.{newtype, enum, ordered, Content, nothing, one, several}
use Rattle.dynamo_shape.proofs.Common.{named, Variants, no_variants, variant, IntegerKind}
use Rattle.dynamo_ser.specs.Datum as datum
use Rattle.std.proofs.lemmas.Bool.Decides.{nat_tests}
use Rattle.dynamo_shape.proofs.Found.{same_bytes}
use Rattle.dynamo_de.specs.Number.{parse}
use Rattle.dynamo_de.specs.Showing as showing
use Rattle.dynamo_de.specs.Visitors.{one_char, claims_bool, take_bool}

-- ---- equal keys

bools : (b c : Bool) → same_bool b c ≡ true → b ≡ c
bools true true h = refl
bools true false h = absurd (true≢false (sym h))
bools false true h = absurd (true≢false (sym h))
bools false false h = refl

kinds : (k j : IntegerKind) → same_kind k j ≡ true → k ≡ j
kinds datum.i8 datum.i8 h = refl
kinds datum.i16 datum.i16 h = refl
kinds datum.i32 datum.i32 h = refl
kinds datum.i64 datum.i64 h = refl
kinds datum.i128 datum.i128 h = refl
kinds datum.u8 datum.u8 h = refl
kinds datum.u16 datum.u16 h = refl
kinds datum.u32 datum.u32 h = refl
kinds datum.u64 datum.u64 h = refl
kinds datum.u128 datum.u128 h = refl
kinds _ _ h = absurd (true≢false (sym h))

numbers : (m n : ℕ) → (m == n) ≡ true → m ≡ n
numbers m n h = grind (arith, nat_tests, h)

integers : (y z : ℤ) → same_integer y z ≡ true → y ≡ z
integers (pos m) (pos n) h = ap pos (numbers m n h)
integers (negsuc m) (negsuc n) h = ap negsuc (numbers m n h)
integers (pos m) (negsuc n) h = absurd (true≢false (sym h))
integers (negsuc m) (pos n) h = absurd (true≢false (sym h))

texts : (t u : Text) → bytes_eq t u ≡ true → t ≡ u
texts t u h = (bytes_eq-Decides t u).0 h

variants : (v w : Variant) → same_variant v w ≡ true → v ≡ w
variants v w h =
    let (r, c) = and_parts (bytes_eq v.enum w.enum && (v.index == w.index)) (bytes_eq v.name w.name) h in
    let (a, b) = and_parts (bytes_eq v.enum w.enum) (v.index == w.index) r in
    let p = texts v.enum w.enum a in
    let q = numbers v.index w.index b in
    let s = texts v.name w.name c in
    λ i. record { enum = p i; index = q i; name = s i }

pub equal_keys : (l m : Datum) → same_key l m ≡ true → l ≡ m
equal_keys (datum.boolean b) (datum.boolean c) h = ap datum.boolean (bools b c h)
equal_keys (datum.integer k y) (datum.integer j z) h = let (a, b) = and_parts (same_kind k j) _ h in let p = kinds k j a in let q = integers y z b in λ i. datum.integer (p i) (q i)
equal_keys (datum.char c) (datum.char e) h = ap datum.char (numbers c e h)
equal_keys (datum.string t) (datum.string u) h = ap datum.string (texts t u h)
equal_keys (datum.bytes t) (datum.bytes u) h = ap datum.bytes (texts t u h)
equal_keys (datum.unit_variant v) (datum.unit_variant w) h = ap datum.unit_variant (variants v w h)
equal_keys (datum.newtype_struct name l) (datum.newtype_struct other m) h = let (a, b) = and_parts (bytes_eq name other) _ h in let p = texts name other a in let q = equal_keys l m b in λ i. datum.newtype_struct (p i) (q i)
equal_keys _ _ h = absurd (true≢false (sym h))

-- ---- a key that was read equals itself

abbrev pub IsKeyDatum : Datum → Type 0
IsKeyDatum l = same_key l l ≡ true

-- such a datum is the same as itself alone
pub same_is : (l e : Datum) → IsKeyDatum l → Same l e → l ≡ e
same_is (datum.boolean b) e s h = h
same_is (datum.integer k z) e s h = h
same_is (datum.char c) e s h = h
same_is (datum.string t) e s h = h
same_is (datum.bytes t) e s h = h
same_is (datum.unit_variant v) e s h = h
same_is (datum.newtype_struct name l) e s h = let (a, b) = and_parts (bytes_eq name name) (same_key l l) s in ap (datum.newtype_struct name) (same_is l h.0 b h.2) ∙ sym h.1
same_is _ e s h = absurd (true≢false (sym s))

pub self_bool : (b : Bool) → same_bool b b ≡ true
self_bool true = refl
self_bool false = refl

pub self_kind : (k : IntegerKind) → same_kind k k ≡ true
self_kind datum.i8 = refl
self_kind datum.i16 = refl
self_kind datum.i32 = refl
self_kind datum.i64 = refl
self_kind datum.i128 = refl
self_kind datum.u8 = refl
self_kind datum.u16 = refl
self_kind datum.u32 = refl
self_kind datum.u64 = refl
self_kind datum.u128 = refl

pub self_number : (n : ℕ) → (n == n) ≡ true
self_number n = grind (arith, nat_tests)

pub self_integer : (z : ℤ) → same_integer z z ≡ true
self_integer (pos n) = self_number n
self_integer (negsuc n) = self_number n

pub self_variant : (v : Variant) → same_variant v v ≡ true
self_variant v = rw (same_bytes v.enum, self_number v.index, same_bytes v.name) refl

-- each value of an answer is one
abbrev KeysOnly : Answer Datum → Type 0
KeysOnly (Ok l) = IsKeyDatum l
KeysOnly _ = ⊤

bool_self : (b c : Bool) → KeysOnly (into datum.boolean (taken claims_bool take_bool (cond b (Ok (showing.boolean true)) (cond c (Ok (showing.boolean false)) (Err expected_string)))))
bool_self true c = refl
bool_self false true = refl
bool_self false false = tt

content_self : (c : Content) (v : Variant) → KeysOnly (read_inside c v None)
content_self nothing v = self_variant v
content_self (one s) v = tt
content_self (several ss) v = tt
content_self (named fs) v = tt

picked : (b : Bool) (x y : Answer Datum) → KeysOnly x → KeysOnly y → KeysOnly (cond b x y)
picked true x y h k = h
picked false x y h k = k

named_self : (vs : Variants) (name : Text) (i : ℕ) (t : Text) → KeysOnly (read_one_of vs name i t None)
named_self no_variants name i t = tt
named_self (variant v c vs) name i t = picked (bytes_eq t v) _ _ (content_self c _) (named_self vs name _ t)

char_self : (o : Option ℕ) → KeysOnly (into datum.char (value_or o refused))
char_self (Some c) = self_number c
char_self None = tt

integer_self : (k : IntegerKind) (o : Option ℤ) → KeysOnly (into (datum.integer k) (value_or o (fault expected_num)))
integer_self k (Some z) = rw (self_kind k, self_integer z) refl
integer_self k None = tt

newtype_self : (name : Text) (x : Answer Datum) → KeysOnly x → KeysOnly (into (datum.newtype_struct name) x)
newtype_self name (Ok l) h = rw (same_bytes name, h) refl
newtype_self name (Err r) h = tt

sorted_key : (l : Datum) → IsKeyDatum l → IsKeyDatum (sorted l)
sorted_key (datum.newtype_struct name l) h = let (a, b) = and_parts (bytes_eq name name) (same_key l l) h in rw (a, sorted_key l b) refl
sorted_key (datum.seq ds) h = absurd (true≢false (sym h))
sorted_key l h = h

sorted_self : (x : Answer Datum) → KeysOnly x → KeysOnly (into sorted x)
sorted_self (Ok l) h = sorted_key l h
sorted_self (Err r) h = tt

key_self : (k : Shape) (t : Text) → KeysOnly (read k (key_text t))
key_self boolean t = bool_self (bytes_eq t (codes "true")) (bytes_eq t (codes "false"))
key_self char t = char_self (one_char t)
key_self string t = same_bytes t
key_self bytes t = same_bytes t
key_self (integer k) t = integer_self k (parse k t)
key_self (newtype name s) t = newtype_self name (read s (key_text t)) (key_self s t)
key_self (enum name vs) t = named_self vs name 0 t
key_self (ordered s) t = sorted_self (read s (key_text t)) (key_self s t)
key_self _ t = tt

pub read_self : (k : Shape) (t : Text) (l : Datum) → read k (key_text t) ≡ value l → IsKeyDatum l
read_self k t l h = subst KeysOnly h (key_self k t)

-- ---- pairs

abbrev pub Has : Datum → Datum → Pairs → Type 0
Has l e no_pairs = ⊥
Has l e (pair k d ps) = ((l ≡ k) × (e ≡ d)) ⊎ Has l e ps

pub has_key : (l e : Datum) (ps : Pairs) → Has l e ps → HasKey l ps
has_key l e no_pairs h = h
has_key l e (pair k d ps) h = elim h [ inl x ↦ inl x.0 | inr y ↦ inr (has_key l e ps y) ]

pub put_has : (l e : Datum) (ps : Pairs) (x y : Datum) → Has x y (put_pair l e ps) → ((x ≡ l) × (y ≡ e)) ⊎ Has x y ps
put_has l e no_pairs x y h = elim h [ inl a ↦ inl a | inr b ↦ absurd b ]
put_has l e (pair k d ps) x y h =
    elim (same_key l k) as (λ c. same_key l k ≡ c → Has x y (cond c (pair k e ps) (pair k d (put_pair l e ps))) → ((x ≡ l) × (y ≡ e)) ⊎ Has x y (pair k d ps)) [
      | true ↦ λ s g. elim g [ inl a ↦ inl (a.0 ∙ sym (equal_keys l k s), a.1) | inr b ↦ inr (inr b) ]
      | false ↦ λ s g. elim g [ inl a ↦ inr (inl a) | inr b ↦ elim (put_has l e ps x y b) [ inl q ↦ inl q | inr q ↦ inr (inr q) ] ]
    ] refl h

pub put_here : (l e : Datum) (ps : Pairs) → HasKey l (put_pair l e ps)
put_here l e no_pairs = inl refl
put_here l e (pair k d ps) =
    elim (same_key l k) as (λ c. same_key l k ≡ c → HasKey l (cond c (pair k e ps) (pair k d (put_pair l e ps)))) [
      | true ↦ λ s. inl (equal_keys l k s)
      | false ↦ λ s. inr (put_here l e ps)
    ] refl

pub put_keeps : (l e : Datum) (ps : Pairs) (x : Datum) → HasKey x ps → HasKey x (put_pair l e ps)
put_keeps l e no_pairs x h = absurd h
put_keeps l e (pair k d ps) x h =
    elim (same_key l k) as (λ c. HasKey x (cond c (pair k e ps) (pair k d (put_pair l e ps)))) [
      | true ↦ h
      | false ↦ elim h [ inl a ↦ inl a | inr b ↦ inr (put_keeps l e ps x b) ]
    ]

pub put_keys : (l e : Datum) (ps : Pairs) (x : Datum) → HasKey x (put_pair l e ps) → (x ≡ l) ⊎ HasKey x ps
put_keys l e no_pairs x h = elim h [ inl a ↦ inl a | inr b ↦ absurd b ]
put_keys l e (pair k d ps) x h =
    elim (same_key l k) as (λ c. HasKey x (cond c (pair k e ps) (pair k d (put_pair l e ps))) → (x ≡ l) ⊎ HasKey x (pair k d ps)) [
      | true ↦ λ g. inr g
      | false ↦ λ g. elim g [ inl a ↦ inr (inl a) | inr b ↦ elim (put_keys l e ps x b) [ inl q ↦ inl q | inr q ↦ inr (inr q) ] ]
    ] h

pub put_differ : (l e : Datum) (ps : Pairs) → IsKeyDatum l → PairsDiffer ps → PairsDiffer (put_pair l e ps)
put_differ l e no_pairs s h = (λ x. x, tt)
put_differ l e (pair k d ps) s h =
    elim (same_key l k) as (λ c. same_key l k ≡ c → PairsDiffer (cond c (pair k e ps) (pair k d (put_pair l e ps)))) [
      | true ↦ λ q. h
      | false ↦ λ q. (λ g. elim (put_keys l e ps k g) [ inl a ↦ true≢false (sym s ∙ ap (same_key l) (sym a) ∙ q) | inr b ↦ h.0 b ], put_differ l e ps s h.1)
    ] refl

-- ---- the same pairs in another order

take_key : (l : Datum) (qs : Pairs) → HasKey l qs → (y : Datum) × (rest : Pairs) × Without qs l y rest
take_key l no_pairs h = absurd h
take_key l (pair k d qs) h = elim h [ inl x ↦ (d, qs, inl (sym x, refl, refl)) | inr y ↦ let t = take_key l qs y in (t.0, pair k d t.1, inr (t.1, refl, t.2)) ]

pub taken_in : (qs : Pairs) (l y : Datum) (rest : Pairs) → Without qs l y rest → Has l y qs
taken_in no_pairs l y rest w = w
taken_in (pair k d qs) l y rest w = elim w [ inl x ↦ inl (sym x.0, sym x.1) | inr z ↦ inr (taken_in qs l y z.0 z.2) ]

pub rest_in : (qs : Pairs) (l y : Datum) (rest : Pairs) → Without qs l y rest → (x z : Datum) → Has x z rest → Has x z qs
rest_in no_pairs l y rest w x z h = w
rest_in (pair k d qs) l y rest w x z h = elim w [
  | inl a ↦ inr (subst (Has x z) a.2 h)
  | inr b ↦ elim (subst (Has x z) b.1 h) [ inl c ↦ inl c | inr c ↦ inr (rest_in qs l y b.0 b.2 x z c) ]
]

rest_key : (qs : Pairs) (l y : Datum) (rest : Pairs) → Without qs l y rest → (x : Datum) → HasKey x qs → (x ≡ l) ⊎ HasKey x rest
rest_key no_pairs l y rest w x h = absurd h
rest_key (pair k d qs) l y rest w x h = elim w [
  | inl a ↦ elim h [ inl e ↦ inl (e ∙ a.0) | inr f ↦ inr (subst (HasKey x) (sym a.2) f) ]
  | inr b ↦ subst (λ r. (x ≡ l) ⊎ HasKey x r) (sym b.1) (elim h [ inl e ↦ inr (inl e) | inr f ↦ elim (rest_key qs l y b.0 b.2 x f) [ inl g ↦ inl g | inr g ↦ inr (inr g) ] ])
]

pub key_of_rest : (qs : Pairs) (l y : Datum) (rest : Pairs) → Without qs l y rest → (x : Datum) → HasKey x rest → HasKey x qs
key_of_rest no_pairs l y rest w x h = w
key_of_rest (pair k d qs) l y rest w x h = elim w [
  | inl a ↦ inr (subst (HasKey x) a.2 h)
  | inr b ↦ elim (subst (HasKey x) b.1 h) [ inl e ↦ inl e | inr f ↦ inr (key_of_rest qs l y b.0 b.2 x f) ]
]

rest_differ : (qs : Pairs) (l y : Datum) (rest : Pairs) → Without qs l y rest → PairsDiffer qs → PairsDiffer rest × ¬ (HasKey l rest)
rest_differ no_pairs l y rest w h = absurd w
rest_differ (pair k d qs) l y rest w h = elim w [
  | inl a ↦ (subst PairsDiffer (sym a.2) h.1, λ n. h.0 (subst (λ x. HasKey x qs) (sym a.0) (subst (HasKey l) a.2 n)))
  | inr b ↦
      let r = rest_differ qs l y b.0 b.2 h.1 in (
        subst PairsDiffer (sym b.1) (λ n. h.0 (key_of_rest qs l y b.0 b.2 k n), r.0),
        λ n. elim (subst (HasKey l) b.1 n) [ inl e ↦ h.0 (subst (λ x. HasKey x qs) e (has_key l y qs (taken_in qs l y b.0 b.2))) | inr f ↦ r.1 f ],
      )
]

-- the same keys, each once, with the same values: so the same pairs in some order
pub same_pairs : (ps qs : Pairs) → PairsDiffer ps → PairsDiffer qs → ((l : Datum) → HasKey l ps → HasKey l qs) → ((l y : Datum) → Has l y qs → (e : Datum) × Has l e ps × Same e y) → ((l : Datum) → HasKey l ps → Same l l) → SamePairs ps qs
same_pairs no_pairs no_pairs dp dq to from r = refl
same_pairs no_pairs (pair k d qs) dp dq to from r = absurd (from k d (inl (refl, refl))).1
same_pairs (pair l e ps) qs dp dq to from r =
    let t = take_key l qs (to l (inl refl)) in
    let w = t.2 in
    let d = rest_differ qs l t.0 t.1 w dq in
    let here = from l t.0 (taken_in qs l t.0 t.1 w) in
    let same : Same e t.0 = elim here.1 [ inl x ↦ subst (λ z. Same z t.0) x.1 here.2 | inr y ↦ absurd (dp.0 (has_key l here.0 ps y)) ] in (
      l,
      t.0,
      t.1,
      w,
      r l (inl refl),
      same,
      same_pairs ps t.1 dp.1 d.0
          (λ x h. elim (rest_key qs l t.0 t.1 w x (to x (inr h))) [ inl q ↦ absurd (dp.0 (subst (λ z. HasKey z ps) q h)) | inr k ↦ k ])
          (λ x y h. let f = from x y (rest_in qs l t.0 t.1 w x y h) in (f.0, elim f.1 [ inl q ↦ absurd (d.1 (subst (λ z. HasKey z t.1) q.0 (has_key x y t.1 h))) | inr k ↦ k ], f.2))
          (λ x h. r x (inr h)),
    )
