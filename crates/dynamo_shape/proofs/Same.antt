-- What is lost is not written, and order is not written.
use Rattle.std.proofs.Common.{◌≡◌, Bool, true, false, cond, List, [], ◌∷◌, Result, Ok, Err, Option, Some, None, refl, sym, ap, subst, ◌∙◌, inl, inr}
use Rattle.dynamo_shape.proofs.Common.{⊤, eq_by_cmp, nat_list_cmp_total, same_entries, true≢false}
use Rattle.dynamo_shape.proofs.Common.{sorted-collect, Text, Datum, none, some, newtype_struct}
use Rattle.dynamo_shape.proofs.Common.{newtype_variant, seq, tuple, tuple_struct, tuple_variant}
use Rattle.dynamo_shape.proofs.Common.{map, struct_variant, Pairs, no_pairs, pair, Fields}
use Rattle.dynamo_shape.proofs.Common.{no_fields, field, is_written_null, kept, kept_elements}
use Rattle.dynamo_shape.proofs.Common.{kept_pairs, kept_fields, Without, Same, SameElements}
use Rattle.dynamo_shape.proofs.Common.{SamePairs, SameFields, Av, Null, L, M, members_of, Fault}
use Rattle.dynamo_shape.proofs.Common.{◌>>=◌, text_cmp, collect, set_kind, written}
use Rattle.dynamo_shape.proofs.Common.{written_elements, written_pairs, written_fields, one_member}
use Rattle.dynamo_value.specs.Av as av
use Rattle.dynamo_ser.specs.Datum as datum
use Rattle.std.specs.FinMap.{slice_cmp-IsAntisymmetric, nat_cmp-IsAntisymmetric}
use Rattle.dynamo_value.proofs.Steps.{ok_same, bind_ok}
use Rattle.dynamo_write.proofs.Orders.{OutOf, AnyOrder, Fresh, last, find_last, last_out, last_here, fresh_out}
use Rattle.dynamo_write.specs.Set as sets
use Rattle.dynamo_ser.specs.Datum.{struct}
use Rattle.dynamo_ser.specs.Key.{key_text}

-- ---- flat

null_is : (r : Result Av Fault) → is_written_null r ≡ true → r ≡ Ok (Null true)
null_is (Ok (Null b)) h = ap (λ c. Ok (Null c)) h
null_is (Ok a) h = absurd (true≢false (sym h))
null_is (Err f) h = absurd (true≢false (sym h))

some_flat : (d : Datum) (b : Bool) → is_written_null (written d) ≡ b → written (kept d) ≡ written d → written (cond b none (some (kept d))) ≡ written d
some_flat d true e h = sym (null_is (written d) e)
some_flat d false e h = h

key_flat : (d : Datum) → key_text (kept d) ≡ key_text d
key_flat (some d) = elim (is_written_null (written d)) as (λ b. key_text (cond b none (some (kept d))) ≡ key_text (some d)) [ true ↦ refl | false ↦ refl ]
key_flat (newtype_struct name d) = key_flat d
key_flat d = refl

mutual
  pub enc_flat : (d : Datum) → written (kept d) ≡ written d
  enc_flat (some d) = some_flat d (is_written_null (written d)) refl (enc_flat d)
  enc_flat (newtype_struct name d) = ap (λ r. r >>= sets.named (set_kind name)) (enc_flat d)
  enc_flat (newtype_variant v d) = ap (λ r. r >>= λ a. Ok (one_member v.name a)) (enc_flat d)
  enc_flat (seq ds) = ap (λ r. r >>= λ a. Ok (L a)) (list_flat ds)
  enc_flat (tuple ds) = ap (λ r. r >>= λ a. Ok (L a)) (list_flat ds)
  enc_flat (tuple_struct name ds) = ap (λ r. r >>= λ a. Ok (L a)) (list_flat ds)
  enc_flat (tuple_variant v ds) = ap (λ r. r >>= λ a. Ok (one_member v.name (L a))) (list_flat ds)
  enc_flat (map ps) = ap (λ r. r >>= λ es. Ok (M (members_of (collect es)))) (pairs_flat ps)
  enc_flat (struct name fs) = ap (λ r. r >>= λ es. Ok (M (members_of (collect es)))) (fields_flat fs)
  enc_flat (struct_variant v fs) = ap (λ r. r >>= λ es. Ok (one_member v.name (M (members_of (collect es))))) (fields_flat fs)
  enc_flat d = refl

  list_flat : (ds : datum.Elements) → written_elements (kept_elements ds) ≡ written_elements ds
  list_flat datum.no_elements = refl
  list_flat (datum.element d ds) = let p = enc_flat d in let q = list_flat ds in λ i. p i >>= λ a. q i >>= λ as'. Ok (av.element a as')

  pub pairs_flat : (ps : Pairs) → written_pairs (kept_pairs ps) ≡ written_pairs ps
  pairs_flat no_pairs = refl
  pairs_flat (pair k d ps) = let o = key_flat k in let p = enc_flat d in let q = pairs_flat ps in λ i. o i >>= λ t. p i >>= λ a. q i >>= λ es. Ok ((t, a) ∷ es)

  fields_flat : (fs : Fields) → written_fields (kept_fields fs) ≡ written_fields fs
  fields_flat no_fields = refl
  fields_flat (field name d fs) = let p = enc_flat d in let q = fields_flat fs in λ i. p i >>= λ a. q i >>= λ es. Ok ((name, a) ∷ es)

-- ---- order

abbrev pub Distinct : List (Text × Av) → Type 0
Distinct [] = ⊤
Distinct (e ∷ es) = Fresh e.0 es × Distinct es

fresh_any : (t : Text) (es fs : List (Text × Av)) → Fresh t es → AnyOrder es fs → Fresh t fs
fresh_any t [] fs h k = subst (Fresh t) (sym k) tt
fresh_any t (e ∷ es) fs h k = fresh_out t fs e k.0 k.1 h.0 (fresh_any t es k.0 h.1 k.2)

last_any : (q : Text) (es fs : List (Text × Av)) (o : Option Av) → Distinct es → AnyOrder es fs → last q fs o ≡ last q es o
last_any q [] fs o d k = ap (λ xs. last q xs o) k
last_any q (e ∷ es) fs o d k =
    last_out q fs e k.0 o k.1 (fresh_any e.0 es k.0 d.0 k.2) ∙ ap (λ r. cond (eq_by_cmp text_cmp q e.0) (Some e.1) r) (last_any q es k.0 o d.1 k.2) ∙ sym (last_here q e es o d.0)

pub collect_any : (es fs : List (Text × Av)) → Distinct es → AnyOrder es fs → collect fs ≡ collect es
collect_any es fs d k =
    same_entries text_cmp nat_list_cmp_total (slice_cmp-IsAntisymmetric nat_cmp-IsAntisymmetric) (collect fs) (collect es) (sorted-collect fs) (sorted-collect es)
    (λ q. find_last q fs [] ∙ last_any q es fs None d k ∙ sym (find_last q es []))

key_same : (k l : Datum) → Same k l → key_text l ≡ key_text k
key_same (newtype_struct name d) l h = ap key_text h.1 ∙ key_same d h.0 h.2
key_same (some d) l h = ap key_text h.1
key_same (newtype_variant v d) l h = ap key_text h.1
key_same (seq ds) l h = ap key_text h.1
key_same (tuple ds) l h = ap key_text h.1
key_same (tuple_struct name ds) l h = ap key_text h.1
key_same (tuple_variant v ds) l h = ap key_text h.1
key_same (map ps) l h = ap key_text h.1
key_same (struct name fs) l h = ap key_text h.1
key_same (struct_variant v fs) l h = ap key_text h.1
key_same k l h = ap key_text (sym h)

pair_enc : (l d : Datum) (ps : Pairs) (t : Text) (a : Av) (es : List (Text × Av)) → key_text l ≡ Ok t → written d ≡ Ok a → written_pairs ps ≡ Ok es → written_pairs (pair l d ps) ≡ Ok ((t, a) ∷ es)
pair_enc l d ps t a es p q r = rw (p, q, r) refl

later_enc : (l d : Datum) (ps : Pairs) (t : Text) (a : Av) (es : List (Text × Av)) (others : Pairs) → written_pairs (pair l d others) ≡ Ok es → ((xs : List (Text × Av)) → written_pairs others ≡ Ok xs → (fs : List (Text × Av)) × (written_pairs ps ≡ Ok fs) × OutOf fs (t, a) xs)
    → (fs : List (Text × Av)) × (written_pairs (pair l d ps) ≡ Ok fs) × OutOf fs (t, a) es
later_enc l d ps t a es others h f =
    let x = bind_ok (key_text l) _ es h in
    let y = bind_ok (written d) _ es x.2 in
    let z = bind_ok (written_pairs others) _ es y.2 in
    let r = f z.0 z.1 in
    ((x.0, y.0) ∷ r.0, pair_enc l d ps x.0 y.0 r.0 x.1 y.1 r.1, inr (z.0, sym (ok_same z.2), r.2))

out_enc : (qs : Pairs) (l e : Datum) (rest : Pairs) (t : Text) (a : Av) (es : List (Text × Av)) → Without qs l e rest → key_text l ≡ Ok t → written e ≡ Ok a → written_pairs rest ≡ Ok es → (fs : List (Text × Av)) × (written_pairs qs ≡ Ok fs) × OutOf fs (t, a) es
out_enc no_pairs l e rest t a es w g h k = absurd w
out_enc (pair m d qs) l e rest t a es w g h k = elim w [
  | inl x ↦ ((t, a) ∷ es, pair_enc m d qs t a es (ap key_text x.0 ∙ g) (ap written x.1 ∙ h) (ap written_pairs (sym x.2) ∙ k), inl (refl, refl))
  | inr y ↦ later_enc m d qs t a es y.0 (ap written_pairs (sym y.1) ∙ k) (λ xs q. out_enc qs l e y.0 t a xs y.2 g h q)
]

-- the keys of each map inside have different texts
abbrev mutual
  pub WellKeyed : Datum → Type 0
  WellKeyed (some d) = WellKeyed d
  WellKeyed (newtype_struct name d) = WellKeyed d
  WellKeyed (newtype_variant v d) = WellKeyed d
  WellKeyed (seq ds) = WellKeyedAll ds
  WellKeyed (tuple ds) = WellKeyedAll ds
  WellKeyed (tuple_struct name ds) = WellKeyedAll ds
  WellKeyed (tuple_variant v ds) = WellKeyedAll ds
  WellKeyed (map ps) = ((es : List (Text × Av)) → written_pairs ps ≡ Ok es → Distinct es) × WellKeyedPairs ps
  WellKeyed (struct name fs) = WellKeyedFields fs
  WellKeyed (struct_variant v fs) = WellKeyedFields fs
  WellKeyed _ = ⊤

  pub WellKeyedAll : datum.Elements → Type 0
  WellKeyedAll datum.no_elements = ⊤
  WellKeyedAll (datum.element d ds) = WellKeyed d × WellKeyedAll ds

  pub WellKeyedPairs : Pairs → Type 0
  WellKeyedPairs no_pairs = ⊤
  WellKeyedPairs (pair k d ps) = WellKeyed d × WellKeyedPairs ps

  pub WellKeyedFields : Fields → Type 0
  WellKeyedFields no_fields = ⊤
  WellKeyedFields (field name d fs) = WellKeyed d × WellKeyedFields fs

-- a step after what is the same
after : {A : Type 0} (r s : Result A Fault) (f : A → Result Av Fault) (a : Av) → ((x : A) → r ≡ Ok x → s ≡ Ok x) → r >>= f ≡ Ok a → s >>= f ≡ Ok a
after r s f a h k = let x = bind_ok r f a k in ap (λ z. z >>= f) (h x.0 x.1) ∙ x.2

cons_enc : (d : Datum) (ds : datum.Elements) (a : Av) (as' : av.Elements) → written d ≡ Ok a → written_elements ds ≡ Ok as' → written_elements (datum.element d ds) ≡ Ok (av.element a as')
cons_enc d ds a as' h k = rw (h, k) refl

field_enc : (name : Text) (d : Datum) (fs : Fields) (a : Av) (es : List (Text × Av)) → written d ≡ Ok a → written_fields fs ≡ Ok es → written_fields (field name d fs) ≡ Ok ((name, a) ∷ es)
field_enc name d fs a es h k = rw (h, k) refl

mutual
  pub same_enc : (d e : Datum) → Same d e → WellKeyed d → (a : Av) → written d ≡ Ok a → written e ≡ Ok a
  same_enc (some d) e h w a k = ap written h.1 ∙ same_enc d h.0 h.2 w a k
  same_enc (newtype_struct name d) e h w a k = ap written h.1 ∙ after (written d) (written h.0) (sets.named (set_kind name)) a (λ x p. same_enc d h.0 h.2 w x p) k
  same_enc (newtype_variant v d) e h w a k = ap written h.1 ∙ after (written d) (written h.0) _ a (λ x p. same_enc d h.0 h.2 w x p) k
  same_enc (seq ds) e h w a k = ap written h.1 ∙ after (written_elements ds) (written_elements h.0) _ a (λ x p. same_list ds h.0 h.2 w x p) k
  same_enc (tuple ds) e h w a k = ap written h.1 ∙ after (written_elements ds) (written_elements h.0) _ a (λ x p. same_list ds h.0 h.2 w x p) k
  same_enc (tuple_struct name ds) e h w a k = ap written h.1 ∙ after (written_elements ds) (written_elements h.0) _ a (λ x p. same_list ds h.0 h.2 w x p) k
  same_enc (tuple_variant v ds) e h w a k = ap written h.1 ∙ after (written_elements ds) (written_elements h.0) _ a (λ x p. same_list ds h.0 h.2 w x p) k
  same_enc (map ps) e h w a k =
      let x = bind_ok (written_pairs ps) _ a k in
      let y = same_pairs_enc ps h.0 h.2 w.1 x.0 x.1 in
      ap written h.1 ∙ ap (λ z. z >>= λ es. Ok (M (members_of (collect es)))) y.1 ∙ ap (λ es. Ok (M (members_of es))) (collect_any x.0 y.0 (w.0 x.0 x.1) y.2) ∙ x.2
  same_enc (struct name fs) e h w a k = ap written h.1 ∙ after (written_fields fs) (written_fields h.0) _ a (λ x p. same_fields fs h.0 h.2 w x p) k
  same_enc (struct_variant v fs) e h w a k = ap written h.1 ∙ after (written_fields fs) (written_fields h.0) _ a (λ x p. same_fields fs h.0 h.2 w x p) k
  same_enc d e h w a k = ap written (sym h) ∙ k

  same_list : (ds es : datum.Elements) → SameElements ds es → WellKeyedAll ds → (x : av.Elements) → written_elements ds ≡ Ok x → written_elements es ≡ Ok x
  same_list datum.no_elements es h w x k = ap written_elements h ∙ k
  same_list (datum.element d ds) es h w x k =
      let a = bind_ok (written d) _ x k in
      let b = bind_ok (written_elements ds) _ x a.2 in
      ap written_elements h.2 ∙ cons_enc h.0 h.1 a.0 b.0 (same_enc d h.0 h.3 w.0 a.0 a.1) (same_list ds h.1 h.4 w.1 b.0 b.1) ∙ b.2

  same_pairs_enc : (ps qs : Pairs) → SamePairs ps qs → WellKeyedPairs ps → (es : List (Text × Av)) → written_pairs ps ≡ Ok es → (fs : List (Text × Av)) × (written_pairs qs ≡ Ok fs) × AnyOrder es fs
  same_pairs_enc no_pairs qs h w es k = ([], ap written_pairs h, subst (λ xs. AnyOrder xs []) (ok_same k) refl)
  same_pairs_enc (pair m d ps) qs h w es k =
      let t = bind_ok (key_text m) _ es k in
      let a = bind_ok (written d) _ es t.2 in
      let b = bind_ok (written_pairs ps) _ es a.2 in
      let r = same_pairs_enc ps h.2 h.6 w.1 b.0 b.1 in
      let o = out_enc qs h.0 h.1 h.2 t.0 a.0 r.0 h.3 (key_same m h.0 h.4 ∙ t.1) (same_enc d h.1 h.5 w.0 a.0 a.1) r.1 in
      (o.0, o.1, subst (λ xs. AnyOrder xs o.0) (ok_same b.2) (r.0, o.2, r.2))

  same_fields : (fs gs : Fields) → SameFields fs gs → WellKeyedFields fs → (x : List (Text × Av)) → written_fields fs ≡ Ok x → written_fields gs ≡ Ok x
  same_fields no_fields gs h w x k = ap written_fields h ∙ k
  same_fields (field name d fs) gs h w x k =
      let a = bind_ok (written d) _ x k in
      let b = bind_ok (written_fields fs) _ x a.2 in
      ap written_fields h.2 ∙ field_enc name h.0 h.1 a.0 b.0 (same_enc d h.0 h.3 w.0 a.0 a.1) (same_fields fs h.1 h.4 w.1 b.0 b.1) ∙ b.2
