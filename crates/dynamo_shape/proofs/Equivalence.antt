-- Being the same is symmetric and transitive.
use Rattle.std.proofs.Common.{refl, sym, subst, inl, inr}
use Rattle.dynamo_shape.proofs.Alike.{same_refl}
use Rattle.dynamo_shape.proofs.Common.{Datum, some, newtype_struct, newtype_variant, seq, tuple}
use Rattle.dynamo_shape.proofs.Common.{tuple_struct, tuple_variant, map, struct_variant, Pairs}
use Rattle.dynamo_shape.proofs.Common.{no_pairs, pair, Fields, no_fields, field, Without, Same}
use Rattle.dynamo_shape.proofs.Common.{SameElements, SamePairs, SameFields}
use Rattle.dynamo_ser.specs.Datum as datum
use Rattle.dynamo_ser.specs.Datum.{struct}

-- a pair put back on both sides
same_back : (qs : Pairs) (l e : Datum) (rest : Pairs) (k d : Datum) (ps : Pairs) → Without qs l e rest → Same l k → Same e d → SamePairs rest ps → SamePairs qs (pair k d ps)
same_back no_pairs l e rest k d ps w a b h = absurd w
same_back (pair m y qs) l e rest k d ps w a b h = elim w [
  | inl x ↦ (k, d, ps, inl (refl, refl, refl), subst (λ z. Same z k) (sym x.0) a, subst (λ z. Same z d) (sym x.1) b, subst (λ z. SamePairs z ps) x.2 h)
  | inr z ↦
      let g = subst (λ xs. SamePairs xs ps) z.1 h in
      (g.0, g.1, pair k d g.2, inr (g.2, refl, g.3), g.4, g.5, same_back qs l e z.0 k d g.2 z.2 a b g.6)
]

mutual
  pub same_sym : (d x : Datum) → Same d x → Same x d
  same_sym (some d) x h = subst (λ z. Same z (some d)) (sym h.1) (d, refl, same_sym d h.0 h.2)
  same_sym (newtype_struct name d) x h = subst (λ z. Same z (newtype_struct name d)) (sym h.1) (d, refl, same_sym d h.0 h.2)
  same_sym (newtype_variant v d) x h = subst (λ z. Same z (newtype_variant v d)) (sym h.1) (d, refl, same_sym d h.0 h.2)
  same_sym (seq ds) x h = subst (λ z. Same z (seq ds)) (sym h.1) (ds, refl, data_sym ds h.0 h.2)
  same_sym (tuple ds) x h = subst (λ z. Same z (tuple ds)) (sym h.1) (ds, refl, data_sym ds h.0 h.2)
  same_sym (tuple_struct name ds) x h = subst (λ z. Same z (tuple_struct name ds)) (sym h.1) (ds, refl, data_sym ds h.0 h.2)
  same_sym (tuple_variant v ds) x h = subst (λ z. Same z (tuple_variant v ds)) (sym h.1) (ds, refl, data_sym ds h.0 h.2)
  same_sym (map ps) x h = subst (λ z. Same z (map ps)) (sym h.1) (ps, refl, pairs_sym ps h.0 h.2)
  same_sym (struct name fs) x h = subst (λ z. Same z (struct name fs)) (sym h.1) (fs, refl, fields_sym fs h.0 h.2)
  same_sym (struct_variant v fs) x h = subst (λ z. Same z (struct_variant v fs)) (sym h.1) (fs, refl, fields_sym fs h.0 h.2)
  same_sym d x h = subst (λ z. Same z d) h (same_refl d)

  data_sym : (ds xs : datum.Elements) → SameElements ds xs → SameElements xs ds
  data_sym datum.no_elements xs h = subst (λ z. SameElements z datum.no_elements) (sym h) refl
  data_sym (datum.element d ds) xs h = subst (λ z. SameElements z (datum.element d ds)) (sym h.2) (d, ds, refl, same_sym d h.0 h.3, data_sym ds h.1 h.4)

  pairs_sym : (ps xs : Pairs) → SamePairs ps xs → SamePairs xs ps
  pairs_sym no_pairs xs h = subst (λ z. SamePairs z no_pairs) (sym h) refl
  pairs_sym (pair k d ps) xs h = same_back xs h.0 h.1 h.2 k d ps h.3 (same_sym k h.0 h.4) (same_sym d h.1 h.5) (pairs_sym ps h.2 h.6)

  fields_sym : (fs xs : Fields) → SameFields fs xs → SameFields xs fs
  fields_sym no_fields xs h = subst (λ z. SameFields z no_fields) (sym h) refl
  fields_sym (field name d fs) xs h = subst (λ z. SameFields z (field name d fs)) (sym h.2) (d, fs, refl, same_sym d h.0 h.3, fields_sym fs h.1 h.4)

-- two pairs are taken out in either order
swapped : (rs : Pairs) (m y : Datum) (ss : Pairs) (l e : Datum) (ts : Pairs) → Without rs m y ss → Without ss l e ts → (us : Pairs) × Without rs l e us × Without us m y ts
swapped no_pairs m y ss l e ts w v = absurd w
swapped (pair k d rs) m y ss l e ts w v = elim w [
  | inl x ↦ (pair k d ts, inr (ts, refl, subst (λ xs. Without xs l e ts) x.2 v), inl (x.0, x.1, refl))
  | inr z ↦ elim (subst (λ xs. Without xs l e ts) z.1 v) [
    | inl u ↦ (rs, inl (u.0, u.1, refl), subst (Without rs m y) (sym u.2) z.2)
    | inr u ↦ let r = swapped rs m y z.0 l e u.0 z.2 u.2 in (pair k d r.0, inr (r.0, refl, r.1), inr (u.0, u.1, r.2))
  ]
]

-- the counterpart of a pair that is taken out
against : (qs rs : Pairs) (l e : Datum) (rest : Pairs) → SamePairs qs rs → Without qs l e rest → (m : Datum) × (y : Datum) × (ss : Pairs) × Without rs m y ss × Same l m × Same e y × SamePairs rest ss
against no_pairs rs l e rest h w = absurd w
against (pair k d qs) rs l e rest h w = elim w [
  | inl x ↦ (h.0, h.1, h.2, h.3, subst (λ z. Same z h.0) x.0 h.4, subst (λ z. Same z h.1) x.1 h.5, subst (λ z. SamePairs z h.2) (sym x.2) h.6)
  | inr z ↦
      let r = against qs h.2 l e z.0 h.6 z.2 in
      let t = swapped rs h.0 h.1 h.2 r.0 r.1 r.2 h.3 r.3 in
      (r.0, r.1, t.0, t.1, r.4, r.5, subst (λ xs. SamePairs xs t.0) (sym z.1) (h.0, h.1, r.2, t.2, h.4, h.5, r.6))
]

mutual
  pub same_trans : (d x y : Datum) → Same d x → Same x y → Same d y
  same_trans (some d) x y h k = let g = subst (λ z. Same z y) h.1 k in (g.0, g.1, same_trans d h.0 g.0 h.2 g.2)
  same_trans (newtype_struct name d) x y h k = let g = subst (λ z. Same z y) h.1 k in (g.0, g.1, same_trans d h.0 g.0 h.2 g.2)
  same_trans (newtype_variant v d) x y h k = let g = subst (λ z. Same z y) h.1 k in (g.0, g.1, same_trans d h.0 g.0 h.2 g.2)
  same_trans (seq ds) x y h k = let g = subst (λ z. Same z y) h.1 k in (g.0, g.1, data_trans ds h.0 g.0 h.2 g.2)
  same_trans (tuple ds) x y h k = let g = subst (λ z. Same z y) h.1 k in (g.0, g.1, data_trans ds h.0 g.0 h.2 g.2)
  same_trans (tuple_struct name ds) x y h k = let g = subst (λ z. Same z y) h.1 k in (g.0, g.1, data_trans ds h.0 g.0 h.2 g.2)
  same_trans (tuple_variant v ds) x y h k = let g = subst (λ z. Same z y) h.1 k in (g.0, g.1, data_trans ds h.0 g.0 h.2 g.2)
  same_trans (map ps) x y h k = let g = subst (λ z. Same z y) h.1 k in (g.0, g.1, pairs_trans ps h.0 g.0 h.2 g.2)
  same_trans (struct name fs) x y h k = let g = subst (λ z. Same z y) h.1 k in (g.0, g.1, fields_trans fs h.0 g.0 h.2 g.2)
  same_trans (struct_variant v fs) x y h k = let g = subst (λ z. Same z y) h.1 k in (g.0, g.1, fields_trans fs h.0 g.0 h.2 g.2)
  same_trans d x y h k = subst (λ z. Same z y) (sym h) k

  data_trans : (ds xs ys : datum.Elements) → SameElements ds xs → SameElements xs ys → SameElements ds ys
  data_trans datum.no_elements xs ys h k = subst (λ z. SameElements z ys) h k
  data_trans (datum.element d ds) xs ys h k = let g = subst (λ z. SameElements z ys) h.2 k in (g.0, g.1, g.2, same_trans d h.0 g.0 h.3 g.3, data_trans ds h.1 g.1 h.4 g.4)

  pairs_trans : (ps xs ys : Pairs) → SamePairs ps xs → SamePairs xs ys → SamePairs ps ys
  pairs_trans no_pairs xs ys h k = subst (λ z. SamePairs z ys) h k
  pairs_trans (pair l d ps) xs ys h k =
      let g = against xs ys h.0 h.1 h.2 k h.3 in
      (g.0, g.1, g.2, g.3, same_trans l h.0 g.0 h.4 g.4, same_trans d h.1 g.1 h.5 g.5, pairs_trans ps h.2 g.2 h.6 g.6)

  fields_trans : (fs xs ys : Fields) → SameFields fs xs → SameFields xs ys → SameFields fs ys
  fields_trans no_fields xs ys h k = subst (λ z. SameFields z ys) h k
  fields_trans (field name d fs) xs ys h k = let g = subst (λ z. SameFields z ys) h.2 k in (g.0, g.1, g.2, same_trans d h.0 g.0 h.3 g.3, fields_trans fs h.1 g.1 h.4 g.4)
