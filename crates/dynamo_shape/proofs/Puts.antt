-- For callers: a pair is put onto pairs that are told in another order.
use Rattle.std.proofs.Common.{◌≡◌, ◌⊎◌, true, false, cond, refl, sym, ap, subst, ◌∙◌, inl, inr}
use Rattle.dynamo_shape.proofs.Common.{bytes_eq, true≢false, and_parts, Datum, some, newtype_struct}
use Rattle.dynamo_shape.proofs.Common.{newtype_variant, seq, tuple, tuple_struct, tuple_variant}
use Rattle.dynamo_shape.proofs.Common.{map, struct_variant, Pairs, no_pairs, pair, AllPairs, HasKey}
use Rattle.dynamo_shape.proofs.Common.{PairsDiffer, Without, Same, SamePairs, same_key, put_pair}
use Rattle.dynamo_shape.proofs.Alike.{same_refl}
use Rattle.dynamo_shape.proofs.Pairs.{IsKeyDatum, Has, has_key, equal_keys, put_differ, put_keys, taken_in, key_of_rest, same_pairs}
use Rattle.dynamo_ser.specs.Datum.{struct}

-- keys are the same only where they are equal
pub same_keys : (k x : Datum) → IsKeyDatum k → Same k x → k ≡ x
same_keys (newtype_struct name d) x h s = let (a, b) = and_parts (bytes_eq name name) (same_key d d) h in ap (newtype_struct name) (same_keys d s.0 b s.2) ∙ sym s.1
same_keys (some d) x h s = absurd (true≢false (sym h))
same_keys (newtype_variant v d) x h s = absurd (true≢false (sym h))
same_keys (seq ds) x h s = absurd (true≢false (sym h))
same_keys (tuple ds) x h s = absurd (true≢false (sym h))
same_keys (tuple_struct name ds) x h s = absurd (true≢false (sym h))
same_keys (tuple_variant v ds) x h s = absurd (true≢false (sym h))
same_keys (map ps) x h s = absurd (true≢false (sym h))
same_keys (struct name fs) x h s = absurd (true≢false (sym h))
same_keys (struct_variant v fs) x h s = absurd (true≢false (sym h))
same_keys k x h s = s

abbrev pub KeyData : Pairs → Type 0
KeyData ps = AllPairs (λ k d. IsKeyDatum k) ps

has_rest : (qs : Pairs) (l e : Datum) (rest : Pairs) → Without qs l e rest → (x y : Datum) → Has x y qs → ((x ≡ l) × (y ≡ e)) ⊎ Has x y rest
has_rest no_pairs l e rest w x y h = absurd w
has_rest (pair k d qs) l e rest w x y h = elim w [
  | inl a ↦ elim h [ inl b ↦ inl (b.0 ∙ a.0, b.1 ∙ a.1) | inr b ↦ inr (subst (Has x y) (sym a.2) b) ]
  | inr a ↦ subst (λ z. ((x ≡ l) × (y ≡ e)) ⊎ Has x y z) (sym a.1) (elim h [ inl b ↦ inr (inl b) | inr b ↦ elim (has_rest qs l e a.0 a.2 x y b) [ inl c ↦ inl c | inr c ↦ inr (inr c) ] ])
]

none_in : (x y : Datum) (qs : Pairs) → qs ≡ no_pairs → ¬ (Has x y qs)
none_in x y qs e h = subst (Has x y) e h

pub from_same : (ps qs : Pairs) → KeyData ps → SamePairs ps qs → (x y : Datum) → Has x y qs → (z : Datum) × Has x z ps × Same z y
from_same no_pairs qs n s x y h = absurd (none_in x y qs s h)
from_same (pair k d ps) qs n s x y h = elim (has_rest qs s.0 s.1 s.2 s.3 x y h) [
  | inl a ↦ (d, inl (a.0 ∙ sym (same_keys k s.0 n.0 s.4), refl), subst (Same d) (sym a.1) s.5)
  | inr b ↦ let r = from_same ps s.2 n.1 s.6 x y b in (r.0, inr r.1, r.2)
]

pub to_same : (ps qs : Pairs) → KeyData ps → SamePairs ps qs → (x : Datum) → HasKey x ps → HasKey x qs
to_same no_pairs qs n s x h = absurd h
to_same (pair k d ps) qs n s x h = elim h [
  | inl a ↦ subst (λ z. HasKey z qs) (sym (a ∙ same_keys k s.0 n.0 s.4)) (has_key s.0 s.1 qs (taken_in qs s.0 s.1 s.2 s.3))
  | inr b ↦ key_of_rest qs s.0 s.1 s.2 s.3 x (to_same ps s.2 n.1 s.6 x b)
]

put_value : (l e : Datum) (ps : Pairs) → Has l e (put_pair l e ps)
put_value l e no_pairs = inl (refl, refl)
put_value l e (pair k d ps) = elim (same_key l k) as (λ c. same_key l k ≡ c → Has l e (cond c (pair k e ps) (pair k d (put_pair l e ps)))) [
  | true ↦ λ q. inl (equal_keys l k q, refl)
  | false ↦ λ q. inr (put_value l e ps)
] refl

put_other : (l e : Datum) (ps : Pairs) (x z : Datum) → ¬ (x ≡ l) → Has x z ps → Has x z (put_pair l e ps)
put_other l e no_pairs x z n h = absurd h
put_other l e (pair k d ps) x z n h = elim (same_key l k) as (λ c. same_key l k ≡ c → Has x z (cond c (pair k e ps) (pair k d (put_pair l e ps)))) [
  | true ↦ λ q. elim h [ inl a ↦ absurd (n (a.0 ∙ sym (equal_keys l k q))) | inr b ↦ inr b ]
  | false ↦ λ q. elim h [ inl a ↦ inl a | inr b ↦ inr (put_other l e ps x z n b) ]
] refl

-- rs are qs with this pair in the place of its key's
pub record Replaces (l e : Datum) (qs rs : Pairs) : Type 0 where
  pub here : Has l e rs
  pub from : (x y : Datum) → Has x y rs → ((x ≡ l) × (y ≡ e)) ⊎ (Has x y qs × ¬ (x ≡ l))
  pub keeps : (x : Datum) → HasKey x qs → HasKey x rs

-- so a map that is told in any order stays the same as what is read
pub put_same : (ps qs rs : Pairs) (l d e : Datum) → IsKeyDatum l → KeyData ps → PairsDiffer ps → PairsDiffer rs → SamePairs ps qs → Same d e → Replaces l e qs rs → SamePairs (put_pair l d ps) rs
put_same ps qs rs l d e n k p q s t w = same_pairs (put_pair l d ps) rs (put_differ l d ps n p) q
    (λ x h. elim (put_keys l d ps x h) [ inl a ↦ subst (λ z. HasKey z rs) (sym a) (has_key l e rs w.here) | inr b ↦ w.keeps x (to_same ps qs k s x b) ])
    (λ x y h. elim (w.from x y h) [
      | inl a ↦ (d, subst (λ z. Has z d (put_pair l d ps)) (sym a.0) (put_value l d ps), subst (Same d) (sym a.1) t)
      | inr b ↦ let r = from_same ps qs k s x y b.0 in (r.0, put_other l d ps x r.0 b.1 r.1, r.2)
    ])
    (λ x h. same_refl x)
