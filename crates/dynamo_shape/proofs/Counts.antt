-- A map of n entries is written as n entries.
use Rattle.std.proofs.Common.{◌≡◌, ℕ, suc, ◌+◌, false, List, [], ◌∷◌, length, Ok, Less, Equal, Greater, refl, sym, ap, ◌∙◌, inl, inr, arith}
use Rattle.dynamo_shape.proofs.Common.{bytes_eq, AllByRecursion, put, by_order, true≢false}
use Rattle.dynamo_shape.proofs.Common.{cases_Bool, bytes_eq-Decides, Text, Datum, map, Pairs}
use Rattle.dynamo_shape.proofs.Common.{no_pairs, pair, NearlyClear, conforms, count, count_pairs}
use Rattle.dynamo_shape.proofs.Common.{KeepsCount, Shape, Av, members_of, text_cmp, collect}
use Rattle.dynamo_shape.proofs.Common.{collect_onto, written, written_pairs}
use Rattle.dynamo_shape.specs.Shape as shape
use Rattle.dynamo_value.proofs.Steps.{ok_same, bind_ok}
use Rattle.dynamo_shape.proofs.Members.{same_cmp}
use Rattle.dynamo_shape.proofs.Keys.{key_back}
use Rattle.dynamo_shape.proofs.Maps.{Fresh, Distinct, pairs_back, pairs_weaker, distinct_back}
use Rattle.dynamo_shape.proofs.Back.{back}
use Rattle.dynamo_ser.specs.Key.{key_text}

turned : (t u : Text) → bytes_eq t u ≡ false → bytes_eq u t ≡ false
turned t u h = elim (cases_Bool (bytes_eq u t)) [ inl e ↦ absurd (true≢false (sym ((bytes_eq-Decides t u).1 (sym ((bytes_eq-Decides u t).0 e))) ∙ h)) | inr e ↦ e ]

-- put where no key is equal
put_count : (t : Text) (a : Av) (ms : List (Text × Av)) → Fresh t ms → length (put text_cmp t a ms) ≡ suc (length ms)
put_count t a [] h = refl
put_count t a (m ∷ ms) h = elim (text_cmp t m.0) as (λ o. text_cmp t m.0 ≡ o → length (by_order o ((t, a) ∷ m ∷ ms) ((m.0, a) ∷ ms) (m ∷ put text_cmp t a ms)) ≡ suc (suc (length ms))) [
  | Less ↦ λ e. refl
  | Equal ↦ λ e. absurd (true≢false (sym ((bytes_eq-Decides t m.0).1 (same_cmp t m.0 e)) ∙ h.0))
  | Greater ↦ λ e. ap suc (put_count t a ms h.1)
] refl

put_fresh : (u t : Text) (a : Av) (ms : List (Text × Av)) → bytes_eq u t ≡ false → Fresh u ms → Fresh u (put text_cmp t a ms)
put_fresh u t a [] n h = (n, tt)
put_fresh u t a (m ∷ ms) n h = elim (text_cmp t m.0) as (λ o. Fresh u (by_order o ((t, a) ∷ m ∷ ms) ((m.0, a) ∷ ms) (m ∷ put text_cmp t a ms))) [
  | Less ↦ (n, h)
  | Equal ↦ h
  | Greater ↦ (h.0, put_fresh u t a ms n h.1)
]

-- the entries' texts are none of the members'
abbrev Others : List (Text × Av) → List (Text × Av) → Type 0
Others es ms = AllByRecursion (λ e. Fresh e.0 ms) es

put_others : (t : Text) (a : Av) (es ms : List (Text × Av)) → Fresh t es → Others es ms → Others es (put text_cmp t a ms)
put_others t a [] ms f h = tt
put_others t a (e ∷ es) ms f h = (put_fresh e.0 t a ms (turned t e.0 f.0) h.0, put_others t a es ms f.1 h.1)

onto_count : (es ms : List (Text × Av)) → Distinct es → Others es ms → length (collect_onto ms es) ≡ length es + length ms
onto_count [] ms d h = omega arith
onto_count (e ∷ es) ms d h =
    let p = onto_count es (put text_cmp e.0 e.1 ms) d.1 (put_others e.0 e.1 es ms d.0 h.1) in
    let q = put_count e.0 e.1 ms h.0 in
    omega (arith, p, q)

no_others : (es : List (Text × Av)) → Others es []
no_others [] = tt
no_others (e ∷ es) = (tt, no_others es)

collect_count : (es : List (Text × Av)) → Distinct es → length (collect es) ≡ length es
collect_count es d = let p = onto_count es [] d (no_others es) in omega (arith, p)

members_count : (es : List (Text × Av)) → count (members_of es) ≡ length es
members_count [] = refl
members_count (e ∷ es) = ap suc (members_count es)

pairs_count : (ps : Pairs) (es : List (Text × Av)) → written_pairs ps ≡ Ok es → length es ≡ count_pairs ps
pairs_count no_pairs es h = ap length (sym (ok_same h))
pairs_count (pair k d ps) es h =
    let t = bind_ok (key_text k) _ es h in
    let a = bind_ok (written d) _ es t.2 in
    let b = bind_ok (written_pairs ps) _ es a.2 in
    ap length (sym (ok_same b.2)) ∙ ap suc (pairs_count ps b.0 b.1)

keeps : (ps : Pairs) (es : List (Text × Av)) → written_pairs ps ≡ Ok es → Distinct es → KeepsCount ps
keeps ps es h d = (members_of (collect es), rw h refl, members_count (collect es) ∙ collect_count es d ∙ pairs_count ps es h)

named : (ps qs : Pairs) → map ps ≡ map qs → KeepsCount qs → KeepsCount ps
named ps qs e h = (h.0, ap written e ∙ h.1, h.2 ∙ sym (ap pairs_in e))
  where
    pairs_in : Datum → ℕ
    pairs_in (map xs) = count_pairs xs
    pairs_in _ = 0

pub keeps_count : (k s : Shape) (ps : Pairs) → NearlyClear (shape.map k s) → conforms (shape.map k s) (map ps) → KeepsCount ps
keeps_count k s ps n c =
    let r = distinct_back k s c.0 c.3 (pairs_back k s c.0 (pairs_weaker _ _ (λ l e h. (key_back k l n.0 h.0, back s e n.1 h.1)) c.0 c.2)) in
    named ps c.0 c.1 (keeps c.0 r.0 r.1 r.2)
