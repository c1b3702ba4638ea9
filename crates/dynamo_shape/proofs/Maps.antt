-- What is written for a map reads back.
use Rattle.std.proofs.Common.{◌≡◌, ◌⊎◌, false, cond, List, [], ◌∷◌, Ok, Some, refl, sym, ap, subst, ◌∙◌, inl, inr}
use Rattle.dynamo_shape.proofs.Common.{⊤, bytes_eq, AllByRecursion, put, find, find-put}
use Rattle.dynamo_shape.proofs.Common.{nat_list_cmp_total, cases_Bool, is_eq-slice_cmp}
use Rattle.dynamo_shape.proofs.Common.{bytes_eq-Decides, value, Text, attribute, key_text}
use Rattle.dynamo_shape.proofs.Common.{entries_of, Datum, Pairs, no_pairs, pair, AllPairs, HasKey}
use Rattle.dynamo_shape.proofs.Common.{PairsDiffer, kept, kept_pairs, read, read_pairs, ReadsBack}
use Rattle.dynamo_shape.proofs.Common.{Same, SamePairs, put_pair, Shape, Av, M, Members, no_members}
use Rattle.dynamo_shape.proofs.Common.{member, members_of, text_cmp, collect, collect_onto}
use Rattle.dynamo_shape.proofs.Common.{written_pairs}
use Rattle.dynamo_ser.specs.Datum as datum
use Rattle.dynamo_shape.proofs.Results.{value_same}
use Rattle.dynamo_shape.proofs.Members.{SomeMember, EachMember, get_member, get_find, get_each, each_weaker, meets, Each, collected}
use Rattle.dynamo_shape.proofs.Found.{Found, same_bytes}
use Rattle.dynamo_shape.proofs.Keys.{KeyBack}
use Rattle.dynamo_shape.proofs.Pairs.{Has, has_key, read_self, put_has, put_here, put_keeps, put_differ, same_pairs}
use Rattle.dynamo_shape.proofs.Alike.{same_refl}
use Rattle.dynamo_shape.specs.Shape.{map}

abbrev pub Fresh : Text → List (Text × Av) → Type 0
Fresh t es = AllByRecursion (λ e. bytes_eq t e.0 ≡ false) es

abbrev pub Distinct : List (Text × Av) → Type 0
Distinct [] = ⊤
Distinct (e ∷ es) = Fresh e.0 es × Distinct es

missing : (es ms : List (Text × Av)) (q : Text) → Fresh q es → find text_cmp q (collect_onto ms es) ≡ find text_cmp q ms
missing [] ms q h = refl
missing (e ∷ es) ms q h = missing es (put text_cmp e.0 e.1 ms) q h.1 ∙ find-put text_cmp nat_list_cmp_total q e.0 e.1 ms ∙ ap (λ t. cond t (Some e.1) (find text_cmp q ms)) (is_eq-slice_cmp q e.0 ∙ h.0)

found_in : (es ms : List (Text × Av)) → Distinct es → AllByRecursion (λ e. find text_cmp e.0 (collect_onto ms es) ≡ Some e.1) es
found_in [] ms h = tt
found_in (e ∷ es) ms h = (
  missing es (put text_cmp e.0 e.1 ms) e.0 h.0 ∙ find-put text_cmp nat_list_cmp_total e.0 e.0 e.1 ms ∙ ap (λ t. cond t (Some e.1) (find text_cmp e.0 ms)) (is_eq-slice_cmp e.0 e.0 ∙ same_bytes e.0),
  found_in es (put text_cmp e.0 e.1 ms) h.1,
)

found_again : (es fs : List (Text × Av)) → AllByRecursion (λ e. find text_cmp e.0 fs ≡ Some e.1) es → Found es (members_of fs)
found_again [] fs h = tt
found_again (e ∷ es) fs h = (get_find e.0 fs ∙ h.0, found_again es fs h.1)

-- ---- the pairs that are read

-- a member gives this key, this pair
abbrev Gives : Shape → Shape → Datum → Datum → Text → Av → Type 0
Gives k s l y t a = (read k (key_text t) ≡ value l) × (read s (attribute a) ≡ value y)

abbrev Readable : Shape → Shape → Text → Av → Type 0
Readable k s t a = (l : Datum) × (y : Datum) × Gives k s l y t a

pub record PairsRead (k s : Shape) (acc qs : Pairs) (ms : Members) : Type 0 where
  pub from : (l y : Datum) → Has l y qs → Has l y acc ⊎ SomeMember (Gives k s l y) ms
  pub keeps : (l : Datum) → HasKey l acc → HasKey l qs
  pub each : EachMember (λ t a. (l : Datum) → read k (key_text t) ≡ value l → HasKey l qs) ms
  pub differ : PairsDiffer acc → PairsDiffer qs

pairs_read : (k s : Shape) (ms : Members) (acc : Pairs) → EachMember (Readable k s) ms → (qs : Pairs) × (read_pairs (read k) (read s) acc (entries_of ms) ≡ value qs) × PairsRead k s acc qs ms
pairs_read k s no_members acc h = (acc, refl, record { from = λ l y g. inl g; keeps = λ l g. g; each = tt; differ = λ g. g })
pairs_read k s (member t a ms) acc h =
    let l = h.0.0 in
    let y = h.0.1 in
    let r = pairs_read k s ms (put_pair l y acc) h.1 in (
      r.0,
      rw (h.0.2.0, h.0.2.1) r.1,
      record {
        from = λ m z g. elim (r.2.from m z g) [
          | inl b ↦ elim (put_has l y acc m z b) [ inl c ↦ inr (inl (h.0.2.0 ∙ ap value (sym c.0), h.0.2.1 ∙ ap value (sym c.1))) | inr c ↦ inl c ]
          | inr b ↦ inr (inr b)
        ];
        keeps = λ m g. r.2.keeps m (put_keeps l y acc m g);
        each = (λ m e. r.2.keeps m (subst (λ z. HasKey z (put_pair l y acc)) (value_same (sym h.0.2.0 ∙ e)) (put_here l y acc)), r.2.each);
        differ = λ g. r.2.differ (put_differ l y acc (read_self k t l h.0.2.0) g);
      },
    )

-- ---- a map

abbrev KeyFacts : Shape → Datum → Text → Type 0
KeyFacts k l t = (kept l ≡ l) × (read k (key_text t) ≡ value l)

abbrev ValueFacts : Shape → Datum → Av → Type 0
ValueFacts s e a = (y : Datum) × (read s (attribute a) ≡ value y) × Same (kept e) y

-- the entries are those of the pairs, in order
abbrev Listed : Shape → Shape → Pairs → List (Text × Av) → Type 0
Listed k s no_pairs [] = ⊤
Listed k s (pair l e ps) (x ∷ es) = KeyFacts k l x.0 × ValueFacts s e x.1 × Listed k s ps es
Listed k s _ _ = ⊥

-- an entry is some pair's
abbrev OfPair : Shape → Shape → Pairs → Text → Av → Type 0
OfPair k s ps t a = (l : Datum) × (e : Datum) × Has l e ps × KeyFacts k l t × ValueFacts s e a

module _ (k s : Shape) where
  listed_each : (ps all : Pairs) (es : List (Text × Av)) → Listed k s ps es → ((l e : Datum) → Has l e ps → Has l e all) → Each (OfPair k s all) es
  listed_each no_pairs all [] h f = tt
  listed_each no_pairs all (x ∷ es) h f = absurd h
  listed_each (pair l e ps) all [] h f = absurd h
  listed_each (pair l e ps) all (x ∷ es) h f = ((l, e, f l e (inl (refl, refl)), h.0, h.1), listed_each ps all es h.2 (λ m d g. f m d (inr g)))

  listed_fresh : (ps : Pairs) (es : List (Text × Av)) (l : Datum) (t : Text) → Listed k s ps es → ¬ (HasKey l ps) → KeyFacts k l t → Fresh t es
  listed_fresh no_pairs [] l t h n f = tt
  listed_fresh no_pairs (x ∷ es) l t h n f = absurd h
  listed_fresh (pair m d ps) [] l t h n f = absurd h
  listed_fresh (pair m d ps) (x ∷ es) l t h n f =
      let other : bytes_eq t x.0 ≡ false = elim (cases_Bool (bytes_eq t x.0)) [
        | inl e ↦ absurd (n (inl (value_same (sym f.1 ∙ ap (λ t. read k (key_text t)) ((bytes_eq-Decides t x.0).0 e) ∙ h.0.1))))
        | inr e ↦ e
      ] in
      (other, listed_fresh ps es l t h.2 (λ g. n (inr g)) f)

  listed_distinct : (ps : Pairs) (es : List (Text × Av)) → PairsDiffer ps → Listed k s ps es → Distinct es
  listed_distinct no_pairs [] n h = tt
  listed_distinct no_pairs (x ∷ es) n h = absurd h
  listed_distinct (pair l e ps) [] n h = absurd h
  listed_distinct (pair l e ps) (x ∷ es) n h = (listed_fresh ps es l x.0 h.2 n.0 h.0, listed_distinct ps es n.1 h.2)

  listed_found : (ps : Pairs) (es : List (Text × Av)) (ms : Members) → Listed k s ps es → Found es ms → (l e : Datum) → Has l e ps → (t : Text) × (a : Av) × (get_member t ms ≡ Some a) × KeyFacts k l t
  listed_found no_pairs es ms h f l e g = absurd g
  listed_found (pair m d ps) [] ms h f l e g = absurd h
  listed_found (pair m d ps) (x ∷ es) ms h f l e g = elim g [
    | inl p ↦ (x.0, x.1, f.0, subst (λ z. KeyFacts k z x.0) (sym p.0) h.0)
    | inr q ↦ listed_found ps es ms h.2 f.1 l e q
  ]

  -- the pairs, with flat values
  abbrev values : Pairs → Pairs
  values no_pairs = no_pairs
  values (pair l e ps) = pair l (kept e) (values ps)

  listed_flat : (ps : Pairs) (es : List (Text × Av)) → Listed k s ps es → kept_pairs ps ≡ values ps
  listed_flat no_pairs es h = refl
  listed_flat (pair l e ps) [] h = absurd h
  listed_flat (pair l e ps) (x ∷ es) h = let p = h.0.0 in let q = listed_flat ps es h.2 in λ i. pair (p i) (kept e) (q i)

  into_values : (ps : Pairs) (l e : Datum) → Has l e ps → Has l (kept e) (values ps)
  into_values no_pairs l e h = h
  into_values (pair m d ps) l e h = elim h [ inl x ↦ inl (x.0, ap kept x.1) | inr y ↦ inr (into_values ps l e y) ]

  key_in : (ps : Pairs) (l : Datum) → HasKey l (values ps) → (e : Datum) × Has l e ps
  key_in no_pairs l h = absurd h
  key_in (pair m d ps) l h = elim h [ inl x ↦ (d, inl (x, refl)) | inr z ↦ let r = key_in ps l z in (r.0, inr r.1) ]

  values_differ : (ps : Pairs) → PairsDiffer ps → PairsDiffer (values ps)
  values_differ no_pairs h = tt
  values_differ (pair l e ps) h = (λ n. let r = key_in ps l n in h.0 (has_key l r.0 ps r.1), values_differ ps h.1)

  entries_read : (ps : Pairs) (es : List (Text × Av)) → PairsDiffer ps → Listed k s ps es → (qs : Pairs) × (read_pairs (read k) (read s) no_pairs (entries_of (members_of (collect es))) ≡ value qs) × SamePairs (values ps) qs
  entries_read ps es n h =
      let ms : Members = members_of (collect es) in
      let each : EachMember (OfPair k s ps) ms = collected (OfPair k s ps) es (listed_each ps ps es h (λ l e g. g)) in
      let found : Found es ms = found_again es (collect es) (found_in es [] (listed_distinct ps es n h)) in
      let r = pairs_read k s ms no_pairs (each_weaker (OfPair k s ps) (Readable k s) (λ t a o. (o.0, o.4.0, (o.3.1, o.4.1))) ms each) in (
        r.0,
        r.1,
        same_pairs (values ps) r.0 (values_differ ps n) (r.2.differ tt)
            (λ l g.
            let v = key_in ps l g in
            let f = listed_found ps es ms h found l v.0 v.1 in
            get_each _ f.0 f.1 ms f.2 r.2.each l f.3.1)
            (λ l y g. elim (r.2.from l y g) [
              | inl b ↦ absurd b
              | inr b ↦
                  let m = meets (OfPair k s ps) _ ms each b in
                  let o = m.2 in
                  let same : o.0 ≡ l = value_same (sym o.3.1 ∙ m.3.0) in
                  (kept o.1, subst (λ z. Has z (kept o.1) (values ps)) same (into_values ps o.0 o.1 o.2), subst (Same (kept o.1)) (value_same (sym o.4.1 ∙ m.3.1)) o.4.2)
            ])
            (λ l g. same_refl l),
      )

  pub PairsBack : Pairs → Type 0
  PairsBack ps = (es : List (Text × Av)) × (written_pairs ps ≡ Ok es) × Listed k s ps es

  pub pairs_back : (ps : Pairs) → AllPairs (λ l e. KeyBack k l × ReadsBack s e) ps → PairsBack ps
  unfolding PairsBack
  pairs_back no_pairs c = ([], refl, tt)
  pairs_back (pair l e ps) c =
      let (a, b) = c.0 in
      let t = pairs_back ps c.1 in
      ((a.0, b.0) ∷ t.0, rw (a.1, b.2, t.1) refl, ((a.2, a.3), (b.1, b.3, b.4), t.2))

  pub map_back : (ps : Pairs) → PairsDiffer ps → PairsBack ps → ReadsBack (map k s) (datum.map ps)
  unfolding PairsBack
  map_back ps n t =
      let r = entries_read ps t.0 n t.2 in
      (M (members_of (collect t.0)), datum.map r.0, rw t.1 refl, rw r.1 refl, (r.0, refl, subst (λ xs. SamePairs xs r.0) (sym (listed_flat ps t.0 t.2)) r.2))

  pub distinct_back : (ps : Pairs) → PairsDiffer ps → PairsBack ps → (es : List (Text × Av)) × (written_pairs ps ≡ Ok es) × Distinct es
  unfolding PairsBack
  distinct_back ps n t = (t.0, t.1, listed_distinct ps t.0 n t.2)

pub pairs_weaker : (P Q : Datum → Datum → Type 0) → ((l e : Datum) → P l e → Q l e) → (ps : Pairs) → AllPairs P ps → AllPairs Q ps
pairs_weaker P Q f no_pairs h = tt
pairs_weaker P Q f (pair l e ps) h = (f l e h.0, pairs_weaker P Q f ps h.1)
