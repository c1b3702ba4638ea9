-- What maps read, by what their keys and values read.
use Rattle.std.proofs.Common.{◌≡◌, Bool, true, false, cond, List, [], ◌∷◌, map, Option, Some, None, Result, Ok, Err, refl, sym, ap, subst, ◌∙◌, inl, inr}
use Rattle.dynamo_shape.proofs.Common.{⊤, true≢false, cases_Bool, none-some, same_Some, Fault}
use Rattle.dynamo_shape.proofs.Common.{Datum, Pairs, no_pairs, pair, pairs_of, After, ◌>>=◌}
use Rattle.dynamo_shape.proofs.Common.{read_entries, ReadsEach, Source, Entry, attribute, key_text}
use Rattle.dynamo_shape.proofs.Common.{conforms, AllPairs, HasKey, PairsDiffer, AnswersByShape}
use Rattle.dynamo_shape.proofs.Common.{ReadsByShape, EqualAsTold, Permits, read, read_pairs, Same}
use Rattle.dynamo_shape.proofs.Common.{SamePairs, same_key, put_pair, Shape}
use Rattle.dynamo_de.specs.Reads.{ReadsMap}
use Rattle.dynamo_ser.specs.Datum as datum
use Rattle.dynamo_de.specs.Answer as answer
use Rattle.dynamo_shape.specs.Shape as shape
use Rattle.dynamo_ser.specs.Parts.{pairs_in}
use Rattle.std.specs.Map.{lookup, update, update_all}
use Rattle.dynamo_de.specs.Access.{ReadsPair}
use Rattle.dynamo_value.proofs.Steps.{bind_in_turn}
use Rattle.dynamo_shape.proofs.Alike.{same_refl}
use Rattle.dynamo_shape.proofs.Answered.{stops, after}
use Rattle.dynamo_shape.proofs.Pairs.{Has, has_key, IsKeyDatum, equal_keys, read_self, put_has, put_here, put_keeps, put_differ, same_pairs}

-- ---- pairs

pub key_has : (l : Datum) (ps : Pairs) → HasKey l ps → (y : Datum) × Has l y ps
key_has l no_pairs h = absurd h
key_has l (pair k d ps) (inl e) = (d, inl (e, refl))
key_has l (pair k d ps) (inr h) = let t = key_has l ps h in (t.0, inr t.1)

alone : (l y z : Datum) (ps : Pairs) → PairsDiffer ps → Has l y ps → Has l z ps → y ≡ z
alone l y z no_pairs d h g = absurd h
alone l y z (pair k e ps) d (inl h) (inl g) = h.1 ∙ sym g.1
alone l y z (pair k e ps) d (inl h) (inr g) = absurd (d.0 (subst (λ m. HasKey m ps) h.0 (has_key l z ps g)))
alone l y z (pair k e ps) d (inr h) (inl g) = absurd (d.0 (subst (λ m. HasKey m ps) g.0 (has_key l y ps h)))
alone l y z (pair k e ps) d (inr h) (inr g) = alone l y z ps d.1 h g

pub value_conforms : (k s : Shape) (l y : Datum) (ps : Pairs) → AllPairs (λ l e. conforms k l × conforms s e) ps → Has l y ps → conforms s y
value_conforms k s l y no_pairs all h = absurd h
value_conforms k s l y (pair m e ps) all (inl h) = subst (conforms s) (sym h.1) all.0.1
value_conforms k s l y (pair m e ps) all (inr h) = value_conforms k s l y ps all.1 h

put_there : (l e : Datum) (ps : Pairs) → IsKeyDatum l → PairsDiffer ps → (y : Datum) → Has l y (put_pair l e ps) → y ≡ e
put_there l e no_pairs s d y h = elim h [ inl x ↦ x.1 | inr x ↦ absurd x ]
put_there l e (pair k c ps) s d y h =
    elim (same_key l k) as (λ b. same_key l k ≡ b → Has l y (cond b (pair k e ps) (pair k c (put_pair l e ps))) → y ≡ e) [
      | true ↦ λ t g. elim g [ inl x ↦ x.1 | inr x ↦ absurd (d.0 (subst (λ m. HasKey m ps) (equal_keys l k t) (has_key l y ps x))) ]
      | false ↦ λ t g. elim g [ inl x ↦ absurd (true≢false (sym s ∙ ap (same_key l) x.0 ∙ t)) | inr x ↦ put_there l e ps s d.1 y x ]
    ] refl h

-- ---- what a map tells, and what it has at a key

module _ {K V : Type 0} (eq : K → K → Bool) (tk : K → Datum) (tv : V → Datum) (equal : EqualAsTold tk eq) where
  abbrev pub told : List (K × V) → Pairs
  told es = pairs_of (map (λ e. (tk e.0, tv e.1)) es)

  pub found : (q : K) (v : V) (es : List (K × V)) → lookup (eq q) es ≡ Some v → Has (tk q) (tv v) (told es)
  found q v [] h = absurd (none-some v h)
  found q v (e ∷ es) h =
      elim (eq q e.0) as (λ b. eq q e.0 ≡ b → cond b (Some e.1) (lookup (eq q) es) ≡ Some v → Has (tk q) (tv v) (told (e ∷ es))) [
        | true ↦ λ t g. inl ((equal q e.0).0 t, ap tv (sym (same_Some e.1 v g)))
        | false ↦ λ t g. inr (found q v es g)
      ] refl h

  -- with distinct keys, the first is the only one
  pub own : (q : K) (y : Datum) (es : List (K × V)) → PairsDiffer (told es) → Has (tk q) y (told es) → (v : V) × (lookup (eq q) es ≡ Some v) × (tv v ≡ y)
  own q y [] d h = absurd h
  own q y (e ∷ es) d h =
      elim (eq q e.0) as (λ b. eq q e.0 ≡ b → (v : V) × (cond b (Some e.1) (lookup (eq q) es) ≡ Some v) × (tv v ≡ y)) [
        | true ↦ λ t. (e.1, refl, alone (tk q) (tv e.1) y (told (e ∷ es)) d (inl ((equal q e.0).0 t, refl)) h)
        | false ↦ λ t. elim h [
          | inl x ↦ absurd (true≢false (sym ((equal q e.0).1 x.0) ∙ t))
          | inr x ↦ own q y es d.1 x
        ]
      ] refl

  pub a_key : (l y : Datum) (es : List (K × V)) → Has l y (told es) → (q : K) × (tk q ≡ l)
  a_key l y [] h = absurd h
  a_key l y (e ∷ es) (inl h) = (e.0, sym h.0)
  a_key l y (e ∷ es) (inr h) = a_key l y es h

  pub same_lookup : (q r : K) → tk q ≡ tk r → (es : List (K × V)) → lookup (eq q) es ≡ lookup (eq r) es
  same_lookup q r h [] = refl
  same_lookup q r h (e ∷ es) =
      let tests : eq q e.0 ≡ eq r e.0 = elim (cases_Bool (eq q e.0)) [
        | inl a ↦ a ∙ sym ((equal r e.0).1 (sym h ∙ (equal q e.0).0 a))
        | inr a ↦ a ∙ sym (elim (cases_Bool (eq r e.0)) [ inl b ↦ absurd (true≢false (sym ((equal q e.0).1 (h ∙ (equal r e.0).0 b)) ∙ a)) | inr b ↦ b ])
      ] in
      λ i. cond (tests i) (Some e.1) (same_lookup q r h es i)

  -- ---- entry by entry

  -- whatever is found later, something is found
  stays : (xs : List (K × V)) (f : K → Option V) (q : K) (v : V) → f q ≡ Some v → (w : V) × (update_all eq f xs q ≡ Some w)
  stays [] f q v h = (v, h)
  stays (x ∷ xs) f q v h =
      elim (eq x.0 q) as (λ b. eq x.0 q ≡ b → (w : V) × (update_all eq f (x ∷ xs) q ≡ Some w)) [
        | true ↦ λ t. stays xs (update eq f x.0 (Some x.1)) q x.1 (ap (λ b. cond b (Some x.1) (f q)) t)
        | false ↦ λ t. stays xs (update eq f x.0 (Some x.1)) q v (ap (λ b. cond b (Some x.1) (f q)) t ∙ h)
      ] refl

  -- each key of the list is found
  abbrev pub EachKey : (K → Type 0) → List (K × V) → Type 0
  EachKey P [] = ⊤
  EachKey P (x ∷ xs) = P x.0 × EachKey P xs

  self : (q : K) → eq q q ≡ true
  self q = (equal q q).1 refl

  all_found : (xs : List (K × V)) (f : K → Option V) (P : K → Type 0) → ((q : K) (v : V) → update_all eq f xs q ≡ Some v → P q) → EachKey P xs
  all_found [] f P h = tt
  all_found (x ∷ xs) f P h =
      let t = stays xs (update eq f x.0 (Some x.1)) x.0 x.1 (ap (λ b. cond b (Some x.1) (f x.0)) (self x.0)) in
      (h x.0 t.0 t.1, all_found xs (update eq f x.0 (Some x.1)) P h)

  module _ (k s : Shape) (keys : Source → Result K Fault → Type 0) (values : Source → Result V Fault → Type 0) (hk : ReadsByShape k tk keys) (hv : ReadsByShape s tv values) (apart : (l : Datum) (q : K) → IsKeyDatum l → Same l (tk q) → l ≡ tk q) where
    -- the pairs that were read, and what the map has at each key
    pub record Tracks (acc : Pairs) (f : K → Option V) : Type 0 where
      pub differ : PairsDiffer acc
      pub from : (l y : Datum) → Has l y acc → (q : K) × (v : V) × (tk q ≡ l) × (f q ≡ Some v) × (conforms s (tv v) → Same y (tv v))
      pub to : (q : K) (v : V) → f q ≡ Some v → HasKey (tk q) acc

    nothing_yet : Tracks no_pairs (λ _. None)
    nothing_yet = record { differ = tt; from = λ l y h. absurd h; to = λ q v h. absurd (none-some v h) }

    one_more : (acc : Pairs) (f : K → Option V) (l y : Datum) (q : K) (v : V) → IsKeyDatum l → l ≡ tk q → (conforms s (tv v) → Same y (tv v)) → Tracks acc f → Tracks (put_pair l y acc) (update eq f q (Some v))
    one_more acc f l y q v is same alike t = record {
      differ = put_differ l y acc is t.differ;
      from = λ m z h. elim (put_has l y acc m z h) [
        | inl x ↦ (q, v, sym same ∙ sym x.0, ap (λ b. cond b (Some v) (f q)) (self q), λ c. subst (λ w. Same w (tv v)) (sym x.1) (alike c))
        | inr x ↦
            let r = t.from m z x in
            elim (eq q r.0) as (λ b. eq q r.0 ≡ b → (p : K) × (w : V) × (tk p ≡ m) × (update eq f q (Some v) p ≡ Some w) × (conforms s (tv w) → Same z (tv w))) [
              | true ↦ λ e.
                  let here : m ≡ l = sym r.2 ∙ sym ((equal q r.0).0 e) ∙ sym same in
                  let only : z ≡ y = put_there l y acc is t.differ z (subst (λ n. Has n z (put_pair l y acc)) here h) in
                  (q, v, sym same ∙ sym here, ap (λ b. cond b (Some v) (f q)) (self q), λ c. subst (λ w. Same w (tv v)) (sym only) (alike c))
              | false ↦ λ e. (r.0, r.1, r.2, ap (λ b. cond b (Some v) (f r.0)) e ∙ r.3, r.4)
            ] refl
      ];
      to = λ p w h.
          elim (eq q p) as (λ b. eq q p ≡ b → cond b (Some v) (f p) ≡ Some w → HasKey (tk p) (put_pair l y acc)) [
            | true ↦ λ e g. subst (λ n. HasKey n (put_pair l y acc)) (same ∙ (equal q p).0 e) (put_here l y acc)
            | false ↦ λ e g. put_keeps l y acc (tk p) (t.to p w g)
          ] refl h;
    }

    entries_read : (es : List Entry) (ps : List (K × V)) → ReadsEach (ReadsPair keys values) es (Ok ps) → (acc : Pairs) (f : K → Option V) → (qs : Pairs) × (read_pairs (read k) (read s) acc es ≡ answer.value qs) × (EachKey (λ q. conforms k (tk q)) ps → Tracks acc f → Tracks qs (update_all eq f ps))
    entries_read [] ps r acc f = (acc, refl, λ c t. subst (λ xs. Tracks acc (update_all eq f xs)) (sym r) t)
    entries_read (e ∷ es) ps (p, rest, same, here, more) acc f =
        let l = hk (key_text e.0) (Ok p.0) here.0 in
        let y = hv (attribute e.1) (Ok p.1) here.1 in
        let t = entries_read es rest more (put_pair l.0 y.0 acc) (update eq f p.0 (Some p.1)) in (
          t.0,
          rw (l.1, y.1) t.1,
          λ c tracks.
              let d : EachKey (λ q. conforms k (tk q)) (p ∷ rest) = subst (EachKey (λ q. conforms k (tk q))) same c in
              let is = read_self k e.0 l.0 l.1 in
              subst (λ xs. Tracks t.0 (update_all eq f xs)) (sym same) (t.2 d.1 (one_more acc f l.0 y.0 p.0 p.1 is (apart l.0 p.0 is (l.2 d.0)) y.2 tracks)),
        )

    entries_fail : (es : List Entry) (f : Fault) → ReadsEach {T = K × V} (ReadsPair keys values) es (Err f) → (acc : Pairs) → Permits SamePairs (read_pairs (read k) (read s) acc es) (Err f)
    entries_fail [] f r acc = absurd r
    entries_fail (e ∷ es) f (inl (inl x)) acc = stops Same SamePairs (read k (key_text e.0)) _ f (hk (key_text e.0) (Err f) x)
    entries_fail (e ∷ es) f (inl (inr (q, x, y))) acc =
        let l = hk (key_text e.0) (Ok q) x in
        rw l.1 (stops Same SamePairs (read s (attribute e.1)) (λ d. read_pairs (read k) (read s) (put_pair l.0 d acc) es) f (hv (attribute e.1) (Err f) y))
    entries_fail (e ∷ es) f (inr (p, here, more)) acc =
        let l = hk (key_text e.0) (Ok p.0) here.0 in
        let y = hv (attribute e.1) (Ok p.1) here.1 in
        rw (l.1, y.1) (entries_fail es f more (put_pair l.0 y.0 acc))

    -- the map has what was read at each key
    module _ (qs : Pairs) (f : K → Option V) (es : List (K × V)) (tracks : Tracks qs f) (same : (q : K) → lookup (eq q) es ≡ f q) (parts : AllPairs (λ l e. conforms k l × conforms s e) (told es)) (differ : PairsDiffer (told es)) where
      there : (l : Datum) → HasKey l qs → HasKey l (told es)
      there l h =
          let y = key_has l qs h in
          let r = tracks.from l y.0 y.1 in
          subst (λ m. HasKey m (told es)) r.2 (has_key (tk r.0) (tv r.1) (told es) (found r.0 r.1 es (same r.0 ∙ r.3)))

      back : (l y : Datum) → Has l y (told es) → (e : Datum) × Has l e qs × Same e y
      back l y h =
          let q = a_key l y es h in
          let v = own q.0 y es differ (subst (λ m. Has m y (told es)) (sym q.1) h) in
          let e = key_has (tk q.0) qs (tracks.to q.0 v.0 (sym (same q.0) ∙ v.1)) in
          let r = tracks.from (tk q.0) e.0 e.1 in
          let one : r.1 ≡ v.0 = same_Some r.1 v.0 (sym r.3 ∙ sym (same r.0) ∙ same_lookup r.0 q.0 r.2 es ∙ v.1) in
          let alike : Same e.0 (tv r.1) = r.4 (subst (conforms s) (sym (ap tv one ∙ v.2)) (value_conforms k s l y (told es) parts h)) in
          (e.0, subst (λ m. Has m e.0 qs) q.1 e.1, subst (Same e.0) (ap tv one ∙ v.2) alike)

      read_as_told : SamePairs qs (told es)
      read_as_told = same_pairs qs (told es) tracks.differ differ there back (λ l h. same_refl l)

    keys_conform : (es : List (K × V)) (q : K) (v : V) → AllPairs (λ l e. conforms k l × conforms s e) (told es) → lookup (eq q) es ≡ Some v → conforms k (tk q)
    keys_conform [] q v all h = absurd (none-some v h)
    keys_conform (e ∷ es) q v all h =
        elim (eq q e.0) as (λ b. eq q e.0 ≡ b → cond b (Some e.1) (lookup (eq q) es) ≡ Some v → conforms k (tk q)) [
          | true ↦ λ t g. subst (conforms k) (sym ((equal q e.0).0 t)) all.0.0
          | false ↦ λ t g. keys_conform es q v all.1 g
        ] refl h

    map_answered : {M : Type 0} (entries : M → List (K × V)) (get : M → K → Option V) → ((m : M) (q : K) → get m q ≡ lookup (eq q) (entries m)) → (es : List Entry) (r : Result M Fault) → ReadsMap get eq keys values es r → AnswersByShape (conforms (shape.map k s)) Same (λ m. datum.map (told (entries m))) (read_pairs (read k) (read s) no_pairs es >>= λ ps. answer.value (datum.map ps)) r
    unfolding ReadsMap
    map_answered entries get gets es (Ok m) (ps, r, has) =
        let t = entries_read es ps r no_pairs (λ _. None) in (
          datum.map t.0,
          rw t.1 refl,
          λ c.
              let known : told (entries m) ≡ c.0 = ap pairs_in c.1 in
              let parts : AllPairs (λ l e. conforms k l × conforms s e) (told (entries m)) = subst (AllPairs (λ l e. conforms k l × conforms s e)) (sym known) c.2 in
              let differ : PairsDiffer (told (entries m)) = subst PairsDiffer (sym known) c.3 in
              let same : (q : K) → lookup (eq q) (entries m) ≡ update_all eq (λ _. None) ps q = λ q. sym (gets m q) ∙ has q in
              let conform = all_found ps (λ _. None) (λ q. conforms k (tk q)) (λ q v h. keys_conform (entries m) q v parts (same q ∙ h)) in
              (told (entries m), refl, read_as_told t.0 (update_all eq (λ _. None) ps) (entries m) (t.2 conform nothing_yet) same parts differ),
        )
    map_answered entries get gets es (Err f) r = stops SamePairs Same (read_pairs (read k) (read s) no_pairs es) (λ ps. answer.value (datum.map ps)) f (entries_fail es f r no_pairs)

    pub map_permitted : {M : Type 0} (entries : M → List (K × V)) (get : M → K → Option V) → ((m : M) (q : K) → get m q ≡ lookup (eq q) (entries m)) → ReadsByShape (shape.map k s) (λ m. datum.map (told (entries m))) (λ source. After (read_entries source) (ReadsMap get eq keys values))
    map_permitted {M} entries get gets source r a =
        subst (λ x. AnswersByShape (conforms (shape.map k s)) Same (λ m. datum.map (told (entries m))) x r) (sym (bind_in_turn (read_entries source) (read_pairs (read k) (read s) no_pairs) (λ ps. answer.value (datum.map ps))))
        (after (conforms (shape.map k s)) Same (λ m. datum.map (told (entries m))) (ReadsMap get eq keys values) (λ es. read_pairs (read k) (read s) no_pairs es >>= λ ps. answer.value (datum.map ps)) (map_answered entries get gets) (read_entries source) r a)
