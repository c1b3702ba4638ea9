-- Entries that are read in order, one after another, into a map.
use Rattle.std.proofs.Common.{◌≡◌, Bool, List, [], ◌∷◌, ◌++◌, Option, Some, None, Result, Ok, Err, cond, refl, sym, subst, inl, inr, ◌∙◌}
use Rattle.std.proofs.lemmas.Map.{update_all_push}
use Rattle.dynamo_value.specs.Fault.{Fault}
use Rattle.dynamo_de.specs.Access.{ReadsPair}
use Rattle.dynamo_de.specs.Meets.{Meets}
use Rattle.dynamo_de.specs.Reads.{MapSoFar, ReadsMap, ReadsEach, ReadsSoFar}
use Rattle.dynamo_de.specs.Shows.{TakesEntry}
use Rattle.dynamo_de.specs.Source.{Source, Entry}
use Rattle.dynamo_de.proofs.Each.{so_far_more, so_far_all, so_far_fails}

module _ {K V D : Type 0} (keys : Source → Result K Fault → Type 0) (values : Source → Result V Fault → Type 0) (source : D → Source) (es : List Entry) (ps : List (K × V)) where
  abbrev SoFar : List Entry → Type 0
  SoFar l = ReadsSoFar (ReadsPair keys values) es ps l

  pair_more : (l new : List Entry) (d : D × D) (k : K) (v : V) → SoFar l → TakesEntry source l new (Some d) → keys (source d.0) (Ok k) → values (source d.1) (Ok v) → ReadsSoFar (ReadsPair keys values) es (ps ++ (k, v) ∷ []) new
  pair_more [] new d k v h t a b = cc
  pair_more (e ∷ l) new d k v h t a b =
      so_far_more (ReadsPair keys values) es ps e new (k, v) (subst (λ r. SoFar (e ∷ r)) (sym t.0) h) (subst (λ s. keys s (Ok k)) t.1 a, subst (λ s. values s (Ok v)) t.2 b)

  pair_ends : (l new : List Entry) → SoFar l → TakesEntry source l new None → ReadsEach (ReadsPair keys values) es (Ok ps)
  pair_ends [] new h t = so_far_all (ReadsPair keys values) es ps h
  pair_ends (e ∷ l) new h t = absurd t

  key_fails : (l new : List Entry) (d : D × D) (f : Fault) → SoFar l → TakesEntry source l new (Some d) → keys (source d.0) (Err f) → ReadsEach {T = K × V} (ReadsPair keys values) es (Err f)
  key_fails [] new d f h t a = cc
  key_fails (e ∷ l) new d f h t a = so_far_fails (ReadsPair keys values) es ps e l f h (inl (subst (λ s. keys s (Err f)) t.1 a))

  value_fails : (l new : List Entry) (d : D × D) (k : K) (f : Fault) → SoFar l → TakesEntry source l new (Some d) → keys (source d.0) (Ok k) → values (source d.1) (Err f) → ReadsEach {T = K × V} (ReadsPair keys values) es (Err f)
  value_fails [] new d k f h t a b = cc
  value_fails (e ∷ l) new d k f h t a b = so_far_fails (ReadsPair keys values) es ps e l f h (inr (k, subst (λ s. keys s (Ok k)) t.1 a, subst (λ s. values s (Err f)) t.2 b))

module _ {K V D M : Type 0} (get : M → K → Option V) (eq : K → K → Bool) (keys : Source → Result K Fault → Type 0) (values : Source → Result V Fault → Type 0) (source : D → Source) (es : List Entry) (m : M) (l new : List Entry) (so_far : MapSoFar get eq keys values es m l) where
  pub map_more : (n : M) (d : D × D) (k : K) (v : V) → TakesEntry source l new (Some d) → keys (source d.0) (Ok k) → values (source d.1) (Ok v) → ((q : K) → get n q ≡ cond (eq k q) (Some v) (get m q)) → MapSoFar get eq keys values es n new
  unfolding MapSoFar
  map_more n d k v t a b u =
      (so_far.0 ++ (k, v) ∷ [], pair_more keys values source es so_far.0 l new d k v so_far.1 t a b, λ q. u q ∙ update_all_push eq (λ _. None) (get m) so_far.0 (k, v) q (so_far.2 q))

  pub map_ends : TakesEntry source l new None → ReadsMap get eq keys values es (Ok m)
  unfolding MapSoFar ReadsMap
  map_ends t = (so_far.0, pair_ends keys values source es so_far.0 l new so_far.1 t, so_far.2)

  module _ {E : Type 0} (fault : E → Fault) (d : D × D) (taken : TakesEntry source l new (Some d)) (x : E) where
    pub map_key_fails : Meets {V = K} fault (keys (source d.0)) (Err x) → Meets fault (ReadsMap get eq keys values es) (Err x)
    unfolding MapSoFar ReadsMap
    map_key_fails (inl lacks) = inl lacks
    map_key_fails (inr a) = inr (key_fails keys values source es so_far.0 l new d (fault x) so_far.1 taken a)

    pub map_value_fails : (k : K) → keys (source d.0) (Ok k) → Meets {V = V} fault (values (source d.1)) (Err x) → Meets fault (ReadsMap get eq keys values es) (Err x)
    unfolding MapSoFar ReadsMap
    map_value_fails k a (inl lacks) = inl lacks
    map_value_fails k a (inr b) = inr (value_fails keys values source es so_far.0 l new d k (fault x) so_far.1 taken a b)

pub map_starts : {K V M : Type 0} (get : M → K → Option V) (eq : K → K → Bool) (keys : Source → Result K Fault → Type 0) (values : Source → Result V Fault → Type 0) (es : List Entry) (m : M) → ((q : K) → get m q ≡ None) → MapSoFar get eq keys values es m es
unfolding MapSoFar
map_starts get eq keys values es m e = ([], refl, e)
