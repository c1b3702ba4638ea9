-- Sources that are read in order, one after another.
use Rattle.std.proofs.Common.{◌≡◌, ◌⊎◌, List, [], ◌∷◌, ◌++◌, Some, None, Result, Ok, Err, refl, sym, subst, inl, inr}
use Rattle.dynamo_value.specs.Fault.{Fault, out_of_memory}
use Rattle.dynamo_de.specs.Source.{Source}
use Rattle.dynamo_de.specs.Reads.{ReadsEach, ReadsSoFar, ReadsFirst}
use Rattle.dynamo_de.specs.Access.{NextElement, RequiredElement}

pub so_far_more : {X T : Type 0} (reads : X → Result T Fault → Type 0) (ss : List X) (vs : List T) (s : X) (left : List X) (v : T) → ReadsSoFar reads ss vs (s ∷ left) → reads s (Ok v) → ReadsSoFar reads ss (vs ++ v ∷ []) left
so_far_more reads ss [] s left v h r = subst (λ xs. ReadsSoFar reads xs (v ∷ []) left) (sym h) (r, refl)
so_far_more reads [] (w ∷ vs) s left v h r = absurd h
so_far_more reads (t ∷ ss) (w ∷ vs) s left v h r = (h.0, so_far_more reads ss vs s left v h.1 r)

pub so_far_all : {X T : Type 0} (reads : X → Result T Fault → Type 0) (ss : List X) (vs : List T) → ReadsSoFar reads ss vs [] → ReadsEach reads ss (Ok vs)
so_far_all reads ss [] h = subst (λ xs. ReadsEach reads xs (Ok [])) (sym h) refl
so_far_all reads [] (w ∷ vs) h = absurd h
so_far_all reads (t ∷ ss) (w ∷ vs) h = (w, vs, refl, h.0, so_far_all reads ss vs h.1)

pub so_far_fails : {X T : Type 0} (reads : X → Result T Fault → Type 0) (ss : List X) (vs : List T) (s : X) (left : List X) (f : Fault) → ReadsSoFar reads ss vs (s ∷ left) → reads s (Err f) → ReadsEach reads ss (Err f)
so_far_fails {X} {T} reads ss [] s left f h r = subst (λ xs. ReadsEach {X = X} {T = T} reads xs (Err f)) (sym h) (inl r)
so_far_fails reads [] (w ∷ vs) s left f h r = absurd h
so_far_fails reads (t ∷ ss) (w ∷ vs) s left f h r = inr (w, h.0, so_far_fails reads ss vs s left f h.1 r)

pub each_more : {T E : Type 0} (reads : Source → Result T Fault → Type 0) (fault : E → Fault) (ss : List Source) (vs : List T) (left new : List Source) (v : T) → ReadsSoFar reads ss vs left → NextElement fault reads left new (Ok (Some v)) → ReadsSoFar reads ss (vs ++ v ∷ []) new
each_more reads fault ss vs [] new v h k = cc
each_more reads fault ss vs (s ∷ left) new v h k = so_far_more reads ss vs s new v (subst (λ l. ReadsSoFar reads ss vs (s ∷ l)) (sym k.0) h) k.1

pub each_ends : {T E : Type 0} (reads : Source → Result T Fault → Type 0) (fault : E → Fault) (ss : List Source) (vs : List T) (left new : List Source) → ReadsSoFar reads ss vs left → NextElement {V = T} fault reads left new (Ok None) → ReadsEach reads ss (Ok vs)
each_ends reads fault ss vs [] new h k = so_far_all reads ss vs h
each_ends reads fault ss vs (s ∷ left) new h k = absurd k.1

pub each_fails : {T E : Type 0} (reads : Source → Result T Fault → Type 0) (fault : E → Fault) (ss : List Source) (vs : List T) (left new : List Source) (e : E) → ReadsSoFar reads ss vs left → NextElement {V = T} fault reads left new (Err e) → (fault e ≡ out_of_memory) ⊎ ReadsEach {T = T} reads ss (Err (fault e))
each_fails reads fault ss vs [] new e h k = cc
each_fails reads fault ss vs (s ∷ left) new e h k = elim k.1 [ inl o ↦ inl o | inr r ↦ inr (so_far_fails reads ss vs s left (fault e) h r) ]

-- ---- the first of several, and the rest

module _ {T V E : Type 0} (fault : E → Fault) (reads : Source → Result T Fault → Type 0) (next : T → List Source → Result V Fault → Type 0) (left new : List Source) where
  pub first_read : (v : T) (w : V) → RequiredElement fault reads left new (Ok v) → next v new (Ok w) → ReadsFirst reads next left (Ok w)
  unfolding ReadsFirst
  first_read v w h k = along left h
    where
      along : (l : List Source) → RequiredElement fault reads l new (Ok v) → ReadsFirst reads next l (Ok w)
      along [] a = absurd a
      along (s ∷ ss) a = (v, a.1, subst (λ l. next v l (Ok w)) a.0 k)

  pub later_fails : (v : T) (f : Fault) → RequiredElement fault reads left new (Ok v) → next v new (Err f) → ReadsFirst reads next left (Err f)
  unfolding ReadsFirst
  later_fails v f h k = along left h
    where
      along : (l : List Source) → RequiredElement fault reads l new (Ok v) → ReadsFirst reads next l (Err f)
      along [] a = absurd a
      along (s ∷ ss) a = inr (v, a.1, subst (λ l. next v l (Err f)) a.0 k)

  pub first_fails : (e : E) → RequiredElement fault reads left new (Err e) → (fault e ≡ out_of_memory) ⊎ ReadsFirst reads next left (Err (fault e))
  unfolding ReadsFirst
  first_fails e h = along left h
    where
      along : (l : List Source) → RequiredElement fault reads l new (Err e) → (fault e ≡ out_of_memory) ⊎ ReadsFirst reads next l (Err (fault e))
      along [] a = a
      along (s ∷ ss) a = elim a.1 [ inl o ↦ inl o | inr r ↦ inr (inl r) ]
