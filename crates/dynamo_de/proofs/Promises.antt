-- Readings that leave open which of several faults is given, one step after another.
use Rattle.std.proofs.Common.{◌≡◌, ◌⊎◌, Option, Some, None, List, [], ◌∷◌, ◌++◌, map, append-nil, inl, inr, Result, Ok, Err, ap, sym, subst, ◌∙◌, refl}
use Rattle.dynamo_value.specs.Fault.{Fault, out_of_memory}
use Rattle.dynamo_value.specs.Refusal.{Refusal, Refused, refusal_in}
use Rattle.dynamo_de.specs.Answer.{Answer, Gives}
use Rattle.dynamo_de.specs.Promises.{Reading, promised, Agrees}
use Rattle.dynamo_value.specs.Steps.{◌>>=◌}
use Rattle.dynamo_value.proofs.Steps.{bind_itself}
use Rattle.dynamo_de.specs.ReadAttribute.{read_each}
use Rattle.dynamo_de.specs.Reads.{Through, ReadsEach}
use Rattle.dynamo_de.specs.Shows.{TakesElement}
use Rattle.dynamo_de.specs.Source.{Source}

module _ {A V : Type 0} (seen : V → A) where
  -- what is answered with is the value
  pub value_answered : (x : Answer A) (v : V) → Gives seen x (Ok v) → promised x ≡ Ok (seen v)
  value_answered (Ok y) v is = ap Ok (sym is)
  value_answered (Err f) v is = absurd is

  pub fault_answered : (x : Answer A) (f : Fault) → Gives seen x (Err f) → Agrees seen (promised x) (Err f)
  fault_answered (Ok y) f is = absurd is
  fault_answered (Err g) f is = inl is

  -- what a reading gives is the value
  pub value_read : (x : Reading A) (v : V) → Agrees seen x (Ok v) → x ≡ Ok (seen v)
  value_read (Ok y) v is = ap Ok (sym is)
  value_read (Err rs) v is = absurd is

  pub value_agrees : (x : Reading A) (v : V) → x ≡ Ok (seen v) → Agrees seen x (Ok v)
  value_agrees x v is = rw is refl

  -- a value that is seen by a part of it
  pub part_agrees : {P : Type 0} (part : P → V) (x : Reading A) (r : Result P Fault) → Through part (Agrees seen x) r → Agrees (λ p. seen (part p)) x r
  part_agrees part (Ok y) (Ok p) h = h
  part_agrees part (Ok y) (Err f) h = h
  part_agrees part (Err rs) (Ok p) h = h
  part_agrees part (Err rs) (Err f) h = h

module _ {A B V W : Type 0} (seen : V → A) (then : W → B) (next : A → Reading B) where
  -- the first fault is the fault
  pub stops : (x : Reading A) (f : Fault) → Agrees seen x (Err f) → Agrees then (x >>= next) (Err f)
  stops (Ok y) f is = absurd is
  stops (Err rs) f is = is

  pub goes_on : (x : Reading A) (v : V) (r : Result W Fault) → Agrees seen x (Ok v) → Agrees then (next (seen v)) r → Agrees then (x >>= next) r
  goes_on x v r is h = rw (value_read seen x v is) h

-- the same of an answer that a reader gives
pub answer_stops : {A B V W : Type 0} (seen : V → A) (then : W → B) (next : A → Reading B) (x : Answer A) (f : Fault) → (f ≡ out_of_memory) ⊎ Gives seen x (Err f) → (f ≡ out_of_memory) ⊎ Agrees then (promised x >>= next) (Err f)
answer_stops seen then next x f (inl lacks) = inl lacks
answer_stops seen then next x f (inr is) = inr (stops seen then next (promised x) f (fault_answered seen x f is))

-- ---- what is known of a refusal

-- a fault that replaces another, or out of memory, keeps its promise
pub told : (o : Option Refusal) (f g : Fault) → (g ≡ f) ⊎ (g ≡ out_of_memory) → Refused o f → Refused o g
told o f g (inl same) h = subst (Refused o) (sym same) h
told o f g (inr lacks) h = inl lacks

pub refusal_agrees : {A V : Type 0} (seen : V → A) (x : Result A Refusal) (f : Fault) → Refused (refusal_in x) f → (f ≡ out_of_memory) ⊎ Agrees seen (promised x) (Err f)
refusal_agrees seen x f (inl lacks) = inl lacks
refusal_agrees seen (Ok y) f (inr h) = absurd h
refusal_agrees seen (Err r) f (inr h) = inr (inl h)

-- the same refusal of another type of values
pub refused_alike : {A V W : Type 0} (seen : V → A) (other : W → A) (x y : Reading A) (f : Fault) → y ≡ x → (f ≡ out_of_memory) ⊎ Agrees seen x (Err f) → (f ≡ out_of_memory) ⊎ Agrees other y (Err f)
refused_alike seen other x y f same (inl lacks) = inl lacks
refused_alike seen other x y f same (inr h) = inr (subst (λ z. Agrees other z (Err f)) (sym same) (alike x h))
  where
    alike : (z : Reading _) → Agrees seen z (Err f) → Agrees other z (Err f)
    alike (Ok a) k = absurd k
    alike (Err rs) k = k

-- ---- each in order

module _ {S A V : Type 0} (seen : V → A) (f : S → Reading A) where
  -- what is read so far, with what is left after it
  abbrev pub EachFrom : List V → List S → Reading (List A)
  EachFrom vs left = read_each f left >>= λ rest. Ok (map seen vs ++ rest)

  pub each_more : (vs : List V) (v : V) (s : S) (left : List S) → Agrees seen (f s) (Ok v) → EachFrom vs (s ∷ left) ≡ EachFrom (vs ++ v ∷ []) left
  each_more vs v s left h = rw (value_read seen (f s) v h) (behind (read_each f left))
    where
      pushed : (vs : List V) (rest : List A) → map seen vs ++ seen v ∷ rest ≡ map seen (vs ++ v ∷ []) ++ rest
      pushed [] rest = refl
      pushed (w ∷ ws) rest = ap (λ xs. seen w ∷ xs) (pushed ws rest)

      behind : (x : Reading (List A)) → ((x >>= λ ys. Ok (seen v ∷ ys)) >>= λ rest. Ok (map seen vs ++ rest)) ≡ (x >>= λ rest. Ok (map seen (vs ++ v ∷ []) ++ rest))
      behind (Ok ys) = ap Ok (pushed vs ys)
      behind (Err rs) = refl

  pub each_ends : (vs : List V) → EachFrom vs [] ≡ Ok (map seen vs)
  each_ends vs = ap Ok (append-nil (map seen vs))

  pub each_stops : {W : Type 0} (then : W → List A) (vs : List V) (s : S) (left : List S) (e : Fault) → Agrees seen (f s) (Err e) → Agrees then (EachFrom vs (s ∷ left)) (Err e)
  each_stops then vs s left e h = first (f s) h
    where
      first : (x : Reading A) → Agrees seen x (Err e) → Agrees then ((x >>= λ y. read_each f left >>= λ ys. Ok (y ∷ ys)) >>= λ rest. Ok (map seen vs ++ rest)) (Err e)
      first (Ok y) h = absurd h
      first (Err rs) h = h

  pub each_reads : (reads : S → Result V Fault → Type 0) → ((s : S) (r : Result V Fault) → reads s r → Agrees seen (f s) r)
      → (ss : List S) (r : Result (List V) Fault) → ReadsEach reads ss r → Agrees (map seen) (read_each f ss) r
  each_reads reads one [] (Ok vs) h = ap (map seen) h
  each_reads reads one [] (Err e) h = absurd h
  each_reads reads one (s ∷ ss) (Ok vs) (v, ws, is, first, rest) = rw (is, value_read seen (f s) v (one s (Ok v) first), value_read (map seen) (read_each f ss) ws (each_reads reads one ss (Ok ws) rest)) refl
  each_reads reads one (s ∷ ss) (Err e) (inl first) = stops seen (map seen) _ (f s) e (one s (Err e) first)
  each_reads reads one (s ∷ ss) (Err e) (inr (v, first, rest)) =
      goes_on seen (map seen) _ (f s) v (Err e) (one s (Ok v) first) (stops (map seen) (map seen) _ (read_each f ss) e (each_reads reads one ss (Err e) rest))

-- ---- elements that are taken in order

module _ {A V D : Type 0} (seen : V → A) (f : Source → Reading A) (source : D → Source) where
  taken : (ss new : List Source) (d : D) → TakesElement source ss new (Some d) → ss ≡ source d ∷ new
  taken [] new d t = cc
  taken (s ∷ ss) new d t = λ i. sym t.1 i ∷ sym t.0 i

  pub taken_starts : (ss : List Source) → EachFrom seen f [] ss ≡ read_each f ss
  taken_starts ss = bind_itself (read_each f ss)

  pub taken_more : (all : Reading (List A)) (vs : List V) (v : V) (ss new : List Source) (d : D) → TakesElement source ss new (Some d)
      → EachFrom seen f vs ss ≡ all → Agrees seen (f (source d)) (Ok v) → EachFrom seen f (vs ++ v ∷ []) new ≡ all
  taken_more all vs v ss new d t so_far h = sym (each_more seen f vs v (source d) new h) ∙ ap (EachFrom seen f vs) (sym (taken ss new d t)) ∙ so_far

  pub taken_ends : (all : Reading (List A)) (vs : List V) (ss new : List Source) → TakesElement source ss new None → EachFrom seen f vs ss ≡ all → all ≡ Ok (map seen vs)
  taken_ends all vs [] new t so_far = sym so_far ∙ each_ends seen f vs
  taken_ends all vs (s ∷ ss) new t so_far = absurd t

  -- the fault of an element, or out of memory, is the whole's
  pub taken_stops : {W : Type 0} (then : W → List A) (all : Reading (List A)) (vs : List V) (ss new : List Source) (d : D) (e : Fault) → TakesElement source ss new (Some d)
      → EachFrom seen f vs ss ≡ all → (e ≡ out_of_memory) ⊎ Agrees seen (f (source d)) (Err e) → (e ≡ out_of_memory) ⊎ Agrees then all (Err e)
  taken_stops then all vs ss new d e t so_far (inl lacks) = inl lacks
  taken_stops then all vs ss new d e t so_far (inr h) = inr (subst (λ x. Agrees then x (Err e)) (ap (EachFrom seen f vs) (sym (taken ss new d t)) ∙ so_far) (each_stops seen f then vs (source d) new e h))
