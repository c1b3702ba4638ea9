-- Elements that are read in order, one after another, into a set.
use Rattle.std.proofs.Common.{◌≡◌, ◌⊎◌, Bool, true, false, ◌||◌, List, [], ◌∷◌, ◌++◌, Some, None, Result, Ok, Err, refl, sym, ap, ◌∙◌}
use Rattle.std.specs.List.{list_any}
use Rattle.std.proofs.lemmas.List.Folds.{list_any-append}
use Rattle.dynamo_value.specs.Fault.{Fault, out_of_memory}
use Rattle.dynamo_de.specs.Access.{NextElement}
use Rattle.dynamo_de.specs.Reads.{ReadsSet, SetSoFar}
use Rattle.dynamo_de.specs.Source.{Source}
use Rattle.dynamo_de.proofs.Each.{each_more, each_ends, each_fails}

last_of : (b c : Bool) → (b || c) ≡ (c || (b || false))
last_of true true = refl
last_of true false = refl
last_of false true = refl
last_of false false = refl

pub set_starts : {T M : Type 0} (has : M → T → Bool) (eq : T → T → Bool) (reads : Source → Result T Fault → Type 0) (ss : List Source) (m : M) → ((q : T) → has m q ≡ false) → SetSoFar has eq reads ss m ss
unfolding SetSoFar
set_starts has eq reads ss m e = ([], refl, e)

module _ {T M E : Type 0} (has : M → T → Bool) (eq : T → T → Bool) (reads : Source → Result T Fault → Type 0) (fault : E → Fault) (ss : List Source) (m : M) (left new : List Source) (so_far : SetSoFar has eq reads ss m left) where
  pub set_more : (n : M) (v : T) → NextElement fault reads left new (Ok (Some v)) → ((q : T) → has n q ≡ (eq v q || has m q)) → SetSoFar has eq reads ss n new
  unfolding SetSoFar
  set_more n v t put = (
    so_far.0 ++ v ∷ [],
    each_more reads fault ss so_far.0 left new v so_far.1 t,
    λ q. put q ∙ ap (λ b. eq v q || b) (so_far.2 q) ∙ last_of (eq v q) (list_any (λ w. eq w q) so_far.0) ∙ sym (list_any-append (λ w. eq w q) so_far.0 (v ∷ [])),
  )

  pub set_ends : NextElement {V = T} fault reads left new (Ok None) → ReadsSet has eq reads ss (Ok m)
  unfolding SetSoFar ReadsSet
  set_ends t = (so_far.0, each_ends reads fault ss so_far.0 left new so_far.1 t, so_far.2)

  pub set_fails : (e : E) → NextElement {V = T} fault reads left new (Err e) → (fault e ≡ out_of_memory) ⊎ ReadsSet has eq reads ss (Err (fault e))
  unfolding SetSoFar ReadsSet
  set_fails e t = each_fails reads fault ss so_far.0 left new e so_far.1 t
