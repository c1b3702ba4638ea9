-- Two lists of fields, one after the other.
use Rattle.std.proofs.Common.{◌≡◌, ℕ, ◌+◌, Option, Some, None, Result, Ok, Err, sym, ap, subst, ◌∙◌, inl, inr}
use Rattle.dynamo_record.proofs.Common.{Fault, Answer, After, Meets, Source, Text, meets_more}
use Rattle.dynamo_record.proofs.Common.{Permits, into, stops, into_into, Slots, fill_slot, SameData}
use Rattle.dynamo_record.proofs.Common.{read_nth, Shapes, Data, AboutList, both_shapes, both_told}
use Rattle.dynamo_record.proofs.Common.{Makes, MakesOrFails, Completes, Holds, HoldsBoth}
use Rattle.dynamo_record.proofs.Common.{HoldsBehind, ReadBehind, Fills, IfRead}
use Rattle.dynamo_de.specs.Answer as answer
use Rattle.dynamo_record.proofs.Answering.{after_more, after_err}

-- ---- what both are made of

module _ {L R : Type 0} (l : AboutList L) (r : AboutList R) (all between others : Answer Data) where
  pub both_made : (v : L) (w : R) → Makes l.shapes l.told all between (Some v) → Makes r.shapes r.told between others (Some w) → Makes (both_shapes l r) (both_told l r) all others (Some (v, w))
  both_made v w h k = (
    λ ds. h.0 (k.0 ds),
    h.1 ∙ (ap (into h.0) k.1 ∙ into_into k.0 h.0 others),
    λ ss ds es c same. h.2 (r.shapes ss) (k.0 ds) (r.told w es) c (λ x. k.2 ss ds es x same),
  )

  pub second_missed : (v : L) → Makes l.shapes l.told all between (Some v) → Makes r.shapes r.told between others None → Makes {L = L × R} (both_shapes l r) (both_told l r) all others None
  second_missed v h k = h.1 ∙ ap (into h.0) k

  module _ {E : Type 0} (fault : E → Fault) (e : E) where
    pub second_fails : (v : L) → Makes l.shapes l.told all between (Some v) → MakesOrFails {L = R} fault r.shapes r.told between others (Err e) → MakesOrFails {L = L × R} fault (both_shapes l r) (both_told l r) all others (Err e)
    second_fails v h (inl lacks) = inl lacks
    second_fails v h (inr failed) = inr (subst (λ a. Permits SameData a (Err (fault e))) (sym h.1) (stops SameData SameData between (λ ds. answer.value (h.0 ds)) (fault e) failed))

-- ---- both, completed

module _ {L R N E : Type 0} (l : AboutList L) (r : AboutList R) (fault : E → Fault) (all between others : Answer Data) (missed : Option Text) (later behind : N → Option Text) where
  abbrev Left : Result (L × N) E → Type 0
  Left = Completes fault l.shapes l.told all between missed later

  abbrev Right : N → Result (R × N) E → Type 0
  Right names = Completes fault r.shapes r.told between others (later names) behind

  abbrev Whole : Result ((L × R) × N) E → Type 0
  Whole = Completes fault (both_shapes l r) (both_told l r) all others missed behind

  pub both_completed : (v : L) (w : R) (ns ms : N) → Left (Ok (v, ns)) → Right ns (Ok (w, ms)) → Whole (Ok ((v, w), ms))
  both_completed v w ns ms h k = (both_made l r all between others v w h.0 k.0, h.1 ∙ k.1)

  pub second_stops : (v : L) (ns : N) (e : E) → Left (Ok (v, ns)) → Right ns (Err e) → Whole (Err e)
  second_stops v ns e h (inl lacks) = inl lacks
  second_stops v ns e h (inr k) = inr (k.0, h.0.1 ∙ ap (into h.0.0) k.1, h.1 ∙ k.2, k.3)

-- ---- a value of the one or of the other

module _ {X Y : Type 0} (left : Holds X) (right : Holds Y) (os rest more : Slots) (source : Source) (x : X) (y : Y) where
  abbrev Both : Shapes → ℕ → Result (Unit {0}) Fault → Type 0
  Both ss i = Fills (HoldsBoth left right) ss i os more (x, y) source

  left_fills : (ss : Shapes) (i : ℕ) → right y rest more → (r : Result (Unit {0}) Fault) → Fills left ss i os rest x source r → Both ss i r
  left_fills ss i h (Ok tt) k = after_more (read_nth i ss source) (λ d _. left x (fill_slot i d os) rest) (λ d _. HoldsBoth left right (x, y) (fill_slot i d os) more) tt tt (λ d held. (rest, held, h)) k
  left_fills ss i h (Err f) k = after_err (read_nth i ss source) (λ d _. left x (fill_slot i d os) rest) (λ d _. HoldsBoth left right (x, y) (fill_slot i d os) more) f k

  pub left_filled : {E : Type 0} (fault : E → Fault) (ss : Shapes) (i : ℕ) (r : Result (Unit {0}) E) → right y rest more → Meets fault (Fills left ss i os rest x source) r → Meets fault (Both ss i) r
  left_filled fault ss i r h k = meets_more fault (Fills left ss i os rest x source) (Both ss i) (left_fills ss i h) r k

  module _ (a : ℕ) (behind : HoldsBehind a left) (shapes : Shapes → Shapes) (read_behind : ReadBehind a shapes) (ss : Shapes) where
    read_later : (j : ℕ) (r : Result (Unit {0}) Fault) → After (read_nth j ss source) (λ d. IfRead (λ (_ : Unit {0}). HoldsBoth left right (x, y) (fill_slot (a + j) d os) more)) r → Both (shapes ss) (a + j) r
    read_later j r k = subst (λ q. After {V = Unit {0}} q (λ d. IfRead (λ _. HoldsBoth left right (x, y) (fill_slot (a + j) d os) more)) r) (sym (read_behind ss j source)) k

    right_fills : (j : ℕ) → left x os rest → (r : Result (Unit {0}) Fault) → Fills right ss j rest more y source r → Both (shapes ss) (a + j) r
    right_fills j h (Ok tt) k =
        read_later j (Ok tt) (after_more (read_nth j ss source) (λ d _. right y (fill_slot j d rest) more) (λ d _. HoldsBoth left right (x, y) (fill_slot (a + j) d os) more) tt tt (λ d held. (fill_slot j d rest, behind x os rest j d h, held)) k)
    right_fills j h (Err f) k =
        read_later j (Err f) (after_err (read_nth j ss source) (λ d _. right y (fill_slot j d rest) more) (λ d _. HoldsBoth left right (x, y) (fill_slot (a + j) d os) more) f k)

    pub right_filled : {E : Type 0} (fault : E → Fault) (i j : ℕ) (r : Result (Unit {0}) E) → a + j ≡ i → left x os rest → Meets fault (Fills right ss j rest more y source) r → Meets fault (Both (shapes ss) i) r
    right_filled fault i j r at h k = subst (λ n. Meets fault (Both (shapes ss) n) r) at (meets_more fault (Fills right ss j rest more y source) (Both (shapes ss) (a + j)) (right_fills j h) r k)
