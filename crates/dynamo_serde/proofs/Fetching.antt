-- What was read so far of a set, a list and a map, with one more, and once its end came.
use Rattle.std.proofs.Common.{◌≡◌, ℕ, List, [], ◌∷◌, ◌++◌, map, Bool, false, None, Some, Result, Ok, Err, OnOk, is_err, String, string_bytes, refl, sym, ap, ◌∙◌, subst}
use Rattle.std.specs.FinMap.Entries.{put}
use Rattle.std.specs.HashMap.{HashMap, Updates}
use Rattle.std.specs.String.{string_eq}
use Rattle.std.specs.declared.alloc.Global.{Global}
use Rattle.serde.specs.Event.{Event, text, seq_begins, seq_ends, map_begins, map_ends, key_begins}
use Rattle.serde.specs.Steps.{Gives, Picks, Stays}
use Rattle.serde.specs.declared.deserializer.Deserializer.{Deserializer}
use Rattle.serde.specs.declared.name.Name.{Name}
use Rattle.dynamo_value.specs.Av.{Av, elements_of, members_of}
use Rattle.dynamo_value.specs.View.{view, text_cmp, elements_view, entries_view, members_view}
use Rattle.dynamo_value.specs.declared.attribute_value.AttributeValue.{AttributeValue}
use Rattle.dynamo_value.proofs.Members.{Entry, inserted}
use Rattle.dynamo_write.specs.Collect.{collect}
use Rattle.dynamo_serde.specs.Fetched.{InTurn, Asks, ReadsValue, ReadsElements, ReadsMembers, Fetches, FetchesList, FetchesMap}
use Rattle.dynamo_serde.specs.Value.{in_order, members_in_order}
use Rattle.dynamo_serde.proofs.Logged.{map_push}
use Rattle.dynamo_serde.proofs.Sending.{elements_ordered, ordered_push, collect_push}

-- what a result that is no error ensures
pub unless_err : {A B : Type 0} (r : Result A B) (P : Type 0) → is_err r ≡ false → OnOk r P → P
unless_err (Ok a) P fine h = h
unless_err (Err b) P fine h = let never : ⊥ = cc (fine) in absurd never

in_turn_push : {A D : Type 0} (reads : A → D → D → Type 0) (xs : List A) (x : A) (old mid new : D)
    → InTurn reads xs old mid → reads x mid new → InTurn reads (xs ++ x ∷ []) old new
in_turn_push reads [] x old mid new h k = (new, subst (λ d. reads x d new) h k, refl)
in_turn_push reads (y ∷ xs) x old mid new h k = (h.0, h.1, in_turn_push reads xs x h.0 mid new h.2 k)

-- one element more of a set
pub set_more : {A D X : Type 0} (reads : A → D → D → Type 0) (f : X → A) (vs ws : List X) (v : X) (old mid new : D) → ws ≡ vs ++ v ∷ []
    → InTurn reads (map f vs) old mid → reads (f v) mid new → InTurn reads (map f ws) old new
set_more reads f vs ws v old mid new pushed h k =
    subst (λ xs. InTurn reads xs old new) (sym (ap (map f) pushed ∙ map_push f vs v)) (in_turn_push reads (map f vs) (f v) old mid new h k)

module _ {F E K : Type 0} (gives : F → List ℕ → Event → F → Type 0) (stays : F → F → Type 0) (picks : F → List ℕ → Bool → List Name → ℕ → F → Type 0) where
  -- the kind that was asked for is this one
  pub asked : (names : List Name) (at kind : ℕ) (old new : Deserializer F E K)
      → at ≡ kind → Picks picks old false names at new → Asks gives stays picks kind old new
  asked names at kind old new is h = (names, subst (λ n. Picks picks old false names n new) is h)

  elements_push : (as' : List Av) (a : Av) (old mid looked new : Deserializer F E K) → ReadsElements gives stays picks (elements_of as') old mid
      → Stays stays mid looked → ReadsValue gives stays picks a looked new → ReadsElements gives stays picks (elements_of (as' ++ a ∷ [])) old new
  elements_push [] a old mid looked new h st r = (looked, new, subst (λ d. Stays stays d looked) h st, r, refl)
  elements_push (b ∷ as') a old mid looked new h st r = (h.0, h.1, h.2, h.3, elements_push as' a h.1 mid looked new h.4 st r)

  members_push : (es : List (List ℕ × Av)) (k : List ℕ) (a : Av) (old mid entry keyed new : Deserializer F E K)
      → ReadsMembers gives stays picks (members_of es) old mid
      → Gives gives mid key_begins entry → Gives gives entry (text k) keyed → ReadsValue gives stays picks a keyed new
      → ReadsMembers gives stays picks (members_of (es ++ (k, a) ∷ [])) old new
  members_push [] k a old mid entry keyed new h begins key r = (entry, keyed, new, subst (λ d. Gives gives d key_begins entry) h begins, key, r, refl)
  members_push (e ∷ es) k a old mid entry keyed new h begins key r =
      (h.0, h.1, h.2, h.3, h.4, h.5, members_push es k a h.2 mid entry keyed new h.6 begins key r)

  -- the elements so far
  abbrev pub ListSoFar : List AttributeValue → Deserializer F E K → Deserializer F E K → Type 0
  ListSoFar vs begun now = (read : List Av) × (map in_order read ≡ map view vs) × ReadsElements gives stays picks (elements_of read) begun now

  pub list_more : (vs ws : List AttributeValue) (v : AttributeValue) (begun mid looked new : Deserializer F E K) → ws ≡ vs ++ v ∷ []
      → ListSoFar vs begun mid → Stays stays mid looked → Fetches gives stays picks (view v) looked new → ListSoFar ws begun new
  list_more vs ws v begun mid looked new pushed h st k = (
    h.0 ++ k.0 ∷ [],
    map_push in_order h.0 k.0 ∙ ap (λ ys. ys ++ in_order k.0 ∷ []) h.1 ∙ ap (λ y. map view vs ++ y ∷ []) k.1 ∙ sym (ap (map view) pushed ∙ map_push view vs v),
    elements_push h.0 k.0 begun mid looked new h.2 st k.2,
  )

  pub list_all : (vs : List AttributeValue) (old begun last new : Deserializer F E K) → Gives gives old (seq_begins None) begun
      → ListSoFar vs begun last → Gives gives last seq_ends new → FetchesList gives stays picks (elements_view vs) old new
  list_all vs old begun last new begins h ends = (elements_of h.0, elements_ordered h.0 ∙ ap elements_of h.1, (begun, last, begins, h.2, ends))

  -- the entries so far, of which those with equal keys are one
  abbrev pub MapSoFar : List Entry → Deserializer F E K → Deserializer F E K → Type 0
  MapSoFar es begun now =
      (read : List (List ℕ × Av)) × (collect (members_in_order (members_of read)) ≡ entries_view es)
      × ReadsMembers gives stays picks (members_of read) begun now

  pub map_more : {S : Type 0} (m n : HashMap (String Global) AttributeValue S) (k : String Global) (v : AttributeValue)
      (begun mid entry keyed new : Deserializer F E K)
      → Updates string_eq m n k (Some v) → MapSoFar m.entries begun mid → Gives gives mid key_begins entry → Gives gives entry (text (string_bytes k)) keyed
      → Fetches gives stays picks (view v) keyed new → MapSoFar n.entries begun new
  map_more m n k v begun mid entry keyed new updates h begins key r =
      let name = string_bytes k in (
        h.0 ++ (name, r.0) ∷ [],
        ap collect (ordered_push h.0 name r.0) ∙ collect_push (members_in_order (members_of h.0)) [] name (in_order r.0)
            ∙ ap (put text_cmp name (in_order r.0)) h.1 ∙ ap (λ a. put text_cmp name a (entries_view m.entries)) r.1 ∙ sym (inserted m n k v updates),
        members_push h.0 name r.0 begun mid entry keyed new h.2 begins key r.2,
      )

  pub map_all : (es : List Entry) (old begun last new : Deserializer F E K) → Gives gives old (map_begins None) begun
      → MapSoFar es begun last → Gives gives last map_ends new → FetchesMap gives stays picks (members_view es) old new
  map_all es old begun last new begins h ends = (members_of h.0, ap members_of h.1, (begun, last, begins, h.2, ends))
