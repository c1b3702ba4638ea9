-- A list that a sort by the bytes of the keys leaves has the entries of the map in order.
use Rattle.std.proofs.Common.{◌≡◌, suc, ◌+◌, Bool, false, List, [], ◌∷◌, map, slice_index_or, string_bytes, refl, sym}
use Rattle.std.proofs.Common.{ap, ◌∙◌, subst, arith, Less, Equal, Greater}
use denote.Param.Members.{Mut}
use denote.Ref.{Bor}
use Rattle.std.specs.Cmp.{IsStrictWeakOrder}
use Rattle.std.specs.Cmp.Lexicographic.{nat_list_cmp_total}
use Rattle.std.specs.FinMap.Entries.{put, by_order}
use Rattle.std.specs.Fn.{Called, ComparesAs}
use Rattle.std.specs.List.{IsDistinct}
use Rattle.std.specs.List.Sorted.{IsPermutation, IsSortedBy}
use Rattle.std.specs.Map.{keys_of}
use Rattle.std.specs.Ordering.{is_lt, is_eq, ordering_reverse}
use Rattle.std.specs.String.{string_eq}
use Rattle.std.specs.declared.cmp.Ordering.{Ordering}
use Rattle.std.proofs.lemmas.List.Sorted.{ranks_by, answers_always, IsPermutation-map}
use Rattle.std.proofs.lemmas.Map.Text.{is_eq-slice_cmp}
use Rattle.dynamo_value.proofs.Members.{Entry, entries_alike}
use Rattle.dynamo_value.proofs.Reordered.{distinct, same_members}
use Rattle.dynamo_value.specs.Entries.{seen_entry, seen_entries}
use Rattle.dynamo_value.specs.View.{text_cmp, entries_view, view}

abbrev pub key_cmp : Entry → Entry → Ordering
key_cmp d e = text_cmp (string_bytes d.0) (string_bytes e.0)

abbrev Rising : List Entry → Type 0
Rising [] = Unit {0}
Rising (d ∷ []) = Unit {0}
Rising (d ∷ e ∷ es) = (key_cmp d e ≡ Less) × Rising (e ∷ es)

-- entries that rise are in their places already
in_place : (es : List Entry) → Rising es → entries_view es ≡ seen_entries es
in_place [] r = refl
in_place (e ∷ []) r = refl
in_place (d ∷ e ∷ es) r =
    let k = string_bytes d.0 in let v = view d.1 in let rest = seen_entries es in
    ap (put text_cmp k v) (in_place (e ∷ es) r.1)
    ∙ ap (λ o. by_order o (seen_entry d ∷ seen_entry e ∷ rest) ((string_bytes e.0, v) ∷ rest) (seen_entry e ∷ put text_cmp k v rest)) r.0

-- what a sort says of two neighbours
next_below : (o p : Ordering) → o ≡ ordering_reverse p → is_lt p ≡ false → is_eq o ≡ false → o ≡ Less
next_below o Less e h k = cc
next_below o Equal e h k = cc
next_below o Greater e h k = e

-- of a list of entries, or of what else has an entry each, such as entries that are lent
module _ {X : Type 0} (entry : X → Entry) where
  abbrev lower : X → X → Bool
  lower d e = is_lt (key_cmp (entry d) (entry e))

  -- what a sort leaves rises, where no two keys are the same
  rising : (es : List X) → IsSortedBy lower es → IsDistinct string_eq (keys_of (map entry es)) → Rising (map entry es)
  unfolding IsDistinct
  rising [] s d = tt
  rising (e ∷ []) s d = tt
  rising (e ∷ f ∷ es) s d =
      let j = string_bytes (entry e).0 in let k = string_bytes (entry f).0 in
      let first = next_below (key_cmp (entry e) (entry f)) (key_cmp (entry f) (entry e)) (nat_list_cmp_total.antisymm j k)
      (s 0 e (omega arith) (omega arith)) (is_eq-slice_cmp j k ∙ d.0.0) in (
        first,
        rising (f ∷ es) (λ i x low high. let next : suc i + 1 ≡ suc (i + 1) = omega arith in
            subst (λ n. lower (slice_index_or (e ∷ f ∷ es) n x) (slice_index_or (f ∷ es) i x) ≡ false) next
            (s (suc i) x (omega arith) (omega arith))) d.1,
      )

  -- from the clauses of a sort each of whose calls compares the bytes of two keys
  pub sorted_entries : {F : Type 0} {g : Mut F (Bor X × (Bor X × Unit {0})) Ordering} {f : F} (es fs : List X)
      → IsDistinct string_eq (keys_of (map entry es)) → IsPermutation es fs
      → ((lt : X → X → Bool) → IsStrictWeakOrder lt → ComparesAs g lt f → IsSortedBy lt fs)
      → ((f1 : F) (a : Bor X × (Bor X × Unit {0})) (r : Ordering) (f2 : F) → Called g f1 a r f2 → r ≡ key_cmp (entry a.0.now) (entry a.1.0.now))
      → seen_entries (map entry fs) ≡ entries_view (map entry es)
  sorted_entries {g = g} {f = f} es fs d p sorted compares =
      let by_keys : ComparesAs g lower f = answers_always g (λ a r. is_lt r ≡ lower a.0.now a.1.0.now) f
      (λ f1 a r f2 call. ap is_lt (compares f1 a r f2 call)) in
      let s : IsSortedBy lower fs = sorted lower (ranks_by nat_list_cmp_total (λ (e : X). string_bytes (entry e).0)) by_keys in
      let moved : IsPermutation (map entry es) (map entry fs) = IsPermutation-map entry es fs p in
      sym (in_place (map entry fs) (rising fs s (distinct (map entry es) (map entry fs) moved d)))
      ∙ sym (entries_alike (map entry es) (map entry fs) (same_members (map entry es) (map entry fs) moved d))
