-- Entries in any order are collected to the same.
use Rattle.std.proofs.Common.{◌≡◌, ◌⊎◌, ℕ, true, false, cond, List, [], ◌∷◌, Option, Some, None, Ordering, Less, Equal, Greater, refl, sym, ap, subst, ◌∙◌, inl, inr}
use Rattle.std.specs.Prelude.{T}
use Rattle.std.specs.List.{AllByRecursion}
use Rattle.std.specs.Ordering.{eq_by_cmp, is_eq}
use Rattle.std.specs.Cmp.Lexicographic.{nat_list_cmp_total}
use Rattle.std.specs.FinMap.{slice_cmp-IsAntisymmetric, nat_cmp-IsAntisymmetric}
use Rattle.std.specs.FinMap.Entries.{put, find, find-put, is_sorted, below_all, same_entries}
use Rattle.dynamo_value.specs.View.{text_cmp}
use Rattle.dynamo_write.specs.Collect.{collect, collect_onto}
use Rattle.dynamo_write.proofs.Collected.{less, halves, sorted-collect}

not_same : (o : Ordering) → o ≡ Less → is_eq o ≡ false
not_same o e = ap is_eq e

same_text : (q t : List ℕ) → eq_by_cmp text_cmp q t ≡ true → q ≡ t
same_text q t e = slice_cmp-IsAntisymmetric nat_cmp-IsAntisymmetric q t (equal (text_cmp q t) e)
  where
    equal : (o : Ordering) → is_eq o ≡ true → o ≡ Equal
    equal Equal h = refl
    equal Less h = absurd (subst T (sym h) tt)
    equal Greater h = absurd (subst T (sym h) tt)

module _ {A : Type 0} where
  -- es is others with f somewhere
  abbrev pub OutOf : List (List ℕ × A) → List ℕ × A → List (List ℕ × A) → Type 0
  OutOf [] f others = ⊥
  OutOf (e ∷ es) f others = ((e ≡ f) × (others ≡ es)) ⊎ ((rest : List (List ℕ × A)) × (others ≡ e ∷ rest) × OutOf es f rest)

  -- es has the entries of fs, in any order
  abbrev pub AnyOrder : List (List ℕ × A) → List (List ℕ × A) → Type 0
  AnyOrder [] es = es ≡ []
  AnyOrder (f ∷ fs) es = (others : List (List ℕ × A)) × OutOf es f others × AnyOrder fs others

  -- the value of the last entry with the key q
  abbrev pub last : List ℕ → List (List ℕ × A) → Option A → Option A
  last q [] o = o
  last q (e ∷ es) o = last q es (cond (eq_by_cmp text_cmp q e.0) (Some e.1) o)

  pub find_last : (q : List ℕ) (es ms : List (List ℕ × A)) → find text_cmp q (collect_onto ms es) ≡ last q es (find text_cmp q ms)
  find_last q [] ms = refl
  find_last q (e ∷ es) ms = find_last q es (put text_cmp e.0 e.1 ms) ∙ ap (last q es) (find-put text_cmp nat_list_cmp_total q e.0 e.1 ms)

  abbrev pub Fresh : List ℕ → List (List ℕ × A) → Type 0
  Fresh t es = AllByRecursion (λ e. eq_by_cmp text_cmp t e.0 ≡ false) es

  last_fresh : (q : List ℕ) (es : List (List ℕ × A)) (o : Option A) → Fresh q es → last q es o ≡ o
  last_fresh q [] o h = refl
  last_fresh q (e ∷ es) o h = ap (λ b. last q es (cond b (Some e.1) o)) h.0 ∙ last_fresh q es o h.1

  pub fresh_out : (t : List ℕ) (es : List (List ℕ × A)) (f : List ℕ × A) (others : List (List ℕ × A))
      → OutOf es f others → eq_by_cmp text_cmp t f.0 ≡ false → Fresh t others → Fresh t es
  fresh_out t [] f others w h k = absurd w
  fresh_out t (e ∷ es) f others w h k = elim w [
    | inl x ↦ (ap (λ y. eq_by_cmp text_cmp t y.0) x.0 ∙ h, subst (Fresh t) x.1 k)
    | inr y ↦ let g = subst (Fresh t) y.1 k in (g.0, fresh_out t es f y.0 y.2 h g.1)
  ]

  fresh_below : (t : List ℕ) (fs es : List (List ℕ × A)) → T (below_all text_cmp t fs) → AnyOrder fs es → Fresh t es
  fresh_below t [] es h k = subst (Fresh t) (sym k) tt
  fresh_below t (f ∷ fs) es h k = fresh_out t es f k.0 k.1 (not_same _ (less _ (halves _ _ h).0)) (fresh_below t fs k.0 (halves _ _ h).1 k.2)

  pub last_here : (q : List ℕ) (f : List ℕ × A) (es : List (List ℕ × A)) (o : Option A) → Fresh f.0 es
      → last q es (cond (eq_by_cmp text_cmp q f.0) (Some f.1) o) ≡ cond (eq_by_cmp text_cmp q f.0) (Some f.1) (last q es o)
  last_here q f es o h = elim (eq_by_cmp text_cmp q f.0) as (λ b. eq_by_cmp text_cmp q f.0 ≡ b → last q es (cond b (Some f.1) o) ≡ cond b (Some f.1) (last q es o)) [
    | true ↦ λ e. last_fresh q es (Some f.1) (subst (λ t. Fresh t es) (sym (same_text q f.0 e)) h)
    | false ↦ λ e. refl
  ] refl

  pub last_out : (q : List ℕ) (es : List (List ℕ × A)) (f : List ℕ × A) (others : List (List ℕ × A)) (o : Option A)
      → OutOf es f others → Fresh f.0 others → last q es o ≡ cond (eq_by_cmp text_cmp q f.0) (Some f.1) (last q others o)
  last_out q [] f others o w h = absurd w
  last_out q (e ∷ es) f others o w h = elim w [
    | inl x ↦ ap (λ y. last q es (cond (eq_by_cmp text_cmp q y.0) (Some y.1) o)) x.0
        ∙ last_here q f es o (subst (Fresh f.0) x.1 h) ∙ ap (λ r. cond (eq_by_cmp text_cmp q f.0) (Some f.1) (last q r o)) (sym x.1)
    | inr y ↦ last_out q es f y.0 _ y.2 (subst (Fresh f.0) y.1 h).1 ∙ ap (λ r. cond (eq_by_cmp text_cmp q f.0) (Some f.1) (last q r o)) (sym y.1)
  ]

  pub collect_order : (fs es : List (List ℕ × A)) → T (is_sorted text_cmp fs) → AnyOrder fs es → collect es ≡ fs
  collect_order [] es s h = ap collect h
  collect_order (f ∷ fs) es s h =
      let rest = collect_order fs h.0 (halves _ _ s).1 h.2 in
      same_entries text_cmp nat_list_cmp_total (slice_cmp-IsAntisymmetric nat_cmp-IsAntisymmetric) (collect es) (f ∷ fs) (sorted-collect es) s
      (λ q. find_last q es [] ∙ last_out q es f h.0 None h.1 (fresh_below f.0 fs h.0 (halves _ _ s).0 h.2)
      ∙ ap (λ r. cond (eq_by_cmp text_cmp q f.0) (Some f.1) r) (sym (find_last q h.0 []) ∙ ap (find text_cmp q) rest))
