-- Entries that are held: one more, one less, and the last of a name.
use Rattle.std.proofs.Common.{◌≡◌, ◌++◌, ◌<◌, ℕ, suc, true, false, List, [], ◌∷◌, Option, Some, None, Ok, length, refl, sym, ap, subst, ◌∙◌, arith, append_assoc}
use Rattle.dynamo_record.proofs.Common.{String, string_bytes, if◌then◌else◌, bytes_eq, remove}
use Rattle.dynamo_record.proofs.Common.{slice_index_or, Gives, read_identifier, TakesEntry, Source}
use Rattle.dynamo_record.proofs.Common.{Text, Entry, attribute, last_of, IsLast}
use Rattle.std.specs.declared.alloc.Global.{Global}
use Rattle.std.proofs.lemmas.Slice.Eq.{bytes_eq-Decides}
use Rattle.dynamo_value.specs.Av.{Av}
use Rattle.dynamo_record.specs.Held.{Holds}
use Rattle.dynamo_record.proofs.OneEntry.{key_read}

module _ {D : Type 0} (source : D → Source) where
  pub holds_more : (ps : List (String Global × D)) (es : List Entry) → Holds source ps es → (p : String Global × D) (e : Entry) → string_bytes p.0 ≡ e.0 → source p.1 ≡ attribute e.1 → Holds source (ps ++ (p ∷ [])) (es ++ (e ∷ []))
  holds_more [] [] h p e n s = (n, s, tt)
  holds_more [] (f ∷ es) h p e n s = absurd h
  holds_more (q ∷ ps) [] h p e n s = absurd h
  holds_more (q ∷ ps) (f ∷ es) h p e n s = (h.0, h.1, holds_more ps es h.2 p e n s)

  pub as_long : (ps : List (String Global × D)) (es : List Entry) → Holds source ps es → length ps ≡ length es
  as_long [] [] h = refl
  as_long [] (f ∷ es) h = absurd h
  as_long (q ∷ ps) [] h = absurd h
  as_long (q ∷ ps) (f ∷ es) h = ap suc (as_long ps es h.2)

  module _ (e : Entry) (back : List Entry) where
    pub holds_without : (front : List Entry) (ps : List (String Global × D)) → Holds source ps (front ++ (e ∷ back)) → Holds source (remove ps (length front)) (front ++ back)
    holds_without [] [] h = absurd h
    holds_without [] (p ∷ ps) h = h.2
    holds_without (f ∷ front) [] h = absurd h
    holds_without (f ∷ front) (p ∷ ps) h = (h.0, h.1, holds_without front ps h.2)

    pub holds_at : (front : List Entry) (ps : List (String Global × D)) (d : String Global × D) → Holds source ps (front ++ (e ∷ back)) → source (slice_index_or ps (length front) d).1 ≡ attribute e.1
    holds_at [] [] d h = absurd h
    holds_at [] (p ∷ ps) d h = h.1
    holds_at (f ∷ front) [] d h = absurd h
    holds_at (f ∷ front) (p ∷ ps) d h = holds_at front ps d h.2

-- ---- the last of a name

module _ (t : Text) where
  never_none : (es : List Entry) (a : Av) → last_of t es (Some a) ≡ None → ⊥
  never_none [] a h = cc
  never_none (e ∷ es) a h = (elim (bytes_eq t e.0) as (λ b. last_of t es (if b then Some e.1 else Some a) ≡ None → ⊥) [ true ↦ λ k. never_none es e.1 k | false ↦ λ k. never_none es a k ]) h

  stays : (es : List Entry) (a : Av) → last_of t es None ≡ None → last_of t es (Some a) ≡ Some a
  stays [] a h = refl
  stays (e ∷ es) a h =
      (elim (bytes_eq t e.0) as (λ b. last_of t es (if b then Some e.1 else None) ≡ None → last_of t es (if b then Some e.1 else Some a) ≡ Some a) [
        | true ↦ λ k. absurd (never_none es e.1 k)
        | false ↦ λ k. stays es a k
      ]) h

  found : (front : List Entry) (a : Av) (back : List Entry) (before : Option Av) → last_of t back None ≡ None → last_of t (front ++ ((t, a) ∷ back)) before ≡ Some a
  found [] a back before h = ap (λ b. last_of t back (if b then Some a else before)) ((bytes_eq-Decides t t).1 refl) ∙ stays back a h
  found (e ∷ front) a back before h = found front a back (if bytes_eq t e.0 then Some e.1 else before) h

  -- the last one is the one that is read
  pub last_found : (es : List Entry) (i : ℕ) (last : IsLast t es (Some i)) → last_of t es None ≡ Some last.1
  last_found es i last = ap (λ l. last_of t l None) last.3 ∙ found last.0 last.1 last.2 None last.5

  one_more : (es : List Entry) (e : Entry) (before : Option Av) → bytes_eq t e.0 ≡ false → last_of t (es ++ (e ∷ [])) before ≡ last_of t es before
  one_more [] e before q = ap (λ b. if b then Some e.1 else before) q
  one_more (f ∷ es) e before q = one_more es e (if bytes_eq t f.0 then Some f.1 else before) q

  pub named_last : (es : List Entry) (e : Entry) → bytes_eq t e.0 ≡ true → IsLast t (es ++ (e ∷ [])) (Some (length es))
  named_last es e q = (es, e.1, [], ap (λ n. es ++ ((n, e.1) ∷ [])) (sym ((bytes_eq-Decides t e.0).0 q)), refl, refl)

  pub other_last : (es : List Entry) (e : Entry) (o : Option ℕ) → bytes_eq t e.0 ≡ false → IsLast t es o → IsLast t (es ++ (e ∷ [])) o
  other_last es e None q h = one_more es e None q ∙ h
  other_last es e (Some i) q h = (
    h.0,
    h.1,
    h.2 ++ (e ∷ []),
    ap (λ l. l ++ (e ∷ [])) h.3 ∙ append_assoc h.0 ((t, h.1) ∷ h.2) (e ∷ []),
    h.4,
    one_more h.2 e None q ∙ h.5,
  )

  inside : (front : List Entry) (x : Entry) (back : List Entry) → length front < length (front ++ (x ∷ back))
  inside [] x back = omega arith
  inside (e ∷ front) x back = (let k = inside front x back in omega arith)

  -- it is one of those that are held
  pub last_inside : {D : Type 0} (source : D → Source) (ps : List (String Global × D)) (es : List Entry) (i : ℕ) → Holds source ps es → IsLast t es (Some i) → i < length ps
  last_inside source ps es i h last =
      let all : length ps ≡ length (last.0 ++ ((t, last.1) ∷ last.2)) = as_long source ps es h ∙ ap length last.3 in
      subst (λ n. n < length ps) (sym last.4) (subst (λ n. length last.0 < n) (sym all) (inside last.0 (t, last.1) last.2))

-- ---- the last of a name, and the others

module _ {D : Type 0} (source : D → Source) (t : Text) (ps : List (String Global × D)) (es : List Entry) (i : ℕ) (h : Holds source ps es) (last : IsLast t es (Some i)) where
  apart : Holds source ps (last.0 ++ ((t, last.1) ∷ last.2))
  apart = subst (Holds source ps) last.3 h

  pub last_held : (p : String Global × D) → p ≡ slice_index_or ps i p → source p.1 ≡ attribute last.1
  last_held p e = ap (λ q. source q.1) e ∙ subst (λ n. source (slice_index_or ps n p).1 ≡ attribute last.1) (sym last.4) (holds_at source (t, last.1) last.2 last.0 ps p apart)

  pub others_held : (qs : List (String Global × D)) → qs ≡ remove ps i → Holds source qs (last.0 ++ last.2)
  others_held qs e =
      subst (λ qs. Holds source qs (last.0 ++ last.2)) (sym e)
      (subst (λ n. Holds source (remove ps n) (last.0 ++ last.2)) (sym last.4) (holds_without source (t, last.1) last.2 last.0 ps apart))

-- ---- one entry after another

module _ {D : Type 0} (source : D → Source) (t : Text) where
  -- the entries before those that are left are held
  abbrev pub AllHeld : List Entry → List (String Global × D) → Option ℕ → List Entry → Type 0
  AllHeld left ps o all = (done : List Entry) × (done ++ left ≡ all) × Holds source ps done × IsLast t done o

  module _ (new all : List Entry) (ps : List (String Global × D)) (o last : Option ℕ) (d : D × D) (name : String Global) (is : Gives string_bytes (read_identifier (source d.0)) (Ok name)) where
    abbrev Now : Type 0
    Now = AllHeld new (ps ++ ((name, d.1) ∷ [])) last all

    pub named_more : (left : List Entry) → AllHeld left ps o all → TakesEntry source left new (Some d) → bytes_eq t (string_bytes name) ≡ true → (n : ℕ) → last ≡ Some n → n ≡ length ps → Now
    named_more [] h taken q n at long = cc
    named_more (e ∷ left) h taken q n at long =
        let key = key_read (source d.0) e.0 name taken.1 is in (
          h.0 ++ (e ∷ []),
          append_assoc h.0 (e ∷ []) new ∙ (ap (λ l. h.0 ++ (e ∷ l)) taken.0 ∙ h.1),
          holds_more source ps h.0 h.2 (name, d.1) e key taken.2,
          subst (IsLast t (h.0 ++ (e ∷ []))) (sym (at ∙ ap Some (long ∙ as_long source ps h.0 h.2))) (named_last t h.0 e (ap (bytes_eq t) (sym key) ∙ q)),
        )

    pub other_more : (left : List Entry) → AllHeld left ps o all → TakesEntry source left new (Some d) → bytes_eq t (string_bytes name) ≡ false → last ≡ o → Now
    other_more [] h taken q at = cc
    other_more (e ∷ left) h taken q at =
        let key = key_read (source d.0) e.0 name taken.1 is in (
          h.0 ++ (e ∷ []),
          append_assoc h.0 (e ∷ []) new ∙ (ap (λ l. h.0 ++ (e ∷ l)) taken.0 ∙ h.1),
          holds_more source ps h.0 h.2 (name, d.1) e key taken.2,
          subst (IsLast t (h.0 ++ (e ∷ []))) (sym at) (other_last t h.0 e o (ap (bytes_eq t) (sym key) ∙ q) h.3),
        )
